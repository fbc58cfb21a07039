use Rattle.std.proofs.Common.{◌≡◌, ◌≤◌, None, replicate}
use Rattle.wb_tree.proofs.tree.node.no_kids.Given as goal

abbrev pub invariant-loop-i : goal.invariant-loop-i
invariant-loop-i g l = record { none : l.kids.items ≡ replicate l._i None; room : 32 ≤ l.kids.cap }
