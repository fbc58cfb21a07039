use Rattle.std.proofs.Common.{◌*◌}
use Rattle.wb_tree.proofs.Branching.Filling.{AreCopied}
use Rattle.wb_tree.proofs.tree.node.filling.words_of.Given as goal

abbrev pub invariant-loop-j : goal.invariant-loop-j
invariant-loop-j l = AreCopied l.entries (32 * l.index) l.j l.words
