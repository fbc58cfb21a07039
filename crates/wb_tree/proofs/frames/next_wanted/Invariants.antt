use Rattle.std.proofs.Common.{◌≡◌, reverse}
use Rattle.wb_tree.specs.Reading.{Found, Nodes}
use Rattle.wb_tree.specs.Loading.{frames_rest}
use Rattle.wb_tree.proofs.frames.next_wanted.Given as goal

abbrev pub invariant-loop-frame : goal.invariant-loop-frame
invariant-loop-frame l = (nodes : Nodes) (found : Found) → found.reached ≡ l.reached → frames_rest l.root nodes (reverse l.fn.frames.items) found ≡ frames_rest l.root nodes (reverse l.frames.items) found

abbrev pub decreases-loop-frame : goal.decreases-loop-frame
decreases-loop-frame l = l.frames.len
