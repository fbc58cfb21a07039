use Rattle.std.proofs.Common.{◌≡◌, ◌-◌}
use Rattle.wb_tree.specs.Reading.{Found, Nodes, each_step}
use Rattle.wb_tree.specs.Loading.{frame_rest, frame_step}
use Rattle.wb_tree.proofs.frame.Frame.next_child.Given as goal

abbrev pub invariant-loop-j : goal.invariant-loop-j
invariant-loop-j l = record {
  same : l.self ≡ l.fn.self;
  passed : (nodes : Nodes) (found : Found) → found.reached ≡ l.reached → frame_rest l.root nodes l.fn.self found ≡ each_step (frame_step l.root nodes l.self) (32 - l.j) l.j found;
}
