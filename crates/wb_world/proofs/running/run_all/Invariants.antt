use Rattle.std.proofs.Common.{◌≡◌, ◌++◌, reverse}
use Rattle.wb_world.specs.Running.{events_of}
use Rattle.wb_world.proofs.running.run_all.Given as goal

abbrev pub invariant-loop-event : goal.invariant-loop-event
invariant-loop-event l = record {
  shape : l.world.shape ≡ l.initial.world.shape;
  events : events_of l.world.trace ++ reverse l.left.items ≡ events_of l.initial.world.trace ++ reverse l.initial.left.items;
}

abbrev pub decreases-loop-event : goal.decreases-loop-event
decreases-loop-event l = l.left.len
