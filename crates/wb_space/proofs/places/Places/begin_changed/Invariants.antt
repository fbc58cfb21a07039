use Rattle.std.proofs.Common.{◌≡◌, drop, map}
use Rattle.wb_space.specs.Places.{noted, with_running}
use Rattle.wb_space.proofs.places.Places.begin_changed.Given as goal

abbrev pub invariant-loop-node : goal.invariant-loop-node
invariant-loop-node g l = record {
  places : l.self ≡ with_running l.initial.self l.self.in_use.running;
  running : noted (map (λ node. node.0) (drop l.node-index l.added)) l.self.in_use.running ≡ noted (map (λ node. node.0) l.added) l.initial.self.in_use.running;
}
