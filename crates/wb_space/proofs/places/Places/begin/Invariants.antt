use Rattle.std.proofs.Common.{◌≡◌, drop}
use Rattle.wb_space.specs.Places.{noted, with_running}
use Rattle.wb_space.proofs.places.Places.begin.Given as goal

abbrev pub invariant-loop-place : goal.invariant-loop-place
invariant-loop-place l = record {
  places : l.self ≡ with_running l.initial.self l.self.in_use.running;
  running : noted (drop l.place-index l.used) l.self.in_use.running ≡ noted l.used l.initial.self.in_use.running;
}
