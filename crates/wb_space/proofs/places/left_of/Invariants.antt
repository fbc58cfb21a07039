use Rattle.std.proofs.Common.{◌≡◌, drop}
use Rattle.wb_space.specs.Places.{cleared_places}
use Rattle.wb_space.proofs.places.left_of.Given as goal

abbrev pub invariant-loop-place : goal.invariant-loop-place
invariant-loop-place l = cleared_places (drop l.place-index l.known) l.left ≡ cleared_places l.known l.initial.left
