use Rattle.std.proofs.Common.{◌≡◌, drop}
use Rattle.wb_space.specs.Places.{noted_known}
use Rattle.wb_space.proofs.places.note_left.Given as goal

abbrev pub invariant-loop-place : goal.invariant-loop-place
invariant-loop-place l = noted_known (drop l.place-index l.places) l.left ≡ noted_known l.places l.initial.left
