use Rattle.std.proofs.Common.{◌≡◌, drop}
use Rattle.wb_space.specs.Places.{noted}
use Rattle.wb_space.proofs.places.note.Given as goal

abbrev pub invariant-loop-place : goal.invariant-loop-place
invariant-loop-place l = noted (drop l.place-index l.used) l.uses ≡ noted l.used l.initial.uses
