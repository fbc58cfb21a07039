use Rattle.std.proofs.Common.{◌≡◌, take}
use Rattle.wb_dirty.proofs.loader.reached_before.Given as goal

abbrev pub invariant-loop-place : goal.invariant-loop-place
invariant-loop-place l = l.reached ≡ take l.place-index l.places
