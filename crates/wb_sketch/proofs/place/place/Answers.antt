use Rattle.std.proofs.Common.{arith}
use Rattle.wb_sketch.proofs.Places.{place_of-is, place_of-below}
use Rattle.wb_sketch.proofs.place.place.Goals as goal

pub returns-clause-value : goal.returns-clause-value
returns-clause-value c = rw c.from.ensures (place_of-is _ _ _)

pub returns-clause-within : goal.returns-clause-within
returns-clause-within c = rw (c.from.ensures, place_of-is) (place_of-below _ _ _ (omega arith))
