use Rattle.std.proofs.Common.{refl}
use Rattle.wb_sketch.specs.Places.{places_of}
use Rattle.wb_sketch.proofs.sketch.Sketch.places.Goals as goal

pub returns-clause-value : goal.returns-clause-value
unfolding places_of
returns-clause-value c =
    rw (c.place.ensures.value, c.place-2.ensures.value, c.place-3.ensures.value, c.place-4.ensures.value, c.self.invariant.bits_are)
    rw (← c.self.view_is) refl
