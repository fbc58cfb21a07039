use Rattle.std.proofs.Common.{refl}
use Rattle.wb_sketch.specs.Frequencies.{least_at}
use Rattle.wb_sketch.proofs.sketch.Sketch.least.Goals as goal

pub returns-clause-value : goal.returns-clause-value
unfolding least_at
returns-clause-value c =
    rw (c.min-3.ensures, c.min.ensures, c.min-2.ensures, c.get-counter1.ensures.value, c.get-counter2.ensures.value, c.get-counter3.ensures.value, c.get-counter4.ensures.value)
    rw (← c.self.view_is) refl
