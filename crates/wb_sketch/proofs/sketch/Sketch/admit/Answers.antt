use Rattle.wb_sketch.specs.Frequencies.{frequencies}
use Rattle.wb_sketch.proofs.Steps.{admitted-is}
use Rattle.wb_sketch.proofs.sketch.Sketch.admit.Goals as goal

pub returns : goal.returns
returns c =
    rw (← c.self.view_is)
    (admitted-is (frequencies c.self.inside.cache_blocks c.self.inside.row1 c.self.inside.row2 c.self.inside.row3 c.self.inside.row4 c.self.inside.doorkeeper c.self.inside.sample)
    c.self.inside.bits c.args.x.0 c.place.result c.place-2.result c.insert.new.self c.insert-2.new.self
    c.self.invariant.bits_are c.place.ensures.value c.place-2.ensures.value c.insert.ensures c.insert-2.ensures)
