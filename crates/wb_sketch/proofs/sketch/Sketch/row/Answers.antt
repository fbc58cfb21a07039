use Rattle.std.proofs.Common.{◌≡◌, arith}
use Rattle.wb_sketch.specs.Frequencies.{row_of}
use Rattle.wb_sketch.proofs.sketch.Sketch.row.Goals as goal

pub returns-in-1 : goal.returns-in-1
unfolding row_of
returns-in-1 c = rw (← c.self.view_is, c.in-1.is) c.words.ensures

pub returns-in-2 : goal.returns-in-2
unfolding row_of
returns-in-2 c = rw (← c.self.view_is, c.in-2.is) c.words-in-2.ensures

pub returns-in-3 : goal.returns-in-3
unfolding row_of
returns-in-3 c = rw (← c.self.view_is, c.in-3.is) c.words-in-3.ensures

pub returns-in_default : goal.returns-in_default
unfolding row_of
returns-in_default c =
    let four : c.args.number ≡ 4 = omega arith in
    rw (← c.self.view_is, four) c.words-in_default.ensures
