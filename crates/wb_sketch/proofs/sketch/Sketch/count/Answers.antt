use Rattle.std.proofs.Common.{◌≤◌, ◌<◌, ◌+◌, arith}
use Rattle.wb_sketch.specs.Frequencies.{frequencies}
use Rattle.wb_sketch.specs.Sizes.{sample_limit}
use Rattle.wb_sketch.proofs.Sizes.{sample_limit-to}
use Rattle.wb_sketch.proofs.Steps.{counted-more, counted-full}
use Rattle.wb_sketch.proofs.Shapes.{shaped-reset}
use Rattle.wb_sketch.proofs.sketch.Sketch.count.Goals as goal

pub overflow_add-self : goal.overflow_add-self
overflow_add-self c = omega (arith, c.self.invariant.sample, sample_limit-to _ c.self.invariant.cache_to)

pub invariant_of-self : goal.invariant_of-self
invariant_of-self c =
    shaped-reset c.self.inside.bits (frequencies c.self.inside.cache_blocks c.self.inside.row1 c.self.inside.row2 c.self.inside.row3 c.self.inside.row4 c.self.inside.doorkeeper c.self.inside.sample)
    c.halve.new.self c.halve-then-self-limit_of_sample.new.self c.halve-then-self-limit_of_sample-2.new.self c.halve-then-self-limit_of_sample-3.new.self c.clear.new.self
    c.self.invariant c.halve.ensures c.halve-then-self-limit_of_sample.ensures c.halve-then-self-limit_of_sample-2.ensures c.halve-then-self-limit_of_sample-3.ensures c.clear.ensures

pub returns-then-self-limit_of_sample : goal.returns-then-self-limit_of_sample
returns-then-self-limit_of_sample c =
    let full : sample_limit c.self.inside.cache_blocks ≤ c.self.inside.sample + 1 = rw (← c.limit_of_sample.ensures.value) c.if-self-limit_of_sample.true in
    rw (← c.self.view_is)
    (counted-full (frequencies c.self.inside.cache_blocks c.self.inside.row1 c.self.inside.row2 c.self.inside.row3 c.self.inside.row4 c.self.inside.doorkeeper c.self.inside.sample)
    c.halve.new.self c.halve-then-self-limit_of_sample.new.self c.halve-then-self-limit_of_sample-2.new.self c.halve-then-self-limit_of_sample-3.new.self c.clear.new.self
    full c.halve.ensures c.halve-then-self-limit_of_sample.ensures c.halve-then-self-limit_of_sample-2.ensures c.halve-then-self-limit_of_sample-3.ensures c.clear.ensures)

pub returns-else-self-limit_of_sample : goal.returns-else-self-limit_of_sample
returns-else-self-limit_of_sample c =
    let more : c.self.inside.sample + 1 < sample_limit c.self.inside.cache_blocks = rw (← c.limit_of_sample.ensures.value) c.if-self-limit_of_sample.false in
    rw (← c.self.view_is)
    (counted-more (frequencies c.self.inside.cache_blocks c.self.inside.row1 c.self.inside.row2 c.self.inside.row3 c.self.inside.row4 c.self.inside.doorkeeper c.self.inside.sample) more)
