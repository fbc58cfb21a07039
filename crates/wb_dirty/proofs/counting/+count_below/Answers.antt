use Rattle.std.proofs.Common.{◌≡◌, ◌-◌, ◌*◌, ◌∙◌, sym, ap, subst, length, arith}
use Rattle.wb_dirty.proofs.DirtyBits.{has_dirty-low}
use Rattle.wb_dirty.proofs.PlanSteps.{dirty_below-none}
use Rattle.wb_dirty.proofs.PlanCounting.{IsCountedTo, counted-none, counted-more, counted-fits, some_at, leaf-count, leaf-most, node-count, node-most}
use Rattle.wb_dirty.proofs.counting.+count_below.Goals as goal

pub returns-then-not-is_any_below-clause-count : goal.returns-then-not-is_any_below-clause-count
returns-then-not-is_any_below-clause-count t c = ap length (sym (dirty_below-none c.args.dirty.now c.args.level c.args.index (sym c.is_any_below.ensures ∙ c.if-not-is_any_below.true)))

pub returns-then-not-is_any_below-clause-at_most : goal.returns-then-not-is_any_below-clause-at_most
returns-then-not-is_any_below-clause-at_most t c = some_at c.args.level

pub returns-else-level-gt1-clause-count : goal.returns-else-level-gt1-clause-count
returns-else-level-gt1-clause-count t c = leaf-count c.args.dirty.now c.args.level c.args.index (omega (arith, c.requires.level_from, c.if-level-gt1.false)) (sym c.is_any_below.ensures ∙ c.if-not-is_any_below.false)

pub returns-else-level-gt1-clause-at_most : goal.returns-else-level-gt1-clause-at_most
returns-else-level-gt1-clause-at_most t c = leaf-most c.args.level (omega (arith, c.requires.level_from, c.if-level-gt1.false))

pub loop-j-init : goal.loop-j-init
loop-j-init t c = counted-none c.args.dirty.now (c.args.level - 1) (32 * c.args.index)

pub overflow_mul-index : goal.overflow_mul-index
overflow_mul-index t c =
    let low = has_dirty-low c.args.dirty.now c.args.level c.args.index c.requires.level_from c.requires.few (sym c.is_any_below.ensures ∙ c.if-not-is_any_below.false) in
    omega (arith, low)

pub overflow_add-index : goal.overflow_add-index
overflow_add-index t c =
    let low = has_dirty-low c.args.dirty.now c.args.level c.args.index c.requires.level_from c.requires.few (sym c.is_any_below.ensures ∙ c.if-not-is_any_below.false) in
    omega (arith, low, c.loop-j-test.true)

pub count_below-count-requires : goal.count_below-count-requires
count_below-count-requires t c =
    let low = has_dirty-low c.args.dirty.now c.args.level c.args.index c.requires.level_from c.requires.few (sym c.is_any_below.ensures ∙ c.if-not-is_any_below.false) in
    (omega (arith, c.requires.level_from), (c.requires.few, (omega (arith, c.requires.level_from, c.if-level-gt1.true), (omega (arith, c.requires.level_to), omega (arith, low, c.loop-j-test.true)))))

pub overflow_add-count : goal.overflow_add-count
overflow_add-count t c =
    let small =
    counted-fits c.args.dirty.now (c.args.level - 1) (32 * c.args.index) c.loop-j.j c.loop-j.count c.count_below-count.result (omega (arith, c.requires.level_to)) c.loop-j-test.true c.loop-j.invariant c.count_below-count.ensures.at_most in
    omega (arith, small)

pub loop-j-preserved : goal.loop-j-preserved
loop-j-preserved t c =
    counted-more c.args.dirty.now (c.args.level - 1) (32 * c.args.index) c.loop-j.j c.loop-j.count c.count_below-count.result c.loop-j.invariant c.count_below-count.ensures.count c.count_below-count.ensures.at_most

pub returns-after-loop-j-clause-count : goal.returns-after-loop-j-clause-count
returns-after-loop-j-clause-count t c =
    let end : c.loop-j.j ≡ 32 = omega arith in
    node-count c.args.dirty.now c.args.level c.args.index c.loop-j.count c.requires.level_from (sym c.is_any_below.ensures ∙ c.if-not-is_any_below.false)
    (subst (λ n. IsCountedTo c.args.dirty.now (c.args.level - 1) (32 * c.args.index) n c.loop-j.count) end c.loop-j.invariant)

pub returns-after-loop-j-clause-at_most : goal.returns-after-loop-j-clause-at_most
returns-after-loop-j-clause-at_most t c =
    let end : c.loop-j.j ≡ 32 = omega arith in
    node-most c.args.dirty.now c.args.level c.args.index c.loop-j.count c.requires.level_from (subst (λ n. IsCountedTo c.args.dirty.now (c.args.level - 1) (32 * c.args.index) n c.loop-j.count) end c.loop-j.invariant)
