use Rattle.std.proofs.Common.{◌≡◌, ◌≤◌, ◌-◌, ◌*◌, ◌∙◌, sym, ap, subst, arith}
use Rattle.std.specs.Prelude.{is_some}
use Rattle.wb_tree.proofs.Branching.Branches.{not_one}
use Rattle.wb_tree.proofs.Nodes.Listing.{exists-before}
use Rattle.wb_tree.proofs.Images.Changes.{AreCounted, counted_small, is_none, leaf_changed, node_changed, node_most, none_counted, none_known, none_shut, one_counted, some_power}
use Rattle.wb_tree.proofs.Images.PlanSteps.{child-inside}
use Rattle.wb_tree.proofs.counting.+count_changed.Goals as goal

pub returns-in_default-clause-count : goal.returns-in_default-clause-count
returns-in_default-clause-count g t c = none_shut c.args.tree.now c.args.level c.args.index (sym c.look.ensures.there ∙ ap is_some c.in_default.is)

pub returns-in_default-clause-at_most : goal.returns-in_default-clause-at_most
returns-in_default-clause-at_most g t c = some_power c.args.level

pub returns-then-is_some-clause-count : goal.returns-then-is_some-clause-count
returns-then-is_some-clause-count g t c =
    none_known c.args.tree.now c.args.level c.args.index c.in-Some.place c.requires.sound c.in-Some.ensures.place (sym c.is_some.ensures ∙ c.if-is_some.true)

pub returns-then-is_some-clause-at_most : goal.returns-then-is_some-clause-at_most
returns-then-is_some-clause-at_most g t c = some_power c.args.level

pub returns-then-level-eq1-clause-count : goal.returns-then-level-eq1-clause-count
returns-then-level-eq1-clause-count g t c =
    sym (leaf_changed c.args.tree.now c.args.level c.args.index c.if-level-eq1.true (sym c.in-Some.ensures.there) (sym c.in-Some.ensures.place ∙ is_none c.in-Some.place (sym c.is_some.ensures ∙ c.if-is_some.false)))

pub loop-j-init : goal.loop-j-init
loop-j-init g t c = none_counted c.args.tree.now (c.args.level - 1) (32 * c.args.index)

pub overflow_mul-index : goal.overflow_mul-index
overflow_mul-index g t c =
    let few = c.requires.few in
    let before = exists-before c.args.tree.now.entries c.args.level c.args.index (sym c.in-Some.ensures.there) in
    omega arith

pub overflow_add-index : goal.overflow_add-index
overflow_add-index g t c =
    let few = c.requires.few in
    let before = exists-before c.args.tree.now.entries c.args.level c.args.index (sym c.in-Some.ensures.there) in
    omega arith

pub count_changed-count-requires : goal.count_changed-count-requires
count_changed-count-requires g t c κs within =
    let from = c.requires.level_from in
    let to = c.requires.level_to in
    let most = c.requires.level_most in
    let higher : 2 ≤ c.args.level = not_one c.args.level from c.if-level-eq1.false in
    (omega arith, (λ a m. within a m, (c.requires.sound, (c.requires.few, (omega arith, (omega arith, (omega arith, child-inside _ c.args.level c.args.index c.loop-j.j higher to c.requires.index c.loop-j-test.true)))))))

pub overflow_add-count : goal.overflow_add-count
overflow_add-count g t c =
    let most = c.requires.level_most in
    let small = counted_small c.args.tree.now (c.args.level - 1) (32 * c.args.index) c.loop-j.j c.loop-j.count c.count_changed-count.result (omega arith) c.loop-j-test.true c.loop-j.invariant c.count_changed-count.ensures.at_most in
    omega (arith, small)

pub loop-j-preserved : goal.loop-j-preserved
loop-j-preserved g t c =
    one_counted c.args.tree.now (c.args.level - 1) (32 * c.args.index) c.loop-j.j c.loop-j.count c.count_changed-count.result c.loop-j.invariant c.count_changed-count.ensures.count c.count_changed-count.ensures.at_most

pub returns-clause-count : goal.returns-clause-count
returns-clause-count g t c =
    let end : c.loop-j.j ≡ 32 = omega arith in
    node_changed c.args.tree.now c.args.level c.args.index c.loop-j.count c.requires.level_from (sym c.in-Some.ensures.there) (sym c.in-Some.ensures.place ∙ is_none c.in-Some.place (sym c.is_some.ensures ∙ c.if-is_some.false))
    (subst (λ n. AreCounted c.args.tree.now (c.args.level - 1) (32 * c.args.index) n c.loop-j.count) end c.loop-j.invariant)

pub returns-clause-at_most : goal.returns-clause-at_most
returns-clause-at_most g t c =
    let end : c.loop-j.j ≡ 32 = omega arith in
    node_most c.args.tree.now c.args.level c.args.index c.loop-j.count c.requires.level_from (subst (λ n. AreCounted c.args.tree.now (c.args.level - 1) (32 * c.args.index) n c.loop-j.count) end c.loop-j.invariant)
