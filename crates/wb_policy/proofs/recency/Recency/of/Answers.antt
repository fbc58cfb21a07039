use Rattle.std.proofs.Common.{arith, nat_eq, length, get_or, ap, sym, subst, map, ◌≤◌, ◌<◌, ◌+◌, ◌∙◌, []}
use Rattle.std.proofs.lemmas.List.{take_all}
use Rattle.wb_policy.specs.Recency.{newly_mapped, mapped_in_order}
use Rattle.wb_policy.proofs.Placed.{order_more}
use Rattle.wb_policy.proofs.Uses.{put-is, removed_within}
use Rattle.wb_policy.proofs.recency.Recency.of.Goals as goal

pub loop-number-init : goal.loop-number-init
loop-number-init c =
    let is = c.in_ok-blocks.ensures in
    let some = c.in-Some.ensures in
    (ap (λ n. n.entries) is, subst (λ n. length n ≤ 0) (sym (ap (λ n. n.entries) is)) (omega arith), ap (λ n. n.cap) is ∙ some)

pub loop-number-preserved : goal.loop-number-preserved
loop-number-preserved c =
    let i = c.loop-number.number in
    let placed = c.args.placed.now in
    let within = c.loop-number-test.true in
    let was = c.loop-number.invariant in
    let p = get_or placed i (0, (0, 0)) in
    let room : length c.loop-number.blocks.entries < c.loop-number.blocks.cap = omega (arith, was.1, was.2, within) in
    let put = put-is c.loop-number.blocks p.1.1 p.1.0 room in
    let new = c.in-Ok.ensures.entries in
    let entries = ap (λ n. n.entries) new ∙ put in
    let more = order_more placed i (0, (0, 0)) within in
    let fewer = removed_within (nat_eq p.1.1) c.loop-number.blocks.entries in
    (entries ∙ ap (newly_mapped p.1.1 p.1.0) was.0 ∙ sym more, subst (λ n. length n ≤ i + 1) (sym entries) (omega (arith, fewer, was.1)), ap (λ n. n.cap) new ∙ was.2)

pub returns-clause-value : goal.returns-clause-value
returns-clause-value c =
    let was = c.loop-number.invariant in
    let over = c.loop-number-test.false in
    let kept = ap (λ n. n.entries) c.resize.ensures in
    let len = c.len-fits.ensures in
    kept ∙ take_all 18446744073709551615 c.loop-number.blocks.entries (omega (arith, len.len, len.fits)) ∙ was.0 ∙ ap (λ ps. mapped_in_order [] (map (λ p. (p.1.1, p.1.0)) ps)) (take_all c.loop-number.number c.args.placed.now over)
