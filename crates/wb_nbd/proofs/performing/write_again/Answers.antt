use Rattle.std.proofs.Common.{rules, arith, subst, ◌≡◌, ◌∙◌, ◌+◌, ℕ, List, take}
use Rattle.std.proofs.lemmas.Grind.{common_steps}
use Rattle.wb_nbd.specs.Acts.{Wrote}
use Rattle.wb_nbd.specs.Performing.{nothing, more, zero_sectors}
use Rattle.wb_nbd.proofs.Zeros.{zero_piece}
use Rattle.wb_nbd.proofs.performing.write_again.Goals as goal

pub loop-done-init : goal.loop-done-init
loop-done-init g c = (nothing, search rules, λ i. g.E.Export.size c.args.export.now)

pub overflow_add-at : goal.overflow_add-at
overflow_add-at g c = grind (arith, common_steps, c.requires.inside, c.requires.small, c.loop-done-test.true)

pub loop-done-preserved : goal.loop-done-preserved
loop-done-preserved g c =
    let piece : take c.min-many.result c.args.zeros.now ≡ zero_sectors c.min-many.result
    = zero_piece c.args.zeros.now c.min-many.result c.requires.zeros (grind (arith, common_steps, c.min-many.ensures)) in (
      more c.loop-done.invariant.0 c.min-many.result
          (subst (λ (content : List (List ℕ)). g.E.Export.acts c.loop-done.export (Wrote (c.args.at.0 + c.loop-done.done) content) c.write.new.self) piece c.in_ok-write.ensures.done),
      grind (arith, common_steps, c.min-many.ensures, c.loop-done-test.true),
      c.in_ok-write.ensures.size ∙ c.loop-done.invariant.2,
    )
