use Rattle.wb_words.specs.declared.grip.GripStage.TheVariants.{LookFail}
use Rattle.std.proofs.Common.{◌≡◌, ◌≢◌, [], ⊎_elim, inr, ap, ◌∙◌, sym, subst}
use Rattle.wb_words.specs.Grips.{IsMore}
use Rattle.wb_cells.specs.Passes.{PassState}
use Rattle.wb_cells.specs.Fractions.{IsWhole}
use Rattle.wb_cells.proofs.Gripping.{on_the_way, way_ends, not_more}
use Rattle.wb_cells.proofs.Alone.{none_or, alone_on, alone_ends}
use Rattle.wb_cells.proofs.cells.Cells.grip.Goals as goal

pub loop-ended-preserved : goal.loop-ended-preserved
loop-ended-preserved c = let more : IsMore c.grip_step.result = subst IsMore (sym c.in-More.is) tt in let kept = c.loop-ended.invariant in let step = c.grip_step.ensures.step in record {
  way = on_the_way c.args.grip.access c.args.grip.block c.args.pass.now.card c.loop-ended.grip c.grip_step.new.grip c.loop-ended.pass.card c.grip_step.new.pass.card c.grip_step.result kept.way step more (c.grip_step.ensures.fits more);
  table = ap (λ (p : PassState). p.table) c.grip_step.ensures.pass ∙ kept.table;
  fraction = ap (λ (p : PassState). p.fraction) c.grip_step.ensures.pass ∙ kept.fraction;
  failed = ap (λ (p : PassState). p.failed) c.grip_step.ensures.pass ∙ kept.failed;
  sound = ⊎_elim (λ (first : c.loop-ended.grip.stage ≡ LookFail). ⊎_elim (λ (none : c.loop-ended.pass.failed ≡ []). inr (sym kept.failed ∙ none))
      (λ (has : c.loop-ended.pass.failed ≢ []). absurd (subst IsMore (c.grip_step.ensures.failed first has) more)) (none_or c.loop-ended.pass.failed)) (λ (none : c.args.pass.now.failed ≡ []). inr none) kept.sound;
  alone = λ all. alone_on c.args.self.now.blocks (IsWhole c.loop-ended.pass.fraction) c.args.grip.access c.args.grip.block c.args.pass.now.card c.loop-ended.grip c.grip_step.new.grip c.loop-ended.pass.card c.grip_step.new.pass.card c.grip_step.result
      c.requires.block (subst IsWhole (sym kept.fraction) all) kept.way step (kept.alone all) more;
}

pub returns-in_default : goal.returns-in_default
returns-in_default c = record {
  pass = c.grip_step.ensures.pass ∙ (λ i. record { table = c.loop-ended.invariant.table i; fraction = c.loop-ended.invariant.fraction i; card = c.grip_step.new.pass.card; failed = c.loop-ended.invariant.failed i });
  failed = λ more. let same = c.loop-ended.invariant.failed in
      ⊎_elim (λ (first : c.loop-ended.grip.stage ≡ LookFail). c.grip_step.ensures.failed first (λ none. more (sym same ∙ none))) (λ (none : c.args.pass.now.failed ≡ []). absurd (more none)) c.loop-ended.invariant.sound;
  ends = way_ends c.args.grip.access c.args.grip.block c.args.pass.now.card c.loop-ended.grip c.grip_step.new.grip c.loop-ended.pass.card c.grip_step.new.pass.card c.grip_step.result
      c.loop-ended.invariant.way c.grip_step.ensures.step (not_more c.grip_step.result c.in_default.not-More);
  alone = λ all. alone_ends c.args.self.now.blocks (IsWhole c.loop-ended.pass.fraction) c.args.grip.access c.args.grip.block c.args.pass.now.card c.loop-ended.grip c.grip_step.new.grip c.loop-ended.pass.card c.grip_step.new.pass.card c.grip_step.result
      c.requires.block (subst IsWhole (sym c.loop-ended.invariant.fraction) all) c.loop-ended.invariant.way c.grip_step.ensures.step (c.loop-ended.invariant.alone all) (not_more c.grip_step.result c.in_default.not-More);
}
