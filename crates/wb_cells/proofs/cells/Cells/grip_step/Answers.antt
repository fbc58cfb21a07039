use Rattle.std.proofs.Common.{ap, refl, ◌∙◌}
use Rattle.wb_words.specs.declared.word.Word.TheVariants.{Cell as LockWord, Seal as SealWord, Number, Fail}
use Rattle.wb_words.specs.declared.grip.GripStage.{GripStage}
use Rattle.wb_words.specs.declared.grip.GripStage.TheVariants.{LookFail, LookLock, LookSeal, LookNumber}
use Rattle.wb_words.specs.Grips.{told_at}
use Rattle.wb_cells.specs.Passes.{PassState}
use Rattle.wb_cells.proofs.Stepping.{look_made, take_made, fails}
use Rattle.wb_cells.proofs.cells.Cells.grip_step.Goals as goal

pub returns-in-LookFail-clause-step : goal.returns-in-LookFail-clause-step
returns-in-LookFail-clause-step c = let f = c.look.ensures.found in
    look_made c.args.grip.now c.advance.new.self c.args.pass.now.card c.look.new.pass.card c.advance.result c.look.result f.0 c.advance.ensures.told c.advance.ensures.next LookFail Fail c.in-LookFail.is refl f.1
    (ap (λ (p : PassState). p.card) c.look.ensures.pass)

pub returns-in-LookFail-clause-failed : goal.returns-in-LookFail-clause-failed
returns-in-LookFail-clause-failed c is more = c.advance.ensures.told
    ∙ (ap (λ (stage : GripStage). told_at c.args.grip.now.access c.args.grip.now.block stage c.look.result) is ∙ fails c.args.grip.now.access c.args.grip.now.block c.look.result c.args.pass.now.failed (c.look.ensures.failed refl) more)

pub returns-in-LookLock-clause-step : goal.returns-in-LookLock-clause-step
returns-in-LookLock-clause-step c = let f = c.look-in-LookLock.ensures.found in
    look_made c.args.grip.now c.advance-in-LookLock.new.self c.args.pass.now.card c.look-in-LookLock.new.pass.card c.advance-in-LookLock.result c.look-in-LookLock.result f.0 c.advance-in-LookLock.ensures.told c.advance-in-LookLock.ensures.next
    LookLock (LockWord c.args.grip.now.block) c.in-LookLock.is refl f.1 (ap (λ (p : PassState). p.card) c.look-in-LookLock.ensures.pass)

pub returns-in-Exchange-clause-step : goal.returns-in-Exchange-clause-step
returns-in-Exchange-clause-step c = let f = c.exchange-found.ensures.found in
    take_made c.args.grip.now c.advance-in-Exchange.new.self c.args.pass.now.card c.exchange-found.new.pass.card c.advance-in-Exchange.result c.exchange-found.result f.0 c.advance-in-Exchange.ensures.told c.advance-in-Exchange.ensures.next
    c.in-Exchange.seen c.in-Exchange.is f.1 (ap (λ (p : PassState). p.card) c.exchange-found.ensures.pass)

pub returns-in-LookSeal-clause-step : goal.returns-in-LookSeal-clause-step
returns-in-LookSeal-clause-step c = let f = c.look-in-LookSeal.ensures.found in
    look_made c.args.grip.now c.advance-in-LookSeal.new.self c.args.pass.now.card c.look-in-LookSeal.new.pass.card c.advance-in-LookSeal.result c.look-in-LookSeal.result f.0 c.advance-in-LookSeal.ensures.told c.advance-in-LookSeal.ensures.next
    LookSeal (SealWord c.args.grip.now.block) c.in-LookSeal.is refl f.1 (ap (λ (p : PassState). p.card) c.look-in-LookSeal.ensures.pass)

pub returns-in-LookNumber-clause-step : goal.returns-in-LookNumber-clause-step
returns-in-LookNumber-clause-step c = let f = c.look-in-LookNumber.ensures.found in
    look_made c.args.grip.now c.advance-in-LookNumber.new.self c.args.pass.now.card c.look-in-LookNumber.new.pass.card c.advance-in-LookNumber.result c.look-in-LookNumber.result f.0 c.advance-in-LookNumber.ensures.told c.advance-in-LookNumber.ensures.next
    (LookNumber c.in-LookNumber.field-0) (Number c.args.grip.now.block) c.in-LookNumber.is refl f.1 (ap (λ (p : PassState). p.card) c.look-in-LookNumber.ensures.pass)
