use Rattle.std.proofs.Common.{Option, subst, sym}
use Rattle.std.specs.Prelude.{IfSome}
use Rattle.wb_devices.specs.declared.running.RunningCommit.{RunningCommit}
use Rattle.wb_tasks.specs.Plan.{Fits}
use Rattle.wb_tasks.specs.declared.step.DeskStep.{DeskStep}
use Rattle.wb_tasks.specs.declared.step.Want.TheVariants.{Desk as OnDesk}
use Rattle.wb_promise.specs.Happenings.{AreWhole}
use Rattle.wb_machine.specs.Serving.{Allows}
use Rattle.wb_machine.proofs.Doing.{asked_plainly, did_ask, served, suspend_begins}
use Rattle.wb_machine.proofs.asking.ask.Goals as goal

pub begin_commit-got-requires : goal.begin_commit-got-requires
begin_commit-got-requires c = (subst (λ (step : DeskStep). Allows c.args.desk.now.geometry c.args.seen.now (OnDesk step)) c.in-BeginCommit.is c.requires.enough).1

pub ask-got-requires-clause-served : goal.ask-got-requires-clause-served
ask-got-requires-clause-served c = served c.args.step c.in_default.not-BeginCommit

pub returns-in-BeginCommit-clause-asked : goal.returns-in-BeginCommit-clause-asked
returns-in-BeginCommit-clause-asked c = λ job askable.
    did_ask c.args.desk.now c.args.commit.now c.begin_commit-got.new.desk c.begin_commit-got.new.commit c.args.held.now c.args.seen.now c.args.share.now job c.args.step c.begin_commit-got.result askable c.requires.enough
    (subst (λ (step : DeskStep). Fits (OnDesk step) c.begin_commit-got.result) (sym c.in-BeginCommit.is) c.begin_commit-got.ensures.kind)
    (λ nodes running began is. subst (λ (o : Option RunningCommit). IfSome o (λ running. AreWhole running.image)) is (c.see_begun.ensures nodes began))
    (suspend_begins c.args.desk.now c.args.commit.now c.begin_commit-got.new.desk c.begin_commit-got.new.commit c.args.held.now c.args.seen.now c.args.share.now c.args.step _ c.begin_commit-got.result c.in-BeginCommit.is c.begin_commit-got.ensures.did)

pub returns-in_default-clause-asked : goal.returns-in_default-clause-asked
returns-in_default-clause-asked c = λ job askable.
    did_ask c.args.desk.now c.args.commit.now c.ask-got.new.desk c.ask-got.new.commit c.args.held.now c.args.seen.now c.args.share.now job c.args.step c.ask-got.result askable c.requires.enough c.ask-got.ensures.kind
    (λ nodes running began is. subst (λ (o : Option RunningCommit). IfSome o (λ running. AreWhole running.image)) is (c.see_begun-in_default.ensures nodes began))
    (asked_plainly c.args.desk.now c.args.commit.now c.ask-got.new.desk c.ask-got.new.commit c.args.held.now c.args.seen.now c.args.share.now _ _ c.args.step c.ask-got.result c.in_default.not-BeginCommit c.ask-got.ensures.did)
