use Rattle.std.proofs.Common.{Option, refl, subst}
use Rattle.wb_devices.specs.declared.running.RunningCommit.{RunningCommit}
use Rattle.wb_stage.specs.declared.share.Share.{Share}
use Rattle.wb_target.specs.Works.{AskedSharing, DidAskDesk}
use Rattle.wb_target.proofs.Asking.{commit_asked}
use Rattle.wb_target.proofs.target.Target.ask.Goals as goal

pub loop-init : goal.loop-init
loop-init g c = record { commit = refl; share = refl }

pub returns-then-not-has_to_wait-clause-commit : goal.returns-then-not-has_to_wait-clause-commit
returns-then-not-has_to_wait-clause-commit g c =
    subst (λ (m : Option RunningCommit). DidAskDesk c.args.step c.ask-got.result m c.ask-got.new.commit) c.loop.invariant.commit
    (commit_asked g.P.Policy.with_entry g.P.Policy.without_entry c.args.held.now c.args.step c.loop.share c.ask-got.result _ _ c.loop.commit c.ask-got.new.commit c.ask-got.ensures.did)

pub returns-then-not-has_to_wait-clause-asked : goal.returns-then-not-has_to_wait-clause-asked
returns-then-not-has_to_wait-clause-asked g c =
    subst (λ (s : Share). AskedSharing g.P.Policy.with_entry g.P.Policy.without_entry c.args.held.now s c.ask-got.new.share c.args.step c.ask-got.result c.args.commit.now c.ask-got.new.commit) c.loop.invariant.share
    (subst (λ (m : Option RunningCommit). AskedSharing g.P.Policy.with_entry g.P.Policy.without_entry c.args.held.now c.loop.share c.ask-got.new.share c.args.step c.ask-got.result m c.ask-got.new.commit) c.loop.invariant.commit
    (_, (_, c.ask-got.ensures.did, c.ask-got.ensures.share)))

pub loop-preserved : goal.loop-preserved
loop-preserved g c = record { commit = c.loop.invariant.commit; share = c.loop.invariant.share }
