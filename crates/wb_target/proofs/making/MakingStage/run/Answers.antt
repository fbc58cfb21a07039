use Rattle.wb_devices.proofs.Serving.{opens_only}
use Rattle.std.proofs.Common.{refl, subst}
use Rattle.wb_tasks.specs.Plan.{Plan, table}
use Rattle.wb_tasks.specs.Tables.{Opening as OpeningJob}
use Rattle.wb_tasks.specs.Run.{IsRunOf}
use Rattle.wb_tasks.specs.declared.step.Answer.{Answer}
use Rattle.wb_target.proofs.Opened.{has_made}
use Rattle.wb_target.proofs.Written.{goes_on_making}
use Rattle.wb_target.proofs.making.MakingStage.run.Goals as goal

pub drive-requires : goal.drive-requires
drive-requires g c steps mid first leads step = (opens_only _ c.requires.begun.0 steps c.requires.begun.1 first, goes_on_making g.D.Disk.tells g.D.Disk.size g.D.Disk.contents g.D.Disk.faults g.P.Policy.begun g.P.Policy.with_setting c.args.self.now steps mid c.requires.goes_on leads)

pub returns-clause-made : goal.returns-clause-made
returns-clause-made g c = λ done.
    let run = c.drive.ensures.run in
    let old = c.args.self.now in
    has_made g.D.Disk.tells g.D.Disk.size g.D.Disk.contents g.D.Disk.faults g.P.Policy.begun g.P.Policy.with_setting old.stage.mode old.keys.now old c.drive.new.stage c.requires.begun.0 run.0 c.requires.goes_on refl refl c.requires.none_made
    (subst (λ (answer : Answer). IsRunOf (table (OpeningJob c.requires.begun.0)) run.0 answer) done (subst (λ (s : Plan). IsRunOf s run.0 c.drive.result) c.requires.begun.1 run.2)) run.3
