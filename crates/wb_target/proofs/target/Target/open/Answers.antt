use Rattle.std.proofs.Common.{◌≡◌, ◌∙◌, ◌-◌, ap, subst, sym}
use Rattle.std.proofs.lemmas.Result.{on_ok_weaker, IfErr-weaker, IfOk-weaker}
use Rattle.wb_types.specs.declared.geometry.Geometry.{Geometry}
use Rattle.wb_tasks.specs.Tables.{Opening as OpeningJob}
use Rattle.wb_tasks.specs.Plan.{Plan, table}
use Rattle.wb_tasks.specs.Run.{IsRunOf}
use Rattle.wb_tasks.specs.declared.step.Answer.{Answer}
use Rattle.wb_tasks.specs.declared.step.Answer.TheVariants.{Done}
use Rattle.wb_target.specs.Making.{MakingGoesOn, WasOpened, WasRun}
use Rattle.wb_target.specs.NotOpened.{IsToldOf, IsOfSizes}
use Rattle.wb_target.proofs.Opened.{was_opened}
use Rattle.wb_target.proofs.Refusing.{not_opened}
use Rattle.wb_target.proofs.Leading.{ok_as}
use Rattle.wb_port.proofs.Readying.{kept_by}
use Rattle.wb_target.proofs.target.Target.open.Given.{Over}
use Rattle.wb_target.proofs.target.Target.open.Goals as goal

module _ (g : Over) (c : goal.After-finish g) where
  abbrev Tried : Answer → Type 0
  Tried answer = WasRun g.D.Disk.tells g.D.Disk.size g.D.Disk.contents g.D.Disk.faults g.P.Policy.begun g.P.Policy.with_setting c.args.mode c.args.devices answer c.finish.result.0

  tried : Tried c.run-answer.result
  tried = let run = c.run-answer.ensures.run in record {
    left = c.in-Ok.geometry.meta_sectors - 1;
    first = c.new-stage.result;
    last = c.run-answer.new.self;
    over = c.new-stage.ensures.devices;
    in_mode = c.new-stage.ensures.mode;
    not_begun = c.new-stage.ensures.begins;
    steps = run.0;
    run = subst (λ (s : Plan). IsRunOf s run.0 c.run-answer.result) c.new-task.ensures run.1;
    leads = run.2;
    back_is = c.finish.ensures.devices;
  }

pub returns-clause-run : goal.returns-clause-run
returns-clause-run g c = on_ok_weaker c.finish.result.1 (λ (done : c.run-answer.result ≡ Done). subst (λ (answer : Answer). Tried g c answer) done (tried g c)) c.finish.ensures.done

pub returns-clause-opened : goal.returns-clause-opened
returns-clause-opened g c = on_ok_weaker c.finish.result.1 (λ (done : c.run-answer.result ≡ Done).
    let run = c.run-answer.ensures.run in
    let last = c.run-answer.new.self in
    let opened = was_opened g.D.Disk.tells g.D.Disk.size g.D.Disk.contents g.D.Disk.faults g.P.Policy.begun g.P.Policy.with_setting c.args.mode c.args.keys.now c.new-stage.result last (c.in-Ok.geometry.meta_sectors - 1) run.0
    c.new-stage.ensures.goes_on c.new-stage.ensures.mode (ap (λ k. k.now) c.new-stage.ensures.keys) c.new-stage.ensures.made c.new-stage.ensures.begins
    (subst (λ (answer : Answer). IsRunOf (table (OpeningJob (c.in-Ok.geometry.meta_sectors - 1))) run.0 answer) done (subst (λ (s : Plan). IsRunOf s run.0 c.run-answer.result) c.new-task.ensures run.1)) run.2 in
    subst (λ devices. WasOpened g.D.Disk.tells g.D.Disk.size g.D.Disk.contents g.P.Policy.begun g.P.Policy.with_setting c.args.mode c.args.keys.now devices c.finish.result.0) c.new-stage.ensures.devices
    (subst (λ back. WasOpened g.D.Disk.tells g.D.Disk.size g.D.Disk.contents g.P.Policy.begun g.P.Policy.with_setting c.args.mode c.args.keys.now c.new-stage.result.stage.devices back) (sym c.finish.ensures.devices) opened)) c.finish.ensures.done

pub returns-clause-mode : goal.returns-clause-mode
returns-clause-mode g c =
    let run = c.run-answer.ensures.run in
    let same = kept_by (MakingGoesOn g.D.Disk.tells g.D.Disk.size g.D.Disk.contents g.D.Disk.faults g.P.Policy.begun g.P.Policy.with_setting) (λ x. x.stage.mode) (λ x w got y h. h.1) c.new-stage.result run.0 c.run-answer.new.self run.2 in
    ok_as c.finish.result.1 (λ target. target.mode) c.run-answer.new.self.stage.mode c.args.mode (same ∙ c.new-stage.ensures.mode) c.finish.ensures.mode

pub returns-clause-sizes : goal.returns-clause-sizes
returns-clause-sizes g c =
    let are : Geometry → Type 0 = IsOfSizes g.D.Disk.size c.args.devices c.args.block c.args.metadata2 in
    IfOk-weaker c.finish.result.1 _ (λ target. are target.sizes) (λ target same. subst are (sym same) c.in-Ok.ensures.sizes) c.finish.ensures.sizes

pub returns-clause-refused : goal.returns-clause-refused
returns-clause-refused g c =
    let run = c.run-answer.ensures.run in
    let last = c.run-answer.new.self in
    IfErr-weaker c.finish.result.1 (IsToldOf last.made c.run-answer.result) _
    (not_opened g.D.Disk.tells g.D.Disk.size g.D.Disk.contents g.D.Disk.faults g.P.Policy.begun g.P.Policy.with_setting c.args.mode c.args.keys.now c.args.block c.args.metadata2 c.args.devices c.in-Ok.geometry c.in-Ok.ensures.sizes
    (c.in-Ok.geometry.meta_sectors - 1) c.new-stage.result last c.new-stage.ensures.devices c.new-stage.ensures.mode c.new-stage.ensures.geometry (ap (λ k. k.now) c.new-stage.ensures.keys) c.new-stage.ensures.made c.new-stage.ensures.begins
    run.0 run.2 c.finish.result.0 c.finish.ensures.devices
    c.run-answer.result (subst (λ (s : Plan). IsRunOf s run.0 c.run-answer.result) c.new-task.ensures run.1) c.run-answer.ensures.made)
    c.finish.ensures.refused
