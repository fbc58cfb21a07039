use Rattle.std.proofs.Common.{◌≡◌, ◌∙◌, Bool, None, ap, sym, subst, List, []}
use Rattle.wb_types.specs.declared.mode.Mode.{Mode}
use Rattle.wb_types.specs.declared.refusal.Refusal.TheVariants.{Busy}
use Rattle.wb_promise.specs.declared.event.What.TheVariants.{Refused, Started}
use Rattle.wb_machine.specs.declared.machine.TheConstants.{ACTORS}
use Rattle.wb_machine.specs.Life.{shape_of}
use Rattle.wb_machine.specs.Members.{Member}
use Rattle.wb_machine.specs.Serving.{Starts, TakesOrder, cut_for}
use Rattle.wb_machine.proofs.Orders.{none_of, refused_busy, refused_request, started_ordered, started_request, starts_of, tasked}
use Rattle.wb_machine.proofs.member.Member.start.Goals as goal
use Rattle.wb_policy.specs.declared.order.Order.{Order}
use Rattle.wb_tasks.specs.Plan.{table}
use Rattle.wb_promise.specs.declared.job.Job.{Job}
use Rattle.wb_promise.specs.Happenings.{begun_as, task_job}
use Rattle.wb_machine.proofs.member.Member.start.Goals.{then-is_ordered+in_ok-has_order+else-not-has_order, else-is_ordered}

pub returns-in-Some-clause-ok : goal.returns-in-Some-clause-ok
returns-in-Some-clause-ok c =
    let shape = shape_of c.args.geometry.now ACTORS in
    let m = c.args.self.now in
    let idle : m.task ≡ None = ap (λ (v : Member). v.task) (sym c.self.view_is) ∙ none_of c.self.inside.task (sym c.is_some.ensures ∙ c.if-is_some.false) in
    starts_of shape c.args.desk.now m c.args.job.now (Refused c.in-Some.refusal) c.args.desk.now m idle
    (refused_request shape c.args.desk.now m c.args.job.now c.in-Some.refusal (sym c.refusal_of.ensures ∙ c.in-Some.is))

pub returns-then-not-has_order-clause-ok : goal.returns-then-not-has_order-clause-ok
returns-then-not-has_order-clause-ok c =
    let shape = shape_of c.args.geometry.now ACTORS in
    let m = c.args.self.now in
    let idle : m.task ≡ None = ap (λ (v : Member). v.task) (sym c.self.view_is) ∙ none_of c.self.inside.task (sym c.is_some.ensures ∙ c.if-is_some.false) in
    let desk' = c.take_order.new.desk in
    let m' = c.take_order.new.self in
    starts_of shape c.args.desk.now m c.args.job.now (Refused Busy) desk' m' idle
    (refused_busy shape c.args.desk.now m c.args.job.now desk' m' (sym c.is_ordered.ensures ∙ c.if-is_ordered.true)
    (subst (λ (b : Bool). TakesOrder c.args.desk.now m c.args.job.now b desk' m') c.if-not-has_order.true c.in_ok-has_order.ensures.ok))

pub returns-clause-ok : goal.returns-clause-ok
returns-clause-ok c =
    let shape = shape_of c.args.geometry.now ACTORS in
    let m = c.args.self.now in
    let idle : m.task ≡ None = ap (λ (v : Member). v.task) (sym c.self.view_is) ∙ none_of c.self.inside.task (sym c.is_some.ensures ∙ c.if-is_some.false) in
    let job = c.args.job.now in
    let desk = c.args.desk.now in
    let plan = c.in_ok-task.task in
    let begins = c.in_ok-task.ensures.task ∙ ap (λ (os : List Order). table (task_job shape c.mode-mode.result os job (cut_for shape job) [])) (c.as_slice.ensures.value ∙ ap (λ (v : Member). v.awaiting) c.self.view_is)
    ∙ ap (λ (x : Mode). table (task_job shape x m.awaiting job (cut_for shape job) [])) c.mode-mode.ensures in
    subst (λ (v : Member). Starts shape desk m job Started c.if-is_ordered.desk v) (sym (ap (λ (v : Member). tasked v c.begun_as.result plan) c.self-2.view_is))
    (subst (λ (j : Job). Starts shape desk m job Started c.if-is_ordered.desk (tasked c.if-is_ordered.self j plan)) (sym c.begun_as.ensures)
    (elim c.if-is_ordered.branch [
      | then-is_ordered+in_ok-has_order+else-not-has_order w ↦
          let takes = subst (λ (b : Bool). TakesOrder desk m job b w.take_order.new.desk w.take_order.new.self) w.if-not-has_order.false w.in_ok-has_order.ensures.ok in
          rw (w.self-is, w.desk-is) (starts_of shape desk m job Started w.take_order.new.desk (tasked w.take_order.new.self (begun_as job) plan) idle
          (started_ordered shape desk m job w.take_order.new.desk w.take_order.new.self plan (sym c.is_ordered.ensures ∙ w.if-is_ordered.true) takes begins))
      | else-is_ordered w ↦
          rw (w.self-is, w.desk-is) (starts_of shape desk m job Started desk (tasked m (begun_as job) plan) idle
          (started_request shape desk m job plan c.requires (sym c.is_ordered.ensures ∙ w.if-is_ordered.false) (sym c.refusal_of.ensures ∙ c.in_default.is) begins))
    ]))
