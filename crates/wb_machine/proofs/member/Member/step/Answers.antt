use Rattle.std.proofs.Common.{◌≡◌, ◌∙◌, Bool, if◌then◌else◌, List, [], Option, Some, sym, ap, subst}
use Rattle.wb_disk.specs.Device.{Content as Bytes}
use Rattle.wb_cells.specs.Crews.{card_of}
use Rattle.wb_tasks.specs.Plan.{Plan}
use Rattle.wb_tasks.specs.Ready.{MayTake}
use Rattle.wb_tasks.specs.declared.step.Want.{Want}
use Rattle.wb_tasks.proofs.Readiness.{is_ready}
use Rattle.wb_stage.specs.declared.share.Share.{Share}
use Rattle.wb_promise.specs.declared.job.Job.{Job}
use Rattle.wb_promise.specs.Effects.{job_of, seen_then, task_then}
use Rattle.wb_machine.specs.Life.{contents_of}
use Rattle.wb_machine.specs.Members.{Member}
use Rattle.wb_machine.specs.Standing.{IsTaskRoomy}
use Rattle.wb_runs.specs.Holding.{TaskSuits}
use Rattle.wb_machine.specs.Serving.{Allows, may_give_up, share_after}
use Rattle.wb_machine.proofs.Stepped.{allows, awaiting_are, buffer_is, orders_are, performs_so, steps_at}
use Rattle.wb_machine.proofs.member.Member.step.Goals as goal

-- by what its actor has, as its task's table says
pub perform-requires-clause-ready : goal.perform-requires-clause-ready
perform-requires-clause-ready c =
    let crew = c.args.target.now.crew in
    let card = card_of crew c.args.number in
    let at : c.args.self.now.task ≡ Some (c.in-Some.job, c.in-Some.task) = ap (λ (v : Member). v.task) (sym c.self.view_is) ∙ c.in-Some.is in
    subst (λ (w : Want). MayTake crew.blocks card w) (sym c.want-want.ensures) (is_ready crew.blocks c.in-Some.task card (subst (λ (t : Option (Job × Plan)). TaskSuits crew.blocks card t) at c.requires.suits))

pub perform-requires-clause-enough : goal.perform-requires-clause-enough
perform-requires-clause-enough c =
    let crew = c.args.target.now.crew in
    let g = c.args.target.now.desk.geometry in
    let at : c.args.self.now.task ≡ Some (c.in-Some.job, c.in-Some.task) = ap (λ (v : Member). v.task) (sym c.self.view_is) ∙ c.in-Some.is in
    let room = subst (λ (t : Option (Job × Plan)). IsTaskRoomy g c.args.self.now.seen t) at c.requires.roomy in
    let suits = subst (λ (t : Option (Job × Plan)). TaskSuits crew.blocks (card_of crew c.args.number) t) at c.requires.suits in
    let bits = c.as_slice-seen.ensures.value ∙ ap (λ (v : Member). v.seen) c.self.view_is in
    subst (λ (b : List Bool). Allows g b c.want-want.result) (sym bits)
    (subst (λ (w : Want). Allows g c.args.self.now.seen w) (sym c.want-want.ensures) (allows crew.blocks g c.args.self.now.seen c.in-Some.task (card_of crew c.args.number) suits room))

pub returns-clause-ok : goal.returns-clause-ok
returns-clause-ok c =
    let m = c.args.self.now in
    let job = c.in-Some.job in
    let plan = c.in-Some.task in
    let next = c.want-want.result in
    let got = c.in_ok-got.got in
    let given = c.in_ok-got.read.items in
    let devices = contents_of c.args.devices.now in
    let devices' = contents_of c.perform.new.devices in
    let old = c.args.target.now in
    let new = c.perform.new.self in
    let a = c.args.number in
    let m' = c.keep_read-noted.new.self in
    let os = c.as_slice-orders.ensures.value ∙ ap (λ (v : Member). v.orders) c.self.view_is in
    let ws = c.as_slice-awaiting.ensures.value ∙ ap (λ (v : Member). v.awaiting) c.self.view_is in
    let ss = c.as_slice-seen.ensures.value ∙ ap (λ (v : Member). v.seen) c.self.view_is in
    let hs = ap (λ (v : Member). v.share) c.self.view_is in
    let bs = c.as_slice-buffer.ensures.value ∙ ap (λ (v : Member). v.buffer) c.self.view_is in
    let p = performs_so m _ _ os ws job next got devices old a c.held_for-held.result.now _ _ _ given devices' new c.held_for-held.ensures ss hs bs c.in_ok-got.ensures.ok in
    let at : m.task ≡ Some (job, plan) = ap (λ (v : Member). v.task) (sym c.self.view_is) ∙ c.in-Some.is in
    let went_on = c.go_on.ensures.task ∙ ap (λ (t : Option (Job × Plan)). task_then t next got) (c.see.ensures.task ∙ ap (λ (v : Member). v.task) c.self.view_is) in
    let seen_is = c.see.ensures.seen ∙ ap (λ (v : Member). seen_then v.seen next got (job_of v.task)) c.self.view_is ∙ ap (λ (t : Option (Job × Plan)). seen_then m.seen next got (job_of t)) at in
    let share_is = c.in_ok-got.ensures.share ∙ ap (λ (s : Share). share_after old.desk s next got) hs in
    let orders_is = orders_are m _ _ os ws job next got _ _ _ (c.go_on.ensures.orders ∙ c.see.ensures.orders ∙ ap (λ (v : Member). v.orders) c.self.view_is) c.in_ok-orders_then.ensures.orders c.change_orders.ensures.orders in
    let awaiting_is = awaiting_are m _ _ os ws job next got _ _ _ (c.go_on.ensures.awaiting ∙ c.see.ensures.awaiting ∙ ap (λ (v : Member). v.awaiting) c.self.view_is) c.in_ok-orders_then.ensures.awaiting c.change_orders.ensures.awaiting in
    let copies = c.is_copied-copies.ensures in
    steps_at devices old a m job plan got given devices' new m' next c.want-want.ensures at p c.keep_read-noted.result.items
    (c.keep_read-noted.ensures.told ∙ ap (λ (t : Bool). if t then [] else given) copies)
    (c.keep_read-noted.ensures.task ∙ c.change_orders.ensures.task ∙ went_on)
    (c.keep_read-noted.ensures.orders ∙ orders_is)
    (c.keep_read-noted.ensures.awaiting ∙ awaiting_is)
    (c.keep_read-noted.ensures.buffer ∙ ap (λ (bytes : List Bytes). if c.is_copied-copies.result then given else bytes) (c.change_orders.ensures.buffer ∙ c.go_on.ensures.buffer ∙ c.see.ensures.buffer ∙ ap (λ (v : Member). v.buffer) c.self.view_is)
    ∙ buffer_is devices old a job (may_give_up job m.orders m.awaiting) m.seen m.share m.buffer next got given devices' new c.is_copied-copies.result copies p)
    (c.keep_read-noted.ensures.seen ∙ c.change_orders.ensures.seen ∙ c.go_on.ensures.seen ∙ seen_is)
    (c.keep_read-noted.ensures.share ∙ c.change_orders.ensures.share ∙ c.go_on.ensures.share ∙ c.see.ensures.share ∙ share_is)
