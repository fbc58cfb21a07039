-- What a member is after a step on its job, by the parts that the step changes.
use Rattle.std.proofs.Common.{◌≡◌, ◌≤◌, ◌∙◌, inr, ℕ, Bool, true, false, if◌then◌else◌, List, [], Option, Some, None, refl, sym, ap, subst, ◌≢◌, Vec, arith}
use Rattle.wb_types.specs.Limits.{most_nodes}
use Rattle.wb_types.specs.declared.geometry.Geometry.{Geometry}
use Rattle.wb_types.specs.declared.version.Version.{Version}
use Rattle.wb_types.specs.declared.version.Version.TheVariants.{One, Two}
use Rattle.wb_disk.specs.Device.{Content as Bytes, History}
use Rattle.wb_devices.specs.declared.devices.Devices.{Devices}
use Rattle.wb_policy.specs.declared.order.Order.{Order}
use Rattle.wb_tasks.specs.Plan.{Plan, want}
use Rattle.wb_tasks.specs.Ready.{IsOwnStep, Suits}
use Rattle.wb_tasks.specs.Tables.{Migrating, TaskJob, OnBlock, Flushing, Suspending}
use Rattle.wb_tasks.proofs.Readiness.{is_own_step}
use Rattle.wb_words.specs.declared.card.Card.{Card}
use Rattle.wb_tasks.specs.declared.step.DeviceStep.TheVariants.{Read as ReadExtent}
use Rattle.wb_tasks.specs.declared.step.DeskStep.TheVariants.{Map, Unmap, ReleaseOrder, Arrive, Ask, BeginCommit}
use Rattle.wb_tasks.specs.declared.step.Want.{Want}
use Rattle.wb_tasks.specs.declared.step.Want.TheVariants.{Device, Desk, End}
use Rattle.wb_tasks.specs.declared.step.Got.{Got}
use Rattle.wb_tasks.specs.declared.step.Got.TheVariants.{Done}
use Rattle.wb_stage.specs.declared.share.Share.{Share}
use Rattle.wb_promise.specs.declared.job.Job.{Job}
use Rattle.wb_promise.specs.declared.job.Job.TheVariants.{Migrate}
use Rattle.wb_promise.specs.declared.event.What.TheVariants.{Stepped}
use Rattle.wb_promise.specs.Effects.{buffer_then, job_of, orders_then, seen_then, task_then, awaiting_then}
use Rattle.wb_machine.specs.declared.target.Target.{Target}
use Rattle.wb_machine.specs.declared.machine.TheConstants.{ACTORS}
use Rattle.wb_machine.specs.Life.{shape_of}
use Rattle.wb_machine.specs.Members.{Member}
use Rattle.wb_machine.specs.Serving.{Allows, Performs, Steps, MemberSteps, is_copied, member_then, noted_read, may_give_up, share_after}
use Rattle.std.specs.declared.alloc.Global.{Global}
use Rattle.wb_words.specs.Cards.{blank_card}
use Rattle.wb_tasks.specs.declared.step.Answer.TheVariants.{Done as Finished}
use Rattle.wb_machine.specs.Standing.{AllowsImages}
use Rattle.wb_machine.specs.Keeping.{IsLeft, IsLeftBy}

-- only a step that is done changes the orders of its actor
orders_stay : (orders awaiting : List Order) (job : Job) (next : Want) (got : Got) → got ≢ Done → orders_then orders awaiting job next got ≡ orders
orders_stay orders awaiting job (Desk (Map b c)) Done n = absurd (n refl)
orders_stay orders awaiting job (Desk (Unmap b)) Done n = absurd (n refl)
orders_stay orders awaiting job (Desk (ReleaseOrder b)) Done n = absurd (n refl)
orders_stay orders awaiting job (End Finished) Done n = absurd (n refl)
orders_stay orders awaiting job next got n = refl

awaiting_stays : (orders awaiting : List Order) (job : Job) (next : Want) (got : Got) → got ≢ Done → awaiting_then orders awaiting job next got ≡ awaiting
awaiting_stays orders awaiting job (Desk (Unmap b)) Done n = absurd (n refl)
awaiting_stays orders awaiting job (Desk (ReleaseOrder b)) Done n = absurd (n refl)
awaiting_stays orders awaiting job (End Finished) Done n = absurd (n refl)
awaiting_stays orders awaiting job next got n = refl

-- a list that becomes what it is to become
left_is : (old new later : List Order) (left : Option (Vec Order Global)) → IsLeft old left later → IsLeft old left new → new ≡ later
left_is old new later None e f = f ∙ sym e
left_is old new later (Some left) e f = f ∙ sym e

orders_by : (orders awaiting new : List Order) (job : Job) (next : Want) (got : Got) (left : Option (Vec Order Global)) → IsLeft orders left (orders_then orders awaiting job next Done) → IsLeftBy got orders left new → new ≡ orders_then orders awaiting job next got
orders_by orders awaiting new job next Done left e f = left_is orders new (orders_then orders awaiting job next Done) left e f
orders_by orders awaiting new job next got left e f = f ∙ sym (orders_stay orders awaiting job next got (λ d. cc))

awaiting_by : (orders awaiting new : List Order) (job : Job) (next : Want) (got : Got) (left : Option (Vec Order Global)) → IsLeft awaiting left (awaiting_then orders awaiting job next Done) → IsLeftBy got awaiting left new → new ≡ awaiting_then orders awaiting job next got
awaiting_by orders awaiting new job next Done left e f = left_is awaiting new (awaiting_then orders awaiting job next Done) left e f
awaiting_by orders awaiting new job next got left e f = f ∙ sym (awaiting_stays orders awaiting job next got (λ d. cc))

-- These orders of who steps were seen before the step, and those that wait; and its orders were the same when they were changed.
module _ (m : Member) (orders awaiting : List Order) (seen : orders ≡ m.orders) (waiting : awaiting ≡ m.awaiting) (job : Job) (next : Want) (got : Got) where
  pub orders_are : (before new : List Order) (left : Option (Vec Order Global)) → before ≡ m.orders → IsLeft orders left (orders_then orders awaiting job next Done) → IsLeftBy got before left new → new ≡ orders_then m.orders m.awaiting job next got
  orders_are before new left b e f = orders_by m.orders m.awaiting new job next got left
      (subst (λ (x : List Order). IsLeft m.orders left (orders_then m.orders x job next Done)) waiting (subst (λ (x : List Order). IsLeft x left (orders_then x awaiting job next Done)) seen e))
      (subst (λ (x : List Order). IsLeftBy got x left new) b f)

  pub awaiting_are : (before new : List Order) (left : Option (Vec Order Global)) → before ≡ m.awaiting → IsLeft awaiting left (awaiting_then orders awaiting job next Done) → IsLeftBy got before left new → new ≡ awaiting_then m.orders m.awaiting job next got
  awaiting_are before new left b e f = awaiting_by m.orders m.awaiting new job next got left
      (subst (λ (x : List Order). IsLeft x left (awaiting_then m.orders x job next Done)) waiting (subst (λ (x : List Order). IsLeft awaiting left (awaiting_then x awaiting job next Done)) seen e))
      (subst (λ (x : List Order). IsLeftBy got x left new) b f)

  -- and it took its step with them, and with what was in its buffer
  pub performs_so : (devices : Devices (List History)) (old : Target) (a : ℕ) (held : List Order) (seen : List Bool) (share : Share) (buffer given : List Bytes) (devices' : Devices (List History)) (new : Target) → held ≡ may_give_up job orders awaiting → seen ≡ m.seen → share ≡ m.share → buffer ≡ m.buffer →
      Performs devices old a job held seen share buffer next got given devices' new → Performs devices old a job (may_give_up job m.orders m.awaiting) m.seen m.share m.buffer next got given devices' new
  performs_so devices old a held bits share buffer given devices' new h s r b p =
      subst (λ (x : List Order). Performs devices old a job x m.seen m.share m.buffer next got given devices' new) (h ∙ ap (λ (x : List Order). may_give_up job x awaiting) seen ∙ ap (λ (x : List Order). may_give_up job m.orders x) waiting)
      (subst (λ (x : List Bool). Performs devices old a job held x m.share m.buffer next got given devices' new) s (subst (λ (x : Share). Performs devices old a job held bits x m.buffer next got given devices' new) r (subst (λ (x : List Bytes). Performs devices old a job held bits share x next got given devices' new) b p)))

-- what it writes next where it read nothing
buffer_stays : (devices : Devices (List History)) (buffer : List Bytes) (next : Want) (got : Got) (job : Job) → is_copied job next ≡ false → buffer_then devices buffer next got job ≡ buffer
buffer_stays devices buffer (Device (ReadExtent device e)) Done (Migrate migration block) c = absurd (cc)
buffer_stays devices buffer next got job c = refl

-- and where it read it
buffer_read : (devices : Devices (List History)) (old : Target) (a : ℕ) (job : Job) (held : List Order) (seen : List Bool) (share : Share) (buffer : List Bytes) (next : Want) (got : Got) (given : List Bytes) (devices' : Devices (List History)) (new : Target) →
    is_copied job next ≡ true → Performs devices old a job held seen share buffer next got given devices' new → buffer_then devices buffer next got job ≡ given
buffer_read devices old a (Migrate migration block) held seen share buffer (Device (ReadExtent device e)) got given devices' new c p =
    let done : got ≡ Done = (p.gives (shape_of old.desk.geometry ACTORS) [] (record { task = None; card = blank_card; orders = held; awaiting = held; buffer = []; seen = seen; share = share }) (refl, refl, refl)).2 in
    ap (λ (g : Got). buffer_then devices buffer (Device (ReadExtent device e)) g (Migrate migration block)) done ∙ sym p.copies
buffer_read devices old a job held seen share buffer next got given devices' new c p = absurd (cc)

-- so it is what it has read where that is copied
pub buffer_is : (devices : Devices (List History)) (old : Target) (a : ℕ) (job : Job) (held : List Order) (seen : List Bool) (share : Share) (buffer : List Bytes) (next : Want) (got : Got) (given : List Bytes) (devices' : Devices (List History)) (new : Target) →
    (copies : Bool) → copies ≡ is_copied job next → Performs devices old a job held seen share buffer next got given devices' new → (if copies then given else buffer) ≡ buffer_then devices buffer next got job
buffer_is devices old a job held seen share buffer next got given devices' new true c p = sym (buffer_read devices old a job held seen share buffer next got given devices' new (sym c) p)
buffer_is devices old a job held seen share buffer next got given devices' new false c p = sym (buffer_stays devices buffer next got job (sym c))

module _ (devices : Devices (List History)) (old : Target) (a : ℕ) (m : Member) (job : Job) (plan : Plan) (got : Got) (given : List Bytes) (devices' : Devices (List History)) (new : Target) (m' : Member) where
  pub steps_at : (next : Want) → next ≡ want plan → m.task ≡ Some (job, plan) → Performs devices old a job (may_give_up job m.orders m.awaiting) m.seen m.share m.buffer next got given devices' new → (read : List Bytes) → read ≡ noted_read job next given →
      m'.task ≡ task_then m.task next got → m'.orders ≡ orders_then m.orders m.awaiting job next got → m'.awaiting ≡ awaiting_then m.orders m.awaiting job next got → m'.buffer ≡ buffer_then devices m.buffer next got job → m'.seen ≡ seen_then m.seen next got job → m'.share ≡ share_after old.desk m.share next got → Steps devices old a m (Stepped next got) read devices' new m'
  steps_at next n e p read r t o w b s h = subst (λ (d : Option (Job × Plan)). MemberSteps devices old a m d (Stepped next got) read devices' new m') (sym e) (inr (record {
    got = got;
    given = given;
    what_is = ap (λ (x : Want). Stepped x got) n;
    read_is = r ∙ ap (λ (x : Want). noted_read job x given) n;
    performs = subst (λ (x : Want). Performs devices old a job (may_give_up job m.orders m.awaiting) m.seen m.share m.buffer x got given devices' new) n p;
    member_is = same_member ∙ ap (λ (x : Want). member_then devices (share_after old.desk m.share x got) m x got) n;
  }))
    where
      of_parts : (x : Member) (task : Option (Job × Plan)) (orders awaiting : List Order) (buffer : List Bytes) (seen : List Bool) (share : Share) → x.task ≡ task → x.orders ≡ orders → x.awaiting ≡ awaiting → x.buffer ≡ buffer → x.seen ≡ seen → x.share ≡ share → x ≡ record { task = task; orders = orders; awaiting = awaiting; buffer = buffer; seen = seen; share = share }
      of_parts x task orders awaiting buffer seen share t o w b s h = rw (sym t, sym o, sym w, sym b, sym s, sym h) refl

      job_is : job ≡ job_of m.task
      job_is = ap job_of (sym e)

      same_member : m' ≡ member_then devices (share_after old.desk m.share next got) m next got
      same_member = of_parts m' (task_then m.task next got) (orders_then m.orders m.awaiting (job_of m.task) next got) (awaiting_then m.orders m.awaiting (job_of m.task) next got) (buffer_then devices m.buffer next got (job_of m.task)) (seen_then m.seen next got (job_of m.task)) (share_after old.desk m.share next got) t
          (o ∙ ap (λ (j : Job). orders_then m.orders m.awaiting j next got) job_is) (w ∙ ap (λ (j : Job). awaiting_then m.orders m.awaiting j next got) job_is) (b ∙ ap (λ (j : Job). buffer_then devices m.buffer next got j) job_is) (s ∙ ap (λ (j : Job). seen_then m.seen next got j) job_is) h

-- ---- what a step of a task asks for

-- a clean image has most nodes in the second version
in_either : (version : Version) (blocks : ℕ) → most_nodes version true blocks ≤ most_nodes Two true blocks
in_either One blocks = omega arith
in_either Two blocks = omega arith

allows_next : (g : Geometry) (seen : List Bool) (job : TaskJob) (next : Want) → IsOwnStep job next → AllowsImages g seen job → Allows g seen next
allows_next g seen (OnBlock (Migrating migration part)) (Desk (Arrive most)) own a = absurd own
allows_next g seen (OnBlock (Migrating migration part)) (Desk (Ask most)) own a = absurd own
allows_next g seen (OnBlock (Migrating migration part)) (Desk (BeginCommit most)) own a = absurd own
allows_next g seen (Flushing serves bound) (Desk (Arrive most)) own a = omega (arith, own, a)
allows_next g seen (Flushing serves bound) (Desk (Ask most)) own a = omega (arith, own, a)
allows_next g seen (Suspending blocks bound) (Desk (BeginCommit most)) own a = let enough = a.0 in let few = in_either g.version g.cache_blocks in (omega (arith, own, enough, few), a.1)
allows_next g seen job (Desk (Arrive most)) own a = absurd own
allows_next g seen job (Desk (Ask most)) own a = absurd own
allows_next g seen job (Desk (BeginCommit most)) own a = absurd own
allows_next g seen job next own a = tt

-- who commits asks for as many nodes as its job allows
pub allows : (blocks : ℕ) (g : Geometry) (seen : List Bool) (plan : Plan) (card : Card) → Suits blocks plan card → AllowsImages g seen plan.job → Allows g seen (want plan)
allows blocks g seen plan card suits a = allows_next g seen plan.job (want plan) (is_own_step blocks plan card suits) a
