-- Where a target stands, what follows a happening in the abstract world leads to a state that is followed.
use Rattle.std.proofs.Common.{◌⊎◌, inl, inr, Bool, true, ◌≡◌, ◌∙◌, ◌<◌, ℕ, false, List, [], ◌∷◌, Option, Some, None, refl, sym, subst, arith, length, slice_get, slice_set}
use Rattle.std.proofs.lemmas.List.{length-set}
use Rattle.std.proofs.lemmas.Option.{slice_get_within}
use Rattle.wb_disk.specs.Device.{History}
use Rattle.wb_words.specs.SharedWords.{Words}
use Rattle.wb_policy.specs.declared.order.Order.{Order}
use Rattle.wb_meta.specs.Representing.{Stored}
use Rattle.wb_tasks.specs.Plan.{Plan}
use Rattle.wb_tasks.specs.declared.step.Want.{Want}
use Rattle.wb_tasks.specs.declared.step.Got.{Got}
use Rattle.wb_tasks.specs.declared.step.Got.TheVariants.{Fault}
use Rattle.wb_tasks.specs.declared.step.DeviceStep.{DeviceStep}
use Rattle.wb_devices.specs.declared.devices.Devices.{Devices}
use Rattle.wb_devices.specs.declared.running.RunningCommit.{RunningCommit}
use Rattle.wb_promise.specs.declared.job.Job.{Job}
use Rattle.wb_promise.specs.States.{Shape, State, Actor, Target, Phase, Stands}
use Rattle.wb_promise.specs.Effects.{actor_then, task_then, card_then, orders_then, awaiting_then, buffer_then, seen_then, share_by, job_of}
use Rattle.wb_promise.specs.Clerk.{Notes, Doing, failing}
use Rattle.wb_runs.proofs.Images.{Images, later_of}
use Rattle.wb_runs.proofs.Metadata.{MetadataKept, AtDesk, kept_readable}
use Rattle.wb_link.specs.Tables.{Script, Order as AbstractOrder, abstract_want}
use Rattle.wb_link.specs.World.{World, Record, Start, Again, Step, Release, release_order, AbstractActor, abstract_after_all, after_record, start_actor, again_actor, step_actor, step_task, actor_after, abstract_given}
use Rattle.wb_simulation.specs.Noting.{NotesAgree}
use Rattle.wb_simulation.specs.Noted.{Kept, told}
use Rattle.wb_simulation.specs.Sites.{ImagesAgree, locations, StateTakesClean}
use Rattle.wb_simulation.specs.Telling.{Telling}
use Rattle.wb_simulation.specs.Worlds.{Agrees, Situation, Turn, Stays, WorldFollowsBy, WorldFollows}
use Rattle.wb_simulation.proofs.Opening.{images_followed}
use Rattle.wb_headline.specs.Desks.{DeskAgrees, live_orders}
use Rattle.wb_contents.proofs.Lists.{there_is as there}
use Rattle.wb_headline.proofs.Events.{gone_on, records_reach}
use Rattle.wb_headline.proofs.Desking.{desk_stays}
use Rattle.wb_headline.proofs.Following.{situation, many, size, most, Followed, Goes}
use Rattle.wb_simulation.proofs.Followed.{doing_of}
use Rattle.wb_types.specs.declared.number.OBlock.{OBlock}
use Rattle.wb_promise.specs.declared.job.Job.TheVariants.{Replace}
use Rattle.wb_promise.specs.Happenings.{LandedOr}

-- what an actor is after a step of this task
pub actor_is : (P A : Type 0) (shape : Shape) (phase : Phase P A) (devices : Devices (List History)) (x : Actor) (job : Job) (plan : Plan) (next : Want) (got : Got) → x.task ≡ Some (job, plan) →
    actor_then shape phase devices x next got ≡ record {
      task = task_then (Some (job, plan)) next got;
      card = card_then shape phase x.card next;
      orders = orders_then x.orders x.awaiting job next got;
      awaiting = awaiting_then x.orders x.awaiting job next got;
      buffer = buffer_then devices x.buffer next got job;
      seen = seen_then x.seen next got job;
      share = share_by phase x.share next got;
    }
actor_is P A shape phase devices x job plan next got xt = λ i. record {
  task = task_then (xt i) next got;
  card = card_then shape phase x.card next;
  orders = orders_then x.orders x.awaiting (job_of (xt i)) next got;
  awaiting = awaiting_then x.orders x.awaiting (job_of (xt i)) next got;
  buffer = buffer_then devices x.buffer next got (job_of (xt i));
  seen = seen_then x.seen next got (job_of (xt i));
  share = share_by phase x.share next got;
}

-- what failed of an actor's job says of it what it said
pub failing_same : (doing : Doing) (step : DeviceStep) (got : Got) → ((failing doing step got).entered ≡ doing.entered) × ((failing doing step got).then_finished ≡ doing.then_finished)
failing_same doing step Fault = (refl, refl)
failing_same doing step got = (refl, refl)

-- what a step that failed on the metadata left of them: all that it writes, or nothing
pub landed_or : {X Y : Type 0} (landed : Bool) → LandedOr landed X Y → X ⊎ Y
landed_or true h = inl h
landed_or false h = inr h

-- records leave as many actors
many_stay : (s : World) (r : Record) → length (after_record s r).actors ≡ length s.actors
many_stay s (Start a job) = by (slice_get s.actors a)
  where
    by : (o : Option AbstractActor) → length (start_actor s a o job).actors ≡ length s.actors
    by None = refl
    by (Some y) = length-set s.actors a (abstract_given y job)
many_stay s (Again a job) = by (slice_get s.actors a)
  where
    by : (o : Option AbstractActor) → length (again_actor s a o job).actors ≡ length s.actors
    by None = refl
    by (Some y) = length-set s.actors a (abstract_given y job)
many_stay s (Step a next got) = by (slice_get s.actors a)
  where
    by_task : (y : AbstractActor) (task : Option Script) → length (step_task s a y task got).actors ≡ length s.actors
    by_task y None = refl
    by_task y (Some script) = length-set s.actors a (actor_after y script (abstract_want script) got)

    by : (o : Option AbstractActor) → length (step_actor s a o got).actors ≡ length s.actors
    by None = refl
    by (Some y) = by_task y y.task
many_stay s (Release k) = by (s.waiting k)
  where
    by : (o : Option AbstractOrder) → length (release_order s k o).actors ≡ length s.actors
    by None = refl
    by (Some p) = refl

all_stay : (s : World) (rs : List Record) → length (abstract_after_all s rs).actors ≡ length s.actors
all_stay s [] = refl
all_stay s (r ∷ rs) = all_stay (after_record s r) rs ∙ many_stay s r

module _ (P A : Type 0) (shape : Shape) (images : Images) (t : Target P) (commit : Option RunningCommit) (devices : Devices (List History)) (actors : List Actor) (n : Notes) where
  abbrev pub standing : State P A
  standing = record { devices = devices; commit = commit; phase = Stands t; actors = actors }

  module _ (known : MetadataKept {P = P} {A = A} shape.geometry images (Stands t) commit devices.metadata) (f : Followed P A shape images standing n) (a : ℕ) (x : Actor) (ex : slice_get actors a ≡ Some x) where
    -- it is there, and noted
    a_less : a < length n.doings
    a_less = let l = slice_get_within actors a x ex in let m = f.sized.actors_many in let d = f.sized.doings_many in omega (arith, l, m, d)

    pub beside : (y : AbstractActor) × (slice_get f.site.world.actors a ≡ Some y)
    beside = there f.site.world.actors a (let l = slice_get_within actors a x ex in let m = f.sized.actors_many in let d = f.as_many in omega (arith, l, m, d))

    pub noted_within : a < length n.doings
    noted_within = a_less

    -- the run's notes stay where nothing is noted
    pub unnoted : {telling : Telling} → Kept telling (λ size n a y Then. Then n) → {turn : Turn} {now : Situation} {y : Actor} (g : WorldFollowsBy turn telling a f.site.world now y) → NotesAgree now.size n f.site.world f.notes → NotesAgree now.size n (abstract_after_all f.site.world g.records) (told f.notes g.records)
    unnoted kept g agree = kept _ a f.site.world _ _ g beside.0 n f.notes beside.1 noted_within agree

    -- nobody is at a replacement
    pub never_replaces : (old new : OBlock) (plan : Plan) → x.task ≡ Some (Replace old new, plan) → ⊥
    never_replaces old new plan xt = doing_of (size P A shape) (most P A shape) t.words x beside.0 (Replace old new) plan (f.phase.agrees.each a x beside.0 ex beside.1) xt

    -- the state that it leads to
    pub leads_on : (turn : Turn) (telling : Telling) (t' : Target P) (commit' : Option RunningCommit) (devices' : Devices (List History)) (y : Actor) (n' : Notes) (images' : Images) (orders' : List (Option Order))
        (g : WorldFollowsBy turn telling a f.site.world (record (situation shape t' devices' actors) { orders = orders' }) y) → NotesAgree (size P A shape) n' (abstract_after_all f.site.world g.records) (told f.notes g.records) → length n'.doings ≡ length n.doings → length n'.histories ≡ length n.histories →
        AtDesk shape.geometry images' t'.desk commit' devices'.metadata → orders' ≡ live_orders t'.desk →
        DeskAgrees t'.desk (abstract_after_all f.site.world g.records).shared → ImagesAgree shape.geometry images'.committed (later_of images') devices'.metadata (abstract_after_all f.site.world g.records).shared →
        ((state : Stored) → images'.running ≡ Some state → ((abstract_after_all f.site.world g.records).shared.running ≡ locations state) × StateTakesClean state (abstract_after_all f.site.world g.records).shared.running_clean) → Goes P A shape (record { devices = devices'; commit = commit'; phase = Stands t'; actors = slice_set actors a y }) n'
    leads_on turn telling t' commit' devices' y n' images' orders' g notes d h known' same desk images_agree running = record {
      images = images';
      known = known';
      followed = record {
        site = gone_on f.site g.records;
        notes = told f.notes g.records;
        reached = records_reach (size P A shape) (many P A shape) f.site f.notes g.records f.reached f.phase.phase_is g.run;
        as_many = all_stay f.site.world g.records ∙ f.as_many;
        notes_agree = notes;
        sized = record { actors_many = length-set actors a y ∙ f.sized.actors_many; doings_many = d ∙ f.sized.doings_many; sectors = h ∙ f.sized.sectors };
        phase = record {
          phase_is = f.phase.phase_is;
          agrees = subst (λ (os : List (Option Order)). Agrees (record (situation shape t' devices' (slice_set actors a y)) { orders = os }) (abstract_after_all f.site.world g.records)) same g.agrees;
          desk = desk;
          images_agree = images_agree;
          running = running;
        };
      };
    }

    -- where nothing comes of the desk, the images and the metadata
    pub stays_on : (telling : Telling) (words' : Words) (devices' : Devices (List History)) (y : Actor) (n' : Notes)
        (g : WorldFollows telling a f.site.world (record (situation shape t devices' actors) { words = words' }) y) →
        NotesAgree (size P A shape) n' (abstract_after_all f.site.world g.records) (told f.notes g.records) → length n'.doings ≡ length n.doings → length n'.histories ≡ length n.histories → devices'.metadata ≡ devices.metadata →
        Goes P A shape (record { devices = devices'; commit = commit; phase = Stands (record { words = words'; desk = t.desk }); actors = slice_set actors a y }) n'
    stays_on telling words' devices' y n' g notes d h same =
        let s = f.site.world.shared in
        let s' = (abstract_after_all f.site.world g.records).shared in
        let known' = subst (λ (m : List History). AtDesk shape.geometry images t.desk commit m) (sym same) known in
        let readable = kept_readable shape.geometry images devices'.metadata P A (Stands t) commit known' in
        leads_on Stays telling (record { words = words'; desk = t.desk }) commit devices' y n' images (live_orders t.desk) g notes d h known' refl
        (desk_stays P t.desk s s' f.phase.desk t.desk refl refl g.desk.0 g.desk.1)
        (images_followed.stay shape.geometry images.committed (later_of images) devices.metadata devices'.metadata s s' f.phase.images_agree g.turned readable.read)
        (λ state e. let r = f.phase.running state e in (g.turned.1 ∙ r.0, subst (StateTakesClean state) (sym g.turned.4) r.1))
