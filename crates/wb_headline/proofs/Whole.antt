-- What is kept of a state of a run and its notes, and what a seal tells then.
use Rattle.std.proofs.Common.{◌≡◌, ◌≢◌, ◌∙◌, inl, inr, ℕ, Bool, List, Option, Some, None, refl, sym, ap, subst, slice_get}
use Rattle.std.proofs.lemmas.Bool.{cases_eq}
use Rattle.std.proofs.lemmas.Option.{some_pair_parts}
use Rattle.wb_types.specs.declared.number.CBlock.{CBlock}
use Rattle.wb_disk.specs.Device.{Content as Bytes, History}
use Rattle.wb_disk.specs.Crash.{Choice}
use Rattle.wb_disk.specs.Failing.{lands}
use Rattle.wb_words.specs.SharedWords.{word_at, place_in}
use Rattle.wb_words.specs.declared.word.Access.TheVariants.{Owned}
use Rattle.wb_words.specs.declared.card.Hold.TheVariants.{Held}
use Rattle.wb_words.specs.declared.step.CellStep.TheVariants.{Seal}
use Rattle.wb_tasks.specs.Plan.{Plan, want, device_of}
use Rattle.wb_types.specs.declared.number.OBlock.{OBlock}
use Rattle.wb_tasks.specs.declared.step.Want.{Want}
use Rattle.wb_tasks.specs.declared.step.Want.TheVariants.{Cell}
use Rattle.wb_refines.specs.Translation.{number_of}
use Rattle.wb_tasks.specs.declared.step.Got.{Got}
use Rattle.wb_tasks.specs.declared.step.Got.TheVariants.{Fault}
use Rattle.wb_devices.specs.declared.devices.Devices.{Devices}
use Rattle.wb_devices.specs.declared.running.RunningCommit.{RunningCommit}
use Rattle.wb_promise.specs.declared.job.Job.{Job}
use Rattle.wb_promise.specs.States.{Shape, State, Actor, Target, Stands, sector_count, mode_of}
use Rattle.wb_promise.specs.Happenings.{Chosen, OfSome}
use Rattle.wb_promise.specs.Effects.{device_done, device_failed, stepped}
use Rattle.wb_promise.specs.Clerk.{Notes, Doing, noted_step}
use Rattle.wb_promise.specs.Headline.{place_of, shown}
use Rattle.wb_promise.specs.Sealed.{SealsNext, Tells, number_of as number_here}
use Rattle.wb_runs.proofs.MetadataRuns.{IsKnown}
use Rattle.wb_runs.proofs.Using.{UsedRightly}
use Rattle.wb_runs.proofs.Claims.{Noted, TaskClaim, noted_of}
use Rattle.wb_runs.proofs.Linking.{Linked}
use Rattle.wb_runs.proofs.LinkedRuns.{Base}
use Rattle.wb_runs.proofs.InsideRuns.{Inside}
use Rattle.wb_headline.proofs.Doings.{AllNotedSo}
use Rattle.wb_headline.proofs.Following.{Goes}
use Rattle.wb_headline.proofs.Keeping.{Keeping, sealing_owns}
use Rattle.wb_headline.proofs.Telling.{owned_alone}

-- whoever takes a step is there, and at something
pub with_task : (o : Option Actor) (Has : Actor → Job × Plan → Type 0) (Then : Option Actor → Type 0) → OfSome o (λ x. OfSome x.task (λ task. Has x task)) → ((x : Actor) (task : Job × Plan) → o ≡ Some x → x.task ≡ Some task → Has x task → Then (Some x)) → Then o
with_task None Has Then h on = absurd h
with_task (Some x) Has Then h on = by x.task refl h
  where
    by : (t : Option (Job × Plan)) → x.task ≡ t → OfSome t (λ task. Has x task) → Then (Some x)
    by None xt h = absurd h
    by (Some task) xt h = on x task refl xt h

module _ (P A : Type 0) (shape : Shape) where
  -- what is kept of a state and its notes
  pub record Whole (w : State P A) (n : Notes) : Type 0 where
    pub goes : Goes P A shape w n
    pub used : UsedRightly P A shape w.phase w.actors
    pub linked : Linked {P = P} {A = A} shape w.phase w.actors n
    pub inside : Inside shape w
    pub noted_so : AllNotedSo (sector_count shape) n.doings
    pub keeping : Keeping w.phase w.actors

  pub known_of : (w : State P A) (n : Notes) → Whole w n → IsKnown P A shape w
  known_of w n b = record { images = b.goes.images; known = b.goes.known }

  pub base_of : (w : State P A) (n : Notes) → Whole w n → Base P A shape w n
  base_of w n b = record { known = known_of w n b; used = b.used; linked = b.linked }

  -- what is noted of an actor's task
  pub noted_for : (w : State P A) (n : Notes) → Whole w n → (a : ℕ) (x : Actor) (job : Job) (plan : Plan) → slice_get w.actors a ≡ Some x → x.task ≡ Some (job, plan) → Noted shape (mode_of w.phase) job plan (slice_get n.doings a)
  noted_for w n b a x job plan e xt = noted_of shape (mode_of w.phase) job plan (slice_get n.doings a) (subst (λ (t : Option (Job × Plan)). TaskClaim shape (mode_of w.phase) t (slice_get n.doings a)) xt (b.linked.claims a x e))

  -- ---- one step of one actor

  abbrev pub Stepped_to : State P A → Notes → ℕ → Actor → Job → Want → Got → List Bytes → Chosen P A → Doing → Type 0
  Stepped_to w n a x job next got read chosen doing = Goes P A shape (stepped shape w a x next got chosen (λ step. device_done job x.buffer step chosen))
      (noted_step shape (mode_of w.phase) (shown shape (stepped shape w a x next got chosen (λ step. device_done job x.buffer step chosen))) n a (Some (Some doing)) next got read)

  abbrev pub Faulted_to : State P A → Notes → ℕ → Actor → Choice → Job → Want → List Bytes → Chosen P A → Doing → Type 0
  Faulted_to w n a x choice job next read chosen doing = Goes P A shape (stepped shape w a x next Fault chosen (λ step. device_failed (lands (device_of step) choice) job x.buffer step chosen))
      (noted_step shape (mode_of w.phase) (shown shape (stepped shape w a x next Fault chosen (λ step. device_failed (lands (device_of step) choice) job x.buffer step chosen))) n a (Some (Some doing)) next Fault read)

  abbrev pub at_target : Target P → Option RunningCommit → Devices (List History) → List Actor → State P A
  at_target t commit devices actors = record { devices = devices; commit = commit; phase = Stands t; actors = actors }

  -- ---- what a seal tells

  module _ (t : Target P) (commit : Option RunningCommit) (devices : Devices (List History)) (actors : List Actor) (n : Notes) (b : Whole (at_target t commit devices actors) n) (a : ℕ) (x : Actor) (job : Job) (plan : Plan) (ex : slice_get actors a ≡ Some x) (xt : x.task ≡ Some (job, plan)) where
    -- whoever owns a block, and does not seal it next, has in its seal where the desk has it
    pub held_tells : (block : OBlock) → x.card.hold ≡ Held Owned block → ((place : Option CBlock) (dirty : Bool) → want plan ≢ Cell (Seal block place dirty)) → number_of (place_in (word_at t.words.seals block)) ≡ place_of t.desk.tree.entries block.0
    held_tells block holds not = same_number (place_in (word_at t.words.seals block)) ∙ by (b.keeping.tells block)
      where
        same_number : (place : Option CBlock) → number_of place ≡ number_here place
        same_number None = refl
        same_number (Some c) = refl

        by_task : (task : Option (Job × Plan)) → task ≡ Some (job, plan) → (place : Option CBlock) → SealsNext block place task → ⊥
        by_task None e place q = q
        by_task (Some doing) e place q = (let parts = some_pair_parts doing.0 job doing.1 plan e in not place q.0 (ap want (sym parts.1) ∙ q.1))

        by : Tells t.words t.desk.tree.entries actors block → number_here (place_in (word_at t.words.seals block)) ≡ place_of t.desk.tree.entries block.0
        by (inl told) = told
        by (inr (place, at, (c, (z, ez, sealed)))) = absurd (elim (cases_eq c a) [
          | inl here ↦ (
              let both : Some z ≡ Some x = sym ez ∙ ap (slice_get actors) here ∙ ex in
              let same : z ≡ x = cc in by_task x.task xt place (subst (λ (v : Actor). SealsNext block place v.task) same sealed))
          | inr away ↦ (
              let z_owns = sealing_owns P A shape b.goes.images t commit devices actors n b.goes.known b.goes.followed b.used.here b.used.suited b.keeping a x ex c z ez block place sealed in
              owned_alone shape.geometry.origin_blocks t.words actors b.used.here c a z x ez ex (λ q. away (sym q)) block z_owns.0 z_owns.1 Owned holds)
        ])
