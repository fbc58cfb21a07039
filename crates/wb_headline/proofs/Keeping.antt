-- Where a target stands, the orders that actors have live, the seals tell where the desk has each block, and each seal that is left is right; and
-- who suspends is at it alone, and has seen what it has looked at: so it stays, whoever goes on.
use Rattle.std.proofs.Common.{[], if◌then◌else◌, ◌≡◌, ◌≢◌, ◌∙◌, ◌<◌, ◌==◌, ◌⊎◌, ◌++◌, inl, inr, ℕ, Bool, true, false, List, ◌∷◌, Option, Some, None, refl, sym, ap, subst, arith, unwrap_or, slice_get, slice_set, Contains}
use Rattle.wb_headline.proofs.Passing.{left_at, same_orders}
use Rattle.std.proofs.lemmas.Bool.{cases_eq}
use Rattle.std.proofs.lemmas.List.Elements.{Contains-append_cases, Contains-append_left, Contains-append_right}
use Rattle.wb_types.proofs.Lists.{set_cases}
use Rattle.wb_types.specs.declared.entry.Entry.{Entry}
use Rattle.wb_types.specs.declared.number.OBlock.{OBlock}
use Rattle.wb_types.specs.declared.number.CBlock.{CBlock}
use Rattle.wb_types.specs.declared.refusal.Refusal.{Refusal}
use Rattle.wb_types.specs.declared.refusal.Refusal.TheVariants.{Failed}
use Rattle.wb_stage.specs.Seen.{seen_after}
use Rattle.wb_headline.proofs.Suspends.{Saw, SawJob, SawTask, saw_on, saw_seal, begun_once}
use Rattle.wb_disk.specs.Device.{History}
use Rattle.wb_contents.proofs.Positions.{changed_same, changed_other}
use Rattle.wb_words.specs.declared.word.Access.{Access}
use Rattle.wb_words.specs.declared.word.Access.TheVariants.{Owned as Own}
use Rattle.wb_words.specs.declared.word.Word.TheVariants.{Seal as SealWord}
use Rattle.wb_words.specs.declared.card.Hold.{Hold}
use Rattle.wb_words.specs.declared.card.Hold.TheVariants.{Nothing, Held}
use Rattle.wb_words.specs.declared.card.Card.{Card}
use Rattle.wb_words.specs.declared.step.CellStep.{CellStep}
use Rattle.wb_words.specs.declared.step.CellStep.TheVariants.{Look, Take, Seal, Count, SetFailed, SetSuspended}
use Rattle.wb_words.specs.declared.word.Kind.TheVariants.{ReadHit}
use Rattle.wb_words.specs.SharedWords.{Words, word_at, place_in, seal_word}
use Rattle.wb_words.specs.Cards.{failing_at}
use Rattle.wb_words.specs.Effects.{result_of, words_after, card_after}
use Rattle.wb_words.specs.Rule.{LockRule}
use Rattle.wb_tree.specs.Edits.{IsChangedAt}
use Rattle.wb_policy.specs.Law.{IsMappedAt}
use Rattle.wb_policy.specs.declared.order.Order.{Order}
use Rattle.wb_policy.specs.declared.order.Order.TheVariants.{Demote as DemoteOrder, Replace as ReplaceOrder}
use Rattle.wb_orders.specs.Orders.{AreOrders}
use Rattle.wb_desk.specs.Desks.{DeskState, IsLive, holdings}
use Rattle.wb_desk.specs.Calls.{released}
use Rattle.wb_desk.specs.Entries.{entry_of, mapped, MayMap, Removes, is_replacement, unmapped}
use Rattle.wb_desk.proofs.Entering.{entrance, named_inside}
use Rattle.wb_desk.proofs.Leaving.{mapped_within}
use Rattle.wb_stage.specs.Asking.{DidRelease, DidUnmap, IsGivenUp, is_of, order_of as order_found}
use Rattle.wb_tasks.specs.Tables.{BlockJob, Reading, OnBlock, Flushing, Suspending, Opening, TaskJob, access_of, range_of}
use Rattle.wb_tasks.specs.Plan.{Plan, want, after, after_fault, after_fault_of, after_refusal, first_step, later_steps, lets_go, got_of}
use Rattle.wb_tasks.specs.Ready.{Has, MayTake, Suits, SuitsJob, IsOwnStep, IsJobs, block_of}
use Rattle.wb_tasks.proofs.Readiness.{is_ready}
use Rattle.wb_tasks.specs.declared.step.Answer.{Answer}
use Rattle.wb_tasks.specs.declared.step.Answer.TheVariants.{Done as Finished, Refused as Refuses}
use Rattle.wb_tasks.specs.declared.step.DeviceStep.{DeviceStep}
use Rattle.wb_tasks.specs.declared.step.DeviceStep.TheVariants.{Read as ReadExtent, Write as WriteExtent}
use Rattle.wb_tasks.specs.declared.step.DeskStep.{DeskStep}
use Rattle.wb_tasks.specs.declared.step.DeskStep.TheVariants.{Map, Unmap, ReleaseOrder, Arrive, Ask, BeginCommit}
use Rattle.wb_tasks.specs.declared.step.Migration.{Migration}
use Rattle.wb_tasks.specs.declared.step.Migration.TheVariants.{Promote, Demote}
use Rattle.wb_tasks.specs.declared.step.Want.{Want}
use Rattle.wb_tasks.specs.declared.step.Want.TheVariants.{Cell, Device, Desk, End}
use Rattle.wb_tasks.specs.declared.step.Got.{Got}
use Rattle.wb_tasks.specs.declared.step.Got.TheVariants.{Done, Fault, Began, Refused as GotRefused}
use Rattle.wb_devices.specs.declared.devices.Devices.{Devices}
use Rattle.wb_devices.specs.declared.running.RunningCommit.{RunningCommit}
use Rattle.wb_promise.specs.declared.job.Job.{Job}
use Rattle.wb_promise.specs.declared.job.Job.TheVariants.{Read, Write, Flush, Suspend, Open, Migrate, Replace, Invalidate}
use Rattle.wb_promise.specs.States.{Shape, Actor, Target, Phase, Stands, Gone, Opens}
use Rattle.wb_promise.specs.Effects.{actor_then, awaiting_answered, awaiting_released, awaiting_then, dropped, job_of, orders_answered, orders_released, orders_then, replacing}
use Rattle.wb_promise.specs.Clerk.{Notes}
use Rattle.wb_promise.specs.Headline.{place_of}
use Rattle.wb_runs.specs.Holding.{cards_of, AllSuited, TaskSuits}
use Rattle.wb_promise.specs.Sealed.{SealsNext, Tells, number_of}
use Rattle.wb_runs.proofs.Images.{Images}
use Rattle.wb_contents.proofs.Lists.{set_other, set_there}
use Rattle.wb_runs.proofs.Metadata.{MetadataKept, unknowing}
use Rattle.wb_runs.proofs.Ordering.{held_of, then_had}
use Rattle.wb_runs.proofs.Owning.{Owned, dropped_is, owned_over, owned_same, owned_within}
use Rattle.wb_simulation.specs.Actors.{IsDoing, IsCommitAt, IsAmong, IsAmongOthers}
use Rattle.wb_simulation.specs.Opened.{located}
use Rattle.wb_simulation.specs.Steps.{AreOfBlock}
use Rattle.wb_simulation.proofs.Followed.{begins_by, doing_of}
use Rattle.wb_simulation.proofs.Migrations.{migrations_followed}
use Rattle.wb_headline.specs.Desks.{live_orders}
use Rattle.wb_contents.proofs.Lists.{there_is as there}
use Rattle.wb_headline.proofs.Carried.{carried}
use Rattle.wb_headline.proofs.Desking.{located_entered, located_left}
use Rattle.wb_headline.proofs.Following.{situation, size, most, Followed}
use Rattle.wb_simulation.specs.Carried.{IsOrderFor}
use Rattle.wb_simulation.specs.Laws.{WantsNext, IsRequestJob}
use Rattle.wb_simulation.specs.Migrating.{EndsOrder}
use Rattle.wb_simulation.specs.Worlds.{Situation, GivesUp}
use Rattle.wb_headline.proofs.Orders.{leaves_from, left, of_order, owned_then, stands_so, at_there, live_at, AreParted, for_block, one_of_block, only_held, over, found_of, only_of, replacing_is, true_not}
use Rattle.wb_runs.proofs.Located.{stands_alone, unmapped_there}
use Rattle.wb_headline.proofs.Targets.{standing, beside}
use Rattle.wb_runs.proofs.Plans.{task_suits, own_next}
use Rattle.wb_headline.proofs.Telling.{IsSealed, SealsRight, RightWhere, lets_go_right, on_words, owned_alone}

-- ---- a target

abbrev pub TaskRight : List (Option Entry) → Card → Option (Job × Plan) → Type 0
TaskRight entries card None = Unit {0}
TaskRight entries card (Some doing) = RightWhere (place_of entries) card doing.1.steps

-- all but this one rest
abbrev pub OthersRest : List Actor → ℕ → Type 0
OthersRest actors a = (b : ℕ) (z : Actor) → b ≢ a → slice_get actors b ≡ Some z → z.task ≡ None

pub record KeepingAt {P : Type 0} (t : Target P) (actors : List Actor) : Type 0 where
  pub owned : Owned t.desk actors
  pub parted : (a : ℕ) (x : Actor) → slice_get actors a ≡ Some x → AreParted x
  pub tells : (block : OBlock) → Tells t.words t.desk.tree.entries actors block
  pub right : (a : ℕ) (x : Actor) → slice_get actors a ≡ Some x → TaskRight t.desk.tree.entries x.card x.task
  pub alone : (a : ℕ) (x : Actor) → slice_get actors a ≡ Some x → IsAmongOthers x.task ⊎ OthersRest actors a
  pub saw : (a : ℕ) (x : Actor) → slice_get actors a ≡ Some x → SawTask t.words t.desk.tree.entries x.seen x.task

abbrev pub HasNone : Actor → Type 0
HasNone x = (order : Order) → Contains (held_of x) order → ⊥

abbrev pub NoOrders : List Actor → Type 0
NoOrders actors = (a : ℕ) (x : Actor) → slice_get actors a ≡ Some x → HasNone x

abbrev pub Keeping : {P A : Type 0} → Phase P A → List Actor → Type 0
Keeping (Stands t) actors = KeepingAt t actors
Keeping Gone actors = NoOrders actors
Keeping (Opens mode reading) actors = NoOrders actors

-- no order comes to wait for a flush that does not wait too
released_parted : (b : OBlock) (job : Job) (orders awaiting : List Order) → ((o : Order) → Contains orders o → Contains awaiting o → ⊥) → (o : Order) → Contains (orders_released b job orders) o → Contains (awaiting_released b job awaiting) o → ⊥
released_parted b Flush orders awaiting p o h w = p o h (dropped_is b awaiting o w).0
released_parted b job orders awaiting p o h w = p o (dropped_is b orders o h).0 w

answered_parted : (job : Job) (orders awaiting : List Order) → ((o : Order) → Contains orders o → Contains awaiting o → ⊥) → (o : Order) → Contains (orders_answered job orders awaiting) o → Contains (awaiting_answered job awaiting) o → ⊥
answered_parted Flush orders awaiting p o h w = omega (arith, w.1)
answered_parted job orders awaiting p o h w = p o h w

parted_then : (orders awaiting : List Order) (job : Job) (next : Want) (got : Got) → ((o : Order) → Contains orders o → Contains awaiting o → ⊥) → (o : Order) → Contains (orders_then orders awaiting job next got) o → Contains (awaiting_then orders awaiting job next got) o → ⊥
parted_then orders awaiting job (Desk (Map b c)) Done p o h w = p o (dropped_is b orders o h).0 w
parted_then orders awaiting job (Desk (Unmap b)) Done p o h w = elim (Contains-append_cases (replacing b orders) awaiting o w) [
  | inl r ↦ true_not (is_of b o) (replacing_is b orders o r).1 (dropped_is b orders o h).1
  | inr v ↦ p o (dropped_is b orders o h).0 v
]
parted_then orders awaiting job (Desk (ReleaseOrder b)) Done p o h w = released_parted b job orders awaiting p o h w
parted_then orders awaiting job (End Finished) Done p o h w = answered_parted job orders awaiting p o h w
parted_then orders awaiting job next got p o h w = p o h w

-- what is left of whoever holds a block is right wherever the desk has it as before
same_right : (old new : List (Option Entry)) (card : Card) (task : Option (Job × Plan)) → ((access : Access) (b : OBlock) → card.hold ≡ Held access b → place_of new b.0 ≡ place_of old b.0) → TaskRight old card task → TaskRight new card task
same_right old new card None same r = tt
same_right old new card (Some doing) same r = λ access b h. subst (λ (o : Option ℕ). SealsRight o doing.1.steps) (sym (same access b h)) (r access b h)

-- the next step seals so
sealed_next : (b : OBlock) (place : Option CBlock) (ws : List Want) (answer : Answer) → IsSealed b place ws → (dirty : Bool) × (first_step ws answer ≡ Cell (Seal b place dirty))
sealed_next b place (Cell (Seal o at dirty) ∷ ws) answer i = (dirty, ap (λ (v : OBlock). Cell (Seal v at dirty)) i.0 ∙ ap (λ (v : Option CBlock). Cell (Seal b v dirty)) i.1)
sealed_next b place ws answer i = absurd i

-- what is so of who does not suspend
pub saw_among : (words : Words) (entries : List (Option Entry)) (seen : List Bool) (task : Option (Job × Plan)) → IsAmongOthers task → SawTask words entries seen task
saw_among words entries seen None among = tt
saw_among words entries seen (Some doing) among = by doing.0 among
  where
    by : (job : Job) → IsAmong job → SawJob words entries seen job doing.1.steps
    by Suspend among = absurd among
    by job among = tt

among_then : (task : Option (Job × Plan)) (next : Want) (got : Got) → IsAmongOthers task → IsAmongOthers (Rattle.wb_promise.specs.Effects.task_then task next got)
among_then None next got among = tt
among_then (Some doing) (End answer) got among = tt
among_then (Some doing) next got among = among

-- seals after a step that seals nothing
seals_same : (words : Words) (step : CellStep) → ((b : OBlock) (place : Option CBlock) (dirty : Bool) → step ≢ Seal b place dirty) → (words_after words step).seals ≡ words.seals
seals_same words (Take access block seen) n = by_test (word_at words.cells block == seen)
  where
    by_test : (t : Bool) → (if t then Rattle.wb_words.specs.SharedWords.with_cell words block (Rattle.wb_words.specs.SharedWords.taken access seen) else words).seals ≡ words.seals
    by_test true = refl
    by_test false = refl
seals_same words (Seal block place dirty) n = absurd (n block place dirty refl)
seals_same words (Count ReadHit) n = refl
seals_same words step n = refl

module _ (P A : Type 0) (shape : Shape) (images : Images) (t : Target P) (commit : Option RunningCommit) (devices : Devices (List History)) (actors : List Actor) (n : Notes) (known : MetadataKept {P = P} {A = A} shape.geometry images (Stands t) commit devices.metadata)
    (f : Followed P A shape images (standing P A shape images t commit devices actors n) n) (rule : LockRule shape.geometry.origin_blocks t.words (cards_of actors)) (all_suited : AllSuited shape.geometry.origin_blocks actors) (k : KeepingAt t actors) (a : ℕ) (x : Actor) (ex : slice_get actors a ≡ Some x) where
  abbrev slots : List (Option Order)
  slots = live_orders t.desk

  -- where the machine stands
  abbrev now : Situation
  now = situation shape t devices actors

  -- whoever is to seal a block owns it
  pub sealing_owns : (c : ℕ) (z : Actor) → slice_get actors c ≡ Some z → (b : OBlock) (place : Option CBlock) → SealsNext b place z.task → (b.0 < shape.geometry.origin_blocks) × (z.card.hold ≡ Held Own b)
  sealing_owns c z ez b place s = by_task z.task (all_suited c z ez) s
    where
      by_task : (task : Option (Job × Plan)) → TaskSuits shape.geometry.origin_blocks z.card task → SealsNext b place task → (b.0 < shape.geometry.origin_blocks) × (z.card.hold ≡ Held Own b)
      by_task None suits s = absurd s
      by_task (Some doing) suits s = subst (λ (v : Want). MayTake shape.geometry.origin_blocks z.card v) s.1 (is_ready shape.geometry.origin_blocks doing.1 z.card suits)

  abbrev Untold : Target P → OBlock → Type 0
  Untold t' b = (word_at t'.words.seals b ≡ word_at t.words.seals b) × (place_of t'.desk.tree.entries b.0 ≡ place_of t.desk.tree.entries b.0) × ((place : Option CBlock) → SealsNext b place x.task → ⊥)

  -- who goes on may suspend alone, and nobody beside it suspends
  pub record GoesAmong (t' : Target P) (y : Actor) : Type 0 where
    pub nobody : (c : ℕ) (z : Actor) → c ≢ a → slice_get actors c ≡ Some z → IsAmongOthers z.task
    pub itself : IsAmongOthers y.task ⊎ OthersRest actors a
    pub saw : SawTask t'.words t'.desk.tree.entries y.seen y.task

  -- who goes on keeps what is kept
  pub going : (t' : Target P) (y : Actor) → GoesAmong t' y → Owned t'.desk (slice_set actors a y) → AreParted y → ((c : ℕ) (z : Actor) → c ≢ a → slice_get actors c ≡ Some z → (access : Access) (b : OBlock) → z.card.hold ≡ Held access b → place_of t'.desk.tree.entries b.0 ≡ place_of t.desk.tree.entries b.0) →
      ((b : OBlock) → Untold t' b ⊎ Tells t'.words t'.desk.tree.entries (slice_set actors a y) b) → TaskRight t'.desk.tree.entries y.card y.task → KeepingAt t' (slice_set actors a y)
  going t' y among owned parted others tells mine = record {
    owned = owned;
    parted = λ c z e. elim (set_cases actors a c y z e) [ inl i ↦ subst (λ (v : Actor). AreParted v) (sym i.1) parted | inr o ↦ k.parted c z o.1 ];
    tells = λ b. elim (tells b) [ inl same ↦ by_told b same (k.tells b) | inr told ↦ told ];
    right = λ c z e. elim (set_cases actors a c y z e) [
      | inl i ↦ subst (λ (v : Actor). TaskRight t'.desk.tree.entries v.card v.task) (sym i.1) mine
      | inr o ↦ same_right t.desk.tree.entries t'.desk.tree.entries z.card z.task (others c z o.0 o.1) (k.right c z o.1)
    ];
    alone = λ c z e. elim (set_cases actors a c y z e) [
      | inl i ↦ elim among.itself [
        | inl o ↦ inl (subst (λ (v : Actor). IsAmongOthers v.task) (sym i.1) o)
        | inr rest ↦ inr (λ d v n ev. let away = (λ (same : d ≡ a). n (same ∙ sym i.0)) in rest d v away (sym (set_other actors a d y away) ∙ ev))
      ]
      | inr o ↦ inl (among.nobody c z o.0 o.1)
    ];
    saw = λ c z e. elim (set_cases actors a c y z e) [
      | inl i ↦ subst (λ (v : Actor). SawTask t'.words t'.desk.tree.entries v.seen v.task) (sym i.1) among.saw
      | inr o ↦ saw_among t'.words t'.desk.tree.entries z.seen z.task (among.nobody c z o.0 o.1)
    ];
  }
    where
      by_told : (b : OBlock) → Untold t' b → Tells t.words t.desk.tree.entries actors b → Tells t'.words t'.desk.tree.entries (slice_set actors a y) b
      by_told b same (inl e) = inl (ap (λ (v : ℕ). number_of (place_in v)) same.0 ∙ e ∙ sym same.1)
      by_told b same (inr (place, at, (c, (z, ez, s)))) = elim (cases_eq c a) [
        | inl here ↦ absurd (
            let both : Some z ≡ Some x = sym ez ∙ ap (slice_get actors) here ∙ ex in
            let is : z ≡ x = cc in same.2 place (subst (λ (v : Actor). SealsNext b place v.task) is s))
        | inr away ↦ inr (place, at ∙ sym same.1, (c, (z, set_other actors a c y away ∙ ez, s)))
      ]

  -- where it seals nothing next, and neither words nor places change
  pub plainly : (t' : Target P) (y : Actor) → GoesAmong t' y → t'.words.seals ≡ t.words.seals → ((b : ℕ) → place_of t'.desk.tree.entries b ≡ place_of t.desk.tree.entries b) → ((b : OBlock) (place : Option CBlock) → SealsNext b place x.task → ⊥) → Owned t'.desk (slice_set actors a y) → AreParted y → TaskRight t'.desk.tree.entries y.card y.task → KeepingAt t' (slice_set actors a y)
  plainly t' y among seals places not owned parted mine = going t' y among owned parted (λ c z n e access b h. places b.0) (λ b. inl (ap (λ (s : List ℕ). word_at s b) seals, places b.0, not b)) mine

  module _ (job : Job) (plan : Plan) (xt : x.task ≡ Some (job, plan)) where
    pub suits : Suits shape.geometry.origin_blocks plan x.card
    suits = task_suits shape.geometry.origin_blocks x xt (all_suited a x ex)

    right : RightWhere (place_of t.desk.tree.entries) x.card plan.steps
    right = subst (λ (o : Option (Job × Plan)). TaskRight t.desk.tree.entries x.card o) xt (k.right a x ex)

    pub own : (q : TaskJob) (next : Want) → plan.job ≡ q → next ≡ want plan → IsOwnStep q next
    own q next j e = own_next shape.geometry.origin_blocks plan x.card suits q next j e

    pub ready : (next : Want) → next ≡ want plan → MayTake shape.geometry.origin_blocks x.card next
    ready next e = subst (λ (v : Want). MayTake shape.geometry.origin_blocks x.card v) (sym e) (is_ready shape.geometry.origin_blocks plan x.card suits)

    not_sealing : (next : Want) → next ≡ want plan → ((b : OBlock) (place : Option CBlock) (dirty : Bool) → next ≢ Cell (Seal b place dirty)) → (b : OBlock) (place : Option CBlock) → SealsNext b place x.task → ⊥
    not_sealing next e not b place s = let q = subst (λ (o : Option (Job × Plan)). SealsNext b place o) xt s in not b place q.0 (e ∙ q.1)

    pub holds_none : (card : Card) (steps : List Want) (places : ℕ → Option ℕ) → card.hold ≡ Nothing → RightWhere places card steps
    holds_none card steps places none access b h = absurd (let bad : Nothing ≡ Held access b = sym none ∙ h in cc)

    -- what it is then
    abbrev y : Want → Got → Actor
    y next got = actor_then {P = P} {A = A} shape (Stands t) devices x next got

    -- nobody suspends while it is at something else
    nobody_suspends : (c : ℕ) (z : Actor) → c ≢ a → slice_get actors c ≡ Some z → IsAmongOthers z.task
    nobody_suspends c z away ez = elim (k.alone c z ez) [
      | inl o ↦ o
      | inr rest ↦ absurd (let bad : None ≡ Some (job, plan) = sym (rest a x (λ e. away (sym e)) ex) ∙ xt in cc)
    ]

    -- so it goes on, and answers, where what it has seen is told if it suspends
    goes_among : (t' : Target P) (next : Want) (got : Got) → Rattle.wb_promise.specs.Effects.task_then (Some (job, plan)) next got ≡ Some (job, after plan got) → (job ≡ Suspend → Saw t'.words t'.desk.tree.entries (seen_after next got x.seen) (after plan got).steps) → GoesAmong t' (y next got)
    goes_among t' next got on saw = record {
      nobody = nobody_suspends;
      itself = elim (k.alone a x ex) [ inl o ↦ inl (among_then x.task next got o) | inr rest ↦ inr rest ];
      saw = subst (λ (o : Option (Job × Plan)). SawTask t'.words t'.desk.tree.entries (Rattle.wb_promise.specs.Effects.seen_then x.seen next got (job_of o)) (Rattle.wb_promise.specs.Effects.task_then o next got)) (sym xt)
          (subst (λ (o : Option (Job × Plan)). SawTask t'.words t'.desk.tree.entries (Rattle.wb_promise.specs.Effects.seen_then x.seen next got job) o) (sym on) (by job saw));
    }
      where
        by : (j : Job) → (j ≡ Suspend → Saw t'.words t'.desk.tree.entries (seen_after next got x.seen) (after plan got).steps) → SawJob t'.words t'.desk.tree.entries (Rattle.wb_promise.specs.Effects.seen_then x.seen next got j) j (after plan got).steps
        by Suspend h = h refl
        by j h = tt

    answers_among : (answer : Answer) (got : Got) → GoesAmong t (y (End answer) got)
    answers_among answer got = record {
      nobody = nobody_suspends;
      itself = elim (k.alone a x ex) [ inl o ↦ inl (among_then x.task (End answer) got o) | inr rest ↦ inr rest ];
      saw = by x.task;
    }
      where
        by : (o : Option (Job × Plan)) → SawTask t.words t.desk.tree.entries (y (End answer) got).seen (Rattle.wb_promise.specs.Effects.task_then o (End answer) got)
        by None = tt
        by (Some doing) = tt

    -- ---- one that suspends

    module _ (suspends : job ≡ Suspend) where
      its_task : x.task ≡ Some (Suspend, plan)
      its_task = xt ∙ ap (λ (j : Job). Some (j, plan)) suspends

      its_blocks : (looks : List OBlock) × (plan.job ≡ Suspending looks (most P A shape true))
      its_blocks =
          let z = beside P A shape images t commit devices actors n known f a x ex in
          let r : IsCommitAt (size P A shape) (most P A shape true) _ true plan x.share z.0 = doing_of (size P A shape) (most P A shape) t.words x z.0 Suspend plan (f.phase.agrees.each a x z.0 ex z.1) its_task in
          (r.blocks, r.job)

      -- what it has seen up to now
      pub saw_now : Saw t.words t.desk.tree.entries x.seen plan.steps
      saw_now = subst (λ (o : Option (Job × Plan)). SawTask t.words t.desk.tree.entries x.seen o) its_task (k.saw a x ex)

      -- nobody is to seal anything, so the seals tell
      pub all_told : (next : Want) → next ≡ want plan → ((b : OBlock) (place : Option CBlock) (dirty : Bool) → next ≢ Cell (Seal b place dirty)) → (block : OBlock) → number_of (place_in (word_at t.words.seals block)) ≡ place_of t.desk.tree.entries block.0
      all_told next e not block = by (k.tells block)
        where
          by : Tells t.words t.desk.tree.entries actors block → number_of (place_in (word_at t.words.seals block)) ≡ place_of t.desk.tree.entries block.0
          by (inl told) = told
          by (inr (place, at, (c, (z, ez, s)))) = absurd (elim (cases_eq c a) [
            | inl here ↦ (
                let both : Some z ≡ Some x = sym ez ∙ ap (slice_get actors) here ∙ ex in
                let same : z ≡ x = cc in not_sealing next e not block place (subst (λ (v : Actor). SealsNext block place v.task) same s))
            | inr away ↦ elim (k.alone a x ex) [
              | inl among ↦ subst IsAmongOthers its_task among
              | inr rest ↦ subst (λ (o : Option (Job × Plan)). SealsNext block place o) (rest c z away ez) s
            ]
          ])

      saw_first_of : (next : Want) → next ≡ want plan → ((answer : Answer) → next ≢ End answer) → (rest : List Want) × (plan.steps ≡ next ∷ rest) × Saw t.words t.desk.tree.entries x.seen (next ∷ rest)
      saw_first_of next e step = let first = begins_by plan next (sym e) step in (first.0, first.1, subst (λ (ws : List Want). Saw t.words t.desk.tree.entries x.seen ws) first.1 saw_now)

      -- what is left of it, with this next
      is_left : (next : Want) (rest : List Want) → plan.steps ≡ next ∷ rest → plan ≡ record { job = Suspending its_blocks.0 (most P A shape true); steps = next ∷ rest; answer = plan.answer }
      is_left next rest s = λ i. record { job = its_blocks.1 i; steps = s i; answer = plan.answer }

      saw_words : (step : CellStep) → Cell step ≡ want plan → Saw (words_after t.words step) t.desk.tree.entries (seen_after (Cell step) (got_of (result_of t.words step)) x.seen) (after plan (got_of (result_of t.words step))).steps
      saw_words step e =
          let s = saw_first_of (Cell step) e (λ v q. absurd (cc)) in
          subst (λ (p : Plan). Saw (words_after t.words step) t.desk.tree.entries (seen_after (Cell step) (got_of (result_of t.words step)) x.seen) (after p (got_of (result_of t.words step))).steps) (sym (is_left (Cell step) s.0 s.1))
          (by step s.0 (own (Suspending its_blocks.0 (most P A shape true)) (Cell step) its_blocks.1 e) s.2 (all_told (Cell step) e (λ b p d q. not_it step (own (Suspending its_blocks.0 (most P A shape true)) (Cell step) its_blocks.1 e) b p d (let same : step ≡ Seal b p d = cc in same))))
        where
          not_it : (s : CellStep) → IsOwnStep (Suspending its_blocks.0 (most P A shape true)) (Cell s) → (b : OBlock) (place : Option CBlock) (dirty : Bool) → s ≢ Seal b place dirty
          not_it (Seal o q v) own_step b place dirty e = absurd own_step
          not_it s own_step b place dirty e = absurd (subst (λ (c : CellStep). IsOwnStep (Suspending its_blocks.0 (most P A shape true)) (Cell c)) e own_step)

          left : CellStep → List Want → Plan
          left s rest = record { job = Suspending its_blocks.0 (most P A shape true); steps = Cell s ∷ rest; answer = plan.answer }

          by : (s : CellStep) (rest : List Want) → IsOwnStep (Suspending its_blocks.0 (most P A shape true)) (Cell s) → Saw t.words t.desk.tree.entries x.seen (Cell s ∷ rest) → ((block : OBlock) → number_of (place_in (word_at t.words.seals block)) ≡ place_of t.desk.tree.entries block.0) →
              Saw (words_after t.words s) t.desk.tree.entries (seen_after (Cell s) (got_of (result_of t.words s)) x.seen) (after (left s rest) (got_of (result_of t.words s))).steps
          by (Look Rattle.wb_words.specs.declared.word.Word.TheVariants.Fail) rest own_step saw told = by_test (t.words.fail == 0)
            where
              then_left : Bool → Plan
              then_left v = if v then record { job = Suspending its_blocks.0 (most P A shape true); steps = rest; answer = plan.answer } else record { job = Suspending its_blocks.0 (most P A shape true); steps = []; answer = Refuses Failed }

              by_test : (v : Bool) → Saw t.words t.desk.tree.entries x.seen (then_left v).steps
              by_test true = saw_on t.words t.words t.desk.tree.entries t.desk.tree.entries x.seen (Cell (Look Rattle.wb_words.specs.declared.word.Word.TheVariants.Fail)) rest (λ b q. absurd (cc)) refl (λ b. refl) saw
              by_test false = λ b. absurd b
          by (Look (SealWord block)) rest own_step saw told = saw_seal t.words t.desk.tree.entries x.seen block rest (told block) saw
          by SetFailed rest own_step saw told = saw_on t.words (words_after t.words SetFailed) t.desk.tree.entries t.desk.tree.entries x.seen (Cell SetFailed) rest (λ b q. absurd (cc)) refl (λ b. refl) saw
          by SetSuspended rest own_step saw told = saw_on t.words (words_after t.words SetSuspended) t.desk.tree.entries t.desk.tree.entries x.seen (Cell SetSuspended) rest (λ b q. absurd (cc)) refl (λ b. refl) saw
          by s rest own_step saw told = absurd own_step

      saw_device : (step : DeviceStep) (got : Got) → Device step ≡ want plan → (got ≡ Done) ⊎ (got ≡ Fault) → Saw t.words t.desk.tree.entries x.seen (after plan got).steps
      saw_device step got e (inl done) =
          let s = saw_first_of (Device step) e (λ v q. absurd (cc)) in
          subst (λ (g : Got). Saw t.words t.desk.tree.entries x.seen (after plan g).steps) (sym done) (subst (λ (ws : List Want). Saw t.words t.desk.tree.entries x.seen (later_steps ws)) (sym s.1) (saw_on t.words t.words t.desk.tree.entries t.desk.tree.entries x.seen (Device step) s.0 (λ b q. absurd (cc)) refl (λ b. refl) s.2))
      saw_device step got e (inr fault) =
          let s = saw_first_of (Device step) e (λ v q. absurd (cc)) in
          subst (λ (g : Got). Saw t.words t.desk.tree.entries x.seen (after plan g).steps) (sym fault) (subst (λ (p : Plan). Saw t.words t.desk.tree.entries x.seen (after p Fault).steps) (sym (is_left (Device step) s.0 s.1)) (λ b. absurd b))

      -- of the desk it asks for its commit, and ends it
      pub saw_begin : (allowed : ℕ) (desk' : DeskState P) (got : Got) → Desk (BeginCommit allowed) ≡ want plan → ((nodes : ℕ) × (got ≡ Began nodes)) ⊎ ((refusal : Refusal) × (got ≡ GotRefused refusal)) → Saw t.words desk'.tree.entries x.seen (after plan got).steps
      saw_begin allowed desk' got e (inl began) =
          let s = saw_first_of (Desk (BeginCommit allowed)) e (λ v q. absurd (cc)) in
          subst (λ (g : Got). Saw t.words desk'.tree.entries x.seen (after plan g).steps) (sym began.1) (subst (λ (p : Plan). Saw t.words desk'.tree.entries x.seen (after p (Began began.0)).steps) (sym (is_left (Desk (BeginCommit allowed)) s.0 s.1)) (λ b. absurd (begun_once true its_blocks.0 (most P A shape true) began.0 b)))
      saw_begin allowed desk' got e (inr r) =
          let s = saw_first_of (Desk (BeginCommit allowed)) e (λ v q. absurd (cc)) in
          subst (λ (g : Got). Saw t.words desk'.tree.entries x.seen (after plan g).steps) (sym r.1) (subst (λ (p : Plan). Saw t.words desk'.tree.entries x.seen (after p (GotRefused r.0)).steps) (sym (is_left (Desk (BeginCommit allowed)) s.0 s.1)) (λ b. absurd b))

      pub saw_end : (step : DeskStep) (desk' : DeskState P) → ((b : ℕ) → place_of desk'.tree.entries b ≡ place_of t.desk.tree.entries b) → Desk step ≡ want plan → Saw t.words desk'.tree.entries x.seen (after plan Done).steps
      saw_end step desk' places e =
          let s = saw_first_of (Desk step) e (λ v q. absurd (cc)) in
          subst (λ (ws : List Want). Saw t.words desk'.tree.entries x.seen (later_steps ws)) (sym s.1) (saw_on t.words t.words t.desk.tree.entries desk'.tree.entries x.seen (Desk step) s.0 (λ b q. absurd (cc)) refl places s.2)

      -- it never asks to share one
      pub shares_none : (allowed : ℕ) → (Desk (Arrive allowed) ≡ want plan) ⊎ (Desk (Ask allowed) ≡ want plan) → ⊥
      shares_none allowed (inl e) = own (Suspending its_blocks.0 (most P A shape true)) (Desk (Arrive allowed)) its_blocks.1 e
      shares_none allowed (inr e) = own (Suspending its_blocks.0 (most P A shape true)) (Desk (Ask allowed)) its_blocks.1 e

    y_parted : (next : Want) (got : Got) → AreParted (y next got)
    y_parted next got = parted_then x.orders x.awaiting (job_of x.task) next got (k.parted a x ex)

    -- after a step that leaves its task
    mine : (entries : List (Option Entry)) (next : Want) (got : Got) → (task : Option (Job × Plan)) → Rattle.wb_promise.specs.Effects.task_then (Some (job, plan)) next got ≡ task → TaskRight entries (y next got).card task → TaskRight entries (y next got).card (y next got).task
    mine entries next got task e r = subst (λ (o : Option (Job × Plan)). TaskRight entries (y next got).card (Rattle.wb_promise.specs.Effects.task_then o next got)) (sym xt) (subst (λ (o : Option (Job × Plan)). TaskRight entries (y next got).card o) (sym e) r)

    -- ---- on the words

    module _ (step : CellStep) (e : Cell step ≡ want plan) where
      abbrev first : (ws : List Want) × (plan.steps ≡ Cell step ∷ ws)
      first = begins_by plan (Cell step) (sym e) (λ v q. absurd (cc))

      -- a seal that it looks at tells
      sees : (j : BlockJob) → Has j x.card (Cell step ∷ first.0) → (b : OBlock) → step ≡ Look (SealWord b) → number_of (place_in (word_at t.words.seals b)) ≡ place_of t.desk.tree.entries b.0
      sees j has b is = by (k.tells b)
        where
          has_it : (x.card.hold ≡ Held (access_of j) (block_of j)) × (b ≡ block_of j)
          has_it = subst (λ (s : CellStep). Has j x.card (Cell s ∷ first.0)) is has

          by : Tells t.words t.desk.tree.entries actors b → number_of (place_in (word_at t.words.seals b)) ≡ place_of t.desk.tree.entries b.0
          by (inl told) = told
          by (inr (place, at, (c, (z, ez, s)))) = absurd (elim (cases_eq c a) [
            | inl here ↦ (
                let both : Some z ≡ Some x = sym ez ∙ ap (slice_get actors) here ∙ ex in
                let same : z ≡ x = cc in
                not_sealing (Cell step) e (λ o p d q. absurd (let bad : Cell (Look (SealWord b)) ≡ Cell (Seal o p d) = ap (λ (v : CellStep). Cell v) (sym is) ∙ q in cc)) b place (subst (λ (v : Actor). SealsNext b place v.task) same s))
            | inr away ↦ (
                let z_owns = sealing_owns c z ez b place s in
                owned_alone shape.geometry.origin_blocks t.words actors rule c a z x ez ex (λ q. away (sym q)) b z_owns.0 z_owns.1 (access_of j) (has_it.0 ∙ ap (λ (o : OBlock). Held (access_of j) o) (sym has_it.1)))
          ])

      after_words : RightWhere (place_of t.desk.tree.entries) (card_after t.words step x.card) (after plan (got_of (result_of t.words step))).steps
      after_words = by plan.job refl
        where
          idle : (card : Card) → card.hold ≡ Nothing → (card_after t.words step x.card).hold ≡ Nothing → RightWhere (place_of t.desk.tree.entries) (card_after t.words step x.card) (after plan (got_of (result_of t.words step))).steps
          idle card h none = holds_none (card_after t.words step x.card) (after plan (got_of (result_of t.words step))).steps (place_of t.desk.tree.entries) none

          of_flush : (s : CellStep) (serves : List OBlock) (m : ℕ) → IsOwnStep (Flushing serves m) (Cell s) → x.card.hold ≡ Nothing → (card_after t.words s x.card).hold ≡ Nothing
          of_flush (Look Rattle.wb_words.specs.declared.word.Word.TheVariants.Fail) serves m o h = h
          of_flush SetFailed serves m o h = ap (λ (v : Hold). (failing_at v x.card).hold) h ∙ h
          of_flush s serves m o h = absurd o

          of_suspend : (s : CellStep) (blocks : List OBlock) (m : ℕ) → IsOwnStep (Suspending blocks m) (Cell s) → x.card.hold ≡ Nothing → (card_after t.words s x.card).hold ≡ Nothing
          of_suspend (Look word) blocks m o h = h
          of_suspend SetFailed blocks m o h = ap (λ (v : Hold). (failing_at v x.card).hold) h ∙ h
          of_suspend SetSuspended blocks m o h = ap (λ (v : Hold). (failing_at v x.card).hold) h ∙ h
          of_suspend s blocks m o h = absurd o

          by : (q : TaskJob) → plan.job ≡ q → RightWhere (place_of t.desk.tree.entries) (card_after t.words step x.card) (after plan (got_of (result_of t.words step))).steps
          by (OnBlock j) is =
              let same : plan ≡ record { job = OnBlock j; steps = Cell step ∷ first.0; answer = plan.answer } = (λ i. record { job = is i; steps = first.1 i; answer = plan.answer }) in
              let has = subst (λ (us : List Want). Has j x.card us) first.1 (subst (λ (q : TaskJob). SuitsJob shape.geometry.origin_blocks q x.card plan.steps) is suits).1 in
              subst (λ (q : Plan). RightWhere (place_of t.desk.tree.entries) (card_after t.words step x.card) (after q (got_of (result_of t.words step))).steps) (sym same)
              (on_words (place_of t.desk.tree.entries) j t.words x.card plan.answer step first.0 has (sees j has) (subst (λ (us : List Want). RightWhere (place_of t.desk.tree.entries) x.card us) first.1 right))
          by (Flushing serves m) is =
              let none = (subst (λ (q : TaskJob). SuitsJob shape.geometry.origin_blocks q x.card plan.steps) is suits).0 in
              idle x.card none (of_flush step serves m (own (Flushing serves m) (Cell step) is e) none)
          by (Suspending blocks m) is =
              let none = (subst (λ (q : TaskJob). SuitsJob shape.geometry.origin_blocks q x.card plan.steps) is suits).0 in
              idle x.card none (of_suspend step blocks m (own (Suspending blocks m) (Cell step) is e) none)
          by (Opening left) is = absurd (own (Opening left) (Cell step) is e)

      -- what it seals is told by the seal
      seal_told : (b : OBlock) (place : Option CBlock) (dirty : Bool) → step ≡ Seal b place dirty → place_in (seal_word place dirty) ≡ place
      seal_told b place dirty is = by_job job xt
        where
          of_it : (block : ℕ) → AreOfBlock (size P A shape) block plan.steps → place_in (seal_word place dirty) ≡ place
          of_it block all = (subst (λ (s : CellStep). AreOfBlock (size P A shape) block (Cell s ∷ first.0)) is (subst (λ (us : List Want). AreOfBlock (size P A shape) block us) first.1 all)).0

          z : (v : Rattle.wb_link.specs.World.AbstractActor) × (slice_get f.site.world.actors a ≡ Some v)
          z = beside P A shape images t commit devices actors n known f a x ex

          doing : (j : Job) → x.task ≡ Some (j, plan) → IsDoing (size P A shape) (most P A shape) (f.phase.agrees.each a x z.0 ex z.1).failed j plan x.card x.share z.0
          doing j jt = doing_of (size P A shape) (most P A shape) t.words x z.0 j plan (f.phase.agrees.each a x z.0 ex z.1) jt

          is_seal : Cell (Seal b place dirty) ≡ want plan
          is_seal = ap (λ (s : CellStep). Cell s) (sym is) ∙ e

          by_job : (j : Job) → x.task ≡ Some (j, plan) → place_in (seal_word place dirty) ≡ place
          by_job (Read extent) jt = of_it (doing (Read extent) jt).part.block.0 (doing (Read extent) jt).of_block
          by_job (Write extent content) jt = of_it (doing (Write extent content) jt).part.block.0 (doing (Write extent content) jt).of_block
          by_job (Invalidate block) jt = of_it (doing (Invalidate block) jt).part.block.0 (doing (Invalidate block) jt).of_block
          by_job Flush jt = (let r = doing Flush jt in absurd (own (Flushing r.blocks (most P A shape false)) (Cell (Seal b place dirty)) r.job is_seal))
          by_job Suspend jt = (let r = doing Suspend jt in absurd (own (Suspending r.blocks (most P A shape true)) (Cell (Seal b place dirty)) r.job is_seal))
          by_job (Open mode second) jt = absurd (doing (Open mode second) jt)
          by_job (Migrate m block) jt =
              let c = carried now shape.geometry.origin_blocks f.site.world f.phase.agrees a x m block plan ex jt suits (Cell (Seal b place dirty)) is_seal tt in
              of_it c.part.block.0 c.of_block
          by_job (Replace old new) jt = absurd (doing (Replace old new) jt)

      abbrev t_words : Target P
      t_words = record { words = words_after t.words step; desk = t.desk }

      -- by whether it seals
      abbrev Told : CellStep → Type 0
      Told s = (b : OBlock) → Untold (record { words = words_after t.words s; desk = t.desk }) b ⊎ Tells (words_after t.words s) t.desk.tree.entries (slice_set actors a (y (Cell step) (got_of (result_of t.words step)))) b

      not_by : ((b : OBlock) (place : Option CBlock) (dirty : Bool) → step ≢ Seal b place dirty) → Told step
      not_by not b = inl (ap (λ (s : List ℕ). word_at s b) (seals_same t.words step not), refl, not_sealing (Cell step) e (λ o p d q. not o p d (let same : Cell step ≡ Cell (Seal o p d) = q in cc)) b)

      by_seal : (o : OBlock) (place : Option CBlock) (dirty : Bool) → step ≡ Seal o place dirty → Told (Seal o place dirty)
      by_seal o place dirty is b =
          let is_next : Cell (Seal o place dirty) ≡ want plan = ap (λ (s : CellStep). Cell s) (sym is) ∙ e in
          let mine = ready (Cell (Seal o place dirty)) is_next in
          let many = rule.seals_are in
          elim (cases_eq b.0 o.0) [
            | inl same ↦ (
                let found = there t.words.seals o.0 (let l = mine.0 in omega (arith, l, many)) in
                let put : slice_get (slice_set t.words.seals o.0 (seal_word place dirty)) b.0 ≡ Some (seal_word place dirty) = ap (λ (i : ℕ). slice_get (slice_set t.words.seals o.0 (seal_word place dirty)) i) same ∙ set_there t.words.seals o.0 found.0 (seal_word place dirty) found.1 in
                let is_right : number_of place ≡ place_of t.desk.tree.entries o.0 = (subst (λ (s : CellStep). SealsRight (place_of t.desk.tree.entries o.0) (Cell s ∷ first.0)) is (subst (λ (us : List Want). SealsRight (place_of t.desk.tree.entries o.0) us) first.1 (right Own o mine.1))).0 in
                inr (inl (ap (λ (v : Option ℕ). number_of (place_in (unwrap_or v 0))) put ∙ ap number_of (seal_told o place dirty is) ∙ is_right ∙ ap (place_of t.desk.tree.entries) (sym same))))
            | inr other ↦ inl (
              ap (λ (v : Option ℕ). unwrap_or v 0) (set_other t.words.seals o.0 b.0 (seal_word place dirty) other),
              refl,
              λ p sealed. (
                  let q = subst (λ (task : Option (Job × Plan)). SealsNext b p task) xt sealed in
                  let both : Cell (Seal o place dirty) ≡ Cell (Seal b p q.0) = is_next ∙ q.1 in
                  let same : o ≡ b = cc in other (ap (λ (v : OBlock). v.0) (sym same))),
            )
          ]

      told : Told step
      told = by step refl
        where
          by : (s : CellStep) → step ≡ s → Told s
          by (Seal o place dirty) is = by_seal o place dirty is
          by s is = subst Told is (not_by (λ b p d q. absurd (let bad : s ≡ Seal b p d = sym is ∙ q in cc)))

      pub cell_keeps : KeepingAt (record { words = words_after t.words step; desk = t.desk }) (slice_set actors a (y (Cell step) (got_of (result_of t.words step))))
      cell_keeps =
          let got = got_of (result_of t.words step) in
          going t_words (y (Cell step) got) (goes_among t_words (Cell step) got refl (λ s. saw_words s step e)) (owned_same P t.desk actors a x (y (Cell step) got) ex k.owned t.desk refl refl) (y_parted (Cell step) got) (λ c z m ez access b h. refl) told
          (mine t.desk.tree.entries (Cell step) got (Some (job, after plan got)) refl after_words)

    -- ---- on a device

    module _ (step : DeviceStep) (e : Device step ≡ want plan) (got : Got) (gave : (j : BlockJob) → plan.job ≡ OnBlock j → (got ≡ Done) ⊎ (got ≡ Fault)) (synced : job ≡ Suspend → (got ≡ Done) ⊎ (got ≡ Fault)) where
      after_device : RightWhere (place_of t.desk.tree.entries) x.card (after plan got).steps
      after_device = by plan.job refl
        where
          first : (ws : List Want) × (plan.steps ≡ Device step ∷ ws)
          first = begins_by plan (Device step) (sym e) (λ v q. absurd (cc))

          failed : (j : BlockJob) (s : DeviceStep) (here : Option ℕ) → IsJobs j s → SealsRight here (after_fault_of (OnBlock j) s)
          failed j (ReadExtent d ext) here i = lets_go_right here j (access_of j) (range_of j).block
          failed j (WriteExtent d ext) here i = tt
          failed (Reading part) s here i = absurd i
          failed j s here i = absurd i

          of_block : (j : BlockJob) → plan.job ≡ OnBlock j → (got ≡ Done) ⊎ (got ≡ Fault) → RightWhere (place_of t.desk.tree.entries) x.card (after plan got).steps
          of_block j is (inl done) access b h = subst (λ (g : Got). SealsRight (place_of t.desk.tree.entries b.0) (after plan g).steps) (sym done)
              (subst (λ (us : List Want). SealsRight (place_of t.desk.tree.entries b.0) (later_steps us)) (sym first.1) (subst (λ (us : List Want). SealsRight (place_of t.desk.tree.entries b.0) us) first.1 (right access b h)))
          of_block j is (inr fault) access b h = subst (λ (g : Got). SealsRight (place_of t.desk.tree.entries b.0) (after plan g).steps) (sym fault)
              (subst (λ (v : Want). SealsRight (place_of t.desk.tree.entries b.0) (after_fault plan v).steps) e
              (subst (λ (q : TaskJob). SealsRight (place_of t.desk.tree.entries b.0) (after_fault_of q step)) (sym is) (failed j step (place_of t.desk.tree.entries b.0) (own (OnBlock j) (Device step) is e))))

          by : (q : TaskJob) → plan.job ≡ q → RightWhere (place_of t.desk.tree.entries) x.card (after plan got).steps
          by (OnBlock j) is = of_block j is (gave j is)
          by q is = holds_none x.card (after plan got).steps (place_of t.desk.tree.entries) (subst (λ (q : TaskJob). SuitsJob shape.geometry.origin_blocks q x.card plan.steps) is suits).0

      pub device_keeps : KeepingAt t (slice_set actors a (y (Device step) got))
      device_keeps = plainly t (y (Device step) got) (goes_among t (Device step) got refl (λ s. saw_device s step got e (synced s))) refl (λ b. refl) (not_sealing (Device step) e (λ b p d q. absurd (cc))) (owned_same P t.desk actors a x (y (Device step) got) ex k.owned t.desk refl refl) (y_parted (Device step) got)
          (mine t.desk.tree.entries (Device step) got (Some (job, after plan got)) refl after_device)

    -- ---- its answer

    pub answer_keeps : (answer : Answer) (got : Got) → End answer ≡ want plan → KeepingAt t (slice_set actors a (y (End answer) got))
    answer_keeps answer got e = plainly t (y (End answer) got) (answers_among answer got) refl (λ b. refl) (not_sealing (End answer) e (λ b p d q. absurd (cc))) (owned_within P t.desk actors a x (y (End answer) got) ex k.owned t.desk (λ o h. then_had x (job_of x.task) (End answer) got o h) refl) (y_parted (End answer) got)
        (mine t.desk.tree.entries (End answer) got None refl tt)

    -- ---- at the desk

    -- where it is asked of who holds nothing, and the entries stay
    pub desk_plain : (step : DeskStep) (got : Got) (desk' : DeskState P) → (job ≡ Suspend → Saw t.words desk'.tree.entries x.seen (after plan got).steps) → Desk step ≡ want plan → x.card.hold ≡ Nothing → ((b : ℕ) → place_of desk'.tree.entries b ≡ place_of t.desk.tree.entries b) → Owned desk' (slice_set actors a (y (Desk step) got)) → KeepingAt (record { words = t.words; desk = desk' }) (slice_set actors a (y (Desk step) got))
    desk_plain step got desk' saw e none places owned = plainly (record { words = t.words; desk = desk' }) (y (Desk step) got) (goes_among (record { words = t.words; desk = desk' }) (Desk step) got refl saw) refl places (not_sealing (Desk step) e (λ b p d q. absurd (cc))) owned (y_parted (Desk step) got)
        (mine desk'.tree.entries (Desk step) got (Some (job, after plan got)) refl (holds_none x.card (after plan got).steps (place_of desk'.tree.entries) none))

    -- A block that is mapped or unmapped is sealed so next.
    module _ (step : DeskStep) (e : Desk step ≡ want plan) (b : OBlock) (place : Option CBlock) (desk' : DeskState P) (inside : b.0 < shape.geometry.origin_blocks) (holds : x.card.hold ≡ Held Own b) (here : number_of place ≡ place_of desk'.tree.entries b.0) (elsewhere : (i : ℕ) → i ≢ b.0 → place_of desk'.tree.entries i ≡ place_of t.desk.tree.entries i)
        (sealed : (answer : Answer) → (dirty : Bool) × (first_step (after plan Done).steps answer ≡ Cell (Seal b place dirty))) (still : SealsRight (place_of desk'.tree.entries b.0) (after plan Done).steps) (owned : Owned desk' (slice_set actors a (y (Desk step) Done))) (other : job ≢ Suspend) where
      moved : KeepingAt (record { words = t.words; desk = desk' }) (slice_set actors a (y (Desk step) Done))
      moved = going (record { words = t.words; desk = desk' }) (y (Desk step) Done) (goes_among (record { words = t.words; desk = desk' }) (Desk step) Done refl (λ s. absurd (other s))) owned (y_parted (Desk step) Done)
          (λ c z away ez access o h. elsewhere o.0 (λ same. owned_alone shape.geometry.origin_blocks t.words actors rule a c x z ex ez away b inside holds access (h ∙ (λ i. Held access (record { 0 = same i })))))
          tells
          (mine desk'.tree.entries (Desk step) Done (Some (job, after plan Done)) refl now)
        where
          now : RightWhere (place_of desk'.tree.entries) x.card (after plan Done).steps
          now access o h =
              let both : Held Own b ≡ Held access o = sym holds ∙ h in
              let same : b ≡ o = cc in
              subst (λ (v : OBlock). SealsRight (place_of desk'.tree.entries v.0) (after plan Done).steps) same still

          task_is : (y (Desk step) Done).task ≡ Some (job, after plan Done)
          task_is = ap (λ (o : Option (Job × Plan)). Rattle.wb_promise.specs.Effects.task_then o (Desk step) Done) xt

          tells : (o : OBlock) → Untold (record { words = t.words; desk = desk' }) o ⊎ Tells t.words desk'.tree.entries (slice_set actors a (y (Desk step) Done)) o
          tells o = elim (cases_eq o.0 b.0) [
            | inl same ↦ inr (inr (
              place,
              here ∙ ap (place_of desk'.tree.entries) (sym same),
              (a, (y (Desk step) Done, set_there actors a x (y (Desk step) Done) ex, subst (λ (task : Option (Job × Plan)). SealsNext o place task) (sym task_is) (let s = sealed plan.answer in (s.0, s.1 ∙ (λ i. Cell (Seal (record { 0 = sym same i }) place s.0)))))),
            ))
            | inr other ↦ inl (refl, elsewhere o.0 other, not_sealing (Desk step) e (λ v p d q. absurd (cc)) o)
          ]

  -- a block that a write or an invalidation takes out of the cache, under no order
  module _ (job : Job) (request : IsRequestJob job) (plan : Plan) (xt : x.task ≡ Some (job, plan)) (bl : OBlock) (new : DeskState P) (e : Desk (Unmap bl) ≡ want plan) (did : DidUnmap (λ policy o. new.policy) bl t.desk new) where
    pub request_unmap_keeps : KeepingAt (record { words = t.words; desk = new }) (slice_set actors a (y job plan xt (Desk (Unmap bl)) Done))
    request_unmap_keeps =
        let suited = suits job plan xt in
        let gone = left_at P A shape images t commit devices actors n known f a x ex job request plan xt suited bl new e did in
        let c = gone.0 in
        let alone = stands_alone P t.desk known.is.kept bl.0 c gone.1 in
        let holds : x.card.hold ≡ Held Own bl = ready job plan xt (Desk (Unmap bl)) e in
        let left = located_left t.desk.tree.entries c alone.0 bl.0 alone.1 in
        let here : None ≡ place_of new.tree.entries bl.0 = sym (changed_same (located t.desk.tree.entries) bl.0 None) ∙ left bl.0 ∙ ap (λ (es : List (Option Entry)). place_of es bl.0) (sym gone.2.entries) in
        let first = begins_by plan (Desk (Unmap bl)) (sym e) (λ v q. absurd (cc)) in
        let r' : IsSealed bl None first.0 × SealsRight None first.0 = subst (λ (us : List Want). SealsRight (place_of t.desk.tree.entries bl.0) us) first.1 (right job plan xt Own bl holds) in
        let inside = (mapped_within unknowing t.desk bl.0 c known.is.kept gone.1).1 in
        moved job plan xt (Unmap bl) e bl None new (subst (λ (blocks : ℕ). bl.0 < blocks) known.is.sizes.origin_blocks inside) holds here
        (λ i not. ap (λ (es : List (Option Entry)). place_of es i) gone.2.entries ∙ sym (left i) ∙ changed_other (located t.desk.tree.entries) bl.0 i None not)
        (λ answer. subst (λ (us : List Want). (dirty : Bool) × (first_step (later_steps us) answer ≡ Cell (Seal bl None dirty))) (sym first.1) (sealed_next bl None first.0 answer r'.0))
        (subst (λ (o : Option ℕ). SealsRight o (after plan Done).steps) here (subst (λ (us : List Want). SealsRight None (later_steps us)) (sym first.1) r'.1))
        (owned_within P t.desk actors a x (y job plan xt (Desk (Unmap bl)) Done) ex k.owned new (λ o h. then_had x (job_of x.task) (Desk (Unmap bl)) Done o h) (same_orders P A shape images t commit devices actors n known f a x ex job request plan xt suited bl new e did))
        (λ q. subst IsRequestJob q request)

  module _ (m : Migration) (block : OBlock) (plan : Plan) (xt : x.task ≡ Some (Migrate m block, plan)) where
    -- so its actor there is to do this next
    wants : {next : Want} → next ≡ want plan → WantsNext now a x f.site.world (Migrate m block) plan next
    wants {next} e = record { here = ex; task = xt; asks = sym e; agrees = f.phase.agrees }

    abbrev job : Job
    job = Migrate m block

    are : AreOrders t.desk.orders
    are = known.is.orders

    its : Suits shape.geometry.origin_blocks plan x.card
    its = suits job plan xt

    pub map_keeps : (bl : OBlock) (c : CBlock) (new : DeskState P) → Desk (Map bl c) ≡ want plan → MayMap t.desk bl c → IsChangedAt t.desk.tree new.tree c.0 (Some (entry_of bl)) → new ≡ mapped t.desk c new.tree new.policy → KeepingAt (record { words = t.words; desk = new }) (slice_set actors a (y job plan xt (Desk (Map bl c)) Done))
    map_keeps bl c new e may changed is =
        let en = entrance unknowing t.desk bl c known.is.kept may in
        let free = ap (λ (m : ℕ → Option ℕ). m bl.0) f.phase.desk.mapping ∙ unmapped_there P t.desk known.is.kept bl.0 en.unmapped in
        let law = migrations_followed.maps now shape.geometry.origin_blocks a x m block bl c plan f.site.world (wants e) its free in
        let order = law.2 in
        let is_its : is_of bl order.0 ≡ true = ap (λ (o : OBlock). is_of o order.0) law.1 ∙ of_order (Promote c) block None order.0 order.1 in
        let holds : x.card.hold ≡ Held Own bl = ready job plan xt (Desk (Map bl c)) e in
        let less = en.inside in
        let size_is = known.is.kept.mapping.size in
        let entered = located_entered t.desk.tree.entries c.0 (entry_of bl) (omega (arith, less, size_is)) (unmapped_there P t.desk known.is.kept bl.0 en.unmapped) en.none in
        let here : Some c.0 ≡ place_of new.tree.entries bl.0 = sym (changed_same (located t.desk.tree.entries) bl.0 (Some c.0)) ∙ entered bl.0 ∙ ap (λ (es : List (Option Entry)). place_of es bl.0) (sym changed.entries) in
        let first = begins_by plan (Desk (Map bl c)) (sym e) (λ v q. absurd (cc)) in
        let r : IsSealed bl (Some c) first.0 × SealsRight (Some c.0) first.0 = subst (λ (us : List Want). SealsRight (place_of t.desk.tree.entries bl.0) us) first.1 (right job plan xt Own bl holds) in
        let inside = named_inside unknowing t.desk c.0 bl.0 en.live known.is.kept are en.there en.named in
        moved job plan xt (Map bl c) e bl (Some c) new (subst (λ (blocks : ℕ). bl.0 < blocks) known.is.sizes.origin_blocks inside) holds here
        (λ i not. ap (λ (es : List (Option Entry)). place_of es i) changed.entries ∙ sym (entered i) ∙ changed_other (located t.desk.tree.entries) bl.0 i (Some c.0) not)
        (λ answer. subst (λ (us : List Want). (dirty : Bool) × (first_step (later_steps us) answer ≡ Cell (Seal bl (Some c) dirty))) (sym first.1) (sealed_next bl (Some c) first.0 answer r.0))
        (subst (λ (o : Option ℕ). SealsRight o (after plan Done).steps) here (subst (λ (us : List Want). SealsRight (Some c.0) (later_steps us)) (sym first.1) r.1))
        (over P t.desk actors are k.owned a x ex order.0 c.0 order.2.live (Contains-append_left x.orders x.awaiting order.0 order.2.mine) bl is_its (k.parted a x ex) order.2.mine new (ap (λ (d : DeskState P). d.orders.slots) is) (y job plan xt (Desk (Map bl c)) Done) refl refl) (λ q. absurd (cc))

    module _ (bl : OBlock) (new : DeskState P) (e : Desk (Unmap bl) ≡ want plan) (did : DidUnmap (λ policy o. new.policy) bl t.desk new) where
      leaves_keeps : (c : ℕ) (o : Order) → slice_get slots c ≡ Some (Some o) → Contains x.orders o → Removes o → IsMappedAt (holdings t.desk) bl.0 c → is_of bl o ≡ true → (v : Bool) → is_replacement o ≡ v → KeepingAt (record { words = t.words; desk = new }) (slice_set actors a (y job plan xt (Desk (Unmap bl)) Done))
      leaves_keeps c o live mine removes at of v r =
          let parted = k.parted a x ex in
          let gone = left P t.desk known.is.kept actors are k.owned a x ex parted bl c o live mine removes at of new did in
          let alone = stands_alone P t.desk known.is.kept bl.0 c at in
          let holds : x.card.hold ≡ Held Own bl = ready job plan xt (Desk (Unmap bl)) e in
          let left = located_left t.desk.tree.entries c alone.0 bl.0 alone.1 in
          let here : None ≡ place_of new.tree.entries bl.0 = sym (changed_same (located t.desk.tree.entries) bl.0 None) ∙ left bl.0 ∙ ap (λ (es : List (Option Entry)). place_of es bl.0) (sym gone.0.entries) in
          let first = begins_by plan (Desk (Unmap bl)) (sym e) (λ v q. absurd (cc)) in
          let r' : IsSealed bl None first.0 × SealsRight None first.0 = subst (λ (us : List Want). SealsRight (place_of t.desk.tree.entries bl.0) us) first.1 (right job plan xt Own bl holds) in
          let inside = (mapped_within unknowing t.desk bl.0 c known.is.kept at).1 in
          moved job plan xt (Unmap bl) e bl None new (subst (λ (blocks : ℕ). bl.0 < blocks) known.is.sizes.origin_blocks inside) holds here
          (λ i not. ap (λ (es : List (Option Entry)). place_of es i) gone.0.entries ∙ sym (left i) ∙ changed_other (located t.desk.tree.entries) bl.0 i None not)
          (λ answer. subst (λ (us : List Want). (dirty : Bool) × (first_step (later_steps us) answer ≡ Cell (Seal bl None dirty))) (sym first.1) (sealed_next bl None first.0 answer r'.0))
          (subst (λ (o : Option ℕ). SealsRight o (after plan Done).steps) here (subst (λ (us : List Want). SealsRight None (later_steps us)) (sym first.1) r'.1))
          (subst (λ (d : DeskState P). Owned d (slice_set actors a (y job plan xt (Desk (Unmap bl)) Done))) (sym gone.1)
          (owned_then P t.desk known.is.kept actors are k.owned a x ex parted bl c o live mine removes at of v r (unmapped t.desk (record { 0 = c }) new.tree new.policy) refl (y job plan xt (Desk (Unmap bl)) Done) refl refl)) (λ q. absurd (cc))

    pub unmap_keeps : (bl : OBlock) (new : DeskState P) → Desk (Unmap bl) ≡ want plan → DidUnmap (λ policy o. new.policy) bl t.desk new → KeepingAt (record { words = t.words; desk = new }) (slice_set actors a (y job plan xt (Desk (Unmap bl)) Done))
    unmap_keeps bl new e did =
        let s = f.site.world.shared in
        let leaving = leaves_from P t.desk known.is.kept s f.phase.desk in
        let law = migrations_followed.unmaps now shape.geometry.origin_blocks a x m block bl plan f.site.world (wants e) its (leaving bl) in
        let same : bl ≡ block = law.1 in
        let c = law.2.0 in
        let at : s.mapping block.0 ≡ Some c → IsMappedAt (holdings t.desk) bl.0 c = λ stood. subst (λ (o : OBlock). IsMappedAt (holdings t.desk) o.0 c) (sym same) (stands_so P t.desk known.is.kept s f.phase.desk block.0 c stood) in
        elim law.2.1 [
          | inl d ↦ leaves_keeps bl new e did c (DemoteOrder block) d.live d.mine tt (at (leaving block c None (DemoteOrder block) d.live (inl (refl, refl)) (λ no. absurd (no refl)))) (for_block Demote block bl same) false refl
          | inr d ↦ leaves_keeps bl new e did c (ReplaceOrder block d.new d.k) d.live d.mine tt (at d.stood) (subst (λ (o : OBlock). is_of o (ReplaceOrder block d.new d.k) ≡ true) (sym same) (of_order Demote block (Some d.new.0) (ReplaceOrder block d.new d.k) (inr (refl, refl)))) true refl
        ]

    pub release_keeps : (bl : OBlock) (new : DeskState P) → Desk (ReleaseOrder bl) ≡ want plan → DidRelease x.orders bl t.desk new → KeepingAt (record { words = t.words; desk = new }) (slice_set actors a (y job plan xt (Desk (ReleaseOrder bl)) Done))
    release_keeps bl new e d =
        let law = migrations_followed.gives_up now shape.geometry.origin_blocks a x m block bl plan f.site.world (wants e) its in
        by law.0 law.1
      where
        by : bl ≡ block → ((c : ℕ) × (next : Option ℕ) × (order : Order) × IsOrderFor m block next order × EndsOrder (GivesUp c) c a f.site.world now x (record x { task = Some (Migrate m block, after plan Done); orders = dropped bl x.orders }) order) →
            KeepingAt (record { words = t.words; desk = new }) (slice_set actors a (y job plan xt (Desk (ReleaseOrder bl)) Done))
        by same (c, next, order, of, ends) =
            let held = Contains-append_left x.orders x.awaiting order ends.mine in
            let l = live_at P t.desk actors are k.owned a x ex order c ends.live held in
            let is_its : is_of bl order ≡ true = ap (λ (o : OBlock). is_of o order) same ∙ of_order m block next order of in
            let found = only_of bl x.orders order ends.mine is_its (λ p h i. only_held P t.desk actors are k.owned a x ex order c ends.live held bl is_its p (Contains-append_left x.orders x.awaiting p h) i) in
            let is : new ≡ released t.desk (record { 0 = c }) = (subst (λ (o : Option Order). IsGivenUp o t.desk new) found d).0 l ∙ ap (λ (i : ℕ). released t.desk (record { 0 = i })) (at_there P t.desk actors are k.owned a x ex order c ends.live held) in
            desk_plain job plan xt (ReleaseOrder bl) Done new (λ q. absurd (cc)) e (ready job plan xt (Desk (ReleaseOrder bl)) e) (λ i. ap (λ (q : DeskState P). place_of q.tree.entries i) is)
            (over P t.desk actors are k.owned a x ex order c ends.live held bl is_its (k.parted a x ex) ends.mine new (ap (λ (q : DeskState P). q.orders.slots) is) (y job plan xt (Desk (ReleaseOrder bl)) Done)
            (ap (λ (o : Option (Job × Plan)). orders_released bl (job_of o) x.orders) xt) (ap (λ (o : Option (Job × Plan)). awaiting_released bl (job_of o) x.awaiting) xt))

    -- the desk has no memory for its entry
    pub map_refused_keeps : (bl : OBlock) (c : CBlock) (refusal : Refusal) → Desk (Map bl c) ≡ want plan → KeepingAt t (slice_set actors a (y job plan xt (Desk (Map bl c)) (GotRefused refusal)))
    map_refused_keeps bl c refusal e = plainly t (y job plan xt (Desk (Map bl c)) (GotRefused refusal)) (goes_among job plan xt t (Desk (Map bl c)) (GotRefused refusal) refl (λ q. absurd (cc))) refl (λ i. refl) (not_sealing job plan xt (Desk (Map bl c)) e (λ o p d q. absurd (cc))) (owned_same P t.desk actors a x (y job plan xt (Desk (Map bl c)) (GotRefused refusal)) ex k.owned t.desk refl refl) (y_parted job plan xt (Desk (Map bl c)) (GotRefused refusal))
        (mine job plan xt t.desk.tree.entries (Desk (Map bl c)) (GotRefused refusal) (Some (job, after plan (GotRefused refusal))) refl left)
      where
        left : RightWhere (place_of t.desk.tree.entries) x.card (after plan (GotRefused refusal)).steps
        left access o h = subst (λ (v : Want). SealsRight (place_of t.desk.tree.entries o.0) (after_refusal plan v refusal).steps) e (by plan.job refl)
          where
            by : (q : TaskJob) → plan.job ≡ q → SealsRight (place_of t.desk.tree.entries o.0) (lets_go plan.job)
            by (OnBlock j) is = subst (λ (q : TaskJob). SealsRight (place_of t.desk.tree.entries o.0) (lets_go q)) (sym is) (lets_go_right (place_of t.desk.tree.entries o.0) j (access_of j) (range_of j).block)
            by q is = absurd (let none = (subst (λ (q : TaskJob). SuitsJob shape.geometry.origin_blocks q x.card plan.steps) is its).0 in let bad : Nothing ≡ Held access o = sym none ∙ h in cc)

  -- a flush gives up an order that waits for it
  module _ (plan : Plan) (xt : x.task ≡ Some (Flush, plan)) where
    pub flush_release_keeps : (bl : OBlock) (new : DeskState P) → Desk (ReleaseOrder bl) ≡ want plan → DidRelease x.awaiting bl t.desk new → KeepingAt (record { words = t.words; desk = new }) (slice_set actors a (y Flush plan xt (Desk (ReleaseOrder bl)) Done))
    flush_release_keeps bl new e d = by (order_found bl x.awaiting) refl d
      where
        holds : x.card.hold ≡ Nothing
        holds = ready Flush plan xt (Desk (ReleaseOrder bl)) e

        held_is : held_of (y Flush plan xt (Desk (ReleaseOrder bl)) Done) ≡ (x.orders ++ dropped bl x.awaiting)
        held_is = ap (λ (o : Option (Job × Plan)). orders_released bl (job_of o) x.orders ++ awaiting_released bl (job_of o) x.awaiting) xt

        by : (o : Option Order) → order_found bl x.awaiting ≡ o → IsGivenUp o t.desk new → KeepingAt (record { words = t.words; desk = new }) (slice_set actors a (y Flush plan xt (Desk (ReleaseOrder bl)) Done))
        by None q d = desk_plain Flush plan xt (ReleaseOrder bl) Done new (λ q. absurd (cc)) e holds (λ i. ap (λ (v : DeskState P). place_of v.tree.entries i) d)
            (owned_within P t.desk actors a x (y Flush plan xt (Desk (ReleaseOrder bl)) Done) ex k.owned new (λ o h. then_had x (job_of x.task) (Desk (ReleaseOrder bl)) Done o h) (ap (λ (v : DeskState P). v.orders) d))
        by (Some order) q d =
            let mine = found_of bl x.awaiting order q in
            let had = Contains-append_right x.orders x.awaiting order mine.0 in
            let l = k.owned.live a x order ex had in
            let is : new ≡ released t.desk l.cache = d.0 l in
            desk_plain Flush plan xt (ReleaseOrder bl) Done new (λ q. absurd (cc)) e holds (λ i. ap (λ (v : DeskState P). place_of v.tree.entries i) is)
            (owned_over P t.desk actors a x (y Flush plan xt (Desk (ReleaseOrder bl)) Done) ex k.owned order bl l.cache l.live had l.there l.same mine.1
            (λ o h. elim (Contains-append_cases x.orders (dropped bl x.awaiting) o (subst (λ (os : List Order). Contains os o) held_is h)) [
              | inl i ↦ (Contains-append_left x.orders x.awaiting o i, other order l mine.0 mine.1 o i (is_of bl o) refl)
              | inr i ↦ (let r = dropped_is bl x.awaiting o i in (Contains-append_right x.orders x.awaiting o r.0, r.1))
            ])
            new (ap (λ (v : DeskState P). v.orders.slots) is))
          where
            other : (order : Order) → IsLive t.desk order → Contains x.awaiting order → is_of bl order ≡ true → (o : Order) → Contains x.orders o → (v : Bool) → is_of bl o ≡ v → is_of bl o ≡ false
            other order l w v o i false f = f
            other order l w v o i true f = absurd (
                let same : o ≡ order = one_of_block P t.desk actors known.is.orders k.owned o order (k.owned.live a x o ex (Contains-append_left x.orders x.awaiting o i)) l bl f v in
                k.parted a x ex o i (subst (λ (p : Order). Contains x.awaiting p) (sym same) w))
