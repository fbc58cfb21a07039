-- In every run each actor has what its task needs, and the words of the target that stands keep their rule.
use Rattle.std.proofs.Common.{◌≡◌, ◌∙◌, ◌<◌, ◌*◌, ◌/◌, inr, ℕ, Bool, List, [], ◌∷◌, Option, Some, None, refl, sym, ap, subst, slice_get, slice_set, arith, mul_comm, ◌++◌, inl, true, false}
use mathlib.Core.Option.{some}
use lib.ListN.{get_elem?}
use Rattle.wb_types.specs.declared.mode.Mode.{Mode}
use Rattle.wb_types.specs.declared.mode.Mode.TheVariants.{Writeback}
use Rattle.wb_types.specs.declared.extent.Extent.{Extent}
use Rattle.std.proofs.lemmas.Nat.{div_below}
use Rattle.wb_disk.specs.Device.{Content as Bytes, History}
use Rattle.wb_disk.specs.Crash.{Choice}
use Rattle.wb_disk.specs.Failing.{lands}
use Rattle.wb_words.specs.declared.card.Card.{Card}
use Rattle.wb_words.specs.declared.card.Hold.TheVariants.{Nothing}
use Rattle.wb_words.specs.declared.step.CellStep.{CellStep}
use Rattle.wb_words.specs.SharedWords.{fresh_words}
use Rattle.wb_words.specs.Cards.{blank_card}
use Rattle.wb_words.specs.Rule.{LockRule}
use Rattle.wb_words.specs.Effects.{result_of, card_after}
use Rattle.wb_meta.specs.Formats.{IsFormatted}
use Rattle.wb_meta.specs.declared.read_steps.ReadSteps.{ReadSteps}
use Rattle.wb_meta.specs.declared.read_steps.ReadSteps.TheVariants.{Begun, FirstSlotRead, RootFound, Done as AllRead}
use Rattle.wb_meta.specs.declared.read_steps.State.{State as Stored}
use Rattle.wb_tasks.specs.Tables.{BlockRange, OnBlock}
use Rattle.wb_tasks.specs.Plan.{Plan, want, table, after, Fits, got_of, device_of}
use Rattle.wb_tasks.specs.Ready.{MayTake, MayMake, Suits, AreBelow}
use Rattle.wb_tasks.proofs.Readiness.{keeps_ready, is_ready, flush_begins, opening_begins, ends_holding_nothing, suspend_begins}
use Rattle.wb_tasks.specs.declared.step.Answer.{Answer}
use Rattle.wb_tasks.specs.declared.step.Answer.TheVariants.{Done as Finished, Refused as Refuses}
use Rattle.wb_tasks.specs.declared.step.DeviceStep.{DeviceStep}
use Rattle.wb_tasks.specs.declared.step.Want.{Want}
use Rattle.wb_tasks.specs.declared.step.Want.TheVariants.{Cell, Device, Desk, End}
use Rattle.wb_tasks.specs.declared.step.Got.{Got}
use Rattle.wb_tasks.specs.declared.step.Got.TheVariants.{Fault}
use Rattle.wb_promise.specs.declared.job.Job.{Job}
use Rattle.wb_promise.specs.declared.job.Job.TheVariants.{Read, Write, Flush, Suspend, Open, Migrate, Replace, Invalidate}
use Rattle.wb_promise.specs.declared.event.Event.{Event}
use Rattle.wb_promise.specs.declared.event.Event.TheVariants.{Start, Step, FaultStep, Stop}
use Rattle.wb_promise.specs.declared.event.What.{What}
use Rattle.wb_promise.specs.declared.event.What.TheVariants.{Started, Stepped, Stopped}
use Rattle.wb_promise.specs.States.{Shape, State, Actor, Target, Phase, Stands, Gone, Opens, OfTarget, mode_of, resting, start}
use Rattle.wb_promise.specs.Happenings.{Chosen, Plain, Cut, Orders, order_for, Opened, Happening, OfSome, DoesNotApply, DoesOpen, MayFailAt, Falters, StartGives, Gives, MayBe, KeepsMigration, blocks_left, StartsAs, Looks, AreMapped, block_range, write_job}
use Rattle.wb_promise.specs.Effects.{card_then, task_then, actor_then, card_over, card_by, words_by, seals_of, phase_then, target_over, stepped, with_actor, cleared, given, phase_given, job_of, device_done, device_failed, all_resting, after_what, after_happening, after_all, IsRun, orders_then, awaiting_then, orders_given}
use Rattle.wb_runs.specs.Holding.{cards_of, TaskSuits, AllSuited, AreUsedRightly}
use Rattle.wb_runs.proofs.Extents.{MayStart, may_start, block_there, some_sectors}
use Rattle.wb_runs.proofs.Passing.{target_stands}
use Rattle.wb_types.specs.declared.number.OBlock.{OBlock}
use Rattle.wb_tasks.specs.declared.step.Migration.{Migration}
use Rattle.wb_tasks.specs.declared.step.Migration.TheVariants.{Promote, Demote, Clean}
use Rattle.wb_policy.specs.declared.order.Order.{Order}
use Rattle.wb_devices.specs.Clean.{entries_of}
use Rattle.wb_devices.proofs.BitEntries.{origin-with_bits}
use Rattle.wb_devices.specs.declared.devices.Devices.{Devices}
use Rattle.wb_contents.proofs.Lists.{replicated}
use Rattle.wb_runs.proofs.Lists.{free, first_or}
use Rattle.wb_runs.proofs.Images.{Turns}
use Rattle.wb_runs.proofs.Given.{given_keeps}
use Rattle.wb_runs.proofs.Ordering.{OrderInside, OrdersInside, AllOrdersInside, orders_left, order_given, held_of, in_orders}
use Rattle.wb_runs.proofs.Sealing.{EntriesInside, fresh_taken, all_sealed, Sealed}
use Rattle.wb_runs.proofs.MetadataRuns.{IsKnown, known_after, known_at_start}
use Rattle.wb_runs.proofs.Stepping.{done_kept}
use Rattle.wb_runs.proofs.Ruling.{rule_after, rule_same, AllBlank, fresh_ruled, each_set, all_rest, cards_set, card_at}
use Rattle.wb_runs.proofs.Suiting.{gives_fits, word_given}
use Rattle.wb_policy.specs.declared.order.Order.TheVariants.{Promote as PromoteOrder, Replace as ReplaceOrder, Demote as DemoteOrder, Clean as CleanOrder}
use Rattle.wb_types.specs.declared.number.CBlock.{CBlock}
use Rattle.wb_runs.proofs.Plans.{task_suits}
use Rattle.wb_desk.proofs.Leaving.{mapped_within}

-- an actor that has a task opens
abbrev pub OpensOrRests : Option (Job × Plan) → Type 0
OpensOrRests None = Unit {0}
OpensOrRests (Some doing) = (mode : Mode) × (second : Bool) × (doing.0 ≡ Open mode second)

abbrev pub AllOpen : List Actor → Type 0
AllOpen actors = (a : ℕ) (x : Actor) → slice_get actors a ≡ Some x → OpensOrRests x.task

-- a write's first steps suit whoever has nothing
write_suits : (mode : Mode) (part : BlockRange) (card : Card) {blocks : ℕ} → part.block.0 < blocks → card.hold ≡ Nothing → Suits blocks (table (OnBlock (write_job mode part))) card
write_suits Writeback part card b h = (b, (h, refl))
write_suits mode part card b h = (b, (h, refl))

-- a request starts on a block of the origin
starts_inside : (shape : Shape) (extent : Extent) → MayStart shape extent → extent.first / shape.geometry.block < shape.geometry.origin_blocks
starts_inside shape extent m = div_below extent.first shape.geometry.block shape.geometry.origin_blocks (some_sectors shape extent m) inside
  where
    inside : extent.first < shape.geometry.origin_blocks * shape.geometry.block
    inside = omega (arith, m.some, m.inside, mul_comm shape.geometry.block shape.geometry.origin_blocks)

module _ (P A : Type 0) (shape : Shape) where
  abbrev pub blocks : ℕ
  blocks = shape.geometry.origin_blocks

  -- Where a target stands its words keep their rule; else nobody knows anything, and beside an opening nobody has a task.
  abbrev pub InPhase : Phase P A → List Actor → Type 0
  InPhase (Stands t) actors = LockRule blocks t.words (cards_of actors)
  InPhase Gone actors = AllBlank actors
  InPhase (Opens mode reading) actors = AllBlank actors × AllOpen actors

  pub record UsedRightly (phase : Phase P A) (actors : List Actor) : Type 0 where
    pub suited : AllSuited blocks actors
    pub here : InPhase phase actors
    pub orders : AllOrdersInside shape.geometry actors

  -- ---- one actor goes on

  module _ (devices : Devices (List History)) (actors : List Actor) (a : ℕ) (x : Actor) (e : slice_get actors a ≡ Some x) (job : Job) (plan : Plan) (xt : x.task ≡ Some (job, plan)) (all : AllSuited blocks actors) (ords : AllOrdersInside shape.geometry actors) where
    suits : Suits blocks plan x.card
    suits = task_suits blocks x xt (all a x e)

    set_suited : (y : Actor) → TaskSuits blocks y.card y.task → AllSuited blocks (slice_set actors a y)
    set_suited y s = each_set actors a x y (λ (z : Actor). TaskSuits blocks z.card z.task) e s all

    set_orders : (y : Actor) → OrdersInside shape.geometry (held_of y) → AllOrdersInside shape.geometry (slice_set actors a y)
    set_orders y s = each_set actors a x y (λ (z : Actor). OrdersInside shape.geometry (held_of z)) e s ords

    left : (next : Want) (got : Got) → OrdersInside shape.geometry (orders_then x.orders x.awaiting (job_of x.task) next got ++ awaiting_then x.orders x.awaiting (job_of x.task) next got)
    left next got = orders_left shape.geometry x (job_of x.task) next got (ords a x e)

    -- by a step
    goes_on : (next : Want) (got : Got) (card' : Card) → next ≡ want plan → Fits next got → MayMake next got x.card card' → TaskSuits blocks card' (Some (job, after plan got))
    goes_on next got card' h f m = keeps_ready blocks plan x.card card' got suits (subst (λ (v : Want). Fits v got) h f) (subst (λ (v : Want). MayMake v got x.card card') h m)

    -- by its answer
    ends : (answer : Answer) → End answer ≡ want plan → x.card.hold ≡ Nothing
    ends answer h = ends_holding_nothing blocks plan x.card answer suits (sym h)

    blank_set : (y : Actor) → y.card ≡ blank_card → AllBlank actors → AllBlank (slice_set actors a y)
    blank_set y s b = each_set actors a x y (λ (z : Actor). z.card ≡ blank_card) e s b

    open_set : (y : Actor) → OpensOrRests y.task → AllOpen actors → AllOpen (slice_set actors a y)
    open_set y s o = each_set actors a x y (λ (z : Actor). OpensOrRests z.task) e s o

    -- what is still opening
    opens_still : (got : Got) → AllOpen actors → OpensOrRests (Some (job, after plan got))
    opens_still got o = subst (λ (t : Option (Job × Plan)). OpensOrRests t) xt (o a x e)

    is_open : AllOpen actors → (mode : Mode) × (second : Bool) × (job ≡ Open mode second)
    is_open o = subst (λ (t : Option (Job × Plan)). OpensOrRests t) xt (o a x e)

    -- it goes on with the card that it has
    keeps_card : (phase : Phase P A) (next : Want) (got : Got) (y : Actor) → y.card ≡ x.card → y.task ≡ Some (job, after plan got) → OrdersInside shape.geometry (held_of y) → next ≡ want plan → Fits next got → MayMake next got x.card x.card → InPhase phase actors → UsedRightly phase (slice_set actors a y)
    keeps_card phase next got y card task held h f m i = record {
      suited = set_suited y (subst (λ (c : Card). TaskSuits blocks c y.task) (sym card) (subst (λ (o : Option (Job × Plan)). TaskSuits blocks x.card o) (sym task) (goes_on next got x.card h f m)));
      here = here phase i;
      orders = set_orders y held;
    }
      where
        here : (phase : Phase P A) → InPhase phase actors → InPhase phase (slice_set actors a y)
        here (Stands t) i = rule_same blocks t.words actors a x y i e card
        here Gone i = blank_set y (card ∙ i a x e) i
        here (Opens mode reading) i = (blank_set y (card ∙ i.0 a x e) i.0, open_set y (subst OpensOrRests (sym task) (opens_still got i.1)) i.1)

    -- so at a step on a device, done or failed, or of the desk
    abbrev KeepsCard : Want → Type 0
    KeepsCard (Device step) = Unit {0}
    KeepsCard (Desk step) = Unit {0}
    KeepsCard next = ⊥

    on_plain : (phase : Phase P A) (next : Want) (got : Got) (chosen : Chosen P A) → KeepsCard next → InPhase phase actors → next ≡ want plan → Fits next got → UsedRightly (phase_then shape phase next got chosen) (slice_set actors a (actor_then {P = P} {A = A} shape phase devices x next got))
    on_plain phase next got chosen k i h f = let s = still phase next k i in keeps_card _ next got (actor_then {P = P} {A = A} shape phase devices x next got) s.0 (ap (λ (o : Option (Job × Plan)). task_then o next got) xt ∙ s.1) (left next got) h f s.2 s.3
      where
        still : (phase : Phase P A) (next : Want) → KeepsCard next → InPhase phase actors → (card_then shape phase x.card next ≡ x.card) × (task_then (Some (job, plan)) next got ≡ Some (job, after plan got)) × MayMake next got x.card x.card × InPhase (phase_then shape phase next got chosen) actors
        still (Stands t) (Device step) k i = (refl, refl, refl, i)
        still (Stands t) (Desk step) k i = (refl, refl, refl, i)
        still phase (Device step) k i = (refl, refl, refl, i)
        still phase (Desk step) k i = (refl, refl, refl, i)
        still phase next k i = absurd k

    -- on the words
    on_words : (phase : Phase P A) (step : CellStep) (got : Got) (chosen : Chosen P A) → InPhase phase actors → Cell step ≡ want plan → Fits (Cell step) got → OfTarget phase (λ t. got ≡ got_of (result_of t.words step)) →
        UsedRightly (phase_then shape phase (Cell step) got chosen) (slice_set actors a (actor_then {P = P} {A = A} shape phase devices x (Cell step) got))
    on_words (Stands t) step got chosen i h f g = record {
      suited = set_suited _ (subst (λ (o : Option (Job × Plan)). TaskSuits blocks (card_after t.words step x.card) (task_then o (Cell step) got)) (sym xt) (goes_on (Cell step) got (card_after t.words step x.card) h f (t.words, g, refl)));
      here = rule_after blocks t.words actors a x _ step i e (subst (λ (v : Want). MayTake blocks x.card v) (sym h) (is_ready blocks plan x.card suits)) refl;
      orders = set_orders _ (left (Cell step) got);
    }
    on_words phase step got chosen i h f g = absurd g

    -- an answer where a target stands, or none
    on_answer : (t : Target P) (answer : Answer) (got : Got) (chosen : Chosen P A) → InPhase (Stands t) actors → End answer ≡ want plan →
        UsedRightly (phase_then shape (Stands t) (End answer) got chosen) (slice_set actors a (actor_then {P = P} {A = A} shape (Stands t) devices x (End answer) got))
    on_answer t answer got chosen i h = record {
      suited = set_suited _ (subst (λ (o : Option (Job × Plan)). TaskSuits blocks x.card (task_then o (End answer) got)) (sym xt) (ends answer h));
      here = rule_same blocks t.words actors a x _ i e refl;
      orders = set_orders _ (left (End answer) got);
    }

    gone_answer : (answer : Answer) (got : Got) (chosen : Chosen P A) → InPhase Gone actors → End answer ≡ want plan →
        UsedRightly (phase_then {P = P} {A = A} shape Gone (End answer) got chosen) (slice_set actors a (actor_then {P = P} {A = A} shape Gone devices x (End answer) got))
    gone_answer answer got chosen i h = record {
      suited = set_suited _ (subst (λ (o : Option (Job × Plan)). TaskSuits blocks x.card (task_then o (End answer) got)) (sym xt) (ends answer h));
      here = blank_set _ (i a x e) i;
      orders = set_orders _ (left (End answer) got);
    }

    -- an opening that is refused
    refused_answer : (mode : Mode) (reading : Option (ReadSteps A)) (refusal : _) (got : Got) → AllBlank actors → End (Refuses refusal) ≡ want plan →
        UsedRightly Gone (slice_set actors a (actor_then {P = P} {A = A} shape (Opens mode reading) devices x (End (Refuses refusal)) got))
    refused_answer mode reading refusal got b h = record {
      suited = set_suited _ (subst (λ (o : Option (Job × Plan)). TaskSuits blocks x.card (task_then o (End (Refuses refusal)) got)) (sym xt) (ends (Refuses refusal) h));
      here = blank_set _ (b a x e) b;
      orders = set_orders _ (left (End (Refuses refusal)) got);
    }

    -- and one that is done
    opened_answer : (mode : Mode) (stored : Stored A) (policy : P) (got : Got) → AllBlank actors → EntriesInside blocks (entries_of stored) →
        UsedRightly (Stands (target_over shape mode policy stored)) (slice_set actors a (actor_then {P = P} {A = A} shape (Opens mode (Some (AllRead stored))) devices x (End Finished) got))
    opened_answer mode stored policy got b inside = record {
      suited = set_suited _ (subst (λ (o : Option (Job × Plan)). TaskSuits blocks (card_over shape x.card (Some (AllRead stored))) (task_then o (End Finished) got)) (sym xt) done.nothing);
      here = subst (λ (cs : List Card). LockRule blocks (words_by (fresh_words blocks) (seals_of stored)) cs) (sym (cards_set actors a (actor_then {P = P} {A = A} shape (Opens mode (Some (AllRead stored))) devices x (End Finished) got))) done.rule;
      orders = set_orders _ (left (End Finished) got);
    }
      where
        done : Sealed blocks stored.root.clean a (words_by (fresh_words blocks) (seals_of stored)) (cards_of actors) (card_by (fresh_words blocks) blank_card (seals_of stored))
        done = all_sealed blocks stored.root.clean a 0 (entries_of stored) (fresh_words blocks) (cards_of actors) blank_card inside (fresh_ruled blocks actors b)
            (subst (λ (c : Card). get_elem? (cards_of actors) a ≡ some c) (b a x e) (card_at actors a x e)) refl (fresh_taken blocks)

  -- ---- each step

  module _ (w : State P A) (got : Got) (read : List Bytes) (chosen : Chosen P A) (a : ℕ) (x : Actor) (job : Job) (plan : Plan) (known : IsKnown P A shape w) (e : slice_get w.actors a ≡ Some x) (xt : x.task ≡ Some (job, plan)) where
    abbrev Then : Phase P A → Want → Type 0
    Then phase next = UsedRightly (phase_then shape phase next got chosen) (slice_set w.actors a (actor_then {P = P} {A = A} shape phase w.devices x next got))

    -- an opening's answer
    opens : (mode : Mode) (reading : Option (ReadSteps A)) (answer : Answer) → w.phase ≡ Opens mode reading → AllSuited blocks w.actors → AllOrdersInside shape.geometry w.actors → InPhase (Opens mode reading) w.actors → End answer ≡ want plan → Gives shape w x job (End answer) got read chosen → Then (Opens mode reading) (End answer)
    opens mode reading (Refuses refusal) p all ords i h g =
        subst (λ (c : Chosen P A). UsedRightly (phase_then shape (Opens mode reading) (End (Refuses refusal)) got c) (slice_set w.actors a (actor_then {P = P} {A = A} shape (Opens mode reading) w.devices x (End (Refuses refusal)) got))) (sym (plain job g))
        (refused_answer w.devices w.actors a x e job plan xt all ords mode reading refusal got i.0 h)
      where
        plain : (j : Job) → Gives shape w x j (End (Refuses refusal)) got read chosen → chosen ≡ Plain
        plain (Read extent) g = g.0.1
        plain j g = g.0.1
    opens mode reading Finished p all ords i h g =
        let o = is_open w.devices w.actors a x e job plan xt all ords i.1 in
        let done : Gives shape w x (Open o.0 o.1) (End Finished) got read chosen = subst (λ (j : Job). Gives shape w x j (End Finished) got read chosen) o.2 g in
        let kept = done_kept P A shape w x got read chosen known.images x.buffer (Open o.0 o.1) (End Finished) known.known done in
        by_reading reading chosen (subst (λ (q : Phase P A). DoesOpen q w.commit chosen) p done.2)
        (subst (λ (q : Phase P A). Turns (λ now. Rattle.wb_runs.proofs.Metadata.MetadataKept shape.geometry now (phase_then shape q (End Finished) got chosen) (Rattle.wb_promise.specs.Effects.commit_then q w.commit (End Finished) got chosen) w.devices.metadata) known.images) p kept)
      where
        by_reading : (r : Option (ReadSteps A)) (c : Chosen P A) → DoesOpen (Opens mode r) w.commit c →
            Turns (λ now. Rattle.wb_runs.proofs.Metadata.MetadataKept shape.geometry now (phase_then shape (Opens mode r) (End Finished) got c) (Rattle.wb_promise.specs.Effects.commit_then (Opens mode r) w.commit (End Finished) got c) w.devices.metadata) known.images →
            UsedRightly (phase_then shape (Opens mode r) (End Finished) got c) (slice_set w.actors a (actor_then {P = P} {A = A} shape (Opens mode r) w.devices x (End Finished) got))
        by_reading (Some (AllRead stored)) (Opened policy) d k = opened_answer w.devices w.actors a x e job plan xt all ords mode stored policy got i.0
            (λ at entry f.
            let o = origin-with_bits stored.dirty stored.tree.entries at entry f in
            subst (λ (b : OBlock). b.0 < blocks) o.same (subst (λ (n : ℕ). o.was.origin.0 < n) k.kept.is.sizes.origin_blocks (k.kept.is.kept.mapping.within at o.was o.there).0))
        by_reading (Some (Begun alloc global)) (Opened policy) d k = absurd d.0
        by_reading (Some (FirstSlotRead alloc global first)) (Opened policy) d k = absurd d.0
        by_reading (Some (RootFound global root loader nodes)) (Opened policy) d k = absurd d.0
        by_reading None (Opened policy) d k = absurd d.0
        by_reading r c d k = absurd d

    answers : (phase : Phase P A) (answer : Answer) → w.phase ≡ phase → AllSuited blocks w.actors → AllOrdersInside shape.geometry w.actors → InPhase phase w.actors → End answer ≡ want plan → Gives shape w x job (End answer) got read chosen → Then phase (End answer)
    answers (Stands t) answer p all ords i h g = on_answer w.devices w.actors a x e job plan xt all ords t answer got chosen i h
    answers Gone answer p all ords i h g = gone_answer w.devices w.actors a x e job plan xt all ords answer got chosen i h
    answers (Opens mode reading) answer p all ords i h g = opens mode reading answer p all ords i h g

    steps : (next : Want) → UsedRightly w.phase w.actors → next ≡ want plan → Gives shape w x job next got read chosen → Then w.phase next
    steps (Cell step) u h g = on_words w.devices w.actors a x e job plan xt u.suited u.orders w.phase step got chosen u.here h (gives_fits P A shape w x got read chosen job (Cell step) tt g) (word_given P A shape w x got read chosen job step g)
    steps (Device step) u h g = on_plain w.devices w.actors a x e job plan xt u.suited u.orders w.phase (Device step) got chosen tt u.here h (gives_fits P A shape w x got read chosen job (Device step) tt g)
    steps (Desk step) u h g = on_plain w.devices w.actors a x e job plan xt u.suited u.orders w.phase (Desk step) got chosen tt u.here h (gives_fits P A shape w x got read chosen job (Desk step) tt g)
    steps (End answer) u h g = answers w.phase answer refl u.suited u.orders u.here h g

  -- whoever takes it
  stepped_used : (w : State P A) (a : ℕ) (next : Want) (got : Got) (read : List Bytes) (chosen : Chosen P A) (o : Option Actor) → slice_get w.actors a ≡ o → IsKnown P A shape w → UsedRightly w.phase w.actors →
      OfSome o (λ x. OfSome x.task (λ doing. (next ≡ want doing.1) × Gives shape w x doing.0 next got read chosen)) →
      UsedRightly (phase_then shape w.phase next got chosen) (with_actor w o (λ x. stepped shape w a x next got chosen (λ step. device_done (job_of x.task) x.buffer step chosen))).actors
  stepped_used w a next got read chosen None e k u h = absurd h
  stepped_used w a next got read chosen (Some x) e k u h = by_task x.task refl h
    where
      by_task : (t : Option (Job × Plan)) → x.task ≡ t → OfSome t (λ doing. (next ≡ want doing.1) × Gives shape w x doing.0 next got read chosen) →
          UsedRightly (phase_then shape w.phase next got chosen) (slice_set w.actors a (actor_then {P = P} {A = A} shape w.phase w.devices x next got))
      by_task None xt h = absurd h
      by_task (Some doing) xt h = steps w got read chosen a x doing.0 doing.1 k e xt next u h.0 h.1

  faulted_used : (w : State P A) (a : ℕ) (choice : Choice) (next : Want) (chosen : Chosen P A) (o : Option Actor) → slice_get w.actors a ≡ o → UsedRightly w.phase w.actors →
      OfSome o (λ x. OfSome x.task (λ doing. (next ≡ want doing.1) × MayFailAt w.devices choice next × Falters w choice next chosen)) →
      UsedRightly (phase_then shape w.phase next Fault chosen) (with_actor w o (λ x. stepped shape w a x next Fault chosen (λ step. device_failed (lands (device_of step) choice) (job_of x.task) x.buffer step chosen))).actors
  faulted_used w a choice next chosen None e u h = absurd h
  faulted_used w a choice next chosen (Some x) e u h = by_task x.task refl h
    where
      by_next : (job : Job) (plan : Plan) (next : Want) → x.task ≡ Some (job, plan) → next ≡ want plan → MayFailAt w.devices choice next → UsedRightly (phase_then shape w.phase next Fault chosen) (slice_set w.actors a (actor_then {P = P} {A = A} shape w.phase w.devices x next Fault))
      by_next job plan (Device step) xt h m = on_plain w.devices w.actors a x e job plan xt u.suited u.orders w.phase (Device step) Fault chosen tt u.here h tt
      by_next job plan next xt h m = absurd m

      by_task : (t : Option (Job × Plan)) → x.task ≡ t → OfSome t (λ doing. (next ≡ want doing.1) × MayFailAt w.devices choice next × Falters w choice next chosen) →
          UsedRightly (phase_then shape w.phase next Fault chosen) (slice_set w.actors a (actor_then {P = P} {A = A} shape w.phase w.devices x next Fault))
      by_task None xt h = absurd h
      by_task (Some doing) xt h = by_next doing.0 doing.1 next xt h.0 h.1

  -- ---- starts

  rest_used : (actors : List Actor) → AllSuited blocks (all_resting actors)
  rest_used actors a x e = subst (λ (v : Actor). TaskSuits blocks v.card v.task) (sym (all_rest actors a x e)) refl

  rest_blank : (actors : List Actor) → AllBlank (all_resting actors)
  rest_blank actors a x e = ap (λ (v : Actor). v.card) (all_rest actors a x e)

  rest_open : (actors : List Actor) → AllOpen (all_resting actors)
  rest_open actors a x e = subst (λ (v : Actor). OpensOrRests v.task) (sym (all_rest actors a x e)) tt

  rest_orders : (actors : List Actor) → AllOrdersInside shape.geometry (all_resting actors)
  rest_orders actors a x e = subst (λ (v : Actor). OrdersInside shape.geometry (held_of v)) (sym (all_rest actors a x e)) (λ order m. absurd (omega (arith, m.1)))

  -- an order that is given leaves all this
  used_given : (phase : Phase P A) (job : Job) (chosen : Chosen P A) {actors : List Actor} → UsedRightly phase actors → UsedRightly (phase_given phase job chosen) actors
  used_given phase job chosen {actors} = given_keeps (λ (q : Phase P A). UsedRightly q actors) (λ t desk u. record { suited = u.suited; here = u.here; orders = u.orders }) phase job chosen

  -- a task of an actor that has none
  starts_task : (phase : Phase P A) (actors : List Actor) (a : ℕ) (x y : Actor) → slice_get actors a ≡ Some x → y.card ≡ x.card → TaskSuits blocks y.card y.task → OrdersInside shape.geometry (held_of y) → (¬ ¬ OfTarget phase (λ t. Unit {0})) → UsedRightly phase actors → UsedRightly phase (slice_set actors a y)
  starts_task (Stands t) actors a x y e c s o n u = record {
    suited = each_set actors a x y (λ (z : Actor). TaskSuits blocks z.card z.task) e s u.suited;
    here = rule_same blocks t.words actors a x y u.here e c;
    orders = each_set actors a x y (λ (z : Actor). OrdersInside shape.geometry (held_of z)) e o u.orders;
  }
  starts_task phase actors a x y e c s o n u = absurd (n (λ z. z))

  -- so an actor without a task begins one
  begins_used : (w : State P A) (a : ℕ) (job : Job) (chosen : Chosen P A) (x : Actor) → slice_get w.actors a ≡ Some x → TaskSuits blocks x.card (given {P = P} {A = A} shape (mode_of w.phase) x job chosen).task → OrdersInside shape.geometry (held_of (given {P = P} {A = A} shape (mode_of w.phase) x job chosen)) → ¬ (¬ OfTarget w.phase (λ t. Unit {0})) → UsedRightly w.phase w.actors →
      UsedRightly (phase_given w.phase job chosen) (slice_set w.actors a (given {P = P} {A = A} shape (mode_of w.phase) x job chosen))
  begins_used w a job chosen x e s o n u = used_given w.phase job chosen (starts_task w.phase w.actors a x _ e refl s o n u)

  holds_nothing : (w : State P A) (x : Actor) (a : ℕ) → UsedRightly w.phase w.actors → slice_get w.actors a ≡ Some x → x.task ≡ None → x.card.hold ≡ Nothing
  holds_nothing w x a u e f = task_suits blocks x f (u.suited a x e)

  abbrev AfterWhat : State P A → Type 0
  AfterWhat w = UsedRightly w.phase w.actors

  abbrev Started_so : State P A → ℕ → Job → Chosen P A → Option Actor → Type 0
  Started_so w a job chosen o = AfterWhat (with_actor (cleared w job) o (λ x. record (cleared w job) { phase = phase_given (cleared w job).phase job chosen; actors = slice_set (cleared w job).actors a (given shape (mode_of (cleared w job).phase) x job chosen) }))

  -- the block of an order that is inside
  block_inside : (migration : Migration) (block : OBlock) → OrderInside shape.geometry (order_for migration block) → block.0 < blocks
  block_inside (Promote c) block i = i.0
  block_inside Demote block i = i
  block_inside Clean block i = i

  -- the order of a migration that starts, which its actor kept or is given; a promotion may follow under a replacement
  kept_inside : (t : Target P) (kept : List Order) (migration : Migration) (block : OBlock) → OrdersInside shape.geometry kept → KeepsMigration t.desk kept migration block → OrderInside shape.geometry (order_for migration block)
  kept_inside t kept (Promote c) block o k = elim k [
    | inl m ↦ o (PromoteOrder block c) m
    | inr f ↦ let i = o (ReplaceOrder f.0 block c) f.1 in (i.1, i.2)
  ]
  kept_inside t kept Demote block o k = o (DemoteOrder block) k
  kept_inside t kept Clean block o k = o (CleanOrder block) k

  pub order_inside : (i : _) (phase : Phase P A) (commit : _) (m : List History) (actor : Option Actor) (migration : Migration) (block : OBlock) (chosen : Chosen P A) → Rattle.wb_runs.proofs.Metadata.MetadataKept shape.geometry i phase commit m →
      OrdersInside shape.geometry (Rattle.wb_promise.specs.Happenings.orders_in actor) → StartGives shape phase actor (Migrate migration block) Started chosen → OrderInside shape.geometry (order_for migration block)
  order_inside i (Stands t) commit m actor migration block (Cut cut) k o g = kept_inside t (Rattle.wb_promise.specs.Happenings.orders_in actor) migration block o g.1
  order_inside i (Stands t) commit m actor migration block (Orders cut cache) k o g = order_given P shape.geometry t.desk cache (order_for migration block) k.is g.1
  order_inside i phase commit m actor migration block (Cut cut) k o g = absurd g.1
  order_inside i phase commit m actor migration block (Orders cut cache) k o g = absurd g.1
  order_inside i phase commit m actor migration block chosen k o g = absurd g

  -- and of a replacement, with the cache block that it takes
  pub replacement_inside : (i : _) (phase : Phase P A) (commit : _) (m : List History) (actor : Option Actor) (old new : OBlock) (chosen : Chosen P A) → Rattle.wb_runs.proofs.Metadata.MetadataKept shape.geometry i phase commit m →
      OrdersInside shape.geometry (Rattle.wb_promise.specs.Happenings.orders_in actor) → StartGives shape phase actor (Replace old new) Started chosen → (cache : CBlock) × OrderInside shape.geometry (ReplaceOrder old new cache)
  replacement_inside i (Stands t) commit m actor old new (Cut cut) k o g = (g.1.0, o (ReplaceOrder old new g.1.0) g.1.1)
  replacement_inside i (Stands t) commit m actor old new (Orders cut cache) k o g = (cache, order_given P shape.geometry t.desk cache (ReplaceOrder old new cache) k.is g.1)
  replacement_inside i phase commit m actor old new (Cut cut) k o g = absurd g.1
  replacement_inside i phase commit m actor old new (Orders cut cache) k o g = absurd g.1
  replacement_inside i phase commit m actor old new chosen k o g = absurd g

  -- one order more is inside, where it is and all others are
  one_more : (order : Order) (orders : List Order) → OrderInside shape.geometry order → OrdersInside shape.geometry orders → OrdersInside shape.geometry (order ∷ orders)
  one_more order orders n o = λ p m. first_or order p orders (OrderInside shape.geometry p) m (λ e. subst (λ (q : Order). OrderInside shape.geometry q) (sym e) n) (λ r. o p r)

  given_orders : (migration : Migration) (block : OBlock) (x : Actor) (chosen : Chosen P A) → OrderInside shape.geometry (order_for migration block) → OrdersInside shape.geometry (held_of x) → OrdersInside shape.geometry (orders_given x.orders (Migrate migration block) chosen ++ x.awaiting)
  given_orders migration block x (Orders cut cache) n o = one_more (order_for migration block) (held_of x) n o
  given_orders migration block x chosen n o = o

  replacement_given : (i : _) (phase : Phase P A) (commit : _) (m : List History) (old new : OBlock) (x : Actor) (chosen : Chosen P A) → Rattle.wb_runs.proofs.Metadata.MetadataKept shape.geometry i phase commit m →
      StartGives shape phase (Some x) (Replace old new) Started chosen → OrdersInside shape.geometry (held_of x) → OrdersInside shape.geometry (orders_given x.orders (Replace old new) chosen ++ x.awaiting)
  replacement_given i (Stands t) commit m old new x (Orders cut cache) k g o = one_more (ReplaceOrder old new cache) (held_of x) (order_given P shape.geometry t.desk cache (ReplaceOrder old new cache) k.is g.1) o
  replacement_given i Gone commit m old new x (Orders cut cache) k g o = absurd g.1
  replacement_given i (Opens mode reading) commit m old new x (Orders cut cache) k g o = absurd g.1
  replacement_given i phase commit m old new x chosen k g o = o

  -- blocks that the desk maps are there
  looks_below : (w : State P A) (looks : List OBlock) → IsKnown P A shape w → OfTarget w.phase (λ t. AreMapped t.desk looks) → AreBelow blocks looks
  looks_below w looks k m = by_phase w.phase w.commit k.known m
    where
      by_phase : (phase : Phase P A) (commit : _) → Rattle.wb_runs.proofs.Metadata.MetadataKept shape.geometry k.images phase commit w.devices.metadata → OfTarget phase (λ t. AreMapped t.desk looks) → AreBelow blocks looks
      by_phase (Stands t) commit known m = λ block c. let at = m.each block c in
          subst (λ (n : ℕ). block.0 < n) known.is.sizes.origin_blocks (mapped_within {P = P} Rattle.wb_runs.proofs.Metadata.unknowing t.desk block.0 at.0 known.is.kept at.1).1
      by_phase phase commit known m = absurd m

  starts : (w : State P A) (a : ℕ) (job : Job) (chosen : Chosen P A) → IsKnown P A shape w → UsedRightly w.phase w.actors → (¬ DoesNotApply w (Start a job)) → StartsAs shape w a job Started chosen → Started_so w a job chosen (slice_get (cleared w job).actors a)
  starts w a (Open mode second) chosen k u applies gives = by_actor (slice_get (all_resting w.actors) a) refl
    where
      by_actor : (o : Option Actor) → slice_get (all_resting w.actors) a ≡ o → Started_so w a (Open mode second) chosen o
      by_actor None e = record { suited = rest_used w.actors; here = (rest_blank w.actors, rest_open w.actors); orders = rest_orders w.actors }
      by_actor (Some x) e =
          let blank : x.card ≡ blank_card = ap (λ (v : Actor). v.card) (all_rest w.actors a x e) in
          let y : Actor = given shape (mode_of (cleared w (Open mode second)).phase) x (Open mode second) chosen in
          record {
            suited = each_set (all_resting w.actors) a x y (λ (z : Actor). TaskSuits blocks z.card z.task) e (opening_begins blocks shape.geometry.meta_sectors x.card (ap (λ (c : Card). c.hold) blank)) (rest_used w.actors);
            here = (each_set (all_resting w.actors) a x y (λ (z : Actor). z.card ≡ blank_card) e blank (rest_blank w.actors), each_set (all_resting w.actors) a x y (λ (z : Actor). OpensOrRests z.task) e (mode, second, refl) (rest_open w.actors));
            orders = each_set (all_resting w.actors) a x y (λ (z : Actor). OrdersInside shape.geometry (held_of z)) e (rest_orders w.actors a x e) (rest_orders w.actors);
          }
  starts w a Flush chosen k u applies gives =
      let f = free P A w a Flush applies in
      subst (λ (o : Option Actor). Started_so w a Flush chosen o) (sym f.1)
      (begins_used w a Flush chosen f.0 f.1 (flush_begins blocks (blocks_left f.0.awaiting) (Rattle.wb_promise.specs.Happenings.most_for shape.geometry false) f.0.card (holds_nothing w f.0 a u f.1 f.2)) (u.orders a f.0 f.1) (λ m. applies (inr (inr (inr m)))) u)
  starts w a Suspend (Looks looks) k u applies gives =
      let f = free P A w a Suspend applies in
      subst (λ (o : Option Actor). Started_so w a Suspend (Looks looks) o) (sym f.1)
      (begins_used w a Suspend (Looks looks) f.0 f.1 (suspend_begins blocks looks (Rattle.wb_promise.specs.Happenings.most_for shape.geometry true) f.0.card (looks_below w looks k gives.1) (holds_nothing w f.0 a u f.1 f.2)) (u.orders a f.0 f.1) (λ m. applies (inr (inr (inr m)))) u)
  starts w a (Read extent) (Cut cut) k u applies gives =
      let f = free P A w a (Read extent) applies in
      subst (λ (o : Option Actor). Started_so w a (Read extent) (Cut cut) o) (sym f.1)
      (begins_used w a (Read extent) (Cut cut) f.0 f.1 (starts_inside shape extent (may_start shape extent gives.0), (holds_nothing w f.0 a u f.1 f.2, refl)) (u.orders a f.0 f.1) (λ m. applies (inr (inr (inr m)))) u)
  starts w a (Write extent content) (Cut cut) k u applies gives =
      let f = free P A w a (Write extent content) applies in
      subst (λ (o : Option Actor). Started_so w a (Write extent content) (Cut cut) o) (sym f.1)
      (begins_used w a (Write extent content) (Cut cut) f.0 f.1 (write_suits (mode_of w.phase) (block_range shape (mode_of w.phase) extent cut) f.0.card (starts_inside shape extent (may_start shape extent gives.0)) (holds_nothing w f.0 a u f.1 f.2)) (u.orders a f.0 f.1) (λ m. applies (inr (inr (inr m)))) u)
  starts w a (Invalidate block) Plain k u applies gives =
      let f = free P A w a (Invalidate block) applies in
      subst (λ (o : Option Actor). Started_so w a (Invalidate block) Plain o) (sym f.1)
      (begins_used w a (Invalidate block) Plain f.0 f.1 (block_there shape block gives, (holds_nothing w f.0 a u f.1 f.2, refl)) (u.orders a f.0 f.1) (λ m. applies (inr (inr (inr (λ o. m (target_stands w.phase o)))))) u)
  starts w a (Migrate migration block) chosen k u applies gives =
      let f = free P A w a (Migrate migration block) applies in
      let kept = subst (λ (o : Option Actor). OrdersInside shape.geometry (Rattle.wb_promise.specs.Happenings.orders_in o)) (sym f.1) (λ order m. u.orders a f.0 f.1 order (in_orders f.0 order m)) in
      let inside = order_inside k.images w.phase w.commit w.devices.metadata (slice_get w.actors a) migration block chosen k.known kept gives in
      subst (λ (o : Option Actor). Started_so w a (Migrate migration block) chosen o) (sym f.1)
      (begins_used w a (Migrate migration block) chosen f.0 f.1 (block_inside migration block inside, (holds_nothing w f.0 a u f.1 f.2, refl))
      (given_orders migration block f.0 chosen inside (u.orders a f.0 f.1)) (λ m. applies (inr (inr (inr m)))) u)
  starts w a (Replace old new) chosen k u applies gives =
      let f = free P A w a (Replace old new) applies in
      let kept = subst (λ (o : Option Actor). OrdersInside shape.geometry (Rattle.wb_promise.specs.Happenings.orders_in o)) (sym f.1) (λ order m. u.orders a f.0 f.1 order (in_orders f.0 order m)) in
      let inside = replacement_inside k.images w.phase w.commit w.devices.metadata (slice_get w.actors a) old new chosen k.known kept gives in
      subst (λ (o : Option Actor). Started_so w a (Replace old new) chosen o) (sym f.1)
      (begins_used w a (Replace old new) chosen f.0 f.1 (inside.1.0, (holds_nothing w f.0 a u f.1 f.2, refl))
      (replacement_given k.images w.phase w.commit w.devices.metadata old new f.0 chosen k.known (subst (λ (o : Option Actor). StartGives shape w.phase o (Replace old new) Started chosen) f.1 gives) (u.orders a f.0 f.1)) (λ m. applies (inr (inr (inr m)))) u)
  starts w a job chosen k u applies gives = absurd gives

  -- ---- every event

  -- where an actor is there, so are phase and actors after its step
  stepped_to : (w : State P A) (a : ℕ) (next : Want) (got : Got) (chosen : Chosen P A) (change : Job → List Bytes → DeviceStep → List History → List History) (o : Option Actor) → OfSome o (λ x. Unit {0}) →
      UsedRightly (phase_then shape w.phase next got chosen) (with_actor w o (λ x. stepped shape w a x next got chosen (change (job_of x.task) x.buffer))).actors → AfterWhat (with_actor w o (λ x. stepped shape w a x next got chosen (change (job_of x.task) x.buffer)))
  stepped_to w a next got chosen change None h u = absurd h
  stepped_to w a next got chosen change (Some x) h u = u

  some_actor : (o : Option Actor) (Is : Actor → Type 0) → OfSome o Is → OfSome o (λ x. Unit {0})
  some_actor None Is h = h
  some_actor (Some x) Is h = tt

  pub used_what : (w : State P A) (event : Event) (what : What) (read : List Bytes) (chosen : Chosen P A) → IsKnown P A shape w → AfterWhat w → MayBe shape w event what read chosen → AfterWhat (after_what shape w event what chosen)
  used_what w (Start a job) Started read chosen k u h = starts w a job chosen k u h.1 h.2
  used_what w (Step a) (Stepped next got) read chosen k u h = stepped_to w a next got chosen (λ job buffer step. device_done job buffer step chosen) (slice_get w.actors a) (some_actor (slice_get w.actors a) _ h) (stepped_used w a next got read chosen (slice_get w.actors a) refl k u h)
  used_what w (FaultStep a choice) (Stepped next got) read chosen k u h =
      subst (λ (g : Got). AfterWhat (after_what shape w (FaultStep a choice) (Stepped next g) chosen)) (sym h.1)
      (stepped_to w a next Fault chosen (λ job buffer step. device_failed (lands (device_of step) choice) job buffer step chosen) (slice_get w.actors a) (some_actor (slice_get w.actors a) _ h.2) (faulted_used w a choice next chosen (slice_get w.actors a) refl u h.2))
  used_what w (Stop choice) Stopped read chosen k u h = record { suited = rest_used w.actors; here = rest_blank w.actors; orders = rest_orders w.actors }
  used_what w event what read chosen k u h = u

  pub always : (w : State P A) (hs : List (Happening P A)) → IsKnown P A shape w → AfterWhat w → IsRun shape w hs → AfterWhat (after_all shape w hs)
  always w [] k u r = u
  always w (h ∷ hs) k u r = always (after_happening shape w h) hs (known_after P A shape w h k r.0) (used_what w h.record_is.event h.record_is.what h.record_is.read.items h.chosen k u r.0) r.1

  ruled_there : (phase : Phase P A) (actors : List Actor) → InPhase phase actors → (t : Target P) → phase ≡ Stands t → LockRule blocks t.words (cards_of actors)
  ruled_there phase actors i t e = subst (λ (p : Phase P A). InPhase p actors) e i

  pub used_start : (metadata : List History) → AfterWhat (start shape metadata)
  used_start metadata = record {
    suited = λ a x e. subst (λ (v : Actor). TaskSuits blocks v.card v.task) (replicated shape.actors a resting x e) refl;
    here = λ a x e. ap (λ (v : Actor). v.card) (sym (replicated shape.actors a resting x e));
    orders = λ a x e. subst (λ (v : Actor). OrdersInside shape.geometry (held_of v)) (replicated shape.actors a resting x e) (λ order m. absurd (omega (arith, m.1)));
  }

  pub run_used : (metadata : List History) (hs : List (Happening P A)) → IsFormatted shape.geometry metadata → Rattle.std.specs.Prelude.length metadata ≡ shape.geometry.meta_sectors → IsRun shape (start shape metadata) hs → AreUsedRightly shape (after_all shape (start shape metadata) hs)
  run_used metadata hs f size run =
      let w = after_all shape (start shape metadata) hs in
      let u = always (start shape metadata) hs (known_at_start P A shape metadata f size) (used_start metadata) run in
      record { suited = u.suited; ruled = λ t e. ruled_there w.phase w.actors u.here t e }
