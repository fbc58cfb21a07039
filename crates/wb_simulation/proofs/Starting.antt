-- Starts are followed.
use Rattle.std.proofs.Common.{◌≡◌, ◌∙◌, ◌⊎◌, inl, inr, ◌++◌, ℕ, Bool, true, false, List, [], ◌∷◌, Option, Some, None, refl, sym, ap, subst, slice_get, slice_set}
use Rattle.wb_promise.specs.Happenings.{write_job}
use Rattle.wb_disk.specs.Device.{Content}
use Rattle.wb_types.specs.declared.mode.Mode.TheVariants.{Writeback, Writethrough, Passthrough}
use Rattle.wb_types.specs.declared.mode.Mode.{Mode}
use Rattle.wb_simulation.proofs.Written.{job_written}
use Rattle.wb_refines.proofs.Tables.{tables_agree}
use Rattle.wb_words.specs.SharedWords.{Words, flag}
use Rattle.wb_policy.specs.declared.order.Order.{Order}
use Rattle.wb_tasks.specs.Tables.{BlockRange, Reading, OnBlock, Flushing, Suspending, Invalidating}
use Rattle.wb_types.specs.declared.number.OBlock.{OBlock}
use Rattle.wb_tasks.specs.Plan.{Plan, table, seal_looks}
use Rattle.wb_tasks.specs.declared.step.DeskStep.TheVariants.{BeginCommit}
use Rattle.wb_tasks.specs.declared.step.Want.TheVariants.{Desk}
use Rattle.wb_link.specs.Tables.{Job as AbstractJob, Order as AbstractOrder, Suspending as SuspendingThere, abstract_table as table_there}
use Rattle.wb_link.specs.World.{World, Shared, Record, Start, MayStart, IsAbstractRun, AbstractActor, job_alone, abstract_order_of, aside, abstract_given, abstract_reserved, start_actor, abstract_after_all}
use Rattle.wb_refines.specs.Translation.{job_for, offsets, script_for}
use Rattle.wb_refines.specs.Models.{WordsAgree, held_of}
use Rattle.wb_refines.specs.Tasks.{IsResting, AllInBlocks}
use Rattle.wb_refines.proofs.Holding.{holds_nothing}
use Rattle.wb_refines.proofs.Modes.{starts_in, read_starts, read_is, write_is}
use Rattle.wb_refines.proofs.Tasks.{within_offsets, distinct_offsets}
use Rattle.wb_promise.specs.declared.job.Job.{Job}
use Rattle.wb_promise.specs.declared.job.Job.TheVariants.{Read, Write, Flush, Suspend, Invalidate}
use Rattle.wb_promise.specs.States.{Actor}
use Rattle.wb_simulation.specs.Steps.{IsPart}
use Rattle.wb_refines.specs.Commits.{IsToBegin, commit_there}
use Rattle.wb_simulation.specs.Actors.{IsLate, IsBusyAt, IsDoing, IsAmong, IsAmongOthers, AreAmongOthers, StandsFor, write_of}
use Rattle.wb_simulation.specs.Opened.{AreAtRest}
use Rattle.wb_simulation.specs.Telling.{Telling, Quietly, Starts, IsTold}
use Rattle.wb_simulation.specs.Worlds.{Situation, Agrees, OrdersAgree, Turn, Stays, TurnedTo, DeskTurnedTo, WorldFollowsBy, KeepsNumbers}
use Rattle.wb_simulation.specs.Laws.{StartsFollowed, Begun}
use Rattle.wb_simulation.proofs.Telling.{unnoted_none}
use Rattle.wb_simulation.proofs.Cells.{Leading}
use Rattle.wb_simulation.proofs.Orders.{MigratesNot, does_none, orders_begun}
use Rattle.wb_simulation.proofs.Among.{StandsThere, stays_there, own_there, whose, nobody_alone, agrees_on, follows_by}

-- what the start of a job is to what is shared: at most a cache block is reserved
pub record IsGiven (words : Words) (turn : Turn) (s t : Shared) : Type 0 where
  pub words_agree : WordsAgree words t
  pub origin : t.origin ≡ s.origin
  pub cache : t.cache ≡ s.cache
  pub turned : TurnedTo turn s t
  pub mode : t.mode ≡ s.mode
  pub commits : t.committing ≡ s.committing
  pub broken : KeepsNumbers s t
  pub mapping : t.mapping ≡ s.mapping
  pub desk : DeskTurnedTo turn s t

pub given_nothing : (words : Words) (s : Shared) → WordsAgree words s → IsGiven words Stays s s
given_nothing words s w = record { words_agree = w; origin = refl; cache = refl; mode = refl; commits = refl; broken = (refl, refl, refl); mapping = refl; turned = (refl, refl, refl, refl, refl); desk = (refl, refl) }

module _ (now : Situation) (a : ℕ) (x x' : Actor) (s : World) (y : AbstractActor) (g : Agrees now s) (ex : slice_get now.actors a ≡ Some x) (ey : slice_get s.actors a ≡ Some y) where
  -- These records give it something to do, and its actor there is this one then.
  pub begins : (turn : Turn) (telling : Telling) (orders' : List (Option Order)) (rs : List Record) (waiting : ℕ → Option AbstractOrder) (t : Shared) (y' : AbstractActor) → IsAbstractRun now.size s rs → abstract_after_all s rs ≡ record { shared = t; actors = slice_set s.actors a y'; waiting = waiting } → IsTold telling a y.task rs → IsGiven now.words turn s.shared t → Leading y y' → StandsFor now.size now.most now.words x' y' →
      OrdersAgree now.size now.words orders' (slice_set now.actors a x') (record { shared = t; actors = slice_set s.actors a y'; waiting = waiting }) → WorldFollowsBy turn telling a s (record now { orders = orders' }) x'
  begins turn telling orders' rs waiting t y' run is told i leading st ordered = follows_by now now.words (λ f. f) a x x' s y g ex ey turn telling now.commits orders' now.devices rs _ run is told
      (agrees_on now now.words (λ f. f) a x x' s y g ex ey orders' now.devices waiting t y' leading st i.words_agree (i.origin ∙ g.origin) (i.cache ∙ g.cache) i.mode i.commits i.broken ordered) i.turned i.desk

pub rests : (size : ℕ) (most : Bool → ℕ) (words : Words) (x : Actor) (y : AbstractActor) → StandsFor size most words x y → x.task ≡ None → (y.task ≡ None) × (IsResting y ⊎ (flag words.fail ≡ true))
rests size most words x y st e = let r = subst (λ t. IsBusyAt size most st.failed t x.card x.share y) e st.at in (r.0, elim r.1 [ inl i ↦ inl i | inr f ↦ inr (st.has_failed f) ])

module _ (now : Situation) (a : ℕ) (x : Actor) (s : World) (ex : slice_get now.actors a ≡ Some x) (none : x.task ≡ None) (g : Agrees now s) where
  its : StandsThere now s a x
  its = own_there now s g a x ex

  abbrev y : AbstractActor
  y = its.0

  -- The same job is started there, or nothing is, since the actor has kept something.
  starts : (job : Job) (plan : Plan) (seen' : List Bool) (there : AbstractJob) → MigratesNot job → AreAmongOthers now.actors → MayStart now.size s there → abstract_reserved s.shared there ≡ s.shared → abstract_order_of there ≡ None → (IsAmong job → job_alone there ≡ false) → plan ≡ table plan.job → (IsResting y → IsDoing now.size now.most (flag now.words.fail) job plan x.card x.share (abstract_given y there)) → (IsLate (flag now.words.fail) plan y → IsDoing now.size now.most (flag now.words.fail) job plan x.card x.share y) →
      Begun there a s now (record x { task = Some (job, plan); seen = seen' })
  starts job plan seen' there other nobody may same no_order among begun doing late = elim (rests now.size now.most now.words x y its.2 none).1 [
    | inl idle ↦ inl (begins now a x x' s y g ex its.1 Stays (Starts there) now.orders (Start a there ∷ []) (aside s.waiting y.order) s.shared (abstract_given y there)
        ((y, record { actor = its.1; task = idle.task; free = inl (idle.held, idle.leads); nobody_alone = nobody_alone now s g nobody; may = may }), tt)
        (ap (λ (o : Option AbstractActor). start_actor s a o there) its.1 ∙ ap (λ (u : Shared). record { shared = u; actors = slice_set s.actors a (abstract_given y there); waiting = aside s.waiting y.order }) same) refl (given_nothing now.words s.shared g.words_agree)
        (λ l. let bad : true ≡ false = sym l ∙ idle.leads in absurd (cc)) (record { failed = flag now.words.fail; has_failed = λ e. e; at = doing idle; below = holds_nothing (abstract_given y there) x.card idle.held; among_others = among })
        (orders_begun now.size now.words now.orders now.actors a x x' s y (abstract_given y there) s.shared ex its.1 g.orders_agree no_order refl (does_none _ _ _ _ _ other)))
    | inr f ↦ inr (stays_there now a x x' s y g ex its.1 Quietly ([], unnoted_none y.task, refl)
        (record { failed = flag now.words.fail; has_failed = λ e. e; at = late (record { has_failed = f; nothing = (rests now.size now.most now.words x y its.2 none).0; at = inl begun }); below = its.2.below; among_others = λ k. its.2.among_others (subst IsAmongOthers (sym none) tt) }) (λ o h. h) (does_none _ _ _ _ _ other))
  ]
    where
      x' : Actor
      x' = record x { task = Some (job, plan); seen = seen' }

all_inside : (size : ℕ) (part : BlockRange) → IsPart size part → AllInBlocks size part.extents
all_inside size part is e c = (is.each e c).room

pub starts_followed : StartsFollowed
starts_followed = record {
  read = λ now a x extent part s ex none hold is mode among g.
      let plan = table (OnBlock (Reading part)) in
      let u = y now a x s ex none g in
      let b = part.block.0 in
      let os = offsets now.size part.extents in
      let tables = tables_agree now.size (now.most false) [] None part [] in
      starts now a x s ex none g (Read extent) plan x.seen (job_for now.size [] (OnBlock (Reading part))) tt among (read_starts b os part.mode now.size s (g.mode ∙ sym mode) (within_offsets now.size part.extents (all_inside now.size part is)))
      ((read_is b os part.mode).reserves s.shared) (read_is b os part.mode).order (λ k. (read_is b os part.mode).among) refl
      (λ idle. record { part = part; job = refl; is_part = is; of_block = tt; at = inl (record { place = None; buffer = u.buffer; is = λ i. record { task = Some (sym tables.0 i); held = (idle.held ∙ ap held_of (sym hold)) i; order = (read_is b os part.mode).order i; leads = idle.leads i; buffer = u.buffer }; saw = tt; unmaps = tt }) })
      (λ l. record { part = part; job = refl; is_part = is; of_block = tt; at = inr (inr l) });
  write = λ now a x extent content part s ex none hold is mode among g.
      let plan = table (OnBlock (write_of part)) in
      let u = y now a x s ex none g in
      let b = part.block.0 in
      let os = offsets now.size part.extents in
      let j = job_written now.size content part in
      starts now a x s ex none g (Write extent content) plan x.seen (job_for now.size content (OnBlock (write_of part))) tt among (subst (MayStart now.size s) (sym j) (starts_in b os content part.mode now.size s (g.mode ∙ sym mode) (within_offsets now.size part.extents (all_inside now.size part is)) (distinct_offsets now.size part.extents)))
      (ap (abstract_reserved s.shared) j ∙ (write_is b os content part.mode).reserves s.shared) (ap abstract_order_of j ∙ (write_is b os content part.mode).order) (λ k. ap job_alone j ∙ (write_is b os content part.mode).among) refl
      (λ idle. record { part = part; job = refl; is_part = is; of_block = tt; at = inl (record { place = None; buffer = u.buffer; is = λ i. record { task = Some (sym (write_agrees now.size (now.most false) content part) i); held = (idle.held ∙ ap held_of (sym hold)) i; order = (ap abstract_order_of j ∙ (write_is b os content part.mode).order) i; leads = idle.leads i; buffer = u.buffer }; saw = tt; unmaps = tt }) })
      (λ l. record { part = part; job = refl; is_part = is; of_block = tt; at = inr (inr l) });
  invalidate = λ now a x block part s ex none hold is mode among g.
      let plan = table (OnBlock (Invalidating part)) in
      let u = y now a x s ex none g in
      starts now a x s ex none g (Invalidate block) plan x.seen (job_for now.size [] (OnBlock (Invalidating part))) tt among (g.mode ∙ mode) refl refl (λ k. refl) refl
      (λ idle. record { part = part; job = refl; is_part = is; of_block = tt; at = inl (record { place = None; buffer = u.buffer; is = λ i. record { task = Some (script_for now.size [] None plan); held = (idle.held ∙ ap held_of (sym hold)) i; order = None; leads = idle.leads i; buffer = u.buffer }; saw = tt; unmaps = tt }) })
      (λ l. record { part = part; job = refl; is_part = is; of_block = tt; at = inr (inr l) });
  flush = λ now a x serves s ex none among g.
      let plan = table (Flushing serves (now.most false)) in
      let u = y now a x s ex none g in
      starts now a x s ex none g Flush plan x.seen (commit_there false) tt among refl refl refl (λ k. refl) refl
      (λ idle. record { blocks = serves; job = refl; steps = (refl, refl); at = inl (record { leads = false; at = refl; has_failed = λ e n. absurd (cc); is = record { buffer = u.buffer; is = λ i. record { task = Some (script_for now.size [] None plan); held = idle.held i; order = None; leads = idle.leads i; buffer = u.buffer } } }) })
      (λ l. record { blocks = serves; job = refl; steps = (refl, refl); at = inr l });
  suspend = λ now a x looks seen' s ex rest g.
      let plan = table (Suspending looks (now.most true)) in
      let none = rest a x ex in
      let u = y now a x s ex none g in
      let same = looks_first now.size looks (now.most true) in
      starts now a x s ex none g Suspend plan seen' (commit_there true) tt (λ b z e. subst IsAmongOthers (sym (rest b z e)) tt) (nobody_at now s g rest) refl refl (λ k. absurd k) refl
      (λ idle. record { blocks = looks; job = refl; steps = to_look (now.most true) looks; at = inl (record { leads = false; at = refl; has_failed = λ e n. absurd (cc); is = record { buffer = u.buffer; is = λ i. record { task = Some (sym same i); held = idle.held i; order = None; leads = idle.leads i; buffer = u.buffer } } }) })
      (λ l. record { blocks = looks; job = refl; steps = to_look (now.most true) looks; at = inr l });
}
  where
    -- a write begins as its table does, in its mode
    write_agrees : (size most : ℕ) (content : Content) (part : BlockRange) → script_for size content None (table (OnBlock (write_of part))) ≡ table_there (job_for size content (OnBlock (write_of part)))
    write_agrees size most content part = by part.mode
      where
        by : (mode : Mode) → script_for size content None (table (OnBlock (write_job mode part))) ≡ table_there (job_for size content (OnBlock (write_job mode part)))
        by Passthrough = (tables_agree size most content None part []).2
        by mode = (tables_agree size most content None part []).1

    -- nobody is at anything there
    nobody_at : (now : Situation) (s : World) (g : Agrees now s) → AreAtRest now.actors → (b : ℕ) (z : AbstractActor) → slice_get s.actors b ≡ Some z → z.task ≡ None
    nobody_at now s g rest b z e = let v = whose now s g b z e in (rests now.size now.most now.words v.0 z (g.each b v.0 z v.1 e) (rest b v.0 v.1)).0

    -- it has seals to look at, or none
    to_look : (most : ℕ) (looks : List OBlock) → IsToBegin true most (seal_looks looks ++ Desk (BeginCommit most) ∷ [])
    to_look most [] = (refl, refl)
    to_look most (b ∷ bs) = to_look most bs

    looks_first : (size : ℕ) (looks : List OBlock) (most : ℕ) → script_for size [] None (table (Suspending looks most)) ≡ table_there SuspendingThere
    looks_first size [] most = refl
    looks_first size (b ∷ bs) most = refl
