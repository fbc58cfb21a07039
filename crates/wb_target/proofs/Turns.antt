-- What becomes of an order that is carried out or given up, and of a worker's turns.
use Rattle.std.proofs.Common.{◌≡◌, ◌≢◌, ◌∙◌, ◌≤◌, ◌<◌, ◌⊎◌, inl, inr, ℕ, Bool, true, List, [], ◌∷◌, Option, Some, None, Result, length, refl, sym, ap, subst}
use Rattle.std.proofs.lemmas.Result.{IfErr-weaker, on_ok_weaker}
use Rattle.std.specs.Prelude.{IfErr, IfOk, OnOk}
use Rattle.wb_types.specs.declared.geometry.Geometry.{Geometry}
use Rattle.wb_types.specs.declared.number.OBlock.{OBlock}
use Rattle.wb_types.specs.declared.number.CBlock.{CBlock}
use Rattle.wb_types.specs.declared.refusal.Refusal.{Refusal}
use Rattle.wb_types.specs.declared.refusal.Refusal.TheVariants.{Busy}
use Rattle.wb_disk.specs.Device.{History}
use Rattle.wb_policy.specs.declared.order.Order.{Order}
use Rattle.wb_policy.specs.declared.order.Order.TheVariants.{Replace}
use Rattle.wb_tasks.specs.Tables.{TaskJob}
use Rattle.wb_tasks.specs.declared.step.Answer.{Answer}
use Rattle.wb_tasks.specs.declared.step.Answer.TheVariants.{Refused as Refuses}
use Rattle.wb_tasks.specs.declared.step.Migration.TheVariants.{Promote as Promoting, Demote as Demoting}
use Rattle.wb_port.specs.Hands.{saw_fail_word}
use Rattle.wb_port.specs.declared.port.Port.{Port}
use Rattle.wb_stage.specs.declared.share.Share.{Share}
use Rattle.wb_target.specs.declared.carrying.Flushed.{Flushed}
use Rattle.wb_target.specs.Works.{ShareTold, WorkState}
use Rattle.wb_target.specs.Carried.{client_state, looked_at_fail, HasBegun, Runs, WasDone, WasDoneWith, WereDone, share_of, migration_of, flush_of, jobs_of}
use Rattle.wb_target.specs.declared.gate.Point.{Point}
use Rattle.wb_target.specs.declared.gate.Point.TheVariants.{Order as BeforeOrder, Idle}
use Rattle.wb_port.specs.declared.moving.TheConstants.{LONGEST}
use Rattle.wb_target.specs.Workers.{WasRefused, DidNotBegin, GaveUpAmong, FlushRefused, HasBuffer, Took, Turn, Works, Idles, StoppedAt}
use Rattle.wb_target.proofs.Carried.{Before}

-- ---- a look at the fail word

pub looked : {D : Type 0} (word : ℕ) (p q : Port D) → q.hand ≡ saw_fail_word word p.hand → q.buffer ≡ p.buffer → q.commit ≡ p.commit → client_state q ≡ looked_at_fail word (client_state p)
looked {D} word p q hand buffer commit =
    let one : client_state q ≡ record { hand = saw_fail_word word p.hand; buffer = q.buffer.items; commit = q.commit } = ap (λ (h : _). record { hand = h; buffer = q.buffer.items; commit = q.commit }) hand in
    let two : record { hand = saw_fail_word word p.hand; buffer = q.buffer.items; commit = q.commit } ≡ record { hand = saw_fail_word word p.hand; buffer = p.buffer.items; commit = q.commit } = ap (λ (b : _). record { hand = saw_fail_word word p.hand; buffer = b.items; commit = q.commit }) buffer in
    one ∙ (two ∙ ap (λ (c : _). record { hand = saw_fail_word word p.hand; buffer = p.buffer.items; commit = c }) commit)

-- a clear one, and then a buffer was taken
pub begun_by : {D : Type 0} (p q r : Port D) → q.hand ≡ saw_fail_word 0 p.hand → q.buffer ≡ p.buffer → q.commit ≡ p.commit → r.hand ≡ q.hand → r.commit ≡ q.commit → (0 < length q.buffer.items → r.buffer.items ≡ q.buffer.items) → LONGEST ≤ length r.buffer.items → HasBegun (client_state p) (client_state r)
begun_by p q r hand buffer commit hand' commit' kept holds = record {
  clear = hand' ∙ hand;
  commit = commit' ∙ commit;
  kept = λ some. kept (subst (λ b. 0 < length b.items) (sym buffer) some) ∙ ap (λ b. b.items) buffer;
  holds = holds;
}

-- ---- a job

module _ {D : Type 0} (runs : TaskJob → WorkState D → Answer → WorkState D → Type 0) (job : TaskJob) where
  pub refused_then : (refusal : Refusal) (old mid new : WorkState D) → refusal ≢ Busy → Before runs job old mid → runs job mid (Refuses refusal) new → WasRefused runs job refusal old new
  refused_then refusal old mid new not so run = (not, record { tries = so.0; before = mid; tried = so.1; ended = run })

-- ---- an order of one job

module _ {D A : Type 0} (runs : List Order → TaskJob → WorkState D → Answer → WorkState D → Type 0) (r : Result A Refusal) (job : TaskJob) (jobs : Order → List TaskJob) (order : Order) (single : jobs order ≡ job ∷ []) (old new : WorkState D) where
  pub one_given_up : IfErr r (λ refusal. WasRefused (runs (order ∷ [])) job refusal old new) → IfErr r (λ refusal. GaveUpAmong (runs (order ∷ [])) (jobs order) refusal old new)
  one_given_up h =
      subst (λ (js : List TaskJob). IfErr r (λ refusal. GaveUpAmong (runs (order ∷ [])) js refusal old new)) (sym single)
      (IfErr-weaker r (λ refusal. WasRefused (runs (order ∷ [])) job refusal old new) (λ refusal. GaveUpAmong (runs (order ∷ [])) (job ∷ []) refusal old new) (λ refusal w. inl w) h)

-- ---- jobs, and turns, in the sizes that stay

module _ {D : Type 0} (tells : Type 0) (size : D → ℕ) (contents : D → List History) (faults : D → ℕ) (asked : List Order → ShareTold) where
  abbrev pub runs_in : Geometry → List Order → TaskJob → WorkState D → Answer → WorkState D → Type 0
  runs_in geometry = Runs tells size contents faults asked geometry.origin_blocks

  -- an order that was carried out
  pub jobs_in : (order : Order) (one first : Geometry) (old new : WorkState D) → one ≡ first → WereDone (runs_in one (order ∷ [])) (jobs_of one order) old new → WereDone (runs_in first (order ∷ [])) (jobs_of first order) old new
  jobs_in order one first old new same h = subst (λ (g : Geometry). WereDone (runs_in g (order ∷ [])) (jobs_of g order) old new) same h

  pub replaced : {A : Type 0} (r : Result A Refusal) (order : Order) (v x : OBlock) (to : CBlock) (first one two : Geometry) (s0 s1 s2 s3 : WorkState D) → order ≡ Replace v x to → one ≡ first → two ≡ one
      → WasDone (runs_in first (Replace v x to ∷ [])) (migration_of first Demoting v) s0 s1 → WasDone (runs_in one (Replace v x to ∷ [])) (flush_of one (Some x)) s1 s2 → OnOk r (WasDone (runs_in two (Replace v x to ∷ [])) (migration_of two (Promoting to) x) s2 s3)
      → OnOk r (WereDone (runs_in first (order ∷ [])) (jobs_of first order) s0 s3)
  replaced r order v x to first one two s0 s1 s2 s3 is a b demoted flushed promoted =
      let there : WasDone (runs_in first (Replace v x to ∷ [])) (flush_of first (Some x)) s1 s2 = subst (λ (g : Geometry). WasDone (runs_in g (Replace v x to ∷ [])) (flush_of g (Some x)) s1 s2) a flushed in
      subst (λ (o : Order). OnOk r (WereDone (runs_in first (o ∷ [])) (jobs_of first o) s0 s3)) (sym is)
      (on_ok_weaker r (λ (p : WasDone (runs_in first (Replace v x to ∷ [])) (migration_of first (Promoting to) x) s2 s3). (s1, demoted, (s2, there, (s3, p, refl))))
      (subst (λ (g : Geometry). OnOk r (WasDone (runs_in g (Replace v x to ∷ [])) (migration_of g (Promoting to) x) s2 s3)) (b ∙ a) promoted))

  -- ---- a replacement that was given up

  module _ (order : Order) (v x : OBlock) (to : CBlock) (first : Geometry) (is : order ≡ Replace v x to) where
    abbrev runs_so : Geometry → TaskJob → WorkState D → Answer → WorkState D → Type 0
    runs_so geometry = runs_in geometry (Replace v x to ∷ [])

    abbrev Among : Refusal → WorkState D → WorkState D → Type 0
    Among refusal old new = GaveUpAmong (runs_in first (order ∷ [])) (jobs_of first order) refusal old new

    named : (refusal : Refusal) (old new : WorkState D) → GaveUpAmong (runs_so first) (jobs_of first (Replace v x to)) refusal old new → Among refusal old new
    named refusal old new h = subst (λ (o : Order). GaveUpAmong (runs_in first (o ∷ [])) (jobs_of first o) refusal old new) (sym is) h

    pub demotion_given_up : (refusal : Refusal) (s0 s1 : WorkState D) → WasRefused (runs_so first) (migration_of first Demoting v) refusal s0 s1 → Among refusal s0 s1
    demotion_given_up refusal s0 s1 h = named refusal s0 s1 (inl h)

    pub flush_given_up : (refusal : Refusal) (one : Geometry) (s0 s1 s2 : WorkState D) → one ≡ first → WasDone (runs_so first) (migration_of first Demoting v) s0 s1
        → WasRefused (runs_so one) (flush_of one (Some x)) refusal s1 s2 ⊎ DidNotBegin (runs_so one) (flush_of one (Some x)) refusal s1 s2 → Among refusal s0 s2
    flush_given_up refusal one s0 s1 s2 same demoted h =
        let there : WasRefused (runs_so first) (flush_of first (Some x)) refusal s1 s2 ⊎ DidNotBegin (runs_so first) (flush_of first (Some x)) refusal s1 s2
        = subst (λ (g : Geometry). WasRefused (runs_so g) (flush_of g (Some x)) refusal s1 s2 ⊎ DidNotBegin (runs_so g) (flush_of g (Some x)) refusal s1 s2) same h in
        named refusal s0 s2 (inr (inr (s1, demoted, elim there [ inl w ↦ inl w | inr n ↦ inr (inl n) ])))

    pub promotion_given_up : {A : Type 0} (r : Result A Refusal) (one two : Geometry) (s0 s1 s2 s3 : WorkState D) → one ≡ first → two ≡ one → WasDone (runs_so first) (migration_of first Demoting v) s0 s1 → WasDone (runs_so one) (flush_of one (Some x)) s1 s2
        → IfErr r (λ refusal. WasRefused (runs_so two) (migration_of two (Promoting to) x) refusal s2 s3) → IfErr r (λ refusal. Among refusal s0 s3)
    promotion_given_up r one two s0 s1 s2 s3 a b demoted flushed h =
        let there : WasDone (runs_so first) (flush_of first (Some x)) s1 s2 = subst (λ (g : Geometry). WasDone (runs_so g) (flush_of g (Some x)) s1 s2) a flushed in
        IfErr-weaker r (λ refusal. WasRefused (runs_so first) (migration_of first (Promoting to) x) refusal s2 s3) (λ refusal. Among refusal s0 s3)
        (λ refusal w. named refusal s0 s3 (inr (inr (s1, demoted, inr (inr (s2, there, inl w))))))
        (subst (λ (g : Geometry). IfErr r (λ refusal. WasRefused (runs_so g) (migration_of g (Promoting to) x) refusal s2 s3)) (b ∙ a) h)

  -- ---- turns

  module _ (first here : Geometry) (same : here ≡ first) where
    pub gave_up_in : (order : Order) (refusal : Refusal) (old new : WorkState D) → GaveUpAmong (runs_in here (order ∷ [])) (jobs_of here order) refusal old new → GaveUpAmong (runs_in first (order ∷ [])) (jobs_of first order) refusal old new
    gave_up_in order refusal old new h = subst (λ (g : Geometry). GaveUpAmong (runs_in g (order ∷ [])) (jobs_of g order) refusal old new) same h

    abbrev DoneAt : Geometry → Share → WorkState D → WorkState D → Type 0
    DoneAt geometry share old new = WasDoneWith tells size contents faults asked geometry.origin_blocks [] (flush_of geometry None) share old new

    pub flush_done_in : (r : Result Flushed Refusal) (old old' new : WorkState D) → old ≡ old' → IfOk r (λ flushed. DoneAt here (share_of flushed) old new) → IfOk r (λ flushed. DoneAt first (share_of flushed) old' new)
    flush_done_in r old old' new e h =
        subst (λ (g : Geometry). IfOk r (λ flushed. DoneAt g (share_of flushed) old' new)) same (subst (λ (s : WorkState D). IfOk r (λ flushed. DoneAt here (share_of flushed) s new)) e h)

    pub flush_refused_in : (refusal : Refusal) (old old' new : WorkState D) → old ≡ old' → FlushRefused (runs_in here) here refusal old new → FlushRefused (runs_in first) first refusal old' new
    flush_refused_in refusal old old' new e h = subst (λ (g : Geometry). FlushRefused (runs_in g) g refusal old' new) same (subst (λ (s : WorkState D). FlushRefused (runs_in here) here refusal s new) e h)

    pub stopped_at : (next : Option Order → Type 0) (order : Order) → next (Some order) → (cause : Refusal) (old begun mid new : WorkState D) (word : ℕ) → HasBuffer old begun → GaveUpAmong (runs_in here (order ∷ [])) (jobs_of here order) cause begun mid → 0 < word → new ≡ looked_at_fail word mid → StoppedAt (runs_in first) next first old new
    stopped_at next order was cause old begun mid new word buffer h set is =
        record { order = order; was_next = was; cause = cause; begun = begun; mid = mid; word = word; buffer = buffer; gave_up = gave_up_in order cause begun mid h; set = set; new_is = is }

  module _ {G : Type 0} (next : Option Order → Type 0) (answers : G → Point → Bool → Type 0) (gate : G) (first here : Geometry) (same : here ≡ first) where
    abbrev pub OneTurn : WorkState D → WorkState D → Type 0
    OneTurn = Turn (runs_in first) next first answers gate

    pub works : (old seen new : WorkState D) → seen ≡ looked_at_fail 0 old → answers gate BeforeOrder true → Took (runs_in here) next here seen new → OneTurn old new
    works old seen new is allowed took =
        Works allowed (subst (λ (s : WorkState D). Took (runs_in first) next first s new) is (subst (λ (g : Geometry). Took (runs_in g) next g seen new) same took))

    pub idles : (old seen new : WorkState D) → seen ≡ looked_at_fail 0 old → answers gate BeforeOrder true → next None → answers gate Idle true → new ≡ seen → OneTurn old new
    idles old seen new is allowed none further nothing = Idles allowed none further (nothing ∙ is)

    pub stopped : (old seen new : WorkState D) → seen ≡ looked_at_fail 0 old → StoppedAt (runs_in here) next here seen new → StoppedAt (runs_in first) next first (looked_at_fail 0 old) new
    stopped old seen new is at =
        subst (λ (s : WorkState D). StoppedAt (runs_in first) next first s new) is (subst (λ (g : Geometry). StoppedAt (runs_in g) next g seen new) same at)
