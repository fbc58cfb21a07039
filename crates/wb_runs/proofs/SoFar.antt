-- What each request has read or entered so far, and what it has still to move.
use Rattle.std.proofs.Common.{◌≡◌, ◌∙◌, ◌==◌, ◌+◌, ℕ, suc, Bool, true, false, List, [], ◌∷◌, ◌++◌, Option, Some, None, refl, sym, ap, subst, arith, length, map, if◌then◌else◌}
use Rattle.std.specs.Prelude.{IsPermutation}
use Rattle.std.proofs.lemmas.List.{append_assoc, append-nil, map-append}
use Rattle.wb_types.specs.declared.extent.Extent.{Extent}
use Rattle.wb_types.specs.Extents.{rising, sectors_in, IsCutInto}
use Rattle.wb_types.specs.declared.mode.Mode.{Mode}
use Rattle.wb_types.specs.declared.mode.Mode.TheVariants.{Passthrough}
use Rattle.wb_types.specs.declared.number.CBlock.{CBlock}
use Rattle.wb_types.specs.declared.refusal.Refusal.TheVariants.{Failed, Busy, Worn}
use Rattle.wb_disk.specs.Device.{Content as Bytes, History}
use Rattle.wb_words.specs.declared.word.Word.TheVariants.{Cell as LockWord, Seal as SealWord, Number, Fail}
use Rattle.wb_words.specs.declared.step.CellResult.{CellResult}
use Rattle.wb_words.specs.declared.step.CellResult.TheVariants.{Done as CellDone, Word as Found, Lost as CellLost}
use Rattle.wb_words.specs.declared.step.CellStep.{CellStep}
use Rattle.wb_words.specs.declared.step.CellStep.TheVariants.{Look}
use Rattle.wb_words.specs.declared.card.Card.{Card}
use Rattle.wb_words.specs.SharedWords.{Words, place_in}
use Rattle.wb_words.specs.Effects.{result_of}
use Rattle.wb_tasks.specs.Tables.{BlockJob, BlockRange, TaskJob, OnBlock, Writing}
use Rattle.wb_tasks.specs.Plan.{Plan, want, after, after_look, after_fault, first_step, may_take, exchange, is_worn, gives_back, IsStep, onward, refused, deferring, answer_seeing, got_of}
use Rattle.wb_tasks.specs.Ready.{Has}
use Rattle.wb_tasks.specs.declared.step.Answer.{Answer}
use Rattle.wb_tasks.specs.declared.step.Answer.TheVariants.{Done as Finished}
use Rattle.wb_tasks.specs.declared.step.DeviceStep.{DeviceStep}
use Rattle.wb_tasks.specs.declared.step.Want.{Want}
use Rattle.wb_tasks.specs.declared.step.Want.TheVariants.{Cell, Device, End}
use Rattle.wb_tasks.specs.declared.step.Got.TheVariants.{Done, Fault}
use Rattle.wb_promise.specs.States.{Shape}
use Rattle.wb_promise.specs.Happenings.{block_range}
use Rattle.wb_promise.specs.Clerk.{Reading, Position, Entering, enter, enter_each, readings_from}
use Rattle.wb_promise.specs.Happenings.{extent_refusal}
use Rattle.wb_runs.proofs.Plans.{plan_of}
use Rattle.wb_runs.proofs.Covering.{Covers, homes, extents_left, cell_covers}

-- ---- an answer once refused stays so

seeing_was : (job : TaskJob) (seal : ℕ) (answer : Answer) → answer_seeing job seal answer ≡ Finished → answer ≡ Finished
seeing_was (OnBlock (Writing part)) seal answer f = by_mode part.mode (place_in seal) f
  where
    by_mode : (mode : Mode) (place : Option CBlock) → deferring mode place answer ≡ Finished → answer ≡ Finished
    by_mode Passthrough (Some c) f = absurd (cc)
    by_mode mode place f = f
seeing_was job seal answer f = f

look_was : (s : Plan) (v : Want) (x : ℕ) → (after_look s v x).answer ≡ Finished → s.answer ≡ Finished
look_was s (Cell (Look Fail)) x f = by_test (x == 0) f
  where
    by_test : (t : Bool) → (if t then onward s else refused s [] Failed).answer ≡ Finished → s.answer ≡ Finished
    by_test true f = f
    by_test false f = absurd (cc)
look_was s (Cell (Look (LockWord b))) x f = by_test (may_take s.job x) f
  where
    by_test : (t : Bool) → (if t then record s { steps = exchange s.job x } else refused s [] Busy).answer ≡ Finished → s.answer ≡ Finished
    by_test true f = f
    by_test false f = absurd (cc)
look_was s (Cell (Look (Number b))) x f = by_test (is_worn s.job x) f
  where
    by_test : (t : Bool) → (if t then refused s (gives_back s.job) Worn else onward s).answer ≡ Finished → s.answer ≡ Finished
    by_test true f = absurd (cc)
    by_test false f = f
look_was s (Cell (Look (SealWord b))) x f = seeing_was s.job x s.answer f
look_was s v x f = f

pub answer_was : (s : Plan) (result : CellResult) → (after s (got_of result)).answer ≡ Finished → s.answer ≡ Finished
answer_was s CellDone f = f
answer_was s (Found x) f = look_was s (want s) x f
answer_was s CellLost f = absurd (cc)

-- ---- what is noted

pub readings_sectors : (histories : List History) (at : ℕ) (read : List Bytes) → map (λ (r : Reading). r.sector) (readings_from histories at read) ≡ rising at (length read)
readings_sectors histories at [] = refl
readings_sectors histories at (c ∷ cs) = let next : suc at ≡ at + 1 = omega arith in ap (λ ss. at ∷ ss) (readings_sectors histories (suc at) cs ∙ ap (λ k. rising k (length cs)) next)

pub entered_sectors : (content : Bytes) (sectors : List ℕ) (e : Entering) → map (λ (p : Position). p.sector) (enter_each content sectors e).entered ≡ map (λ (p : Position). p.sector) e.entered ++ sectors
entered_sectors content [] e = sym (append-nil _)
entered_sectors content (s ∷ ss) e =
    entered_sectors content ss (enter content s e)
    ∙ ap (λ xs. xs ++ ss) (map-append (λ (p : Position). p.sector) e.entered _)
    ∙ append_assoc (map (λ (p : Position). p.sector) e.entered) (s ∷ []) ss

-- ---- the claim of a request

-- the sectors that it has moved over a target of this mode, while it may be answered done, and those of the extents that are left are its own, each once
pub record Moving (shape : Shape) (mode : Mode) (whole : Extent) (part_of : BlockRange → TaskJob) (plan : Plan) (moved : List ℕ) : Type 0 where
  pub cut : List Extent
  pub is_job : plan.job ≡ part_of (block_range shape mode whole cut)
  pub cuts : IsCutInto whole cut
  pub inside : extent_refusal shape whole ≡ None
  pub covers : plan.answer ≡ Finished → Covers shape mode whole plan.steps moved

module _ (shape : Shape) (mode : Mode) (whole : Extent) (part_of : BlockRange → BlockJob) (moves : (cut : List Extent) → IsCutInto whole cut → extent_refusal shape whole ≡ None → (seal : ℕ) → answer_seeing (OnBlock (part_of (block_range shape mode whole cut))) seal Finished ≡ Finished → homes shape whole (extents_left mode (Rattle.wb_tasks.specs.Plan.work_of (OnBlock (part_of (block_range shape mode whole cut))) seal)) ≡ cut) where
  abbrev Claims : Plan → List ℕ → Type 0
  Claims plan moved = Moving shape mode whole (λ part. OnBlock (part_of part)) plan moved

  -- a step on the words
  pub words_on : (plan : Plan) (moved : List ℕ) (words : Words) (card : Card) (step : CellStep) → Claims plan moved → Cell step ≡ want plan → (job_was : (after plan (got_of (result_of words step))).job ≡ plan.job) →
      ((cut : List Extent) → plan.job ≡ OnBlock (part_of (block_range shape mode whole cut)) → Has (part_of (block_range shape mode whole cut)) card plan.steps) → Claims (after plan (got_of (result_of words step))) moved
  words_on plan moved words card step c e same has = record {
    cut = c.cut;
    is_job = same ∙ c.is_job;
    cuts = c.cuts;
    inside = c.inside;
    covers = λ f. by_steps plan.steps plan.job refl refl e (has c.cut c.is_job) c.is_job (c.covers (answer_was plan (result_of words step) f)) f;
  }
    where
      own_part : BlockRange
      own_part = block_range shape mode whole c.cut

      by_steps : (steps : List Want) (job : TaskJob) → plan.steps ≡ steps → plan.job ≡ job → Cell step ≡ first_step steps plan.answer → Has (part_of own_part) card steps → job ≡ OnBlock (part_of own_part) → Covers shape mode whole steps moved →
          (after plan (got_of (result_of words step))).answer ≡ Finished → Covers shape mode whole (after plan (got_of (result_of words step))).steps moved
      by_steps [] job s j e h i v f = absurd (cc)
      by_steps (w ∷ ws) job s j e h i v f =
          let is : plan ≡ plan_of (OnBlock (part_of own_part)) (Cell step ∷ ws) plan.answer = (λ k. record { job = (j ∙ i) k; steps = (s ∙ ap (λ (x : Want). x ∷ ws) (sym e)) k; answer = plan.answer }) in
          let h' = subst (λ (x : Want). Has (part_of own_part) card (x ∷ ws)) (sym e) h in
          let v' = subst (λ (x : Want). Covers shape mode whole (x ∷ ws) moved) (sym e) v in
          subst (λ (p : Plan). (after p (got_of (result_of words step))).answer ≡ Finished → Covers shape mode whole (after p (got_of (result_of words step))).steps moved) (sym is)
          (cell_covers shape mode whole own_part c.cuts words card moved (part_of own_part) (moves c.cut c.cuts c.inside) step ws plan.answer h' v') f

  -- an extent is read, or written, or the desk unmaps the block, and these are moved then
  pub step_on : (plan : Plan) (moved moved' : List ℕ) (card : Card) (next : Want) → IsStep next → Claims plan moved → next ≡ want plan → (after plan Done).job ≡ plan.job →
      ((cut : List Extent) → plan.job ≡ OnBlock (part_of (block_range shape mode whole cut)) → Has (part_of (block_range shape mode whole cut)) card plan.steps) →
      ((cut : List Extent) (cuts : IsCutInto whole cut) (ws : List Want) (answer : Answer) → Has (part_of (block_range shape mode whole cut)) card (next ∷ ws) → Covers shape mode whole (next ∷ ws) moved → answer ≡ Finished → Covers shape mode whole ws moved') →
      Claims (after plan Done) moved'
  step_on plan moved moved' card next z c w same has goes = record {
    cut = c.cut;
    is_job = same ∙ c.is_job;
    cuts = c.cuts;
    inside = c.inside;
    covers = λ f. by_steps plan.steps refl w (has c.cut c.is_job) (c.covers f) f;
  }
    where
      by_steps : (steps : List Want) → plan.steps ≡ steps → next ≡ first_step steps plan.answer → Has (part_of (block_range shape mode whole c.cut)) card steps → Covers shape mode whole steps moved → plan.answer ≡ Finished → Covers shape mode whole (Rattle.wb_tasks.specs.Plan.later_steps plan.steps) moved'
      by_steps [] s w h v f = absurd (subst IsStep w z)
      by_steps (x ∷ ws) s w h v f =
          let h' = subst (λ (y : Want). Has (part_of (block_range shape mode whole c.cut)) card (y ∷ ws)) (sym w) h in
          let v' = subst (λ (y : Want). Covers shape mode whole (y ∷ ws) moved) (sym w) v in
          subst (λ (xs : List Want). Covers shape mode whole (Rattle.wb_tasks.specs.Plan.later_steps xs) moved') (sym s) (goes c.cut c.cuts ws plan.answer h' v' f)

  -- after a fault it is not answered done
  pub fault_on : (plan : Plan) (moved moved' : List ℕ) (step : DeviceStep) → Claims plan moved → Device step ≡ want plan → (after plan Fault).job ≡ plan.job → Claims (after plan Fault) moved'
  fault_on plan moved moved' step c w same = record {
    cut = c.cut;
    is_job = same ∙ c.is_job;
    cuts = c.cuts;
    inside = c.inside;
    covers = λ f. absurd (never (subst (λ (v : Want). (after_fault plan v).answer ≡ Finished) (sym w) f));
  }
    where
      never : (after_fault plan (Device step)).answer ≡ Finished → ⊥
      never f = absurd (cc)

  -- and where it is, it has moved each sector once
  pub answered_on : (plan : Plan) (moved : List ℕ) (card : Card) → Claims plan moved → End Finished ≡ want plan →
      ((cut : List Extent) → plan.job ≡ OnBlock (part_of (block_range shape mode whole cut)) → Has (part_of (block_range shape mode whole cut)) card plan.steps) → IsPermutation (sectors_in whole) moved
  answered_on plan moved card c w has = by_steps plan.steps plan.answer w (has c.cut c.is_job) c.covers
    where
      by_steps : (steps : List Want) (answer : Answer) → End Finished ≡ first_step steps answer → Has (part_of (block_range shape mode whole c.cut)) card steps → (answer ≡ Finished → Covers shape mode whole steps moved) → IsPermutation (sectors_in whole) moved
      by_steps [] answer w h v = let done : answer ≡ Finished = cc in subst (λ (xs : List ℕ). IsPermutation (sectors_in whole) xs) (append-nil moved) (v done)
      by_steps (End other ∷ ws) answer w h v = absurd h.1.1
      by_steps steps answer w h v = absurd (cc)
