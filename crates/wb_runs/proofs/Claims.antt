-- What is claimed of each actor that is at something, and of what is noted of it: a request has moved some of its sectors, and the
-- others are left to it; and where an opening is to be refused there is a cause.
use Rattle.std.proofs.Common.{◌≡◌, ◌≢◌, ◌∙◌, ℕ, Bool, true, false, cond, List, ◌++◌, Option, Some, None, inl, inr, refl, sym, ap, subst, length, map, slice_get, slice_set}
use Rattle.std.specs.Prelude.{IsPermutation}
use Rattle.std.proofs.lemmas.Bool.{cases_eq}
use Rattle.std.proofs.lemmas.List.{map-append}
use Rattle.wb_types.specs.declared.extent.Extent.{Extent}
use Rattle.wb_types.specs.Extents.{rising, sectors_in, IsCutInto}
use Rattle.wb_types.specs.declared.mode.Mode.{Mode}
use Rattle.wb_types.specs.declared.mode.Dev.{Dev}
use Rattle.wb_types.specs.declared.number.OBlock.{OBlock}
use Rattle.wb_disk.specs.Device.{Content as Bytes, History}
use Rattle.wb_words.specs.SharedWords.{Words}
use Rattle.wb_words.specs.declared.step.CellStep.{CellStep}
use Rattle.wb_words.specs.Effects.{result_of}
use Rattle.wb_tasks.specs.Tables.{BlockJob, Reading as ReadingPart, OnBlock}
use Rattle.wb_tasks.specs.Plan.{Plan, want, after, got_of, work_of, answer_seeing}
use Rattle.wb_tasks.specs.Ready.{Has, Suits, SuitsJob}
use Rattle.wb_tasks.proofs.Readiness.{job_stays}
use Rattle.wb_tasks.specs.declared.step.Answer.TheVariants.{Done as Finished}
use Rattle.wb_tasks.specs.declared.step.DeviceStep.{DeviceStep}
use Rattle.wb_tasks.specs.declared.step.DeviceStep.TheVariants.{Read as ReadExtent, Write as WriteExtent}
use Rattle.wb_tasks.specs.declared.step.DeskStep.TheVariants.{Unmap}
use Rattle.wb_tasks.specs.declared.step.Want.TheVariants.{Cell, Device, Desk, End}
use Rattle.wb_tasks.specs.declared.step.Got.TheVariants.{Done, Fault}
use Rattle.wb_promise.specs.declared.job.Job.{Job}
use Rattle.wb_promise.specs.declared.job.Job.TheVariants.{Read, Write, Open}
use Rattle.wb_promise.specs.States.{Shape, Actor}
use Rattle.wb_promise.specs.Happenings.{block_range, write_job, extent_refusal}
use Rattle.wb_promise.specs.Clerk.{Doing, Reading, Position, Entering, enter_each, readings_from, is_entered, sector_for}
use Rattle.wb_contents.proofs.Lists.{set_other, set_there}
use Rattle.wb_runs.proofs.Extents.{may_start, cut_within}
use Rattle.wb_runs.proofs.Covering.{home, homes, extents_left, read_covers, write_covers, desk_covers, read_moves, write_moves}
use Rattle.wb_runs.proofs.Opening.{OpenClaim}
use Rattle.wb_runs.proofs.SoFar.{Moving, words_on, step_on, fault_on, answered_on, readings_sectors, entered_sectors}

abbrev pub sectors_read : Doing → List ℕ
sectors_read doing = map (λ (r : Reading). r.sector) doing.readings

abbrev pub sectors_entered : Doing → List ℕ
sectors_entered doing = map (λ (p : Position). p.sector) doing.entered

-- what is claimed over a target of this mode
abbrev pub JobClaim : Shape → Mode → Job → Plan → Doing → Type 0
JobClaim shape mode (Read extent) plan doing = Moving shape mode extent (λ part. OnBlock (ReadingPart part)) plan (sectors_read doing)
JobClaim shape mode (Write extent content) plan doing = Moving shape mode extent (λ part. OnBlock (write_job mode part)) plan (sectors_entered doing)
JobClaim shape mode (Open opened_in second) plan doing = OpenClaim plan doing
JobClaim shape mode job plan doing = Unit {0}

-- what is noted of who has written, where that is entered
abbrev pub entered_at : Bool → Doing → Entering → Doing
entered_at t doing e = cond t (record doing { entered = e.entered }) doing

-- an actor that has a task is noted to be at its job
abbrev pub NotedClaim : Shape → Mode → Job → Plan → Option (Option Doing) → Type 0
NotedClaim shape mode job plan (Some (Some doing)) = (doing.job ≡ job) × JobClaim shape mode job plan doing
NotedClaim shape mode job plan noted = ⊥

abbrev pub TaskClaim : Shape → Mode → Option (Job × Plan) → Option (Option Doing) → Type 0
TaskClaim shape mode None noted = noted ≡ Some None
TaskClaim shape mode (Some task) noted = NotedClaim shape mode task.0 task.1 noted

abbrev pub AllClaim : Shape → Mode → List Actor → List (Option Doing) → Type 0
AllClaim shape mode actors doings = (a : ℕ) (x : Actor) → slice_get actors a ≡ Some x → TaskClaim shape mode x.task (slice_get doings a)

-- one actor goes on
pub claim_set : (shape : Shape) (mode : Mode) (actors : List Actor) (doings doings' : List (Option Doing)) (a : ℕ) (x y : Actor) → slice_get actors a ≡ Some x →
    ((b : ℕ) → b ≢ a → slice_get doings' b ≡ slice_get doings b) → TaskClaim shape mode y.task (slice_get doings' a) → AllClaim shape mode actors doings → AllClaim shape mode (slice_set actors a y) doings'
claim_set shape mode actors doings doings' a x y e others mine all b z f = elim (cases_eq b a) [
  | inl s ↦ let here : Some y ≡ Some z = sym (set_there actors a x y e) ∙ ap (λ k. slice_get (slice_set actors a y) k) (sym s) ∙ f in
      let same : y ≡ z = cc in subst (λ (k : ℕ). TaskClaim shape mode z.task (slice_get doings' k)) (sym s) (subst (λ (v : Actor). TaskClaim shape mode v.task (slice_get doings' a)) same mine)
  | inr m ↦ subst (λ (d : Option (Option Doing)). TaskClaim shape mode z.task d) (sym (others b m)) (all b z (sym (set_other actors a b y m) ∙ f))
]

-- what is noted of an actor that has a task
pub record Noted (shape : Shape) (mode : Mode) (job : Job) (plan : Plan) (noted : Option (Option Doing)) : Type 0 where
  pub doing : Doing
  pub is : noted ≡ Some (Some doing)
  pub job_is : doing.job ≡ job
  pub claim : JobClaim shape mode job plan doing

pub noted_of : (shape : Shape) (mode : Mode) (job : Job) (plan : Plan) (noted : Option (Option Doing)) → NotedClaim shape mode job plan noted → Noted shape mode job plan noted
noted_of shape mode job plan (Some (Some doing)) c = record { doing = doing; is = refl; job_is = c.0; claim = c.1 }
noted_of shape mode job plan noted c = absurd c

-- what is left of a job of a block, by what its actor has
pub has_steps : (blocks : ℕ) (job : BlockJob) (plan : Plan) (x : Actor) → Suits blocks plan x.card → plan.job ≡ OnBlock job → Has job x.card plan.steps
has_steps blocks job plan x s j = (subst (λ q. SuitsJob blocks q x.card plan.steps) j s).1

module _ (shape : Shape) (mode : Mode) (extent : Extent) where
  reads_all : (cut : List Extent) → IsCutInto extent cut → extent_refusal shape extent ≡ None → (seal : ℕ) → answer_seeing (OnBlock (ReadingPart (block_range shape mode extent cut))) seal Finished ≡ Finished → homes shape extent (extents_left mode (work_of (OnBlock (ReadingPart (block_range shape mode extent cut))) seal)) ≡ cut
  reads_all cut cuts inside seal f = read_moves shape mode extent cut (may_start shape extent inside) (cut_within extent cut cuts) seal f

  writes_all : (cut : List Extent) → IsCutInto extent cut → extent_refusal shape extent ≡ None → (seal : ℕ) → answer_seeing (OnBlock (write_job mode (block_range shape mode extent cut))) seal Finished ≡ Finished → homes shape extent (extents_left mode (work_of (OnBlock (write_job mode (block_range shape mode extent cut))) seal)) ≡ cut
  writes_all cut cuts inside seal f = write_moves shape mode extent cut (may_start shape extent inside) (cut_within extent cut cuts) seal f

module _ (shape : Shape) (mode : Mode) (plan : Plan) (x : Actor) (suits : Suits shape.geometry.origin_blocks plan x.card) where
  -- a step on the words
  pub read_words : (extent : Extent) (doing : Doing) (words : Words) (step : CellStep) → Cell step ≡ want plan → JobClaim shape mode (Read extent) plan doing → JobClaim shape mode (Read extent) (after plan (got_of (result_of words step))) doing
  read_words extent doing words step h c = words_on shape mode extent (λ part. ReadingPart part) (reads_all shape mode extent) plan (sectors_read doing) words x.card step c h (job_stays plan (got_of (result_of words step))) (λ cut j. has_steps shape.geometry.origin_blocks (ReadingPart (block_range shape mode extent cut)) plan x suits j)

  pub write_words : (extent : Extent) (content : Bytes) (doing : Doing) (words : Words) (step : CellStep) → Cell step ≡ want plan → JobClaim shape mode (Write extent content) plan doing → JobClaim shape mode (Write extent content) (after plan (got_of (result_of words step))) doing
  write_words extent content doing words step h c = words_on shape mode extent (λ part. write_job mode part) (writes_all shape mode extent) plan (sectors_entered doing) words x.card step c h (job_stays plan (got_of (result_of words step))) (λ cut j. has_steps shape.geometry.origin_blocks (write_job mode (block_range shape mode extent cut)) plan x suits j)

  -- an extent that is read
  pub read_extent : (extent ex : Extent) (d : Dev) (doing : Doing) (words : Words) (histories : List History) (read : List Bytes) → Device (ReadExtent d ex) ≡ want plan → length read ≡ ex.count → JobClaim shape mode (Read extent) plan doing →
      JobClaim shape mode (Read extent) (after plan Done) (record doing { readings = doing.readings ++ readings_from histories (sector_for shape extent ex) read })
  read_extent extent ex d doing words histories read h many c =
      let at = sector_for shape extent ex in
      let new : map (λ (r : Reading). r.sector) (readings_from histories at read) ≡ sectors_in (home shape extent ex) = readings_sectors histories at read ∙ ap (rising at) many in
      let all = step_on shape mode extent (λ part. ReadingPart part) (reads_all shape mode extent) plan (sectors_read doing) (sectors_read doing ++ sectors_in (home shape extent ex)) x.card (Device (ReadExtent d ex)) tt c h (job_stays plan Done) (λ cut j. has_steps shape.geometry.origin_blocks (ReadingPart (block_range shape mode extent cut)) plan x suits j)
      (λ cut cuts ws answer has v f. read_covers shape mode extent (block_range shape mode extent cut) cuts words x.card (sectors_read doing) (ReadingPart (block_range shape mode extent cut)) d ex ws answer has v f) in
      subst (λ (ms : List ℕ). Moving shape mode extent (λ part. OnBlock (ReadingPart part)) (after plan Done) ms) (ap (λ ss. sectors_read doing ++ ss) (sym new) ∙ sym (map-append (λ (r : Reading). r.sector) doing.readings (readings_from histories at read))) all

  -- one that is written is entered where the write enters it
  pub write_extent : (extent ex : Extent) (content : Bytes) (d : Dev) (doing : Doing) (words : Words) (e : Entering) → Device (WriteExtent d ex) ≡ want plan → e.entered ≡ doing.entered → JobClaim shape mode (Write extent content) plan doing →
      JobClaim shape mode (Write extent content) (after plan Done) (entered_at (is_entered mode d) doing (enter_each content (rising (sector_for shape extent ex) ex.count) e))
  write_extent extent ex content d doing words e h same c =
      subst (λ (ms : List ℕ). Moving shape mode extent (λ part. OnBlock (write_job mode part)) (after plan Done) ms) (by_entry (is_entered mode d)) all
    where
      moved : Bool → List ℕ
      moved t = cond t (sectors_entered doing ++ sectors_in (home shape extent ex)) (sectors_entered doing)

      all : Moving shape mode extent (λ part. OnBlock (write_job mode part)) (after plan Done) (moved (is_entered mode d))
      all = step_on shape mode extent (λ part. write_job mode part) (writes_all shape mode extent) plan (sectors_entered doing) (moved (is_entered mode d)) x.card (Device (WriteExtent d ex)) tt c h (job_stays plan Done) (λ cut j. has_steps shape.geometry.origin_blocks (write_job mode (block_range shape mode extent cut)) plan x suits j)
          (λ cut cuts ws answer has v f. write_covers shape mode extent (block_range shape mode extent cut) cuts words x.card (sectors_entered doing) (write_job mode (block_range shape mode extent cut)) d ex ws answer has v f)

      by_entry : (t : Bool) → moved t ≡ sectors_entered (entered_at t doing (enter_each content (rising (sector_for shape extent ex) ex.count) e))
      by_entry true = ap (λ (ps : List Position). map (λ (p : Position). p.sector) ps ++ sectors_in (home shape extent ex)) (sym same) ∙ sym (entered_sectors content (rising (sector_for shape extent ex) ex.count) e)
      by_entry false = refl

  -- the desk unmaps its block before it is written
  pub write_unmaps : (extent : Extent) (content : Bytes) (block : OBlock) (doing : Doing) (words : Words) → Desk (Unmap block) ≡ want plan → JobClaim shape mode (Write extent content) plan doing → JobClaim shape mode (Write extent content) (after plan Done) doing
  write_unmaps extent content block doing words h c =
      step_on shape mode extent (λ part. write_job mode part) (writes_all shape mode extent) plan (sectors_entered doing) (sectors_entered doing) x.card (Desk (Unmap block)) tt c h (job_stays plan Done) (λ cut j. has_steps shape.geometry.origin_blocks (write_job mode (block_range shape mode extent cut)) plan x suits j)
      (λ cut cuts ws answer has v f. desk_covers shape mode extent (block_range shape mode extent cut) cuts words x.card (sectors_entered doing) (write_job mode (block_range shape mode extent cut)) block ws has v)

  -- and one that fails, whatever is noted of it
  pub read_fails : (extent : Extent) (step : DeviceStep) (doing doing' : Doing) → Device step ≡ want plan → JobClaim shape mode (Read extent) plan doing → JobClaim shape mode (Read extent) (after plan Fault) doing'
  read_fails extent step doing doing' h c = fault_on shape mode extent (λ part. ReadingPart part) (reads_all shape mode extent) plan (sectors_read doing) (sectors_read doing') step c h (job_stays plan Fault)

  pub write_fails : (extent : Extent) (content : Bytes) (step : DeviceStep) (doing doing' : Doing) → Device step ≡ want plan → JobClaim shape mode (Write extent content) plan doing → JobClaim shape mode (Write extent content) (after plan Fault) doing'
  write_fails extent content step doing doing' h c = fault_on shape mode extent (λ part. write_job mode part) (writes_all shape mode extent) plan (sectors_entered doing) (sectors_entered doing') step c h (job_stays plan Fault)

  -- a read that is answered done was given each of its sectors once
  pub read_ends : (extent : Extent) (doing : Doing) → JobClaim shape mode (Read extent) plan doing → End Finished ≡ want plan → IsPermutation (sectors_in extent) (sectors_read doing)
  read_ends extent doing c h = answered_on shape mode extent (λ part. ReadingPart part) (reads_all shape mode extent) plan (sectors_read doing) x.card c h (λ cut j. has_steps shape.geometry.origin_blocks (ReadingPart (block_range shape mode extent cut)) plan x suits j)

  -- a write has entered each of its own once
  pub write_ends : (extent : Extent) (content : Bytes) (doing : Doing) → JobClaim shape mode (Write extent content) plan doing → End Finished ≡ want plan → IsPermutation (sectors_in extent) (sectors_entered doing)
  write_ends extent content doing c h = answered_on shape mode extent (λ part. write_job mode part) (writes_all shape mode extent) plan (sectors_entered doing) x.card c h (λ cut j. has_steps shape.geometry.origin_blocks (write_job mode (block_range shape mode extent cut)) plan x suits j)
