-- A run is made of its first step and the run of what is left after it.
use Rattle.std.proofs.Common.{◌≡◌, ◌≢◌, ◌^◌, ◌-◌, ◌≤◌, ℕ, min, Bool, true, false, List, [], ◌∷◌, ◌++◌, Option, Some, None, if◌then◌else◌, IfSome, IfNone, refl, sym, ap, ◌∙◌, subst, arith}
use Rattle.std.proofs.lemmas.Bool.{ne_eqb}
use Rattle.wb_types.specs.declared.extent.Extent.{Extent}
use Rattle.wb_types.specs.Extents.{pieces}
use Rattle.wb_types.specs.declared.mode.Dev.{Dev}
use Rattle.wb_types.specs.declared.number.CBlock.{CBlock}
use Rattle.wb_types.specs.declared.refusal.Refusal.TheVariants.{Busy, Defer, Failed, Worn, Io}
use Rattle.wb_words.specs.SharedWords.{can_take}
use Rattle.wb_words.specs.declared.word.Word.TheVariants.{Cell as LockWord, Number, Fail}
use Rattle.wb_words.specs.declared.step.CellStep.TheVariants.{Look, Seal, SetFailed}
use Rattle.wb_tasks.specs.Tables.{OnBlock, Reading, Writing, taking, work, dirtying, is_deferred, place_read, places_written, writes, writing, read_step, write_step, read_count}
use Rattle.wb_tasks.specs.declared.step.DeviceStep.TheVariants.{Read, Write}
use Rattle.wb_tasks.specs.declared.step.Answer.TheVariants.{Done as Finished, Refused as Refuses}
use Rattle.wb_tasks.specs.Ready.{StaysReady}
use Rattle.wb_tasks.specs.Plan.{Plan, table, want, after, answer_at, deferring, Fits, IsStep}
use Rattle.wb_tasks.specs.Run.{IsRunOf}
use Rattle.wb_tasks.specs.declared.step.Answer.{Answer}
use Rattle.wb_tasks.specs.declared.step.Want.{Want}
use Rattle.wb_tasks.specs.declared.step.Want.TheVariants.{Cell, Device, End}
use Rattle.wb_tasks.specs.declared.step.Got.{Got}
use Rattle.wb_tasks.specs.declared.step.Got.TheVariants.{Word, Fault}
use Rattle.wb_tasks.proofs.Modes.{IsWriting, deferred_or_not}
use Rattle.wb_tasks.proofs.Pieces.{first_piece}
use Rattle.wb_port.specs.declared.moving.TheConstants.{LONGEST}
use Rattle.wb_tasks.specs.Phases.{job_on_block}
use Rattle.wb_port.specs.Requests.{ComesTo}
use Rattle.wb_port.specs.Straight.{Continues, access_by, giving_back, job_by, left, part_at, range_in, straight_writing, straight_written, work_by}
use Rattle.wb_port.specs.declared.straight.Part.{Part}
use Rattle.wb_port.specs.declared.straight.Way.{Way}
use Rattle.wb_port.specs.declared.straight.Way.TheVariants.{Reads, Writes}

module _ {S : Type 0} (ready : S → Want → Type 0) (led : S → Want → Got → S → Type 0) where
  -- who stays ready is ready for the next step
  pub ready_now : (s : Plan) (old : S) (w : Want) → StaysReady ready led s old → want s ≡ w → IsStep w → ready old w
  ready_now s old w stays e step = subst (λ (x : Want). ready old x) e (stays [] old tt refl (subst (λ (x : Want). IsStep x) (sym e) step))

  -- and stays so after it
  pub ready_after : (s : Plan) (old : S) (w : Want) (g : Got) (mid : S) (t : Plan) → StaysReady ready led s old → want s ≡ w → Fits w g → led old w g mid → after s g ≡ t → StaysReady ready led t mid
  ready_after s old w g mid t stays e fits did is = subst (λ (x : Plan). StaysReady ready led x mid) is (λ steps end first leads step. stays ((w, g) ∷ steps) end (sym e, fits, first) (mid, did, leads) step)

module _ {S : Type 0} (led : S → Want → Got → S → Type 0) where
  pub goes_on : (s : Plan) (old : S) (w : Want) (g : Got) (mid : S) (t : Plan) (answer : Answer) (new : S) → want s ≡ w → Fits w g → led old w g mid → after s g ≡ t → ComesTo led t mid answer new → ComesTo led s old answer new
  goes_on s old w g mid t answer new e fits did is rest = ((w, g) ∷ rest.0, (sym e, fits, subst (λ (x : Plan). IsRunOf x rest.0 answer) (sym is) rest.1), (mid, did, rest.2))

  pub ends : (s : Plan) (new : S) (answer : Answer) → want s ≡ End answer → ComesTo led s new answer new
  ends s new answer e = ([], e, refl)

module _ {S : Type 0} (ready : S → Want → Type 0) (led : S → Want → Got → S → Type 0) where
  -- one step goes on, and two stretches make one
  pub steps_on : (s : Plan) (old : S) (w : Want) (g : Got) (mid : S) (t : Plan) → StaysReady ready led s old → want s ≡ w → Fits w g → led old w g mid → after s g ≡ t → Continues ready led s old t mid
  steps_on s old w g mid t stays e fits did is = (ready_after ready led s old w g mid t stays e fits did is, λ answer end run. goes_on led s old w g mid t answer end e fits did is run)

  pub on_and_on : (s : Plan) (old : S) (t : Plan) (mid : S) (u : Plan) (new : S) → Continues ready led s old t mid → Continues ready led t mid u new → Continues ready led s old u new
  on_and_on s old t mid u new first second = (second.0, λ answer end run. first.1 answer end (second.1 answer end run))

-- what follows where there is no device that failed, and where there is one
pub where_none : (r : Option Dev) (P Q : Type 0) → (P → Q) → IfNone r P → IfNone r Q
where_none None P Q f p = f p
where_none (Some d) P Q f p = p

pub where_some : (r : Option Dev) (P Q : Dev → Type 0) → ((d : Dev) → P d → Q d) → IfSome r P → IfSome r Q
where_some None P Q f p = p
where_some (Some d) P Q f p = f d p

-- ---- what is left after a step

-- before the first
pub begins : (way : Way) (part : Part) → table (OnBlock (job_by way part)) ≡ left (job_by way part) (Cell (Look Fail) ∷ Cell (Look (LockWord part.block)) ∷ []) Finished
begins Reads part = refl
begins Writes part = refl

-- a lock word that allows such a hold, and one that does not
pub after_free : (way : Way) (part : Part) (seen : ℕ) → can_take (access_by way) seen ≡ true → after (left (job_by way part) (Cell (Look (LockWord part.block)) ∷ []) Finished) (Word seen) ≡ left (job_by way part) (taking (access_by way) part.block seen) Finished
after_free Reads part seen e = rw e refl
after_free Writes part seen e = rw e refl

pub after_taken : (way : Way) (part : Part) (seen : ℕ) → can_take (access_by way) seen ≡ false → after (left (job_by way part) (Cell (Look (LockWord part.block)) ∷ []) Finished) (Word seen) ≡ left (job_by way part) [] (Refuses Busy)
after_taken Reads part seen e = rw e refl
after_taken Writes part seen e = rw e refl

-- the fail word, clear or not
pub after_clear : (way : Way) (part : Part) (found : ℕ) → found ≡ 0 → after (table (OnBlock (job_by way part))) (Word found) ≡ left (job_by way part) (Cell (Look (LockWord part.block)) ∷ []) Finished
after_clear Reads part found e = rw e refl
after_clear Writes part found e = rw e refl

pub after_failure : (way : Way) (part : Part) (found : ℕ) → found ≢ 0 → after (table (OnBlock (job_by way part))) (Word found) ≡ left (job_by way part) [] (Refuses Failed)
after_failure Reads part found ne = rw (ne_eqb found 0 ne) refl
after_failure Writes part found ne = rw (ne_eqb found 0 ne) refl

-- the sectors at each of these places, and then the end
written_so : (part : Part) (places : List (Option CBlock)) (place : Option CBlock) → writes (range_in part) places (part.sectors ∷ []) ++ straight_written part place ≡ straight_writing part places place
written_so part [] place = refl
written_so part (to ∷ places) place = ap (λ (ws : List Want). write_step (range_in part) to part.sectors ∷ ws) (written_so part places place)

-- once its block and number were seen: it goes on, or gives its block back
goes_so : (part : Part) (place : Option CBlock) (dirty : Bool) → is_deferred part.mode place ≡ false
    → left (Writing (range_in part)) (writing part.mode (range_in part) place dirty) (deferring part.mode place Finished) ≡ left (Writing (range_in part)) (dirtying part.mode part.block place dirty ++ straight_writing part (places_written part.mode place) place) Finished
goes_so part place dirty goes =
    let does : IsWriting false part.mode (range_in part) place dirty = subst (λ (b : Bool). IsWriting b part.mode (range_in part) place dirty) goes (deferred_or_not part.mode (range_in part) place dirty) in
    let steps = does.0 ∙ ap (λ (ws : List Want). dirtying part.mode part.block place dirty ++ ws) (written_so part (places_written part.mode place) place) in
    λ i. left (Writing (range_in part)) (steps i) (does.1 i)

waits_so : (part : Part) (place : Option CBlock) (dirty : Bool) → is_deferred part.mode place ≡ true
    → left (Writing (range_in part)) (writing part.mode (range_in part) place dirty) (deferring part.mode place Finished) ≡ left (Writing (range_in part)) (giving_back Writes part) (Refuses Defer)
waits_so part place dirty waits =
    let does : IsWriting true part.mode (range_in part) place dirty = subst (λ (b : Bool). IsWriting b part.mode (range_in part) place dirty) waits (deferred_or_not part.mode (range_in part) place dirty) in
    λ i. left (Writing (range_in part)) (does.0 i) (does.1 i)

-- a number, where the block is to be read; it answers done then, wherever the block stands
pub after_number_read : (way : Way) (part : Part) (place place' : Option CBlock) (dirty : Bool) (number : ℕ) → way ≡ Reads → place' ≡ place_read part.mode place
    → after (left (job_by way part) (Cell (Look (Number part.block)) ∷ work (job_by way part) place dirty) (answer_at (job_by way part) place Finished)) (Word number) ≡ left (Reading (range_in part)) (read_step (range_in part) place' part.sectors ∷ read_count place' ∷ giving_back Reads part) Finished
after_number_read Reads part place place' dirty number e p = rw p refl
after_number_read Writes part place place' dirty number e p = absurd (cc)

-- one that has a next one, where it is to be written: the block is given back, where the desk is needed first, or else written
pub after_number_write : (way : Way) (part : Part) (place place' : Option CBlock) (dirty dirty' : Bool) (number : ℕ) → way ≡ Writes → place' ≡ place → dirty' ≡ dirty → number ≢ 2 ^ 64 - 1 → is_deferred part.mode place' ≡ false
    → after (left (job_by way part) (Cell (Look (Number part.block)) ∷ work (job_by way part) place dirty) (answer_at (job_by way part) place Finished)) (Word number)
    ≡ left (Writing (range_in part)) (dirtying part.mode part.block place' dirty' ++ straight_writing part (places_written part.mode place') place') Finished
after_number_write Reads part place place' dirty dirty' number e p d ne u = absurd (cc)
after_number_write Writes part place place' dirty dirty' number e p d ne u = rw (p, d, ne_eqb number (2 ^ 64 - 1) ne) (goes_so part place dirty (subst (λ (x : Option CBlock). is_deferred part.mode x ≡ false) p u))

pub after_deferred : (way : Way) (part : Part) (place place' : Option CBlock) (dirty : Bool) (number : ℕ) → way ≡ Writes → place' ≡ place → number ≢ 2 ^ 64 - 1 → is_deferred part.mode place' ≡ true
    → after (left (job_by way part) (Cell (Look (Number part.block)) ∷ work (job_by way part) place dirty) (answer_at (job_by way part) place Finished)) (Word number) ≡ left (Writing (range_in part)) (giving_back Writes part) (Refuses Defer)
after_deferred Reads part place place' dirty number e p ne u = absurd (cc)
after_deferred Writes part place place' dirty number e p ne u = rw (ne_eqb number (2 ^ 64 - 1) ne) (waits_so part place dirty (subst (λ (x : Option CBlock). is_deferred part.mode x ≡ true) p u))

-- and the last
pub after_last : (way : Way) (part : Part) (place : Option CBlock) (dirty : Bool) (number : ℕ) → way ≡ Writes → number ≡ 2 ^ 64 - 1
    → after (left (job_by way part) (Cell (Look (Number part.block)) ∷ work (job_by way part) place dirty) (answer_at (job_by way part) place Finished)) (Word number) ≡ left (Writing (range_in part)) (giving_back Writes part) (Refuses Worn)
after_last Reads part place dirty number e l = absurd (cc)
after_last Writes part place dirty number e l = rw l refl

-- ---- a write

abbrev still_writing : Part → List Want → Plan
still_writing part ws = left (Writing (range_in part)) ws Finished

-- of one that is mapped it is, or is not
pub mapped_first : (part : Part) (place : Option CBlock) (c : CBlock) (dirty due : Bool) → place ≡ Some c → dirtying part.mode part.block (Some c) dirty ≡ (if due then (Cell (Seal part.block (Some c) true) ∷ []) else [])
    → still_writing part (dirtying part.mode part.block place dirty ++ straight_writing part (places_written part.mode place) place)
    ≡ still_writing part ((if due then (Cell (Seal part.block (Some c) true) ∷ []) else []) ++ straight_writing part (places_written part.mode (Some c)) (Some c))
mapped_first part place c dirty due p d = rw p (ap (λ (ws : List Want). still_writing part (ws ++ straight_writing part (places_written part.mode (Some c)) (Some c))) d)

-- the first place where it is written, and whether there is another
pub written_first : (part : Part) (place first : Option CBlock) (again : Bool) → places_written part.mode place ≡ first ∷ (if again then (place ∷ []) else [])
    → still_writing part (straight_writing part (places_written part.mode place) place) ≡ still_writing part (write_step (range_in part) first part.sectors ∷ straight_writing part (if again then (place ∷ []) else []) place)
written_first part place first again e = ap (λ (places : List (Option CBlock)). still_writing part (straight_writing part places place)) e

-- and what is left after it
pub again_is : (part : Part) (place : Option CBlock) (again b : Bool) → again ≡ b → still_writing part (straight_writing part (if again then (place ∷ []) else []) place) ≡ still_writing part (straight_writing part (if b then (place ∷ []) else []) place)
again_is part place again b e = ap (λ (x : Bool). still_writing part (straight_writing part (if x then (place ∷ []) else []) place)) e

-- a read that failed, and a write
pub after_failed_read : (part : Part) (w : Want) (device : Dev) (e : Extent) (ws : List Want) → Device (Read device e) ≡ w → after (left (Reading (range_in part)) (w ∷ ws) Finished) Fault ≡ left (Reading (range_in part)) (giving_back Reads part) (Refuses (Io device))
after_failed_read part w device e ws is = subst (λ (v : Want). after (left (Reading (range_in part)) (v ∷ ws) Finished) Fault ≡ left (Reading (range_in part)) (giving_back Reads part) (Refuses (Io device))) is refl

pub after_failed_write : (part : Part) (w : Want) (device : Dev) (e : Extent) (ws : List Want) → Device (Write device e) ≡ w → after (left (Writing (range_in part)) (w ∷ ws) Finished) Fault ≡ left (Writing (range_in part)) (Cell SetFailed ∷ []) (Refuses (Io device))
after_failed_write part w device e ws is = subst (λ (v : Want). after (left (Writing (range_in part)) (v ∷ ws) Finished) Fault ≡ left (Writing (range_in part)) (Cell SetFailed ∷ []) (Refuses (Io device))) is refl

-- ---- sectors that one step moves

pub one_piece : (piece : ℕ) (sectors : Extent) → 1 ≤ piece → 1 ≤ sectors.count → sectors.count ≤ piece → pieces piece sectors ≡ sectors ∷ []
one_piece piece sectors p s few =
    let is : min sectors.count piece ≡ sectors.count = omega (arith, few) in
    let none : sectors.count - sectors.count ≡ 0 = omega arith in
    rw (first_piece piece sectors.first sectors.count p s, is, none) refl

pub one_part : (way : Way) (part : Part) → 1 ≤ part.sectors.count → part.sectors.count ≤ LONGEST → job_on_block (work_by way) (part_at part) ≡ job_by way part
one_part way part some few = by_way way
  where
    one : part_at part ≡ range_in part
    one = ap (λ (es : List Extent). record { mode = part.mode; block_sectors = part.block_sectors; block = part.block; extents = es }) (one_piece LONGEST part.sectors (omega arith) some few)

    by_way : (way : Way) → job_on_block (work_by way) (part_at part) ≡ job_by way part
    by_way Reads = ap Reading one
    by_way Writes = ap Writing one
