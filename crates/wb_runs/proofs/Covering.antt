-- What a request has moved and what it has still to move are its sectors, each once. A write moves a sector where it is entered.
use Rattle.std.proofs.Common.{◌≡◌, ◌∙◌, ◌+◌, ◌*◌, ◌/◌, ◌%◌, ℕ, Bool, true, false, cond, eqb, List, [], ◌∷◌, ◌++◌, Option, Some, None, Contains, refl, sym, ap, subst, map, if◌then◌else◌}
use Rattle.std.specs.Prelude.{IsPermutation}
use Rattle.std.proofs.lemmas.List.{append_assoc}
use Rattle.wb_types.specs.declared.extent.Extent.{Extent}
use Rattle.wb_types.specs.Extents.{sectors_in, sectors_of, IsCutInto}
use Rattle.wb_types.specs.declared.mode.Dev.{Dev}
use Rattle.wb_types.specs.declared.mode.Mode.{Mode}
use Rattle.wb_types.specs.declared.mode.Mode.TheVariants.{Writeback, Writethrough, Passthrough}
use Rattle.wb_types.specs.declared.number.OBlock.{OBlock}
use Rattle.wb_types.specs.declared.refusal.Refusal.TheVariants.{Failed, Busy, Worn}
use Rattle.wb_words.specs.declared.word.Word.TheVariants.{Cell as LockWord, Seal as SealWord, Number, Count as CountWord, Fail}
use Rattle.wb_words.specs.declared.word.Access.TheVariants.{Shared, Owned}
use Rattle.wb_words.specs.declared.step.CellStep.{CellStep}
use Rattle.wb_words.specs.declared.step.CellStep.TheVariants.{Look, Take, Release, Seal, Finish, Count, SetFailed, SetSuspended}
use Rattle.wb_words.specs.declared.step.CellResult.TheVariants.{Done as Won, Lost as CellLost}
use Rattle.wb_words.specs.declared.card.Card.{Card}
use Rattle.wb_words.specs.SharedWords.{Words, word_at}
use Rattle.wb_words.specs.Effects.{result_of}
use Rattle.wb_tasks.specs.Tables.{BlockJob, BlockRange, Reading, Writing, OnBlock, cache_extent, place_read, places_written, read_step, read_count, write_count, writes, work}
use Rattle.wb_tasks.specs.Plan.{Plan, after, may_take, is_worn, exchange, gives_back, work_of, deferring, answer_seeing, got_of}
use Rattle.wb_tasks.specs.Ready.{Has, IsRest, IsParting}
use Rattle.wb_tasks.specs.declared.step.Answer.{Answer}
use Rattle.wb_tasks.specs.declared.step.Answer.TheVariants.{Done as Finished, Refused as Refuses}
use Rattle.wb_tasks.specs.declared.step.DeviceStep.TheVariants.{Read as ReadExtent, Write as WriteExtent}
use Rattle.wb_tasks.specs.declared.step.Want.{Want}
use Rattle.wb_tasks.specs.declared.step.DeskStep.TheVariants.{Unmap}
use Rattle.wb_tasks.specs.declared.step.Want.TheVariants.{Cell, Device, Desk}
use Rattle.std.proofs.Math.Nat.{mul-add-mod_self_right, mod-mod}
use Rattle.wb_types.proofs.Lists.{Contains-first, Contains-behind}
use Rattle.wb_types.specs.declared.number.CBlock.{CBlock}
use Rattle.wb_words.specs.SharedWords.{place_in, dirty_in}
use Rattle.wb_promise.specs.States.{Shape, block_size}
use Rattle.wb_promise.specs.Happenings.{block_range, write_job}
use Rattle.wb_promise.specs.Clerk.{is_entered, sector_for}
use Rattle.wb_runs.proofs.Extents.{MayStart, AllWithin, cut_own}
use Rattle.wb_runs.proofs.Plans.{plan_of}

-- the extents that are still to be read, and those that a write has still to enter in this mode
abbrev pub extents_left : Mode → List Want → List Extent
extents_left mode [] = []
extents_left mode (Device (ReadExtent d e) ∷ ws) = e ∷ extents_left mode ws
extents_left mode (Device (WriteExtent d e) ∷ ws) = cond (is_entered mode d) (e ∷ extents_left mode ws) (extents_left mode ws)
extents_left mode (w ∷ ws) = extents_left mode ws

-- the sectors of the origin's address range that an extent of a device is for, in a request of one block
abbrev pub home : Shape → Extent → Extent → Extent
home shape whole e = record { first = sector_for shape whole e; count = e.count }

abbrev pub homes : Shape → Extent → List Extent → List Extent
homes shape whole es = map (home shape whole) es

-- it is known where they are: the seal was looked at
abbrev pub is_begun : List Want → Bool
is_begun (Cell (Look Fail) ∷ ws) = false
is_begun (Cell (Look (LockWord b)) ∷ ws) = false
is_begun (Cell (Look (SealWord b)) ∷ ws) = false
is_begun (Cell (Take access b seen) ∷ ws) = false
is_begun ws = true

abbrev pub CoversWhere : Bool → Shape → Mode → Extent → List Want → List ℕ → Type 0
CoversWhere true shape mode whole steps moved = IsPermutation (sectors_in whole) (moved ++ sectors_of (homes shape whole (extents_left mode steps)))
CoversWhere false shape mode whole steps moved = moved ≡ []

abbrev pub Covers : Shape → Mode → Extent → List Want → List ℕ → Type 0
Covers shape mode whole steps moved = CoversWhere (is_begun steps) shape mode whole steps moved

-- what is left of the work of a job begins with no look at its seal
rest_begun : (job : BlockJob) (next : Bool) (ws : List Want) → IsRest job next ws → is_begun ws ≡ true
rest_begun job next (Cell (Look word) ∷ ws) r = absurd r
rest_begun job next (Cell (Take access b seen) ∷ ws) r = absurd r
rest_begun job next ws r = refl

parting_begun : (job : BlockJob) (ws : List Want) → IsParting job ws → is_begun ws ≡ true
parting_begun job (Cell step ∷ ws) p = absurd p
parting_begun job ws p = refl

-- so it covers as before
begun_covers : (shape : Shape) (mode : Mode) (whole : Extent) (ws : List Want) (moved : List ℕ) → is_begun ws ≡ true → IsPermutation (sectors_in whole) (moved ++ sectors_of (homes shape whole (extents_left mode ws))) → Covers shape mode whole ws moved
begun_covers shape mode whole ws moved b p = subst (λ (t : Bool). CoversWhere t shape mode whole ws moved) (sym b) p

-- ---- wherever its block stands, a request moves its own sectors

module _ (shape : Shape) (whole : Extent) where
  own_home : (e : Extent) → sector_for shape whole e ≡ e.first → home shape whole e ≡ e
  own_home e h = ap (λ (at : ℕ). let x : Extent = record { first = at; count = e.count } in x) h

  cached_home : (part : BlockRange) → part.block_sectors ≡ block_size shape → (c : CBlock) (e : Extent) → home shape whole (cache_extent part c e) ≡ home shape whole e
  cached_home part same c e = ap (λ (at : ℕ). let x : Extent = record { first = whole.first / block_size shape * block_size shape + at; count = e.count } in x)
      (ap (λ (b : ℕ). (c.0 * b + e.first % b) % block_size shape) same ∙ mul-add-mod_self_right c.0 (block_size shape) (e.first % block_size shape) ∙ mod-mod e.first (block_size shape))

  module _ (mode : Mode) (part : BlockRange) (same : part.block_sectors ≡ block_size shape) where
    -- one extent more
    one_home : (e : Extent) (x : Extent) (es : List Extent) (left : List Extent) → home shape whole x ≡ e → homes shape whole left ≡ es → homes shape whole (x ∷ left) ≡ e ∷ es
    one_home e x es left h r = ap (λ (y : Extent). y ∷ homes shape whole left) h ∙ ap (λ (ys : List Extent). e ∷ ys) r

    reads_home : (place : Option CBlock) (es : List Extent) (ws : List Want) → ((e : Extent) → Contains es e → sector_for shape whole e ≡ e.first) → extents_left mode ws ≡ [] → homes shape whole (extents_left mode (map (read_step part place) es ++ ws)) ≡ es
    reads_home place [] ws own n = ap (homes shape whole) n
    reads_home None (e ∷ es) ws own n = one_home e e es _ (own_home e (own e (Contains-first e es))) (reads_home None es ws (λ x m. own x (Contains-behind e es x m)) n)
    reads_home (Some c) (e ∷ es) ws own n = one_home e (cache_extent part c e) es _ (cached_home part same c e ∙ own_home e (own e (Contains-first e es))) (reads_home (Some c) es ws (λ x m. own x (Contains-behind e es x m)) n)

  -- each extent is entered once, where it is written first
  module _ (part : BlockRange) (same : part.block_sectors ≡ block_size shape) where
    writes_home : (mode : Mode) (place : Option CBlock) (es : List Extent) (ws : List Want) → deferring mode place Finished ≡ Finished → ((e : Extent) → Contains es e → sector_for shape whole e ≡ e.first) → extents_left mode ws ≡ [] →
        homes shape whole (extents_left mode (writes part (places_written mode place) es ++ ws)) ≡ es
    writes_home mode place [] ws f own n = ap (homes shape whole) n
    writes_home Writeback None (e ∷ es) ws f own n = one_home Writeback part same e e es _ (own_home e (own e (Contains-first e es))) (writes_home Writeback None es ws f (λ x m. own x (Contains-behind e es x m)) n)
    writes_home Writeback (Some c) (e ∷ es) ws f own n = one_home Writeback part same e (cache_extent part c e) es _ (cached_home part same c e ∙ own_home e (own e (Contains-first e es))) (writes_home Writeback (Some c) es ws f (λ x m. own x (Contains-behind e es x m)) n)
    writes_home Writethrough None (e ∷ es) ws f own n = one_home Writethrough part same e e es _ (own_home e (own e (Contains-first e es))) (writes_home Writethrough None es ws f (λ x m. own x (Contains-behind e es x m)) n)
    writes_home Writethrough (Some c) (e ∷ es) ws f own n = one_home Writethrough part same e e es _ (own_home e (own e (Contains-first e es))) (writes_home Writethrough (Some c) es ws f (λ x m. own x (Contains-behind e es x m)) n)
    writes_home Passthrough None (e ∷ es) ws f own n = one_home Passthrough part same e e es _ (own_home e (own e (Contains-first e es))) (writes_home Passthrough None es ws f (λ x m. own x (Contains-behind e es x m)) n)
    writes_home Passthrough (Some c) (e ∷ es) ws f own n = absurd (cc)

-- counting and giving back move nothing
read_end : (mode : Mode) (place : Option CBlock) (part : BlockRange) → extents_left mode (read_count place ∷ Cell (Release Shared part.block) ∷ []) ≡ []
read_end mode None part = refl
read_end mode (Some c) part = refl

write_end : (mode : Mode) (place : Option CBlock) (part : BlockRange) → extents_left mode (Cell (Finish part.block) ∷ write_count place ∷ Cell (Release Owned part.block) ∷ []) ≡ []
write_end mode None part = refl
write_end mode (Some c) part = refl

-- whatever the seal of its block, where it may be answered done once that was seen
pub read_moves : (shape : Shape) (mode : Mode) (whole : Extent) (cut : List Extent) → MayStart shape whole → AllWithin whole cut → (seal : ℕ) → answer_seeing (OnBlock (Reading (block_range shape mode whole cut))) seal Finished ≡ Finished →
    homes shape whole (extents_left mode (work_of (OnBlock (Reading (block_range shape mode whole cut))) seal)) ≡ cut
read_moves shape mode whole cut m i seal f = reads_home shape whole mode (block_range shape mode whole cut) refl (place_read mode (place_in seal)) cut _ (cut_own shape whole cut m i) (read_end mode (place_read mode (place_in seal)) (block_range shape mode whole cut))

pub write_moves : (shape : Shape) (mode : Mode) (whole : Extent) (cut : List Extent) → MayStart shape whole → AllWithin whole cut → (seal : ℕ) → answer_seeing (OnBlock (write_job mode (block_range shape mode whole cut))) seal Finished ≡ Finished →
    homes shape whole (extents_left mode (work_of (OnBlock (write_job mode (block_range shape mode whole cut))) seal)) ≡ cut
write_moves shape mode whole cut m i seal f = by_place mode (place_in seal) (dirty_in seal)
  where
    all : (mode : Mode) (place : Option CBlock) → deferring mode place Finished ≡ Finished → homes shape whole (extents_left mode (writes (block_range shape mode whole cut) (places_written mode place) cut ++ Cell (Finish (block_range shape mode whole cut).block) ∷ write_count place ∷ Cell (Release Owned (block_range shape mode whole cut).block) ∷ [])) ≡ cut
    all mode place f = writes_home shape whole (block_range shape mode whole cut) refl mode place cut _ f (cut_own shape whole cut m i) (write_end mode place (block_range shape mode whole cut))

    -- a seal before the first moves nothing, nor does the desk that unmaps a block
    by_place : (mode : Mode) (place : Option CBlock) (dirty : Bool) → homes shape whole (extents_left mode (work (write_job mode (block_range shape mode whole cut)) place dirty)) ≡ cut
    by_place Writeback None dirty = all Writeback None refl
    by_place Writeback (Some c) true = all Writeback (Some c) refl
    by_place Writeback (Some c) false = all Writeback (Some c) refl
    by_place Writethrough None dirty = all Writethrough None refl
    by_place Writethrough (Some c) dirty = all Writethrough (Some c) refl
    by_place Passthrough None dirty = all Passthrough None refl
    by_place Passthrough (Some c) dirty = writes_home shape whole (block_range shape Passthrough whole cut) refl Passthrough None cut _ refl (cut_own shape whole cut m i) (write_end Passthrough (Some c) (block_range shape Passthrough whole cut))

-- a refused task is answered otherwise
undone : (P : Type 0) (refusal : _) → Refuses refusal ≡ Finished → P
undone P refusal e = absurd (cc)

-- a job that may be answered done has no cause not to be
seen : (job : BlockJob) (seal : ℕ) (answer : Answer) → answer_seeing (OnBlock job) seal answer ≡ Finished → answer_seeing (OnBlock job) seal Finished ≡ Finished
seen (Writing part) seal answer f = by_mode part.mode (place_in seal) f
  where
    by_mode : (mode : Mode) (place : Option CBlock) → deferring mode place answer ≡ Finished → deferring mode place Finished ≡ Finished
    by_mode Passthrough (Some c) f = f
    by_mode mode place f = refl
seen job seal answer f = refl

module _ (shape : Shape) (mode : Mode) (whole : Extent) (part : BlockRange) (cut : IsCutInto whole part.extents) (words : Words) (card : Card) (moved : List ℕ) where
  -- the task after a step, if it may still be answered done
  abbrev Then : Plan → List ℕ → Type 0
  Then s moved' = s.answer ≡ Finished → Covers shape mode whole s.steps moved'

  -- the job moves these extents, where it may be answered done once it has seen its seal
  abbrev MovesAll : BlockJob → Type 0
  MovesAll job = (seal : ℕ) → answer_seeing (OnBlock job) seal Finished ≡ Finished → homes shape whole (extents_left mode (work_of (OnBlock job) seal)) ≡ part.extents

  onward_covers : (ws : List Want) (answer : Answer) → is_begun ws ≡ true → IsPermutation (sectors_in whole) (moved ++ sectors_of (homes shape whole (extents_left mode ws))) → answer ≡ Finished → Covers shape mode whole ws moved
  onward_covers ws answer b p f = begun_covers shape mode whole ws moved b p

  -- a step on the words moves nothing
  pub cell_covers : (job : BlockJob) → MovesAll job → (step : CellStep) (ws : List Want) (answer : Answer) → Has job card (Cell step ∷ ws) → Covers shape mode whole (Cell step ∷ ws) moved → Then (after (plan_of (OnBlock job) (Cell step ∷ ws) answer) (got_of (result_of words step))) moved
  cell_covers job m (Look Fail) ws answer h c = by_test (eqb words.fail 0)
    where
      by_test : (t : Bool) → Then (if t then plan_of (OnBlock job) ws answer else plan_of (OnBlock job) [] (Refuses Failed)) moved
      by_test true f = subst (λ (v : List Want). Covers shape mode whole v moved) (sym h.1) c
      by_test false f = undone _ Failed f
  cell_covers job m (Look (LockWord b)) ws answer h c = by_test (may_take (OnBlock job) (word_at words.cells b))
    where
      by_test : (t : Bool) → Then (if t then plan_of (OnBlock job) (exchange (OnBlock job) (word_at words.cells b)) answer else plan_of (OnBlock job) [] (Refuses Busy)) moved
      by_test true f = c
      by_test false f = undone _ Busy f
  cell_covers job m (Look (SealWord b)) ws answer h c =
      λ f. subst (λ (ms : List ℕ). IsPermutation (sectors_in whole) (ms ++ sectors_of (homes shape whole (extents_left mode (work_of (OnBlock job) (word_at words.seals b)))))) (sym c)
      (subst (λ (es : List Extent). IsPermutation (sectors_in whole) (sectors_of es)) (sym (m (word_at words.seals b) (seen job (word_at words.seals b) answer f))) cut.each_once)
  cell_covers job m (Look (Number b)) ws answer h c = by_test (is_worn (OnBlock job) (word_at words.numbers b))
    where
      by_test : (t : Bool) → Then (if t then plan_of (OnBlock job) (gives_back (OnBlock job)) (Refuses Worn) else plan_of (OnBlock job) ws answer) moved
      by_test true f = undone _ Worn f
      by_test false f = begun_covers shape mode whole ws moved (rest_begun job true ws h.2) c
  cell_covers job m (Take access b seen) ws answer h c = by_test (eqb (word_at words.cells b) seen)
    where
      by_test : (t : Bool) → Then (after (plan_of (OnBlock job) (Cell (Take access b seen) ∷ ws) answer) (got_of (if t then Won else CellLost))) moved
      by_test true f = subst (λ (v : List Want). Covers shape mode whole v moved) (sym h.4) c
      by_test false f = undone _ Busy f
  cell_covers job m (Release access b) ws answer h c = onward_covers ws answer (parting_begun job ws h.1.1.2) c
  cell_covers job m (Seal b place dirty) ws answer h c = onward_covers ws answer (rest_begun job h.1.0 ws h.1.1.2) c
  cell_covers job m (Finish b) ws answer h c = onward_covers ws answer (rest_begun job false ws h.1.1.3) c
  cell_covers job m (Count kind) ws answer h c = onward_covers ws answer (rest_begun job h.1.0 ws h.1.1) c
  cell_covers job m SetFailed ws answer h c = onward_covers ws answer (ap is_begun h.1) c
  cell_covers job m step ws answer h c = absurd h.1.1

  -- one on an extent moves its sectors, where it is done
  pub read_covers : (job : BlockJob) (d : _) (e : Extent) (ws : List Want) (answer : Answer) → Has job card (Device (ReadExtent d e) ∷ ws) → Covers shape mode whole (Device (ReadExtent d e) ∷ ws) moved → answer ≡ Finished → Covers shape mode whole ws (moved ++ sectors_in (home shape whole e))
  read_covers job d e ws answer h c f = begun_covers shape mode whole ws (moved ++ sectors_in (home shape whole e)) (rest_begun job h.1.0 ws h.1.1.1)
      (subst (λ (xs : List ℕ). IsPermutation (sectors_in whole) xs) (sym (append_assoc moved (sectors_in (home shape whole e)) (sectors_of (homes shape whole (extents_left mode ws))))) c)

  pub write_covers : (job : BlockJob) (d : Dev) (e : Extent) (ws : List Want) (answer : Answer) → Has job card (Device (WriteExtent d e) ∷ ws) → Covers shape mode whole (Device (WriteExtent d e) ∷ ws) moved → answer ≡ Finished → Covers shape mode whole ws (cond (is_entered mode d) (moved ++ sectors_in (home shape whole e)) moved)
  write_covers job d e ws answer h c f = by_entry (is_entered mode d) c
    where
      by_entry : (t : Bool) → IsPermutation (sectors_in whole) (moved ++ sectors_of (homes shape whole (cond t (e ∷ extents_left mode ws) (extents_left mode ws)))) → Covers shape mode whole ws (cond t (moved ++ sectors_in (home shape whole e)) moved)
      by_entry true c = begun_covers shape mode whole ws (moved ++ sectors_in (home shape whole e)) (rest_begun job h.1.0 ws h.1.1.1)
          (subst (λ (xs : List ℕ). IsPermutation (sectors_in whole) xs) (sym (append_assoc moved (sectors_in (home shape whole e)) (sectors_of (homes shape whole (extents_left mode ws))))) c)
      by_entry false c = begun_covers shape mode whole ws moved (rest_begun job h.1.0 ws h.1.1.1) c

  -- the desk that unmaps a block moves none
  pub desk_covers : (job : BlockJob) (block : OBlock) (ws : List Want) → Has job card (Desk (Unmap block) ∷ ws) → Covers shape mode whole (Desk (Unmap block) ∷ ws) moved → Covers shape mode whole ws moved
  desk_covers job block ws h c = begun_covers shape mode whole ws moved (rest_begun job h.1.0 ws h.1.1.1) c
