-- What a write does by its mode and by where its block stands, in one of four ways: the one place where proofs go by the mode.
use Rattle.std.proofs.Common.{◌≡◌, ◌≢◌, ◌≤◌, ◌*◌, ◌++◌, ℕ, Bool, true, false, List, [], ◌∷◌, Option, Some, None, refl, arith, append_assoc}
use Rattle.wb_types.specs.declared.mode.Mode.{Mode}
use Rattle.wb_types.specs.declared.mode.Mode.TheVariants.{Writeback, Writethrough, Passthrough}
use Rattle.wb_types.specs.declared.number.CBlock.{CBlock}
use Rattle.wb_types.specs.declared.refusal.Refusal.TheVariants.{Defer}
use Rattle.wb_words.specs.declared.word.Access.TheVariants.{Owned}
use Rattle.wb_words.specs.declared.step.CellStep.TheVariants.{Release, Seal, Finish}
use Rattle.wb_tasks.specs.Tables.{BlockRange, places_written, dirtying, is_deferred, write_count, writes, writing}
use Rattle.wb_tasks.specs.Plan.{deferring}
use Rattle.wb_tasks.specs.Length.{most_written}
use Rattle.wb_tasks.specs.declared.step.Answer.TheVariants.{Done as Finished, Refused as Refuses}
use Rattle.wb_tasks.specs.declared.step.Want.{Want}
use Rattle.wb_tasks.specs.declared.step.Want.TheVariants.{Cell}

-- each extent is written at these places, and the write ends, its block standing at this place
abbrev pub writes_out : BlockRange → List (Option CBlock) → Option CBlock → List Want
writes_out part places place = writes part places part.extents ++ Cell (Finish part.block) ∷ write_count place ∷ Cell (Release Owned part.block) ∷ []

-- ---- whether it waits for the desk

-- a write that is deferred, or else goes on, gives its block back and answers so, or writes
abbrev pub IsWriting : Bool → Mode → BlockRange → Option CBlock → Bool → Type 0
IsWriting true mode part place dirty = (writing mode part place dirty ≡ Cell (Release Owned part.block) ∷ []) × (deferring mode place Finished ≡ Refuses Defer)
IsWriting false mode part place dirty = (writing mode part place dirty ≡ dirtying mode part.block place dirty ++ writes_out part (places_written mode place) place) × (deferring mode place Finished ≡ Finished)

pub deferred_or_not : (mode : Mode) (part : BlockRange) (place : Option CBlock) (dirty : Bool) → IsWriting (is_deferred mode place) mode part place dirty
deferred_or_not mode part place dirty = by_mode mode place
  where
    joined : (mode : Mode) (place : Option CBlock) → (dirtying mode part.block place dirty ++ writes part (places_written mode place) part.extents) ++ Cell (Finish part.block) ∷ write_count place ∷ Cell (Release Owned part.block) ∷ []
        ≡ dirtying mode part.block place dirty ++ writes_out part (places_written mode place) place
    joined mode place = append_assoc (dirtying mode part.block place dirty) (writes part (places_written mode place) part.extents) _

    by_mode : (mode : Mode) (place : Option CBlock) → IsWriting (is_deferred mode place) mode part place dirty
    by_mode Writeback place = (joined Writeback place, refl)
    by_mode Writethrough place = (joined Writethrough place, refl)
    by_mode Passthrough None = (joined Passthrough None, refl)
    by_mode Passthrough (Some c) = (refl, refl)

-- ---- where it writes

-- somewhere, once or twice
pub some_written : (mode : Mode) (place : Option CBlock) (Q : List (Option CBlock) → Type 0) → ((first : Option CBlock) (later : List (Option CBlock)) → Q (first ∷ later)) → Q (places_written mode place)
some_written Writeback place Q q = q place []
some_written Writethrough None Q q = q None []
some_written Writethrough (Some c) Q q = q None (Some c ∷ [])
some_written Passthrough place Q q = q None []

pub at_least_once : (mode : Mode) (n : ℕ) → n ≤ most_written mode * n
at_least_once Writeback n = omega arith
at_least_once Writethrough n = omega arith
at_least_once Passthrough n = omega arith

pub at_most_twice : (mode : Mode) (n : ℕ) → most_written mode * n ≤ 2 * n
at_most_twice Writeback n = omega arith
at_most_twice Writethrough n = omega arith
at_most_twice Passthrough n = omega arith

-- a clean copy in the cache is sealed dirty before it is written
abbrev pub SealsDirty : Mode → Type 0
SealsDirty mode = mode ≡ Writeback

-- a copy in the cache is written: in write-back a dirty one alone, in passthrough none
abbrev pub WritesCopy : Mode → Bool → Type 0
WritesCopy mode dirty = (mode ≢ Passthrough) × (mode ≡ Writeback → dirty ≡ true)

-- a mapped block is written on the origin
abbrev pub WritesHome : Mode → Type 0
WritesHome mode = mode ≢ Writeback

-- a mapped block is given back
abbrev pub GivesBack : Mode → Type 0
GivesBack mode = mode ≡ Passthrough

-- It holds of a write in each way: on the origin, of a block that is not mapped; in the cache alone, of a dirty copy, or of a clean one after its
-- seal; on both; and of one that is deferred.
pub record InEachWay (Q : Option CBlock → Bool → List Want → Type 0) (mode : Mode) (part : BlockRange) : Type 0 where
  pub home : (dirty : Bool) → Q None dirty (writes_out part (None ∷ []) None)
  pub cached : (c : CBlock) → WritesCopy mode true → Q (Some c) true (writes_out part (Some c ∷ []) (Some c))
  pub sealed : (c : CBlock) → SealsDirty mode → WritesCopy mode true → Q (Some c) false (Cell (Seal part.block (Some c) true) ∷ writes_out part (Some c ∷ []) (Some c))
  pub both : (c : CBlock) (dirty : Bool) → most_written mode ≡ 2 → WritesHome mode → WritesCopy mode dirty → Q (Some c) dirty (writes_out part (None ∷ Some c ∷ []) (Some c))
  pub deferred : (c : CBlock) (dirty : Bool) → GivesBack mode → Q (Some c) dirty (Cell (Release Owned part.block) ∷ [])

-- and so of every write
pub in_some_way : (Q : Option CBlock → Bool → List Want → Type 0) (mode : Mode) (part : BlockRange) → InEachWay Q mode part → (place : Option CBlock) (dirty : Bool) → Q place dirty (writing mode part place dirty)
in_some_way Q Writeback part ways None dirty = ways.home dirty
in_some_way Q Writeback part ways (Some c) true = ways.cached c ((λ e. cc), λ e. refl)
in_some_way Q Writeback part ways (Some c) false = ways.sealed c refl ((λ e. cc), λ e. refl)
in_some_way Q Writethrough part ways None dirty = ways.home dirty
in_some_way Q Writethrough part ways (Some c) dirty = ways.both c dirty refl (λ e. cc) ((λ e. cc), λ e. absurd (cc))
in_some_way Q Passthrough part ways None dirty = ways.home dirty
in_some_way Q Passthrough part ways (Some c) dirty = ways.deferred c dirty refl
