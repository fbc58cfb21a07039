-- What a client has done for a call of a script that was answered, and what was printed of it.
use Rattle.std.specs.Prelude.{◌≡◌, ◌<◌, ◌+◌, ◌++◌, ◌==◌, ℕ, Bool, true, false, List, [], ◌∷◌, Option, Some, None, codes, decimal, length, replicate}
use Rattle.wb_opened.specs.Deeds.{Deed, Read as HasRead, Wrote as HasWritten, WroteDurably as HasWrittenDurably, TriedRead, TriedWrite, Settled, Flushed}
use Rattle.wb_policy.specs.declared.order.Order.{Order}
use Rattle.wb_policy.specs.declared.order.Order.TheVariants.{Promote, Replace, Demote, Clean}
use Rattle.wb_table.specs.Status.{joined_texts}
use Rattle.wb_target.specs.Tries.{Tried as OneByOne}
use Rattle.wb_dialogue.specs.Shown.{AreLinesOf}
use Rattle.wb_play.specs.declared.answers.Deed.{Deed as Doing}
use Rattle.wb_play.specs.declared.answers.Deed.TheVariants.{Show, Fill, FillDurably}
use Rattle.wb_dialogue.specs.declared.line.Call.{Call}
use Rattle.wb_dialogue.specs.declared.line.Call.TheVariants.{Read, Write, WriteDurably, TryRead, TryWrite, Flush, Settle}

-- what is printed of a call that shows nothing
abbrev pub done_line : List ℕ
done_line = codes "ok" ++ 10 ∷ []

-- so many sectors, filled with a byte
abbrev pub filled : ℕ → ℕ → List (List ℕ)
filled count byte = replicate count (replicate 512 byte)

-- So many sectors from here on, the last of a call's or not, were read, and a line was printed for each; or they were filled with a byte, and behind the last
-- all was made durable where that is asked for.
abbrev pub DidPart : {C : Type 0} → (C → Deed → C → Type 0) → Doing → Bool → ℕ → ℕ → C → List ℕ → C → Type 0
DidPart did Show is_last first count old lines new = (content : List (List ℕ)) × (length content ≡ count) × did old (HasRead first content) new × AreLinesOf lines first content
DidPart did (FillDurably byte) true first count old lines new = did old (HasWrittenDurably first (filled count byte)) new × (lines ≡ [])
DidPart did (FillDurably byte) false first count old lines new = did old (HasWritten first (filled count byte)) new × (lines ≡ [])
DidPart did (Fill byte) is_last first count old lines new = did old (HasWritten first (filled count byte)) new × (lines ≡ [])

-- how far a call is: the client, the sector that comes next, and what was printed of it
pub record Reached (C : Type 0) : Type 0 where
  pub client : C
  pub next : ℕ
  pub printed : List ℕ

-- it went on by a part of the sectors up to this end
pub record WentOn {C : Type 0} (did : C → Deed → C → Type 0) (doing : Doing) (end : ℕ) (old new : Reached C) : Type 0 where
  pub count : ℕ
  pub lines : List ℕ
  pub some : 0 < count
  pub next : new.next ≡ old.next + count
  pub part : DidPart did doing (new.next == end) old.next count old.client lines new.client
  pub printed : new.printed ≡ old.printed ++ lines

-- part by part, from the first sector up to the end
abbrev pub WentThrough : {C : Type 0} → (C → Deed → C → Type 0) → Doing → ℕ → ℕ → C → List ℕ → C → Type 0
WentThrough {C} did doing first end old printed new = (parts : List (Reached C))
    × OneByOne (WentOn did doing end) (record { client = old; next = first; printed = [] }) parts (record { client = new; next = end; printed = printed })

-- A call that was answered has been done so by the client, and this was printed.
abbrev pub WasAnswered : {C : Type 0} → (C → Deed → C → Type 0) → Call → C → List ℕ → C → Type 0
WasAnswered did (Read at count) old printed new = WentThrough did Show at.0 (at.0 + count) old printed new
WasAnswered did (Write at count byte) old printed new = WentThrough did (Fill byte) at.0 (at.0 + count) old [] new × (printed ≡ done_line)
WasAnswered did (WriteDurably at count byte) old printed new = WentThrough did (FillDurably byte) at.0 (at.0 + count) old [] new × (printed ≡ done_line)
WasAnswered did (TryRead at count) old printed new = (content : List (List ℕ)) × (length content ≡ count) × did old (TriedRead at.0 content) new × AreLinesOf printed at.0 content
WasAnswered did (TryWrite at count byte) old printed new = did old (TriedWrite at.0 (filled count byte)) new × (printed ≡ done_line)
WasAnswered did Flush old printed new = did old Flushed new × (printed ≡ done_line)
WasAnswered did Settle old printed new = did old Settled new × (printed ≡ done_line)

-- what is printed of the order that was carried out, or where none waits
abbrev pub worked_line : Option Order → List ℕ
worked_line None = codes "idle" ++ 10 ∷ []
worked_line (Some (Promote block to)) = joined_texts (codes "promoted " ∷ decimal block.0 ∷ codes " to " ∷ decimal to.0 ∷ (10 ∷ []) ∷ [])
worked_line (Some (Replace victim block at)) = joined_texts (codes "replaced " ∷ decimal victim.0 ∷ codes " by " ∷ decimal block.0 ∷ codes " at " ∷ decimal at.0 ∷ (10 ∷ []) ∷ [])
worked_line (Some (Demote block)) = joined_texts (codes "demoted " ∷ decimal block.0 ∷ (10 ∷ []) ∷ [])
worked_line (Some (Clean block)) = joined_texts (codes "cleaned " ∷ decimal block.0 ∷ (10 ∷ []) ∷ [])
