-- What a client has met for a call of a script that was refused, and how far it had come.
use Rattle.std.specs.Prelude.{◌≡◌, ◌<◌, ◌+◌, ◌==◌, ◌⊎◌, ℕ, Bool, true, false, List, [], Option, length}
use Rattle.wb_opened.specs.Deeds.{Deed, Read as HasRead, TriedRead, Ticked, Worked, Messaged}
use Rattle.wb_opened.specs.Refused.{Demand, Reads, Writes, WritesDurably, TriesRead, TriesWrite, Flushes, Ticks, Works, Follows}
use Rattle.wb_policy.specs.declared.order.Order.{Order}
use Rattle.wb_target.specs.Tries.{Tried as OneByOne}
use Rattle.wb_types.specs.declared.refusal.Refusal.{Refusal}
use Rattle.wb_types.specs.declared.refusal.Refusal.TheVariants.{Memory, Range, Crosses, BadMessage}
use Rattle.wb_types.specs.declared.message.Message.{Message as Sent}
use Rattle.wb_play.specs.Played.{BringsMessage}
use Rattle.wb_dialogue.specs.declared.line.Line.{Line}
use Rattle.wb_dialogue.specs.declared.line.Line.TheVariants.{Asks, Work, Tick, Status, Message}
use Rattle.wb_play.specs.Answered.{Reached, WasAnswered, WentOn, done_line, filled}
use Rattle.wb_play.specs.declared.answers.Deed.{Deed as Doing}
use Rattle.wb_play.specs.declared.answers.Deed.TheVariants.{Show, Fill, FillDurably}
use Rattle.wb_dialogue.specs.declared.line.Call.{Call}
use Rattle.wb_dialogue.specs.declared.line.Call.TheVariants.{Read, Write, WriteDurably, TryRead, TryWrite, Flush, Settle}

-- So many sectors from here on, the last of a call's or not, were asked of the client as they are to be, and it refused them.
abbrev pub MetPart : {C : Type 0} → (C → Demand → Refusal → C → Type 0) → Doing → Bool → ℕ → ℕ → C → Refusal → C → Type 0
MetPart met Show is_last first count old refusal new = (before : List (List ℕ)) × (after : List (List ℕ)) × (length before ≡ count) × met old (Reads first before after) refusal new
MetPart met (FillDurably byte) true first count old refusal new = met old (WritesDurably first (filled count byte)) refusal new
MetPart met (FillDurably byte) false first count old refusal new = met old (Writes first (filled count byte)) refusal new
MetPart met (Fill byte) is_last first count old refusal new = met old (Writes first (filled count byte)) refusal new

-- There was no memory for them, or for the lines of what was read.
abbrev pub LackedMemory : {C : Type 0} → (C → Deed → C → Type 0) → Doing → ℕ → ℕ → C → C → Type 0
LackedMemory did Show first count old new = (new ≡ old) ⊎ ((content : List (List ℕ)) × (length content ≡ count) × did old (HasRead first content) new)
LackedMemory did doing first count old new = new ≡ old

-- They were not done, or shown: for want of memory, or since the client refused them.
abbrev pub StoppedAt : {C : Type 0} → (C → Deed → C → Type 0) → (C → Demand → Refusal → C → Type 0) → Doing → Bool → ℕ → ℕ → C → Refusal → C → Type 0
StoppedAt did met doing is_last first count old refusal new = ((refusal ≡ Memory) × LackedMemory did doing first count old new) ⊎ MetPart met doing is_last first count old refusal new

-- It went on part by part up to one that was refused.
pub record StoppedWithin {C : Type 0} (did : C → Deed → C → Type 0) (met : C → Demand → Refusal → C → Type 0) (doing : Doing) (first end : ℕ) (old : C) (refusal : Refusal) (new : C) : Type 0 where
  pub reached : Reached C
  pub parts : List (Reached C)
  pub went : OneByOne (WentOn did doing end) (record { client = old; next = first; printed = [] }) parts reached
  pub count : ℕ
  pub some : 0 < count
  pub stopped : StoppedAt did met doing (reached.next + count == end) reached.next count reached.client refusal new

-- It was refused for its range, before anything was done; or so.
abbrev pub IsOutsideOrStopped : {C : Type 0} → (C → Deed → C → Type 0) → (C → Demand → Refusal → C → Type 0) → Doing → ℕ → ℕ → C → Refusal → C → Type 0
IsOutsideOrStopped did met doing first end old refusal new = ((refusal ≡ Range) × (new ≡ old)) ⊎ StoppedWithin did met doing first end old refusal new

-- A read or write of one block was refused: for its sectors, before anything was done; for want of memory, before it or for the lines of what was read; or by the client.
abbrev pub NotOfOneBlock : Refusal → Type 0
NotOfOneBlock refusal = (refusal ≡ Range) ⊎ (refusal ≡ Crosses)

abbrev pub ReadWasNotTried : {C : Type 0} → (C → Deed → C → Type 0) → (C → Demand → Refusal → C → Type 0) → ℕ → ℕ → C → Refusal → C → Type 0
ReadWasNotTried did met at count old refusal new =
    (NotOfOneBlock refusal × (new ≡ old))
    ⊎ ((refusal ≡ Memory) × ((new ≡ old) ⊎ ((content : List (List ℕ)) × (length content ≡ count) × did old (TriedRead at content) new)))
    ⊎ ((before : List (List ℕ)) × (after : List (List ℕ)) × (length before ≡ count) × met old (TriesRead at before after) refusal new)

abbrev pub WriteWasNotTried : {C : Type 0} → (C → Demand → Refusal → C → Type 0) → ℕ → ℕ → ℕ → C → Refusal → C → Type 0
WriteWasNotTried met at count byte old refusal new =
    ((NotOfOneBlock refusal ⊎ (refusal ≡ Memory)) × (new ≡ old)) ⊎ met old (TriesWrite at (filled count byte)) refusal new

-- A call was not done to its end.
abbrev pub WasStopped : {C : Type 0} → (C → Deed → C → Type 0) → (C → Demand → Refusal → C → Type 0) → Call → C → Refusal → C → Type 0
WasStopped did met (Read at count) old refusal new = IsOutsideOrStopped did met Show at.0 (at.0 + count) old refusal new
WasStopped did met (Write at count byte) old refusal new = IsOutsideOrStopped did met (Fill byte) at.0 (at.0 + count) old refusal new
WasStopped did met (WriteDurably at count byte) old refusal new = IsOutsideOrStopped did met (FillDurably byte) at.0 (at.0 + count) old refusal new
WasStopped did met (TryRead at count) old refusal new = ReadWasNotTried did met at.0 count old refusal new
WasStopped did met (TryWrite at count byte) old refusal new = WriteWasNotTried met at.0 count byte old refusal new
WasStopped did met Flush old refusal new = met old Flushes refusal new
WasStopped did met Settle old refusal new = ⊥

-- It was refused so; or it was done, and there was no memory for the line that says so.
abbrev pub CallWasRefused : {C : Type 0} → (C → Deed → C → Type 0) → (C → Demand → Refusal → C → Type 0) → Call → C → Refusal → C → Type 0
CallWasRefused did met asked old refusal new = WasStopped did met asked old refusal new ⊎ ((refusal ≡ Memory) × WasAnswered did asked old done_line new)

-- The client refused an order; or carried one out or had none, and there was no memory for the line that says so.
abbrev pub WorkWasRefused : {C : Type 0} → (C → Deed → C → Type 0) → (C → Demand → Refusal → C → Type 0) → C → Refusal → C → Type 0
WorkWasRefused did met old refusal new = met old Works refusal new ⊎ ((refusal ≡ Memory) × ((order : Option Order) × did old (Worked order) new))

-- What was no message, or lacked memory for its ranges, was not told the client; or the client refused it.
abbrev pub MessageWasRefused : {C : Type 0} → (C → Demand → Refusal → C → Type 0) → (Sent → Type 0) → C → Refusal → C → Type 0
MessageWasRefused met says old refusal new =
    (((refusal ≡ BadMessage) ⊎ (refusal ≡ Memory)) × (new ≡ old)) ⊎ ((message : Sent) × says message × met old (Follows message) refusal new)

-- A line of the first client was refused so, or was done and lacked memory for its answer.
abbrev pub PlayWasRefused : {C : Type 0} → (C → Deed → C → Type 0) → (C → Demand → Refusal → C → Type 0) → List ℕ → Line → C → Refusal → C → Type 0
PlayWasRefused did met bytes (Asks call) old refusal new = CallWasRefused did met call old refusal new
PlayWasRefused did met bytes Tick old refusal new = met old Ticks refusal new ⊎ ((refusal ≡ Memory) × did old Ticked new)
PlayWasRefused did met bytes Work old refusal new = WorkWasRefused did met old refusal new
PlayWasRefused did met bytes Status old refusal new = (refusal ≡ Memory) × (new ≡ old)
PlayWasRefused did met bytes Message old refusal new =
    MessageWasRefused met (BringsMessage bytes) old refusal new ⊎ ((refusal ≡ Memory) × ((message : Sent) × BringsMessage bytes message × did old (Messaged message) new))
PlayWasRefused did met bytes line old refusal new = ⊥
