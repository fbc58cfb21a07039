-- What a worker does, and how it ends.
use Rattle.std.specs.Prelude.{◌≡◌, ◌≢◌, ◌≤◌, ◌<◌, ◌⊎◌, ℕ, Option, Some, None, List, [], ◌∷◌, Bool, true, false, length}
use Rattle.wb_types.specs.declared.geometry.Geometry.{Geometry}
use Rattle.wb_types.specs.declared.mode.Dev.{Dev}
use Rattle.wb_types.specs.declared.refusal.Refusal.{Refusal}
use Rattle.wb_types.specs.declared.refusal.Refusal.TheVariants.{Io, Failed, Busy, Memory}
use Rattle.wb_policy.specs.declared.order.Order.{Order as CacheOrder}
use Rattle.wb_tasks.specs.Tables.{TaskJob, Flushing}
use Rattle.wb_tasks.specs.declared.step.Answer.{Answer}
use Rattle.wb_tasks.specs.declared.step.Answer.TheVariants.{Refused as Refuses}
use Rattle.wb_target.specs.declared.gate.Point.{Point}
use Rattle.wb_target.specs.declared.gate.Point.TheVariants.{Order, Idle}
use Rattle.wb_port.specs.declared.moving.TheConstants.{LONGEST}
use Rattle.wb_target.specs.Tries.{Tried, EndedAfter}
use Rattle.wb_target.specs.Works.{WorkState}
use Rattle.wb_target.specs.Carried.{looked_at_fail, HasBegun, WasDone, WereDone, flush_of, jobs_of}

-- the gate said no before an order, or where none waited
abbrev pub IsEndedBy : {G : Type 0} → (G → Point → Bool → Type 0) → G → Type 0
IsEndedBy answers gate = answers gate Order false ⊎ answers gate Idle false

-- why a worker is refused: the target has failed, or a step of its own on a device
abbrev pub IsFailure : Refusal → Type 0
IsFailure refusal = (refusal ≡ Failed) ⊎ ((device : Dev) × (refusal ≡ Io device))

-- ---- jobs and orders that are given up

-- A job was refused: after runs that were refused as busy, if any, another was refused for this reason.
abbrev pub WasRefused : {D : Type 0} → (TaskJob → WorkState D → Answer → WorkState D → Type 0) → TaskJob → Refusal → WorkState D → WorkState D → Type 0
WasRefused runs job refusal old new = (refusal ≢ Busy) × EndedAfter (λ s t. runs job s (Refuses Busy) t) (λ s t. runs job s (Refuses refusal) t) old new

-- A flush may not have begun, for want of memory: what was done before are runs that were refused as busy.
abbrev pub DidNotBegin : {D : Type 0} → (TaskJob → WorkState D → Answer → WorkState D → Type 0) → TaskJob → Refusal → WorkState D → WorkState D → Type 0
DidNotBegin {D} runs (Flushing serves most) refusal old new = (refusal ≡ Memory) × ((tries : List (WorkState D)) × Tried (λ s t. runs (Flushing serves most) s (Refuses Busy) t) old tries new)
DidNotBegin runs job refusal old new = ⊥

-- Of these jobs some were done, one after the other, and the next one was given up.
abbrev pub GaveUpAmong : {D : Type 0} → (TaskJob → WorkState D → Answer → WorkState D → Type 0) → List TaskJob → Refusal → WorkState D → WorkState D → Type 0
GaveUpAmong runs [] refusal old new = ⊥
GaveUpAmong {D} runs (job ∷ jobs) refusal old new =
    WasRefused runs job refusal old new ⊎ DidNotBegin runs job refusal old new ⊎ ((mid : WorkState D) × WasDone runs job old mid × GaveUpAmong runs jobs refusal mid new)

-- ---- a worker's turns

-- it has a buffer for the longest step now, its own, or a new one where it had none
pub record HasBuffer {D : Type 0} (old new : WorkState D) : Type 0 where
  pub hand : new.hand ≡ old.hand
  pub commit : new.commit ≡ old.commit
  pub kept : 0 < length old.buffer → new.buffer ≡ old.buffer
  pub holds : LONGEST ≤ length new.buffer

-- an order cannot be begun: there is no buffer, nor memory for one
abbrev pub IsNotReady : {D : Type 0} → WorkState D → WorkState D → Type 0
IsNotReady old new = (length old.buffer ≡ 0) × (new ≡ old)

-- The order that waited longest was taken, and each job of it was done; or one was given up, and the fail word was looked at then, and clear; or it was given back
-- as it was.
pub data Took {D : Type 0} (runs : List CacheOrder → TaskJob → WorkState D → Answer → WorkState D → Type 0) (next : Option CacheOrder → Type 0) (geometry : Geometry) (old new : WorkState D) : Type 0 where
  Carried : (order : CacheOrder) → next (Some order) → (begun : WorkState D) → HasBuffer old begun → WereDone (runs (order ∷ [])) (jobs_of geometry order) begun new → Took runs next geometry old new
  GaveUp : (order : CacheOrder) → next (Some order) → (refusal : Refusal) → (begun mid : WorkState D) → HasBuffer old begun → GaveUpAmong (runs (order ∷ [])) (jobs_of geometry order) refusal begun mid → new ≡ looked_at_fail 0 mid → Took runs next geometry old new
  GaveBack : (order : CacheOrder) → next (Some order) → IsNotReady old new → Took runs next geometry old new

-- A turn begins with a look at the fail word, which is clear, and a yes of the gate before an order. Then one was taken; or none waited, and
-- the gate said yes again.
pub data Turn {D G : Type 0} (runs : List CacheOrder → TaskJob → WorkState D → Answer → WorkState D → Type 0) (next : Option CacheOrder → Type 0) (geometry : Geometry) (answers : G → Point → Bool → Type 0) (gate : G) (old new : WorkState D) : Type 0 where
  Works : answers gate Order true → Took runs next geometry (looked_at_fail 0 old) new → Turn runs next geometry answers gate old new
  Idles : answers gate Order true → next None → answers gate Idle true → new ≡ looked_at_fail 0 old → Turn runs next geometry answers gate old new

-- After turns, if any, the fail word was clear, and the gate said no.
pub record EndedBy {D G : Type 0} (runs : List CacheOrder → TaskJob → WorkState D → Answer → WorkState D → Type 0) (next : Option CacheOrder → Type 0) (geometry : Geometry) (answers : G → Point → Bool → Type 0) (gate : G) (old new : WorkState D) : Type 0 where
  pub turns : List (WorkState D)
  pub last : WorkState D
  pub took : Tried (Turn runs next geometry answers gate) old turns last
  pub new_is : new ≡ looked_at_fail 0 last
  pub no : IsEndedBy answers gate

-- An order was taken, and given up at a job of it; then the fail word was looked at, and set.
pub record StoppedAt {D : Type 0} (runs : List CacheOrder → TaskJob → WorkState D → Answer → WorkState D → Type 0) (next : Option CacheOrder → Type 0) (geometry : Geometry) (old new : WorkState D) : Type 0 where
  pub order : CacheOrder
  pub was_next : next (Some order)
  pub cause : Refusal
  pub begun : WorkState D
  pub mid : WorkState D
  pub word : ℕ
  pub buffer : HasBuffer old begun
  pub gave_up : GaveUpAmong (runs (order ∷ [])) (jobs_of geometry order) cause begun mid
  pub set : 0 < word
  pub new_is : new ≡ looked_at_fail word mid

-- The fail word was set when a turn was to begin; or it was clear then, and set behind an order that was taken.
abbrev pub SawFailure : {D G : Type 0} → (List CacheOrder → TaskJob → WorkState D → Answer → WorkState D → Type 0) → (Option CacheOrder → Type 0) → Geometry → (G → Point → Bool → Type 0) → G → Refusal → WorkState D → WorkState D → Type 0
SawFailure runs next geometry answers gate refusal old new =
    ((refusal ≡ Failed) × ((word : ℕ) × (0 < word) × (new ≡ looked_at_fail word old)))
    ⊎ (answers gate Order true × StoppedAt runs next geometry (looked_at_fail 0 old) new)

-- After turns, if any, it was so.
pub record FailedAfter {D G : Type 0} (runs : List CacheOrder → TaskJob → WorkState D → Answer → WorkState D → Type 0) (next : Option CacheOrder → Type 0) (geometry : Geometry) (answers : G → Point → Bool → Type 0) (gate : G) (refusal : Refusal) (old new : WorkState D) : Type 0 where
  pub turns : List (WorkState D)
  pub last : WorkState D
  pub took : Tried (Turn runs next geometry answers gate) old turns last
  pub saw : SawFailure runs next geometry answers gate refusal last new

-- ---- why a client's own calls are refused

-- the fail word was looked at, and set
abbrev pub FoundFailed : {D : Type 0} → Refusal → WorkState D → WorkState D → Type 0
FoundFailed refusal old new = (refusal ≡ Failed) × ((word : ℕ) × (0 < word) × (new ≡ looked_at_fail word old))

-- a flush: a run of it was refused, or it had no memory to begin
abbrev pub FlushRefused : {D : Type 0} → (List CacheOrder → TaskJob → WorkState D → Answer → WorkState D → Type 0) → Geometry → Refusal → WorkState D → WorkState D → Type 0
FlushRefused runs geometry refusal old new = WasRefused (runs []) (flush_of geometry None) refusal old new ⊎ DidNotBegin (runs []) (flush_of geometry None) refusal old new

-- a tick: the target had failed, or there was no memory for the list of dirty blocks, or its flush was refused
abbrev pub TickRefused : {D : Type 0} → (List CacheOrder → TaskJob → WorkState D → Answer → WorkState D → Type 0) → Geometry → Refusal → WorkState D → WorkState D → Type 0
TickRefused runs geometry refusal old new = FoundFailed refusal old new ⊎ ((refusal ≡ Memory) × (new ≡ looked_at_fail 0 old)) ⊎ FlushRefused runs geometry refusal (looked_at_fail 0 old) new

-- An order: the target had failed; or there was no buffer, and no memory for one; or the one that waited longest was taken, and a job of it was given up.
abbrev pub OrderRefused : {D : Type 0} → (List CacheOrder → TaskJob → WorkState D → Answer → WorkState D → Type 0) → (Option CacheOrder → Type 0) → Geometry → Refusal → WorkState D → WorkState D → Type 0
OrderRefused {D} runs next geometry refusal old new =
    FoundFailed refusal old new
    ⊎ ((refusal ≡ Memory) × (length old.buffer ≡ 0) × (new ≡ looked_at_fail 0 old))
    ⊎ ((order : CacheOrder) × next (Some order) × ((begun : WorkState D) × HasBegun old begun × GaveUpAmong (runs (order ∷ [])) (jobs_of geometry order) refusal begun new))
