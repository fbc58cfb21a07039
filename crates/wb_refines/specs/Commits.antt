-- How the steps of a commit are followed in an abstract world: of a flush, which serves nobody there, an order that waits for it lying aside, or of
-- a suspend, whose root is marked clean.
use Rattle.std.specs.Prelude.{◌≡◌, ◌+◌, ℕ, Bool, true, false, List, [], ◌∷◌, Option, Some, None}
use Rattle.wb_types.specs.declared.mode.Dev.TheVariants.{Metadata, Cache, Origin}
use Rattle.wb_types.specs.declared.number.OBlock.{OBlock}
use Rattle.wb_types.specs.declared.refusal.Refusal.{Refusal}
use Rattle.wb_types.specs.declared.refusal.Refusal.TheVariants.{Busy, Failed, Memory, GenerationEnd}
use Rattle.wb_disk.specs.Device.{Content}
use Rattle.wb_contents.specs.Acts.{all_synced, partly_synced}
use Rattle.wb_words.specs.declared.word.Word.TheVariants.{Fail, Seal as SealWord}
use Rattle.wb_words.specs.declared.step.CellStep.TheVariants.{Look, SetFailed, SetSuspended}
use Rattle.wb_words.specs.SharedWords.{flag}
use Rattle.wb_tasks.specs.Tables.{TaskJob, Flushing, Suspending}
use Rattle.wb_tasks.specs.Plan.{Plan, after}
use Rattle.wb_tasks.specs.declared.step.Answer.{Answer}
use Rattle.wb_tasks.specs.declared.step.DeviceStep.{DeviceStep}
use Rattle.wb_tasks.specs.declared.step.DeviceStep.TheVariants.{Sync, WriteNode, WriteRoot}
use Rattle.wb_tasks.specs.declared.step.DeskStep.{DeskStep}
use Rattle.wb_tasks.specs.declared.step.DeskStep.TheVariants.{Arrive, Ask, BeginCommit, EndCommit, BreakCommit}
use Rattle.wb_tasks.specs.declared.step.Want.{Want}
use Rattle.wb_tasks.specs.declared.step.Want.TheVariants.{Cell, Device, Desk}
use Rattle.wb_tasks.specs.declared.step.Got.{Got as GotHere}
use Rattle.wb_tasks.specs.declared.step.Got.TheVariants.{Done, Word, Fault, Refused, Began, Ticket, Served as ServedHere}
use Rattle.wb_link.specs.Tables.{Got, Done as DoneThere, Begin, Begin_clean, End_running, Job as AbstractJob, Flushing as FlushingFor, Suspending as SuspendingThere}
use Rattle.wb_link.specs.World.{Shared, Nothing, AbstractActor, Serves, Unserved, effect}
use Rattle.wb_refines.specs.Translation.{script_for, with_ticket}
use Rattle.wb_refines.specs.Going.{AreQuiet, shared_after, gone, MayGo}

-- A commit whose root is marked clean is a suspend's, which looks at the seals of these blocks; another one a flush's, which serves the orders of
-- these.
abbrev pub commit_task : (clean : Bool) → List OBlock → (most : ℕ) → TaskJob
commit_task true blocks most = Suspending blocks most
commit_task false blocks most = Flushing blocks most

-- its job there
abbrev pub commit_there : (clean : Bool) → AbstractJob
commit_there true = SuspendingThere
commit_there false = FlushingFor None

-- what is left of it
abbrev pub committing : (clean : Bool) → List OBlock → ℕ → List Want → Answer → Plan
committing clean blocks most steps answer = record { job = commit_task clean blocks most; steps = steps; answer = answer }

-- An abstract actor is at what is left of it, with this ticket, if any, and leads the commit or doesn't.
pub record IsCommitting (size : ℕ) (content : Content) (plan : Plan) (ticket : Option ℕ) (leads : Bool) (y : AbstractActor) : Type 0 where
  pub buffer : ℕ → Content
  pub is : y ≡ record { task = Some (with_ticket ticket (script_for size content None plan)); held = Nothing; order = None; leads = leads; buffer = buffer }

-- An abstract actor can go on so that this is shared then, and is at what is left.
pub record CanGoOn (size : ℕ) (content : Content) (actors : List AbstractActor) (a : ℕ) (s : Shared) (y : AbstractActor) (t : Shared) (plan : Plan) (ticket : Option ℕ) (leads : Bool) : Type 0 where
  pub results : List Got
  pub may : MayGo actors a s y y.task results
  pub quiet : AreQuiet y.task results
  pub shared : shared_after s y y.task results ≡ t
  pub at : IsCommitting size content plan ticket leads (gone y y.task results)

-- a flush asks to lead a commit: on arriving, or with a ticket
abbrev pub IsToLead : ℕ → DeskStep → Type 0
IsToLead most (Arrive nodes) = nodes ≡ most
IsToLead most (Ask nodes) = nodes ≡ most
IsToLead most step = ⊥

-- before it begins its commit: a suspend may have seals to look at
abbrev pub IsToBegin : (clean : Bool) → ℕ → List Want → Type 0
IsToBegin false most (Desk (Arrive nodes) ∷ later) = (nodes ≡ most) × (later ≡ [])
IsToBegin true most (Desk (BeginCommit nodes) ∷ later) = (nodes ≡ most) × (later ≡ [])
IsToBegin true most (Cell (Look (SealWord block)) ∷ later) = IsToBegin true most later
IsToBegin clean most steps = ⊥

-- once cache and origin are synced: nodes, syncs of the metadata and the root, and its end, after which a suspend sets the bit that says so
abbrev pub IsOnMetadata : (clean : Bool) → List Want → Type 0
IsOnMetadata clean (Device (WriteNode number) ∷ later) = IsOnMetadata clean later
IsOnMetadata clean (Device (Sync Metadata) ∷ later) = IsOnMetadata clean later
IsOnMetadata clean (Device WriteRoot ∷ later) = IsOnMetadata clean later
IsOnMetadata false (Desk EndCommit ∷ []) = Unit {0}
IsOnMetadata true (Desk EndCommit ∷ Cell SetSuspended ∷ []) = Unit {0}
IsOnMetadata clean steps = ⊥

-- why a commit does not begin, whatever runs
abbrev pub IsNoBegin : Refusal → Type 0
IsNoBegin Busy = Unit {0}
IsNoBegin Memory = Unit {0}
IsNoBegin GenerationEnd = Unit {0}
IsNoBegin refusal = ⊥

-- Whether a root has been written after a step on the metadata that fails: after the root's it may have been, and where it was before it is.
abbrev pub IsWrittenAfter : DeviceStep → (before after : Bool) → Type 0
IsWrittenAfter WriteRoot before after = after ≡ true
IsWrittenAfter step before after = before ≡ true → after ≡ true

-- One that has these steps to come goes on there by this result, so that this is shared then; it leads a commit or doesn't, before it and after it.
abbrev pub GoesBy : (clean leads : Bool) → List Want → GotHere → (Shared → Shared) → (then_leads : Bool) → Type 0
GoesBy clean leads steps got then_shared then_leads = (size : ℕ) (blocks : List OBlock) (most : ℕ) (content : Content) (actors : List AbstractActor) (a : ℕ) (s : Shared) (y : AbstractActor) (answer : Answer) → IsCommitting size content (committing clean blocks most steps answer) None leads y →
    CanGoOn size content actors a s y (then_shared s) (after (committing clean blocks most steps answer) got) None then_leads

-- So does a flush that asks to lead a commit, where this holds of what is shared and of its ticket.
abbrev pub AsksForCommit : (Shared → Option ℕ → Type 0) → GotHere → (Shared → Shared) → (then_leads : Bool) → Type 0
AsksForCommit Holds got then_shared then_leads = (size : ℕ) (blocks : List OBlock) (most : ℕ) (content : Content) (actors : List AbstractActor) (a : ℕ) (s : Shared) (y : AbstractActor) (ticket : Option ℕ) (step : DeskStep) (answer : Answer) → IsToLead most step → Holds s ticket → IsCommitting size content (committing false blocks most (Desk step ∷ []) answer) ticket false y →
    CanGoOn size content actors a s y (then_shared s) (after (committing false blocks most (Desk step ∷ []) answer) got) None then_leads

-- Each step of a flush or of a suspend, with each result that it may have.
pub record CommitStepsRefined : Type 0 where
  pub looks : (clean : Bool) (size : ℕ) (blocks : List OBlock) (most word : ℕ) (content : Content) (actors : List AbstractActor) (a : ℕ) (s : Shared) (y : AbstractActor) (later : List Want) (answer : Answer) → s.fail ≡ flag word → IsCommitting size content (committing clean blocks most (Cell (Look Fail) ∷ later) answer) None false y →
      CanGoOn size content actors a s y s (after (committing clean blocks most (Cell (Look Fail) ∷ later) answer) (Word word)) None false
  -- a suspend's look at a seal is nothing there
  pub sees : (size : ℕ) (blocks : List OBlock) (most word : ℕ) (content : Content) (actors : List AbstractActor) (a : ℕ) (s : Shared) (y : AbstractActor) (block : OBlock) (later : List Want) (answer : Answer) → IsToBegin true most later → IsCommitting size content (committing true blocks most (Cell (Look (SealWord block)) ∷ later) answer) None false y →
      CanGoOn size content actors a s y s (after (committing true blocks most (Cell (Look (SealWord block)) ∷ later) answer) (Word word)) None false
  -- a suspend begins its commit, or is refused it
  pub begins : (allowed nodes size : ℕ) (blocks : List OBlock) (most : ℕ) (content : Content) (actors : List AbstractActor) (a : ℕ) (s : Shared) (y : AbstractActor) (answer : Answer) → s.committing ≡ false → IsCommitting size content (committing true blocks most (Desk (BeginCommit allowed) ∷ []) answer) None false y →
      CanGoOn size content actors a s y (effect s SuspendingThere (λ o. []) Begin_clean DoneThere) (after (committing true blocks most (Desk (BeginCommit allowed) ∷ []) answer) (Began nodes)) None true
  pub is_refused : (allowed : ℕ) (refusal : Refusal) → IsNoBegin refusal → GoesBy true false (Desk (BeginCommit allowed) ∷ []) (Refused refusal) (λ s. s) false
  -- A flush leads one, or is refused that; it gets a ticket of the commit that comes after the one that runs, or is served.
  pub leads : (nodes : ℕ) → AsksForCommit (λ s ticket. (s.committing ≡ false) × (s.broken ≡ false) × Unserved s ticket) (Began nodes) (λ s. effect s (FlushingFor None) (λ o. []) (Begin None) DoneThere) true
  pub is_not_led : (refusal : Refusal) → IsNoBegin refusal → AsksForCommit Unserved (Refused refusal) (λ s. s) false
  pub is_broken : AsksForCommit (λ s ticket. (s.broken ≡ true) × Unserved s ticket) (Refused Failed) (λ s. s) false
  pub is_served : AsksForCommit Serves ServedHere (λ s. s) false
  pub gets_ticket : (most size : ℕ) (blocks : List OBlock) (content : Content) (actors : List AbstractActor) (a : ℕ) (s : Shared) (y : AbstractActor) (answer : Answer) → s.committing ≡ true → s.broken ≡ false → IsCommitting size content (committing false blocks most (Desk (Arrive most) ∷ []) answer) None false y →
      CanGoOn size content actors a s y s (after (committing false blocks most (Desk (Arrive most) ∷ []) answer) Ticket) (Some (s.began + 1)) false
  pub syncs_cache : (clean : Bool) (later : List Want) → GoesBy clean true (Device (Sync Cache) ∷ later) Done (λ s. record s { cache = all_synced s.cache }) true
  pub syncs_origin : (clean : Bool) (later : List Want) → GoesBy clean true (Device (Sync Origin) ∷ later) Done (λ s. record s { origin = all_synced s.origin }) true
  -- nodes and syncs of the metadata are nothing there
  pub nodes : (clean : Bool) (number : ℕ) (later : List Want) → GoesBy clean true (Device (WriteNode number) ∷ later) Done (λ s. s) true
  pub syncs_metadata : (clean : Bool) (later : List Want) → GoesBy clean true (Device (Sync Metadata) ∷ later) Done (λ s. s) true
  pub writes_root : (clean : Bool) (later : List Want) → GoesBy clean true (Device WriteRoot ∷ later) Done (λ s. record s { root_written = true }) true
  pub ends : (clean : Bool) (later : List Want) → GoesBy clean true (Desk EndCommit ∷ later) Done (λ s. effect s (commit_there clean) (λ o. []) End_running DoneThere) false
  pub suspends : GoesBy true false (Cell SetSuspended ∷ []) Done (λ s. record s { fail = true }) false
  -- a sync that fails settles these sectors
  pub fails_cache : (clean : Bool) (settled : ℕ → ℕ → Bool) (later : List Want) → GoesBy clean true (Device (Sync Cache) ∷ later) Fault (λ s. record s { cache = partly_synced settled s.cache }) true
  pub fails_origin : (clean : Bool) (settled : ℕ → ℕ → Bool) (later : List Want) → GoesBy clean true (Device (Sync Origin) ∷ later) Fault (λ s. record s { origin = partly_synced settled s.origin }) true
  -- a step on the metadata that fails may be the root's there
  pub fails_metadata : (clean : Bool) (size : ℕ) (blocks : List OBlock) (most : ℕ) (step : DeviceStep) (content : Content) (actors : List AbstractActor) (a : ℕ) (s : Shared) (y : AbstractActor) (later : List Want) (answer : Answer) → IsOnMetadata clean (Device step ∷ later) → IsCommitting size content (committing clean blocks most (Device step ∷ later) answer) None true y →
      (written : Bool) × IsWrittenAfter step s.root_written written × CanGoOn size content actors a s y (record s { root_written = written }) (after (committing clean blocks most (Device step ∷ later) answer) Fault) None true
  -- the failed bit is set, and then the commit is broken for those who wait for it
  pub fails : (clean : Bool) → GoesBy clean true (Cell SetFailed ∷ Desk BreakCommit ∷ []) Done (λ s. record s { fail = true }) true
  pub breaks : (clean : Bool) → GoesBy clean true (Desk BreakCommit ∷ []) Done (λ s. record s { broken = true }) true
