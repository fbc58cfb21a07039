-- Flushes that share a commit: who begins one, who waits, and which commit covers a flush. The commits that began since the opening are
-- numbered from 1.
use Rattle.std.specs.Prelude.{◌≡◌, ◌≤◌, ◌+◌, ◌⊎◌, ℕ, true, false, List, [], ◌∷◌, Option, Some, None}
use Rattle.wb_types.specs.declared.refusal.Refusal.{Refusal}
use Rattle.wb_types.specs.declared.refusal.Refusal.TheVariants.{Failed}
use Rattle.wb_tree.specs.declared.image.Image.{Image}
use Rattle.wb_policy.specs.Law.{Holdings}
use Rattle.wb_desk.specs.declared.desk.sharing.Arrival.{Arrival}
use Rattle.wb_desk.specs.declared.desk.sharing.Arrival.TheVariants.{Lead, Ticket}
use Rattle.wb_desk.specs.declared.desk.sharing.Asked.{Asked}
use Rattle.wb_desk.specs.declared.desk.sharing.Asked.TheVariants.{Served, Wait, Lead as Leads}
use Rattle.wb_desk.specs.Desks.{DeskState}
use Rattle.wb_desk.specs.Commits.{HasBegun, IsBeginRefused}
use Rattle.wb_desk.specs.Safety.{DeskCall, BeginCommit, EndCommit, Does, AreCalls, desk_after}

-- A flush that comes while a commit runs gets this number: that of the next one, as the running one may have begun too early for it.
pub record IsTicket {P : Type 0} (d : DeskState P) (number : ℕ) : Type 0 where
  pub whole : d.broken ≡ false
  pub runs : d.space.committing ≡ true
  pub next : number ≡ d.ended + 2

-- a commit of this number or a later one has ended
abbrev pub CommitCovers : {P : Type 0} → DeskState P → ℕ → Type 0
CommitCovers d number = number ≤ d.ended

-- A flush leads the commit that began for it.
pub record IsLed {P : Type 0} (hint_of : P → ℕ → ℕ) (d : DeskState P) (image : Image) (new : DeskState P) : Type 0 where
  pub whole : d.broken ≡ false
  pub begun : HasBegun hint_of None d image new

-- what comes of leading: a commit of this image began, or one runs
abbrev pub HasLed : {P : Type 0} → (P → ℕ → ℕ) → DeskState P → Option Image → DeskState P → Type 0
HasLed hint_of d (Some image) new = IsLed hint_of d image new
HasLed hint_of d None new = (d.broken ≡ false) × (d.space.committing ≡ true) × (new ≡ d)

-- why no flush leads, where none has to wait: a commit failed, or the desk refuses to begin one
abbrev pub IsLeadRefused : {P : Type 0} → DeskState P → Refusal → Type 0
IsLeadRefused d refusal = ((refusal ≡ Failed) × (d.broken ≡ true)) ⊎ ((d.broken ≡ false) × (d.space.committing ≡ false) × IsBeginRefused d refusal)

-- what comes of an arrival
abbrev pub HasArrived : {P : Type 0} → (P → ℕ → ℕ) → DeskState P → Arrival → DeskState P → Type 0
HasArrived hint_of d (Lead image) new = IsLed hint_of d image new
HasArrived hint_of d (Ticket number) new = IsTicket d number × (new ≡ d)

-- what comes of asking with a ticket of this number; a receipt tells the greatest number of those that ended
abbrev pub HasAsked : {P : Type 0} → (P → ℕ → ℕ) → DeskState P → ℕ → Asked → DeskState P → Type 0
HasAsked hint_of d number (Served receipt) new = CommitCovers d number × (receipt ≡ d.ended) × (new ≡ d)
HasAsked hint_of d number (Leads image) new = (¬ CommitCovers d number) × IsLed hint_of d image new
HasAsked hint_of d number Wait new = (¬ CommitCovers d number) × (d.broken ≡ false) × (d.space.committing ≡ true) × (new ≡ d)

-- ---- laws

-- among the calls is an end of a commit
abbrev pub HasEnd : {P : Type 0} → List (DeskCall × DeskState P) → Type 0
HasEnd [] = ⊥
HasEnd (c ∷ calls) = (c.0 ≡ EndCommit) ⊎ HasEnd calls

-- among the calls is a commit's beginning, and after it an end
abbrev pub HasWholeCommit : {P : Type 0} → List (DeskCall × DeskState P) → Type 0
HasWholeCommit [] = ⊥
HasWholeCommit (c ∷ calls) = ((c.0 ≡ BeginCommit) × HasEnd calls) ⊎ HasWholeCommit calls

-- Whatever is called, a ticket is served only by a commit that began after its holder came.
abbrev pub ServedByLaterCommits : (P : Type 0) → (P → Holdings → Type 0) → Type 0
ServedByLaterCommits P knows = (d : DeskState P) (calls : List (DeskCall × DeskState P)) (number : ℕ) → AreCalls knows d calls → IsTicket d number
    → CommitCovers (desk_after d calls) number → HasWholeCommit calls

-- One that is served stays so.
abbrev pub ServedStays : (P : Type 0) → (P → Holdings → Type 0) → Type 0
ServedStays P knows = (d : DeskState P) (calls : List (DeskCall × DeskState P)) (number : ℕ) → AreCalls knows d calls → CommitCovers d number → CommitCovers (desk_after d calls) number

-- And a desk whose commits are broken stays so.
abbrev pub BrokenStays : (P : Type 0) → (P → Holdings → Type 0) → Type 0
BrokenStays P knows = (d : DeskState P) (calls : List (DeskCall × DeskState P)) → AreCalls knows d calls → d.broken ≡ true → (desk_after d calls).broken ≡ true

-- What the contracts say of a flush is that it begins a commit or changes nothing.
abbrev pub BeginsOrStays : {P : Type 0} → DeskState P → DeskState P → Type 0
BeginsOrStays d new = Does d BeginCommit new ⊎ (new ≡ d)

abbrev pub ArrivingDoes : (P : Type 0) → (P → ℕ → ℕ) → Type 0
ArrivingDoes P hint_of = (d new : DeskState P) (arrival : Arrival) → HasArrived hint_of d arrival new → BeginsOrStays d new

abbrev pub AskingDoes : (P : Type 0) → (P → ℕ → ℕ) → Type 0
AskingDoes P hint_of = (d new : DeskState P) (number : ℕ) (asked : Asked) → HasAsked hint_of d number asked new → BeginsOrStays d new
