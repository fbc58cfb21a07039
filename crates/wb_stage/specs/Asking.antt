-- What a step on the desk does to it.
use Rattle.std.specs.Prelude.{◌≡◌, ◌≤◌, ◌==◌, ◌||◌, ℕ, Bool, List, [], ◌∷◌, Option, Some, None, if◌then◌else◌}
use Rattle.wb_types.specs.Limits.{most_nodes}
use Rattle.wb_types.specs.declared.number.OBlock.{OBlock}
use Rattle.wb_types.specs.declared.number.CBlock.{CBlock}
use Rattle.wb_types.specs.declared.refusal.Refusal.{Refusal}
use Rattle.wb_policy.specs.declared.order.Order.{Order}
use Rattle.wb_policy.specs.declared.order.Order.TheVariants.{Promote, Replace, Demote, Clean}
use Rattle.wb_desk.specs.Desks.{DeskState, IsLive}
use Rattle.wb_desk.specs.Calls.{released}
use Rattle.wb_desk.specs.Entries.{MayMap, MayUnmap, HasEntered, HasLeft}
use Rattle.wb_desk.specs.Commits.{IsBeginRefused, commit_ended}
use Rattle.wb_tasks.specs.declared.step.Got.{Got}
use Rattle.wb_tasks.specs.declared.step.Got.TheVariants.{Done, Refused}

-- A block gets its entry where its order may bring it there and the desk has memory; else nothing changes.
abbrev pub DidMap : {P : Type 0} → (P → ℕ → ℕ → P) → OBlock → CBlock → Got → DeskState P → DeskState P → Type 0
DidMap with_entry b c Done d d' = MayMap d b c × HasEntered with_entry d b c d'
DidMap with_entry b c (Refused refusal) d d' = d' ≡ d
DidMap with_entry b c got d d' = ⊥

-- A block loses its entry where it has one and its order lets it go; else nothing changes.
abbrev pub DidUnmap : {P : Type 0} → (P → ℕ → P) → OBlock → DeskState P → DeskState P → Type 0
DidUnmap without_entry b d d' = ((may : MayUnmap d b) → HasLeft without_entry d b may.cache d') × (¬ MayUnmap d b → d' ≡ d)

-- the order is one of this block
abbrev pub is_of : OBlock → Order → Bool
is_of b (Promote x c) = x.0 == b.0
is_of b (Replace v x c) = (v.0 == b.0) || (x.0 == b.0)
is_of b (Demote x) = x.0 == b.0
is_of b (Clean x) = x.0 == b.0

-- of these orders, the first one of this block
abbrev pub order_of : OBlock → List Order → Option Order
order_of b [] = None
order_of b (order ∷ orders) = if is_of b order then Some order else order_of b orders

-- an order is given up where it lives
abbrev pub IsGivenUp : {P : Type 0} → Option Order → DeskState P → DeskState P → Type 0
IsGivenUp None d d' = d' ≡ d
IsGivenUp (Some order) d d' = ((live : IsLive d order) → d' ≡ released d live.cache) × (¬ IsLive d order → d' ≡ d)

-- Of the orders that somebody has taken, the one of this block is given up.
abbrev pub DidRelease : {P : Type 0} → List Order → OBlock → DeskState P → DeskState P → Type 0
DidRelease held b d d' = IsGivenUp (order_of b held) d d'

-- so many nodes are enough for every image of the desk's metadata, or every clean one
abbrev pub AreEnough : {P : Type 0} → DeskState P → Bool → ℕ → Type 0
AreEnough d clean most = most_nodes d.geometry.version clean d.geometry.cache_blocks ≤ most

-- None began: the desk refused it, where so many nodes are enough for every image of a flush, or of a suspend, and nothing changed.
abbrev pub IsUnbegun : {P : Type 0} → DeskState P → Bool → ℕ → Refusal → DeskState P → Type 0
IsUnbegun d clean most refusal d' = (d' ≡ d) × (AreEnough d clean most → IsBeginRefused d refusal)

-- the running commit ends, if one runs
abbrev pub ended : {P : Type 0} → DeskState P → DeskState P
ended d = if d.space.committing then commit_ended d else d
