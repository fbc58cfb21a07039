-- What a client is told of the desk, or has it told, each by one call under the lock: some desk was then as this says. Nobody else has a
-- desk that knows such a policy.
use Rattle.std.specs.Prelude.{◌≡◌, ◌+◌, ℕ, List, Option}
use Rattle.std.specs.Option.{option_map}
use Rattle.wb_types.specs.declared.message.Key.{Key}
use Rattle.wb_types.specs.declared.message.Message.TheVariants.{Set}
use Rattle.wb_types.specs.declared.number.CBlock.{CBlock}
use Rattle.wb_types.specs.declared.number.OBlock.{OBlock}
use Rattle.wb_types.specs.declared.refusal.Refusal.{Refusal}
use Rattle.wb_policy.specs.declared.order.Order.{Order}
use Rattle.wb_policy.specs.declared.situation.Settled.{Settled}
use Rattle.wb_policy.specs.declared.situation.Tick.{Tick}
use Rattle.wb_orders.specs.Orders.{next_of}
use Rattle.wb_desk.specs.Desks.{DeskState}
use Rattle.wb_desk.specs.Messages.{MessageIsTold, IsRefused}
use Rattle.wb_desk.specs.Settling.{AreSettled, IsTicked}
use Rattle.wb_stage.specs.Asking.{DidRelease}

-- its policy was told of these accesses, one after the other, and what it ordered was given
abbrev pub WereSettled : {P : Type 0} → (P → Settled → Option Order) → (P → Settled → P) → List OBlock → Type 0
WereSettled {P} ordered settled blocks = (old : DeskState P) × ((new : DeskState P) × AreSettled ordered settled old blocks new)

-- its policy had a tick, over some blocks that were seen dirty
abbrev pub HadTick : {P : Type 0} → (P → Tick → ℕ → Option Order) → (P → Tick → ℕ → P) → Type 0
HadTick {P} cleaned ticked = (dirty : List (CBlock × OBlock)) × ((old : DeskState P) × ((new : DeskState P) × IsTicked cleaned ticked dirty (old.geometry.cache_blocks + 1) 0 old new))

-- this order, or none, was the one that waited longest
abbrev pub WasNext : Type 0 → Option Order → Type 0
WasNext P order = (d : DeskState P) × (order ≡ option_map (λ o. o.order) (next_of d.orders.slots d.orders.waiting))

-- its threshold, or its policy's setting, was given this value
abbrev pub WasSet : {P : Type 0} → (P → Key → ℕ → Option P) → Key → ℕ → Type 0
WasSet {P} with_setting key value = (old : DeskState P) × ((new : DeskState P) × MessageIsTold with_setting old (Set key value) new)

-- it does not take this value for it, and refuses so
abbrev pub WasNotSet : {P : Type 0} → (P → Key → ℕ → Option P) → Key → ℕ → Refusal → Type 0
WasNotSet {P} with_setting key value refusal = (d : DeskState P) × IsRefused with_setting d (Set key value) refusal

-- of these orders the one of this block was given up
abbrev pub WasGivenUp : Type 0 → List Order → OBlock → Type 0
WasGivenUp P held block = (old : DeskState P) × ((new : DeskState P) × DidRelease held block old new)
