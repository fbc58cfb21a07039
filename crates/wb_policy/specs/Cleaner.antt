-- The cleaner: what it orders at a tick.
use Rattle.std.specs.Prelude.{◌≡◌, ℕ, ◌++◌, nat_le, nat_lt, Bool, ◌&&◌, not, if◌then◌else◌, List, Option, Some, None}
use Rattle.std.specs.List.{find, filter}
use Rattle.std.specs.Option.{option_map}
use Rattle.wb_types.specs.declared.entry.Entry.{Entry}
use Rattle.wb_types.specs.declared.geometry.Geometry.{Geometry}
use Rattle.wb_types.specs.declared.number.CBlock.{CBlock}
use Rattle.wb_types.specs.declared.number.OBlock.{OBlock}
use Rattle.wb_policy.specs.declared.order.Order.{Order}
use Rattle.wb_policy.specs.declared.order.Order.TheVariants.{Clean}
use Rattle.wb_policy.specs.declared.situation.Tick.{Tick}
use Rattle.wb_policy.specs.Situations.{is_busy, is_passthrough}

-- What the cleaner goes by: the cache block that it ordered last; the sectors of a block.
pub record Progress : Type 0 where
  pub last : Option ℕ
  pub block_sectors : ℕ

-- it begins before the first cache block, whatever is mapped
abbrev pub BeginsWith : Geometry → List (Option Entry) → Progress → Type 0
BeginsWith geometry entries p = p ≡ record { last = None; block_sectors = geometry.block }

-- in cyclic order: the cache blocks past the last one, then those up to it; before the first order as they stand
abbrev pub in_turn : Option ℕ → List (CBlock × OBlock) → List (CBlock × OBlock)
in_turn None dirty = dirty
in_turn (Some last) dirty = filter (λ e. nat_lt last e.0.0) dirty ++ filter (λ e. not (nat_lt last e.0.0)) dirty

-- a block without a live order
abbrev pub is_waiting : List Bool → CBlock × OBlock → Bool
is_waiting busy e = not (is_busy busy e.1.0)

-- the next block in turn that was seen dirty and has no live order
abbrev pub next_in_turn : Progress → Tick → Option (CBlock × OBlock)
next_in_turn p t = find (is_waiting t.busy.now) (in_turn p.last t.dirty.now)

-- it is taken where there is room for one; none is in passthrough
abbrev pub chosen : Progress → Tick → Option (CBlock × OBlock)
chosen p t = if not (is_passthrough t.mode) && nat_le p.block_sectors t.room then next_in_turn p t else None

-- The order at a tick: the write-back of that block.
abbrev pub cleaned : Progress → Tick → ℕ → Option Order
cleaned p t given = option_map (λ e. Clean e.1) (chosen p t)

abbrev pub moved_on : Progress → Option (CBlock × OBlock) → Progress
moved_on p None = p
moved_on p (Some e) = record p { last = Some e.0.0 }

-- the next order goes on behind it
abbrev pub ticked : Progress → Tick → ℕ → Progress
ticked p t given = moved_on p (chosen p t)
