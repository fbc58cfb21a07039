-- Which origin blocks an order names.
use Rattle.std.specs.Prelude.{◌≡◌, ◌⊎◌, ℕ}
use Rattle.wb_types.specs.declared.number.OBlock.{OBlock}
use Rattle.wb_policy.specs.declared.order.Order.{Order}
use Rattle.wb_policy.specs.declared.order.Order.TheVariants.{Promote, Replace, Demote, Clean}

-- the first; a replacement names its victim first
abbrev pub first_of : Order → OBlock
first_of (Promote b c) = b
first_of (Replace v x c) = v
first_of (Demote b) = b
first_of (Clean b) = b

-- the last; an order of a single block names that
abbrev pub second_of : Order → OBlock
second_of (Promote b c) = b
second_of (Replace v x c) = x
second_of (Demote b) = b
second_of (Clean b) = b

abbrev pub IsNamed : Order → ℕ → Type 0
IsNamed order b = ((first_of order).0 ≡ b) ⊎ ((second_of order).0 ≡ b)
