-- What rules an order out: a block with a live order, and passthrough.
use Rattle.std.specs.Prelude.{ℕ, Bool, true, false, List, get_or}
use Rattle.wb_types.specs.declared.mode.Mode.{Mode}
use Rattle.wb_types.specs.declared.mode.Mode.TheVariants.{Passthrough}

-- whether an origin block has a live order; a block past the list has none
abbrev pub is_busy : List Bool → ℕ → Bool
is_busy busy block = get_or busy block false

-- in passthrough nothing is ordered
abbrev pub is_passthrough : Mode → Bool
is_passthrough Passthrough = true
is_passthrough mode = false
