-- Words that spell sectors, with a byte to fill them or without.
use Rattle.std.specs.Prelude.{ℕ, List, [], ◌∷◌}
use Rattle.wb_table.specs.Numbers.{SpellsNumber, SpellsByte}

-- words that spell a sector and a number of sectors: `S N`
abbrev pub SpellsSectors : List (List ℕ) → ℕ → ℕ → Type 0
SpellsSectors (sector ∷ number ∷ []) at count = SpellsNumber sector at × SpellsNumber number count
SpellsSectors words at count = ⊥

-- and a byte to fill them with: `S N hh`
abbrev pub SpellsFill : List (List ℕ) → ℕ → ℕ → ℕ → Type 0
SpellsFill (sector ∷ number ∷ digits ∷ []) at count fill = SpellsNumber sector at × SpellsNumber number count × SpellsByte digits fill
SpellsFill words at count fill = ⊥
