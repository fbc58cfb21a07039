-- The sectors of extents that are of blocks are within them, and none of an extent is another one.
use Rattle.std.proofs.Common.{◌≡◌, ◌<◌, ◌≤◌, ◌+◌, ◌%◌, inl, inr, ℕ, zero, suc, List, [], ◌∷◌, Contains, arith}
use Rattle.std.proofs.lemmas.List.Elements.{Contains-append_cases}
use Rattle.wb_types.proofs.Lists.{Contains-first, Contains-behind, Contains-one}
use Rattle.wb_types.specs.declared.extent.Extent.{Extent}
use Rattle.wb_types.specs.Extents.{rising}
use Rattle.wb_link.specs.World.{Within, AllWithin, AreDistinct, AllDistinct}
use Rattle.wb_refines.specs.Translation.{offsets}
use Rattle.wb_refines.specs.Tasks.{AllInBlocks}

within_rising : (size first count : ℕ) → first + count ≤ size → Within size (rising first count)
within_rising size first zero l = tt
within_rising size first (suc count) l = (omega (arith, l), within_rising size (first + 1) count (omega (arith, l)))

-- what is among rising numbers
pub rising_in : (first n x : ℕ) → Contains (rising first n) x → (k : ℕ) × (k < n) × (x ≡ first + k)
rising_in first zero x c = absurd (omega (arith, c.1))
rising_in first (suc n) x c = elim (Contains-append_cases (first ∷ []) (rising (first + 1) n) x c) [
  | inl s ↦ (zero, omega arith, (let is = Contains-one first x s in omega (arith, is)))
  | inr r ↦ (let k = rising_in (first + 1) n x r in (suc k.0, (let l = k.1 in omega (arith, l)), (let e = k.2 in omega (arith, e))))
]

distinct_rising : (first count : ℕ) → AreDistinct (rising first count)
distinct_rising first zero = tt
distinct_rising first (suc count) = (λ c. (let e = (rising_in (first + 1) count first c).2 in absurd (omega (arith, e))), distinct_rising (first + 1) count)

pub distinct_offsets : (size : ℕ) (es : List Extent) → AllDistinct (offsets size es)
distinct_offsets size [] = tt
distinct_offsets size (e ∷ es) = (distinct_rising (e.first % size) e.count, distinct_offsets size es)

pub within_offsets : (size : ℕ) (es : List Extent) → AllInBlocks size es → AllWithin size (offsets size es)
within_offsets size [] all = tt
within_offsets size (e ∷ es) all = (within_rising size (e.first % size) e.count (all e (Contains-first e es)), within_offsets size es (λ f m. all f (Contains-behind e es f m)))
