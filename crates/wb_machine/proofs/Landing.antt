-- What is written behind the last sector.
use Rattle.std.proofs.Common.{◌≡◌, ◌≤◌, ◌⊎◌, ◌+◌, inl, inr, ℕ, zero, suc, Bool, true, false, if◌then◌else◌, List, [], ◌∷◌, Option, take, length, refl, sym, ap, ◌∙◌, arith}
use Rattle.std.proofs.lemmas.Option.{slice_get_past}
use Rattle.wb_disk.specs.Device.{Content as Bytes, History, grown, written}
use Rattle.wb_disk.specs.Extents.{written_where}
use Rattle.wb_disk.proofs.Lengths.{length_landed}

landed_past : (landed : Bool) (device : List History) (at : ℕ) (c : Bytes) → length device ≤ at → (if landed then written device at c else device) ≡ device
landed_past true device at c l = ap (λ (o : Option History). grown o c device at) (slice_get_past device at l)
landed_past false device at c l = refl

-- behind the last sector nothing is written
written_past : (lands : ℕ → Bool) (device : List History) (at : ℕ) (cs : List Bytes) → length device ≤ at → written_where lands device at cs ≡ device
written_past lands device at [] l = refl
written_past lands device at (c ∷ cs) l = ap (λ d. written_where lands d (suc at) cs) (landed_past (lands at) device at c l) ∙ written_past lands device (suc at) cs (omega (arith, l))

-- so the contents that have a sector are all that are written
pub written_inside : (lands : ℕ → Bool) (device : List History) (at count : ℕ) (cs : List Bytes) → count ≤ length cs → (count ≡ length cs) ⊎ (length device ≤ at + count) → written_where lands device at (take count cs) ≡ written_where lands device at cs
written_inside lands device at zero [] few all = refl
written_inside lands device at zero (c ∷ cs) few (inl e) = absurd (omega (arith, e))
written_inside lands device at zero (c ∷ cs) few (inr l) = sym (written_past lands device at (c ∷ cs) (omega (arith, l)))
written_inside lands device at (suc count) [] few all = absurd (omega (arith, few))
written_inside lands device at (suc count) (c ∷ cs) few (inl e) = written_inside lands (if lands at then written device at c else device) (suc at) count cs (omega (arith, few)) (inl (omega (arith, e)))
written_inside lands device at (suc count) (c ∷ cs) few (inr l) = written_inside lands (if lands at then written device at c else device) (suc at) count cs (omega (arith, few)) (inr (omega (arith, l, length_landed (lands at) device at c)))
