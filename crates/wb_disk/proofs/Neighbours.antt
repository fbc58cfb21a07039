-- Reads and writes of neighbouring sectors, one after the other.
use Rattle.std.proofs.Common.{◌≡◌, ◌≢◌, ◌<◌, ◌+◌, ◌-◌, inl, inr, ℕ, zero, suc, Bool, true, false, if◌then◌else◌, List, [], ◌∷◌, Option, Some, None, length, map, take, refl, sym, ap, subst, ◌∙◌, arith, nat_lt, slice_index, get_or-set_other}
use Rattle.std.specs.List.{slice_get, slice_set}
use Rattle.std.proofs.Math.Seq.{take-nil}
use Rattle.std.proofs.lemmas.Bool.{cases_lt}
use Rattle.std.proofs.lemmas.List.{map-set}
use Rattle.wb_disk.specs.Device.{Content, History, ReadGives, added, grown, written}
use Rattle.wb_disk.specs.Extents.{GivesEach, written_where, written_each, PartlyWritten}
use Rattle.wb_disk.specs.Memory.{Memory, HasRoom, FrontWritten, later_count}

-- one read more
pub gives_more : (device : List History) (first k : ℕ) (cs : List Content) (c : Content) → k < length cs → GivesEach device first (take k cs) → ReadGives device (first + k) c → GivesEach device first (take (suc k) (slice_set cs k c))
gives_more device first k [] c l g h = absurd (omega (arith, l))
gives_more device first zero (d ∷ ds) c l g h = let same : first + zero ≡ first = omega arith in (subst (λ (v : ℕ). ReadGives device v c) same h, tt)
gives_more device first (suc k) (d ∷ ds) c l g h =
    let same : first + suc k ≡ suc first + k = omega arith in
    let less : k < length ds = omega (arith, l) in
    (g.0, gives_more device (suc first) k ds c less g.1 (subst (λ (v : ℕ). ReadGives device v c) same h))

-- one write more
pub each_more : (device : List History) (first k : ℕ) (cs : List Content) (c : Content) → slice_get cs k ≡ Some c → written_each device first (take (suc k) cs) ≡ written (written_each device first (take k cs)) (first + k) c
each_more device first k [] c e = cc
each_more device first zero (d ∷ ds) c e = let same : first ≡ first + zero = omega arith in let is : d ≡ c = cc in
    ap (λ v. written device first v) is ∙ ap (λ (v : ℕ). written device v c) same
each_more device first (suc k) (d ∷ ds) c e =
    let same : suc first + k ≡ first + suc k = omega arith in
    each_more (written device first d) (suc first) k ds c e ∙ ap (λ (v : ℕ). written (written_each (written device first d) (suc first) (take k ds)) v c) same

-- those below a bound land
below : (device : List History) (first bound : ℕ) (cs : List Content) → written_where (λ at. nat_lt at bound) device first cs ≡ written_each device first (take (bound - first) cs)
below device first bound [] = ap (λ l. written_each device first l) (sym (take-nil (bound - first)))
below device first bound (c ∷ cs) = elim (cases_lt first bound) [
  | inl l ↦ let is : nat_lt first bound ≡ true = grind (arith, l) in let more : bound - first ≡ suc (bound - suc first) = omega (arith, l) in
      ap (λ (b : Bool). written_where (λ at. nat_lt at bound) (if b then written device first c else device) (suc first) cs) is
      ∙ below (written device first c) (suc first) bound cs ∙ ap (λ n. written_each device first (take n (c ∷ cs))) (sym more)
  | inr l ↦ let is : nat_lt first bound ≡ false = grind (arith, l) in let none : bound - first ≡ 0 = omega (arith, l) in let later : bound - suc first ≡ 0 = omega (arith, l) in
      ap (λ (b : Bool). written_where (λ at. nat_lt at bound) (if b then written device first c else device) (suc first) cs) is
      ∙ below device (suc first) bound cs ∙ ap (λ n. written_each device (suc first) (take n cs)) later ∙ ap (λ n. written_each device first (take n (c ∷ cs))) (sym none)
]

-- writes of the first of these contents are what a write that failed may leave
pub partly_front : (old new : List History) (first : ℕ) (cs : List Content) → FrontWritten old first cs new → PartlyWritten old first cs new
partly_front old new first cs front =
    let so_far : (first + front.0) - first ≡ front.0 = omega arith in
    (λ at. nat_lt at (first + front.0), front.2 ∙ sym (below old first (first + front.0) cs ∙ ap (λ n. written_each old first (take n cs)) so_far))

-- a write takes no room of another sector
later_count-grown_other : (o : Option History) (device : List History) (i k : ℕ) (c : Content) → k ≢ i → slice_index (map later_count (grown o c device i)) k ≡ slice_index (map later_count device) k
later_count-grown_other None device i k c n = refl
later_count-grown_other (Some h) device i k c n =
    ap (λ counts. slice_index counts k) (map-set later_count device i (added h c))
    ∙ get_or-set_other (map later_count device) i k (later_count (added h c)) 0 n

pub room_stays : (old new : Memory) (i k : ℕ) (c : Content) → new.contents ≡ written old.contents i c → new.capacity ≡ old.capacity → k ≢ i → HasRoom old k → HasRoom new k
room_stays old new i k c wrote same n had =
    let before : slice_index (map later_count old.contents) k < slice_index old.capacity k = had in
    let count : slice_index (map later_count new.contents) k ≡ slice_index (map later_count old.contents) k =
    ap (λ d. slice_index (map later_count d) k) wrote ∙ later_count-grown_other (slice_get old.contents i) old.contents i k c n in
    let most : slice_index new.capacity k ≡ slice_index old.capacity k = ap (λ numbers. slice_index numbers k) same in
    omega arith
