-- How a write to a disk in memory fails.
use Rattle.std.proofs.Common.{◌≡◌, ◌<◌, ◌+◌, ◌∙◌, ℕ, zero, suc, drop, slice_index_or, Bool, true, false, if◌then◌else◌, List, [], ◌∷◌, length, arith, subst, refl, sym, ap}
use Rattle.wb_types.specs.declared.mode.Dev.{Dev}
use Rattle.std.specs.Prelude.{Result, Ok, Err, OnErr, OnOk, IsOk}
use Rattle.wb_disk.specs.Device.{Content, History, written}
use Rattle.wb_disk.specs.Crash.{Choice}
use Rattle.wb_disk.specs.Failing.{lands}
use Rattle.wb_disk.specs.Faltering.{falters_as}
use Rattle.wb_disk.specs.Extents.{Writing, WrittenSo, written_where}
use Rattle.wb_disk.specs.Memory.{Memory, HasRoom, HasRoomFor, FrontWritten, memory_falters}
use Rattle.wb_disk.proofs.Neighbours.{partly_front}

-- nothing of a sector lands, and there was no room for it
pub write_how : {T E : Type 0} (r : Result T E) (old : Memory) (new : List History) (at : ℕ) (c : Content) → OnErr r (new ≡ old.contents) → (HasRoom old at → IsOk r) →
    OnErr r (WrittenSo (memory_falters old (Writing at 1)) old.contents at (c ∷ []) new)
write_how (Ok x) old new at c same room = tt
write_how (Err e) old new at c same room = ((λ i. false), (λ has. no_room has), same)
  where
    no_room : HasRoomFor old at 1 → ⊥
    no_room has =
        let is : at + 0 ≡ at = omega arith in
        let never : false ≡ true = room (subst (λ (i : ℕ). HasRoom old i) is (has 0 (omega arith))) in
        absurd (cc)

-- the front of an extent lands, and there was no room for all of it
pub extent_how : {T E : Type 0} (r : Result T E) (old : Memory) (new : List History) (first : ℕ) (cs : List Content) → OnErr r (FrontWritten old.contents first cs new) → (HasRoomFor old first (length cs) → IsOk r) →
    OnErr r (WrittenSo (memory_falters old (Writing first (length cs))) old.contents first cs new)
extent_how (Ok x) old new first cs front room = tt
extent_how (Err e) old new first cs front room = let partly = partly_front old.contents new first cs front in (partly.0, (λ has. no_room has), partly.1)
  where
    no_room : HasRoomFor old first (length cs) → ⊥
    no_room has = let never : false ≡ true = room has in absurd (cc)

-- ---- a disk that fails by a choice

-- what landed so has landed so on a failure
pub failed_so : {T E : Type 0} (r : Result T E) (may : (ℕ → Bool) → Type 0) (old new : List History) (first : ℕ) (cs : List Content) → WrittenSo may old first cs new → OnErr r (WrittenSo may old first cs new)
failed_so (Ok x) may old new first cs w = tt
failed_so (Err e) may old new first cs w = w

pub lands_so : (disk : Memory) (device : Dev) (choice : Choice) (new : List History) (first : ℕ) (cs : List Content) → new ≡ written_where (lands device choice) disk.contents first cs →
    WrittenSo (falters_as disk device choice (Writing first (length cs))) disk.contents first cs new
lands_so disk device choice new first cs e = (lands device choice, (λ has. refl), e)

pub nothing_written : (device : List History) (at : ℕ) (cs : List Content) → written_where (λ at. false) device at cs ≡ device
nothing_written device at [] = refl
nothing_written device at (c ∷ cs) = nothing_written device (suc at) cs

pub lands_nowhere : (disk : Memory) (device : Dev) (choice : Choice) (new : List History) (first : ℕ) (cs : List Content) → new ≡ disk.contents → (HasRoomFor disk first (length cs) → ⊥) →
    WrittenSo (falters_as disk device choice (Writing first (length cs))) disk.contents first cs new
lands_nowhere disk device choice new first cs e none = ((λ at. false), (λ has. absurd (none has)), e ∙ sym (nothing_written disk.contents first cs))

-- ---- contents, one for each sector

-- one of the contents that are left, so many being written
pub one_each_less : (landed : ℕ → Bool) (device : List History) (first k : ℕ) (contents : List Content) (content : Content) → k < length contents → content ≡ slice_index_or contents k content →
    written_where landed (if landed (first + k) then written device (first + k) content else device) (first + suc k) (drop (suc k) contents) ≡ written_where landed device (first + k) (drop k contents)
one_each_less landed device first k contents content l is =
    let next : first + suc k ≡ suc (first + k) = omega arith in
    ap (λ at. written_where landed (if landed (first + k) then written device (first + k) content else device) at (drop (suc k) contents)) next
    ∙ ap (λ cs. written_where landed device (first + k) cs) (sym (next_is k contents l is))
  where
    next_is : (k : ℕ) (contents : List Content) → k < length contents → content ≡ slice_index_or contents k content → drop k contents ≡ content ∷ drop (suc k) contents
    next_is k [] l is = absurd (omega (arith, l))
    next_is zero (c ∷ cs) l is = ap (λ x. x ∷ cs) (sym is)
    next_is (suc k) (c ∷ cs) l is = next_is k cs (omega (arith, l)) is

pub none_left : (contents : List Content) → drop (length contents) contents ≡ []
none_left [] = refl
none_left (c ∷ cs) = none_left cs

pub done_so : {T E P : Type 0} (r : Result T E) → IsOk r → OnOk r P → P
done_so (Ok x) i p = p
done_so (Err e) i p = absurd (cc)
