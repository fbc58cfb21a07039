-- The words of a node, as they are read one after the other.
use Rattle.std.proofs.Common.{◌≡◌, ◌<◌, ◌+◌, ℕ, Bool, List, length, set, slice_index, refl, sym, subst, arith, inl, inr}
use Rattle.std.proofs.lemmas.Bool.{cases_lt}
use Rattle.std.proofs.lemmas.List.{get_or-set_other, get_or-set_same, get_or_past}
use Rattle.wb_types.specs.declared.version.Version.{Version}
use Rattle.wb_format.specs.NodeWords.{IsLeafWord, IsNodeWordOf}

-- one word more
pub set_more : (P : ℕ → ℕ → Type 0) (words : List ℕ) (i word : ℕ) → i < length words → ((k : ℕ) → k < i → P k (slice_index words k)) → P i word
    → (k : ℕ) → k < i + 1 → P k (slice_index (set words i word) k)
set_more P words i word inside before here k below = elim (cases_lt k i) [
  | inl earlier ↦ subst (P k) (sym (get_or-set_other words i k word 0 (omega arith))) (before k earlier)
  | inr last ↦
      let e : i ≡ k = omega arith in
      subst (λ n. P n (slice_index (set words i word) n)) e (subst (P i) (sym (get_or-set_same words i word 0 inside)) here)
]

-- every node may have the word 0
IsWord-zero : (version : Version) (dirty : Bool) (level : ℕ) → IsNodeWordOf version dirty level 0
IsWord-zero version dirty level = record {
  any = record { leaf = λ mapping e. zero; inner = λ e. record { no_slot = λ same. absurd (omega arith); place = omega arith } };
  leaf = λ mapping e. record { leaf = zero; no_dirty_bit = λ two. refl };
}
  where
    zero : IsLeafWord 0
    zero = record { present = λ some. absurd (some refl); bits_2_and_3 = refl; hint = omega arith; bits_9_to_15 = refl; bits_from_36 = refl }

-- past the last word there is none
pub IsWord-everywhere : (version : Version) (dirty : Bool) (level : ℕ) (words : List ℕ) → ((k : ℕ) → k < length words → IsNodeWordOf version dirty level (slice_index words k))
    → (k : ℕ) → IsNodeWordOf version dirty level (slice_index words k)
IsWord-everywhere version dirty level words each k = elim (cases_lt k (length words)) [
  | inl inside ↦ each k inside
  | inr past ↦ rw (get_or_past words k 0 past) (IsWord-zero version dirty level)
]
