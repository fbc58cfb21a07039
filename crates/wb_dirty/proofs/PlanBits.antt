-- The bits of a leaf that is planned, one after the other.
use Rattle.std.proofs.Common.{◌≡◌, ◌≤◌, ◌<◌, ◌+◌, ◌*◌, ◌/◌, ◌%◌, ◌^◌, ◌==◌, ◌∙◌, sym, ap, subst, refl, ℕ, Bool, true, false, List, get_or, set, length, bit_or, w64, get_or-set_same, get_or-set_other, arith, inl, inr}
use Rattle.std.specs.Int.{bit_at}
use Rattle.std.proofs.lemmas.Bool.{cases_lt}
use Rattle.std.proofs.lemmas.Nat.Bits.{bit_at_set_same, bit_at_set_other, bit_at-zero}
use Rattle.wb_bits.specs.BitWords.{is_member}
use Rattle.wb_bits.proofs.Least.{is_member-at}

-- a word has the bits of so many blocks from the first on
pub record IsWordTo (dirty : List Bool) (first word count : ℕ) : Type 0 where
  pub set : (k : ℕ) → k < count → (bit_at word k == 1) ≡ get_or dirty (first + k) false
  pub clear : (k : ℕ) → count ≤ k → bit_at word k ≡ 0

-- those of none
pub word-none : (dirty : List Bool) (first : ℕ) → IsWordTo dirty first 0 0
word-none dirty first = record { set = λ k below. absurd (omega arith); clear = λ k past. bit_at-zero k }

-- one more, of a dirty block
pub word-set : (dirty : List Bool) (first word count word' : ℕ) → IsWordTo dirty first word count → count < 64 → get_or dirty (first + count) false ≡ true
    → word' ≡ bit_or word (1 * 2 ^ count % 2 ^ 64) → IsWordTo dirty first word' (count + 1)
word-set dirty first word count word' h below there e = record {
  set = λ k less.
      ap (λ (w : ℕ). bit_at w k == 1) e
      ∙ (elim (cases_lt k count) [
        | inl before ↦ ap (λ (b : ℕ). b == 1) (bit_at_set_other w64 word count below k (omega arith)) ∙ h.set k before
        | inr last ↦
            let same : count ≡ k = omega arith in
            subst (λ n. (bit_at (bit_or word (1 * 2 ^ count % 2 ^ 64)) n == 1) ≡ get_or dirty (first + n) false) same
            (ap (λ (b : ℕ). b == 1) (bit_at_set_same w64 word count below) ∙ sym there)
      ]);
  clear = λ k past. ap (λ (w : ℕ). bit_at w k) e ∙ (bit_at_set_other w64 word count below k (omega arith) ∙ h.clear k (omega arith));
}

-- one more, of a block that is not dirty
pub word-clear : (dirty : List Bool) (first word count word' : ℕ) → IsWordTo dirty first word count → get_or dirty (first + count) false ≡ false → word' ≡ word → IsWordTo dirty first word' (count + 1)
word-clear dirty first word count word' h none e = record {
  set = λ k less.
      ap (λ (w : ℕ). bit_at w k == 1) e
      ∙ (elim (cases_lt k count) [
        | inl before ↦ h.set k before
        | inr last ↦
            let same : count ≡ k = omega arith in
            subst (λ n. (bit_at word n == 1) ≡ get_or dirty (first + n) false) same (ap (λ (b : ℕ). b == 1) (h.clear count (omega arith)) ∙ sym none)
      ]);
  clear = λ k past. ap (λ (w : ℕ). bit_at w k) e ∙ h.clear k (omega arith);
}

-- the words of a leaf have the bits of the blocks before one
pub record AreWordsTo (dirty : List Bool) (first : ℕ) (words : List ℕ) (count : ℕ) : Type 0 where
  pub size : length words ≡ 32
  pub set : (k : ℕ) → k < 64 * count → is_member words k ≡ get_or dirty (first + k) false

-- one word more
pub words-more : (dirty : List Bool) (first : ℕ) (words words' : List ℕ) (count word : ℕ) → AreWordsTo dirty first words count → count < 32
    → ((t : ℕ) → t < 64 → (bit_at word t == 1) ≡ get_or dirty (first + 64 * count + t) false) → words' ≡ set words count word → length words' ≡ 32 → AreWordsTo dirty first words' (count + 1)
words-more dirty first words words' count word h below here e size = record {
  size = size;
  set = λ k less.
      ap (λ (ws : List ℕ). is_member ws k) e
      ∙ (is_member-at (set words count word) k (k / 64) (k % 64) refl refl
      ∙ (elim (cases_lt k (64 * count)) [
        | inl before ↦
            ap (λ (w : ℕ). bit_at w (k % 64) == 1) (get_or-set_other words count (k / 64) word 0 (omega arith))
            ∙ (sym (is_member-at words k (k / 64) (k % 64) refl refl) ∙ h.set k before)
        | inr last ↦
            let same : k / 64 ≡ count = omega arith in
            let inside : count < length words = omega (arith, h.size) in
            let at : first + 64 * count + k % 64 ≡ first + k = omega arith in
            ap (λ (i : ℕ). bit_at (get_or (set words count word) i 0) (k % 64) == 1) same
            ∙ (ap (λ (w : ℕ). bit_at w (k % 64) == 1) (get_or-set_same words count word 0 inside) ∙ (here (k % 64) (omega arith) ∙ ap (λ n. get_or dirty n false) at))
      ]));
}
