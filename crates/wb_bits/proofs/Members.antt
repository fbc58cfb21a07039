-- A write to one word changes one member.
use Rattle.std.proofs.Common.{◌≡◌, ◌≢◌, ◌<◌, ◌/◌, ◌%◌, ◌^◌, ◌==◌, inl, inr, ℕ, List, Bool, true, false, length, map, get_or, set, refl, sym, ap, subst, ◌∙◌, arith, get_or-set_same, get_or-set_other}
use Rattle.std.proofs.lemmas.Bool.{cases_eq, eqb-true, lt-ltb}
use Rattle.std.proofs.lemmas.List.{length-set, map-set, ext_get_or, get_or_read}
use Rattle.std.proofs.lemmas.List.FromFn.{get_or-map-range_with_len}
use Rattle.std.proofs.lemmas.Nat.Bits.{bit_at-zero}
use Rattle.std.specs.Int.{bit_at}
use Rattle.wb_bits.specs.BitWords.{is_used, is_member, members, IsBounded, Differs}
use Rattle.std.proofs.Math.Seq.{map-set_same}
use Rattle.wb_bits.specs.Deeper.{length-members}
use Rattle.wb_bits.specs.Summary.{members_of, IsSummed}
use Rattle.wb_bits.specs.declared.bit_set.BitSet.TheInside.{Inside}

pub get_or-members : (bound : ℕ) (words : List ℕ) (k : ℕ) → k < bound → get_or (members bound words) k false ≡ is_member words k
unfolding members
get_or-members bound words k h = get_or-map-range_with_len (is_member words) 0 bound k k false h (omega arith)

-- the bit that a number has
pub is_member-same_word : (words : List ℕ) (i j v : ℕ) → i / 64 < length words → j / 64 ≡ i / 64 → is_member (set words (i / 64) v) j ≡ (bit_at v (j % 64) == 1)
unfolding is_member
is_member-same_word words i j v h e = ap (λ (w : ℕ). bit_at w (j % 64) == 1) (ap (λ (k : ℕ). get_or (set words (i / 64) v) k 0) e ∙ get_or-set_same words (i / 64) v 0 h)

pub is_member-other_word : (words : List ℕ) (i j v : ℕ) → j / 64 ≢ i / 64 → is_member (set words (i / 64) v) j ≡ is_member words j
unfolding is_member
is_member-other_word words i j v n = ap (λ (w : ℕ). bit_at w (j % 64) == 1) (get_or-set_other words (i / 64) (j / 64) v 0 n)

pub is_member-here : (words : List ℕ) (i v : ℕ) (b : Bool) → i / 64 < length words → Differs (get_or words (i / 64) 0) v (i % 64) b → is_member (set words (i / 64) v) i ≡ b
is_member-here words i v b h d = is_member-same_word words i i v h refl ∙ d.here

pub is_member-others : (words : List ℕ) (i j v : ℕ) (b : Bool) → i / 64 < length words → Differs (get_or words (i / 64) 0) v (i % 64) b → j ≢ i → is_member (set words (i / 64) v) j ≡ is_member words j
unfolding is_member
is_member-others words i j v b h d n = elim (cases_eq (j / 64) (i / 64)) [
  | inl e ↦ same_word e
  | inr o ↦ is_member-other_word words i j v o
]
  where
    same_word : j / 64 ≡ i / 64 → is_member (set words (i / 64) v) j ≡ is_member words j
    same_word e = is_member-same_word words i j v h e ∙ ap (λ (t : ℕ). t == 1) (d.others (j % 64) (omega arith) (λ s. n (omega arith)) ∙ ap (λ (k : ℕ). bit_at (get_or words k 0) (j % 64)) (sym e))

pub members-set : (bound : ℕ) (words : List ℕ) (i v : ℕ) (b : Bool) → i < bound → i / 64 < length words → Differs (get_or words (i / 64) 0) v (i % 64) b → members bound (set words (i / 64) v) ≡ set (members bound words) i b
members-set bound words i v b l h d =
    ext_get_or false (members bound (set words (i / 64) v)) (set (members bound words) i b)
    (length-members bound (set words (i / 64) v) ∙ sym (length-set (members bound words) i b ∙ length-members bound words))
    at
  where
    at : (k : ℕ) → k < length (members bound (set words (i / 64) v)) → get_or (members bound (set words (i / 64) v)) k false ≡ get_or (set (members bound words) i b) k false
    at k less = let within : k < bound = subst (λ (n : ℕ). k < n) (length-members bound (set words (i / 64) v)) less in
        get_or-members bound (set words (i / 64) v) k within ∙ elim (cases_eq k i) [
          | inl e ↦ ap (is_member (set words (i / 64) v)) e ∙ is_member-here words i v b h d
              ∙ sym (ap (λ (n : ℕ). get_or (set (members bound words) i b) n false) e ∙ get_or-set_same (members bound words) i b false (subst (λ (n : ℕ). i < n) (sym (length-members bound words)) l))
          | inr n ↦ is_member-others words i k v b h d n ∙ sym (get_or-set_other (members bound words) i k b false n ∙ get_or-members bound words k within)
        ]

pub bounded-set : (bound : ℕ) (words : List ℕ) (i v : ℕ) (b : Bool) → i < bound → v < 2 ^ 64 → Differs (get_or words (i / 64) 0) v (i % 64) b → IsBounded bound words → IsBounded bound (set words (i / 64) v)
bounded-set bound words i v b l f d h = record {
  small = h.small;
  enough = omega (arith, h.enough, length-set words (i / 64) v);
  no_more = omega (arith, h.no_more, length-set words (i / 64) v);
  fits = λ k. elim (cases_eq k (i / 64)) [
    | inl e ↦ subst (λ (x : ℕ). x < 2 ^ 64) (sym (ap (λ (n : ℕ). get_or (set words (i / 64) v) n 0) e ∙ get_or-set_same words (i / 64) v 0 (word_in bound words i l h))) f
    | inr n ↦ subst (λ (x : ℕ). x < 2 ^ 64) (sym (get_or-set_other words (i / 64) k v 0 n)) (h.fits k)
  ];
  tail = λ j past. is_member-others words i j v b (word_in bound words i l h) d (λ e. absurd (omega arith)) ∙ h.tail j past;
}
  where
    word_in : (bound : ℕ) (words : List ℕ) (i : ℕ) → i < bound → IsBounded bound words → i / 64 < length words
    word_in bound words i l h = omega (arith, h.enough)

pub word_in : (bound : ℕ) (words : List ℕ) (i : ℕ) → i < bound → IsBounded bound words → i / 64 < length words
word_in bound words i l h = omega (arith, h.enough)

-- an index within the set lies within its words
pub record IsWithin (a : Inside) (i : ℕ) : Type 0 where
  pub bound : i < a.bound
  pub word : i / 64 < length a.words.items

pub within : (a : Inside) (s : List Bool) (i : ℕ) → members_of a ≡ s → i < length s → IsSummed a → IsWithin a i
within a s i e l h = let b : i < a.bound = omega (arith, ap length e, length-members a.bound a.words.items) in
    record { bound = b; word = word_in a.bound a.words.items i b h.bounded }

pub used_by_bit : (v k : ℕ) → (bit_at v k == 1) ≡ true → is_used v ≡ true
unfolding is_used
used_by_bit v k e = elim (cases_eq v 0) [
  | inl z ↦ let bit : bit_at 0 k ≡ 1 = eqb-true (bit_at 0 k) 1 (subst (λ (x : ℕ). (bit_at x k == 1) ≡ true) z e) in absurd (omega (arith, bit_at-zero k))
  | inr n ↦ lt-ltb 0 v (omega arith)
]

pub used_not_zero : (v : ℕ) → v ≢ 0 → is_used v ≡ true
unfolding is_used
used_not_zero v n = lt-ltb 0 v (omega arith)

pub used_zero : is_used 0 ≡ false
unfolding is_used
used_zero = refl

-- what the set above has after a write
pub used-set : (words : List ℕ) (k v : ℕ) (b : Bool) → is_used v ≡ b → map is_used (set words k v) ≡ set (map is_used words) k b
used-set words k v b e = map-set is_used words k v ∙ ap (λ (x : Bool). set (map is_used words) k x) e

pub used-same : (words : List ℕ) (k v : ℕ) → v ≢ 0 → (get_or words k 0 ≡ 0 → v ≡ 0) → map is_used (set words k v) ≡ map is_used words
used-same words k v n zero_stays = map-set_same is_used words k v 0 (used_not_zero v n ∙ sym (used_not_zero (get_or words k 0) (λ z. n (zero_stays z))))

-- what a write to one word does
pub record Writes (bound : ℕ) (words : List ℕ) (i v : ℕ) (b : Bool) : Type 0 where
  pub list : members bound (set words (i / 64) v) ≡ set (members bound words) i b
  pub bounded : IsBounded bound (set words (i / 64) v)

pub written : (bound : ℕ) (words : List ℕ) (i w v : ℕ) (b : Bool) → i < bound → w ≡ get_or words (i / 64) w → Differs w v (i % 64) b → v < 2 ^ 64 → IsBounded bound words → Writes bound words i v b
written bound words i w v b l e d f h = let k : i / 64 < length words = word_in bound words i l h in
    let same : Differs (get_or words (i / 64) 0) v (i % 64) b = subst (λ (x : ℕ). Differs x v (i % 64) b) (get_or_read words (i / 64) w k e 0) d in
    record { list = members-set bound words i v b l k same; bounded = bounded-set bound words i v b l f same h }
