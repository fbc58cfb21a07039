-- The bits of a leaf, as they are read one after the other.
use Rattle.std.proofs.Common.{◌≡◌, ◌<◌, ◌≤◌, ◌+◌, ◌-◌, ◌*◌, ◌∙◌, ℕ, suc, Bool, true, false, List, Ok, Err, sym, ap, subst, refl, get_or, length, arith}
use Rattle.std.specs.Prelude.{slice_set}
use Rattle.std.specs.List.{range_with_len}
use Rattle.std.proofs.lemmas.List.{length-set}
use Rattle.wb_types.specs.declared.number.Place.{Place}
use Rattle.wb_format.specs.declared.root.Root.{Root}
use Rattle.wb_bits.specs.BitWords.{is_member}
use Rattle.wb_tree.specs.declared.placed.PlacedNode.{PlacedNode}
use Rattle.wb_tree.specs.Reading.{◌then◌}
use Rattle.wb_dirty.specs.Reading.{Asked, Marks, MarksOutcome, each, bit_read, bits_read}
use Rattle.wb_dirty.proofs.Steps.{each-first, each-none}

abbrev pub asked_of : Root → List Bool → Asked
asked_of root mapped = record { root = root; mapped = mapped }

abbrev pub marks_of : List Place → List Bool → Marks
marks_of reached dirty = record { reached = reached; dirty = dirty }

abbrev pub bit_step : Root → List Bool → PlacedNode → List ℕ → ℕ → Marks → MarksOutcome
bit_step root mapped leaf words k = bit_read (asked_of root mapped) leaf.place (2048 * leaf.index + k) (is_member words k)

abbrev pub leaf_read : Root → List Bool → PlacedNode → List ℕ → Marks → MarksOutcome
leaf_read root mapped leaf words marks = bits_read (asked_of root mapped) leaf.place leaf.index words marks

-- up to bit k the leaf was read without a fault
pub record IsTaken (mapped : List Bool) (leaf : PlacedNode) (words : List ℕ) (dirty₀ dirty : List Bool) (k : ℕ) : Type 0 where
  pub long : length dirty ≡ length dirty₀
  pub taken : (root : Root) (reached : List Place) → leaf_read root mapped leaf words (marks_of reached dirty₀)
      ≡ each (bit_step root mapped leaf words) (range_with_len k (2048 - k)) (marks_of reached dirty)

-- the next bit
next_bit : (root : Root) (mapped : List Bool) (leaf : PlacedNode) (words : List ℕ) (k : ℕ) (marks : Marks) → k < 2048
    → each (bit_step root mapped leaf words) (range_with_len k (2048 - k)) marks
    ≡ (bit_step root mapped leaf words k marks then each (bit_step root mapped leaf words) (range_with_len (k + 1) (2048 - (k + 1))))
next_bit root mapped leaf words k marks below =
    let e : 2048 - k ≡ suc (2048 - (k + 1)) = omega arith in
    ap (λ n. each (bit_step root mapped leaf words) (range_with_len k n) marks) e
    ∙ each-first (bit_step root mapped leaf words) k (range_with_len (k + 1) (2048 - (k + 1))) marks

bit-set : (asked : Asked) (here : Place) (block : ℕ) (bit : Bool) (marks : Marks) → bit ≡ true → get_or asked.mapped block false ≡ true
    → bit_read asked here block bit marks ≡ Ok (marks_of marks.reached (slice_set marks.dirty block true))
bit-set asked here block true marks e there = rw there refl
bit-set asked here block false marks e there = absurd cc

bit-fault : (asked : Asked) (here : Place) (block : ℕ) (bit : Bool) (marks : Marks) → bit ≡ true → get_or asked.mapped block false ≡ false → bit_read asked here block bit marks ≡ Err here
bit-fault asked here block true marks e none = rw none refl
bit-fault asked here block false marks e none = absurd cc

bit-clear : (asked : Asked) (here : Place) (block : ℕ) (bit : Bool) (marks : Marks) → bit ≡ false → bit_read asked here block bit marks ≡ Ok marks
bit-clear asked here block false marks e = refl
bit-clear asked here block true marks e = absurd cc

-- a bit that is set, of a block with an entry
pub taken-set : (mapped : List Bool) (leaf : PlacedNode) (words : List ℕ) (dirty₀ dirty : List Bool) (k block : ℕ) (dirty' : List Bool) → IsTaken mapped leaf words dirty₀ dirty k → k < 2048
    → is_member words k ≡ true → block ≡ 2048 * leaf.index + k → get_or mapped block false ≡ true → dirty' ≡ slice_set dirty block true → IsTaken mapped leaf words dirty₀ dirty' (k + 1)
taken-set mapped leaf words dirty₀ dirty k block dirty' h below set here there now = record {
  long = ap length now ∙ (length-set dirty block true ∙ h.long);
  taken = λ root reached.
      let there' : get_or mapped (2048 * leaf.index + k) false ≡ true = subst (λ b. get_or mapped b false ≡ true) here there in
      let now' : slice_set dirty (2048 * leaf.index + k) true ≡ dirty' = ap (λ b. slice_set dirty b true) (sym here) ∙ sym now in
      h.taken root reached
      ∙ (next_bit root mapped leaf words k (marks_of reached dirty) below
      ∙ (ap (λ (o : MarksOutcome). o then each (bit_step root mapped leaf words) (range_with_len (k + 1) (2048 - (k + 1))))
      (bit-set (asked_of root mapped) leaf.place (2048 * leaf.index + k) (is_member words k) (marks_of reached dirty) set there')
      ∙ ap (λ (d : List Bool). each (bit_step root mapped leaf words) (range_with_len (k + 1) (2048 - (k + 1))) (marks_of reached d)) now'));
}

-- a bit that is not
pub taken-clear : (mapped : List Bool) (leaf : PlacedNode) (words : List ℕ) (dirty₀ dirty : List Bool) (k : ℕ) (dirty' : List Bool) → IsTaken mapped leaf words dirty₀ dirty k → k < 2048
    → is_member words k ≡ false → dirty' ≡ dirty → IsTaken mapped leaf words dirty₀ dirty' (k + 1)
taken-clear mapped leaf words dirty₀ dirty k dirty' h below clear now = record {
  long = ap length now ∙ h.long;
  taken = λ root reached.
      h.taken root reached
      ∙ (next_bit root mapped leaf words k (marks_of reached dirty) below
      ∙ (ap (λ (o : MarksOutcome). o then each (bit_step root mapped leaf words) (range_with_len (k + 1) (2048 - (k + 1))))
      (bit-clear (asked_of root mapped) leaf.place (2048 * leaf.index + k) (is_member words k) (marks_of reached dirty) clear)
      ∙ ap (λ (d : List Bool). each (bit_step root mapped leaf words) (range_with_len (k + 1) (2048 - (k + 1))) (marks_of reached d)) (sym now)));
}

-- a bit of a block without an entry
pub taken-fault : (mapped : List Bool) (leaf : PlacedNode) (words : List ℕ) (dirty₀ dirty : List Bool) (k block : ℕ) → IsTaken mapped leaf words dirty₀ dirty k → k < 2048
    → is_member words k ≡ true → block ≡ 2048 * leaf.index + k → get_or mapped block false ≡ false → (root : Root) (reached : List Place) → leaf_read root mapped leaf words (marks_of reached dirty₀) ≡ Err leaf.place
taken-fault mapped leaf words dirty₀ dirty k block h below set here none root reached =
    let none' : get_or mapped (2048 * leaf.index + k) false ≡ false = subst (λ b. get_or mapped b false ≡ false) here none in
    h.taken root reached
    ∙ (next_bit root mapped leaf words k (marks_of reached dirty) below
    ∙ ap (λ (o : MarksOutcome). o then each (bit_step root mapped leaf words) (range_with_len (k + 1) (2048 - (k + 1))))
    (bit-fault (asked_of root mapped) leaf.place (2048 * leaf.index + k) (is_member words k) (marks_of reached dirty) set none'))

-- all bits were read
pub taken-all : (mapped : List Bool) (leaf : PlacedNode) (words : List ℕ) (dirty₀ dirty : List Bool) (k : ℕ) → IsTaken mapped leaf words dirty₀ dirty k → 2048 ≤ k → (root : Root) (reached : List Place)
    → leaf_read root mapped leaf words (marks_of reached dirty₀) ≡ Ok (marks_of reached dirty)
taken-all mapped leaf words dirty₀ dirty k h all root reached =
    let e : 2048 - k ≡ 0 = omega arith in
    h.taken root reached
    ∙ (ap (λ n. each (bit_step root mapped leaf words) (range_with_len k n) (marks_of reached dirty)) e ∙ each-none (bit_step root mapped leaf words) (marks_of reached dirty))
