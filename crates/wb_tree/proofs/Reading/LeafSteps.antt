-- The words of a leaf, as they are read one after the other.
use Rattle.std.proofs.Common.{◌≡◌, ◌<◌, ◌≤◌, ◌+◌, ◌-◌, ◌*◌, ℕ, Bool, true, false, List, Option, Some, Ok, Err, sym, ap, subst, ◌∙◌, length, slice_index}
use Rattle.std.specs.Prelude.{slice_set}
use Rattle.std.proofs.lemmas.List.{length-set}
use Rattle.wb_types.specs.declared.entry.Entry.{Entry}
use Rattle.wb_format.specs.declared.root.Root.{Root}
use Rattle.wb_tree.specs.declared.placed.PlacedNode.{PlacedNode}
use Rattle.wb_tree.specs.Reading.{Found, ReadOutcome, ◌then◌, each_step, entry_read, entry_in, may_map}
use Rattle.wb_tree.specs.Loading.{leaf_read, found_with}
use Rattle.wb_tree.proofs.Reading.Steps.{each_step-next, each_step-none, entry_read-some, entry_read-fault, entry_read-none}

abbrev pub leaf_step : Root → PlacedNode → List ℕ → ℕ → Found → ReadOutcome
leaf_step root leaf words j = entry_read root leaf.place (32 * leaf.index + j) (entry_in (slice_index words j))

-- up to word j the leaf was read without a fault
pub record IsPassed (root : Root) (leaf : PlacedNode) (words : List ℕ) (entries₀ : List (Option Entry)) (mapped₀ : List Bool) (entries : List (Option Entry)) (mapped : List Bool) (j : ℕ) : Type 0 where
  pub entries_long : length entries ≡ root.geometry.cache_blocks
  pub mapped_long : length mapped ≡ root.geometry.origin_blocks
  pub passed : (reached : List PlacedNode) → leaf_read root leaf words (found_with reached entries₀ mapped₀) ≡ each_step (leaf_step root leaf words) (32 - j) j (found_with reached entries mapped)

section_rest : Root → PlacedNode → List ℕ → ℕ → ReadOutcome → ReadOutcome
section_rest root leaf words j reading = reading then each_step (leaf_step root leaf words) (32 - (j + 1)) (j + 1)

-- a word with an entry that may be there
pub passed-some : (root : Root) (leaf : PlacedNode) (words : List ℕ) (entries₀ : List (Option Entry)) (mapped₀ : List Bool) (entries : List (Option Entry)) (mapped : List Bool) (j block : ℕ) (entry : Entry)
    (entries' : List (Option Entry)) (mapped' : List Bool) → IsPassed root leaf words entries₀ mapped₀ entries mapped j → j < 32 → block ≡ leaf.index → entry_in (slice_index words j) ≡ Some entry
    → may_map root mapped (32 * block + j) entry ≡ true → entries' ≡ slice_set entries (32 * block + j) (Some entry) → mapped' ≡ slice_set mapped entry.origin.0 true
    → IsPassed root leaf words entries₀ mapped₀ entries' mapped' (j + 1)
unfolding section_rest
passed-some root leaf words entries₀ mapped₀ entries mapped j block entry entries' mapped' h below e some may es ms =
    let may' : may_map root mapped (32 * leaf.index + j) entry ≡ true = subst (λ b. may_map root mapped (32 * b + j) entry ≡ true) e may in
    let es' : entries' ≡ slice_set entries (32 * leaf.index + j) (Some entry) = subst (λ b. entries' ≡ slice_set entries (32 * b + j) (Some entry)) e es in
    record {
      entries_long = ap length es' ∙ (length-set entries (32 * leaf.index + j) (Some entry) ∙ h.entries_long);
      mapped_long = ap length ms ∙ (length-set mapped entry.origin.0 true ∙ h.mapped_long);
      passed = λ reached.
          h.passed reached
          ∙ (each_step-next (leaf_step root leaf words) j (found_with reached entries mapped) below
          ∙ (ap (section_rest root leaf words j) (entry_read-some root leaf.place (32 * leaf.index + j) (entry_in (slice_index words j)) entry (found_with reached entries mapped) some may')
          ∙ (ap (λ (xs : List (Option Entry)). each_step (leaf_step root leaf words) (32 - (j + 1)) (j + 1) (found_with reached xs (slice_set mapped entry.origin.0 true))) (sym es')
          ∙ ap (λ (bs : List Bool). each_step (leaf_step root leaf words) (32 - (j + 1)) (j + 1) (found_with reached entries' bs)) (sym ms))));
    }

-- a word without an entry
pub passed-none : (root : Root) (leaf : PlacedNode) (words : List ℕ) (entries₀ : List (Option Entry)) (mapped₀ : List Bool) (entries : List (Option Entry)) (mapped : List Bool) (j : ℕ)
    (entries' : List (Option Entry)) (mapped' : List Bool) → IsPassed root leaf words entries₀ mapped₀ entries mapped j → j < 32 → ((entry : Entry) → entry_in (slice_index words j) ≡ Some entry → ⊥)
    → entries' ≡ entries → mapped' ≡ mapped → IsPassed root leaf words entries₀ mapped₀ entries' mapped' (j + 1)
unfolding section_rest
passed-none root leaf words entries₀ mapped₀ entries mapped j entries' mapped' h below none es ms =
    record {
      entries_long = ap length es ∙ h.entries_long;
      mapped_long = ap length ms ∙ h.mapped_long;
      passed = λ reached.
          h.passed reached
          ∙ (each_step-next (leaf_step root leaf words) j (found_with reached entries mapped) below
          ∙ (ap (section_rest root leaf words j) (entry_read-none root leaf.place (32 * leaf.index + j) (entry_in (slice_index words j)) (found_with reached entries mapped) none)
          ∙ (ap (λ (xs : List (Option Entry)). each_step (leaf_step root leaf words) (32 - (j + 1)) (j + 1) (found_with reached xs mapped)) (sym es)
          ∙ ap (λ (bs : List Bool). each_step (leaf_step root leaf words) (32 - (j + 1)) (j + 1) (found_with reached entries' bs)) (sym ms))));
    }

-- a word with an entry that may not be there
pub passed-fault : (root : Root) (leaf : PlacedNode) (words : List ℕ) (entries₀ : List (Option Entry)) (mapped₀ : List Bool) (entries : List (Option Entry)) (mapped : List Bool) (j block : ℕ) (entry : Entry)
    → IsPassed root leaf words entries₀ mapped₀ entries mapped j → j < 32 → block ≡ leaf.index → entry_in (slice_index words j) ≡ Some entry → may_map root mapped (32 * block + j) entry ≡ false
    → (reached : List PlacedNode) → leaf_read root leaf words (found_with reached entries₀ mapped₀) ≡ Err leaf.place
unfolding section_rest
passed-fault root leaf words entries₀ mapped₀ entries mapped j block entry h below e some may reached =
    let may' : may_map root mapped (32 * leaf.index + j) entry ≡ false = subst (λ b. may_map root mapped (32 * b + j) entry ≡ false) e may in
    h.passed reached
    ∙ (each_step-next (leaf_step root leaf words) j (found_with reached entries mapped) below
    ∙ ap (section_rest root leaf words j) (entry_read-fault root leaf.place (32 * leaf.index + j) (entry_in (slice_index words j)) entry (found_with reached entries mapped) some may'))

-- all words were read
pub passed-all : (root : Root) (leaf : PlacedNode) (words : List ℕ) (entries₀ : List (Option Entry)) (mapped₀ : List Bool) (entries : List (Option Entry)) (mapped : List Bool) (j : ℕ)
    → IsPassed root leaf words entries₀ mapped₀ entries mapped j → 32 ≤ j → (reached : List PlacedNode) → leaf_read root leaf words (found_with reached entries₀ mapped₀) ≡ Ok (found_with reached entries mapped)
passed-all root leaf words entries₀ mapped₀ entries mapped j h all reached = h.passed reached ∙ each_step-none (leaf_step root leaf words) j (found_with reached entries mapped) all
