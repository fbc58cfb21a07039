-- A mapping with an entry more, or one less, is a mapping.
use Rattle.std.proofs.Common.{◌≡◌, ◌≢◌, ◌∙◌, ◌⊎◌, ◌≤◌, ◌<◌, sym, ap, subst, ℕ, List, Option, Some, None, length, inl, inr}
use Rattle.std.specs.Prelude.{slice_index_or, slice_set}
use Rattle.std.proofs.lemmas.Bool.{cases_lt, cases_eq}
use Rattle.std.proofs.lemmas.List.{length-set, get_or-set_same, get_or-set_other, get_or_past}
use Rattle.wb_types.specs.declared.entry.Entry.{Entry}
use Rattle.wb_tree.specs.Mapping.{IsMapping}
use Rattle.wb_tree.specs.Edits.{MayEnter}

-- what stands where something was set
pub changed_cases : (entries : List (Option Entry)) (block other : ℕ) (o : Option Entry) (entry : Entry) → slice_index_or (slice_set entries block o) other None ≡ Some entry
    → ((other ≡ block) × (o ≡ Some entry)) ⊎ ((other ≢ block) × (slice_index_or entries other None ≡ Some entry))
changed_cases entries block other o entry is = elim (cases_eq other block) [
  | inl here ↦
      let at : slice_index_or (slice_set entries block o) block None ≡ Some entry = ap (λ i. slice_index_or (slice_set entries block o) i None) (sym here) ∙ is in
      elim (cases_lt block (length entries)) [
        | inl inside ↦ inl (here, sym (get_or-set_same entries block o None inside) ∙ at)
        | inr past ↦
            let none = get_or_past (slice_set entries block o) block None (subst (λ n. n ≤ block) (sym (length-set entries block o)) past) in
            absurd (let both : ◌≡◌ {A = Option Entry} None (Some entry) = sym none ∙ at in cc)
      ]
  | inr off ↦ inr (off, sym (get_or-set_other entries block other o None off) ∙ is)
]

one_entry : (a b : Entry) → ◌≡◌ {A = Option Entry} (Some a) (Some b) → a ≡ b
one_entry a b e = cc

pub set-mapping : (cache_blocks origin_blocks block : ℕ) (entries : List (Option Entry)) (entry : Entry) → IsMapping cache_blocks origin_blocks entries → MayEnter origin_blocks entries block entry
    → IsMapping cache_blocks origin_blocks (slice_set entries block (Some entry))
set-mapping cache_blocks origin_blocks block entries entry mapping may = record {
  size = length-set entries block (Some entry) ∙ mapping.size;
  within = λ at found is. elim (changed_cases entries block at (Some entry) found is) [
    | inl new ↦
        let same = one_entry entry found new.1 in
        subst (λ (e : Entry). (e.origin.0 < origin_blocks) × (e.hint ≤ 16)) same (may.origin, may.hint)
    | inr old ↦ mapping.within at found old.1
  ];
  once = λ at other found same is also one. elim (changed_cases entries block at (Some entry) found is) [
    | inl first ↦ elim (changed_cases entries block other (Some entry) same also) [
      | inl second ↦ first.0 ∙ sym second.0
      | inr old ↦ first.0 ∙ sym (may.alone other same old.1 (sym one ∙ sym (ap (λ (e : Entry). e.origin) (one_entry entry found first.1))))
    ]
    | inr first ↦ elim (changed_cases entries block other (Some entry) same also) [
      | inl second ↦ may.alone at found first.1 (one ∙ sym (ap (λ (e : Entry). e.origin) (one_entry entry same second.1))) ∙ sym second.0
      | inr old ↦ mapping.once at other found same first.1 old.1 one
    ]
  ];
}

none_entry : (entry : Entry) → ◌≡◌ {A = Option Entry} None (Some entry) → ⊥
none_entry entry e = absurd cc

pub clear-mapping : (cache_blocks origin_blocks block : ℕ) (entries : List (Option Entry)) → IsMapping cache_blocks origin_blocks entries → IsMapping cache_blocks origin_blocks (slice_set entries block None)
clear-mapping cache_blocks origin_blocks block entries mapping =
    let old = λ (at : ℕ) (found : Entry) (is : slice_index_or (slice_set entries block None) at None ≡ Some found).
    cleared entries block at found is in
    record {
      size = length-set entries block None ∙ mapping.size;
      within = λ at found is. mapping.within at found (old at found is);
      once = λ at other found same is also one. mapping.once at other found same (old at found is) (old other same also) one;
    }
  where
    cleared : (entries : List (Option Entry)) (block at : ℕ) (found : Entry) → slice_index_or (slice_set entries block None) at None ≡ Some found → slice_index_or entries at None ≡ Some found
    cleared entries block at found is = elim (changed_cases entries block at None found is) [
      | inl new ↦ absurd (none_entry found new.1)
      | inr old ↦ old.1
    ]
