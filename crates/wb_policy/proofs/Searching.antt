-- What a search by halves in the list of blocks that were seen dirty tells.
use Rattle.std.proofs.Common.{◌≡◌, ℕ, ◌<◌, ◌≤◌, inl, inr, true, false, List, length, get_or, nat_eq, ◌==◌, ltb, sym, ap, ◌∙◌, arith}
use Rattle.std.specs.List.Sorted.{IsNonDecreasingBy, IsPartitionPoint}
use Rattle.std.proofs.lemmas.Bool.{cases_eq, cases_lt, ltb-true, ltb-false}
use Rattle.std.proofs.lemmas.Bool.Decides.{nat_tests}
use Rattle.std.proofs.lemmas.List.Folds.{list_any_none, list_any_at}
use Rattle.std.proofs.lemmas.List.{get_or_default}
use Rattle.wb_types.specs.declared.number.CBlock.{CBlock}
use Rattle.wb_types.specs.declared.number.OBlock.{OBlock}
use Rattle.wb_policy.specs.Recency.{is_dirty}

abbrev Dirty : Type 0
Dirty = List (CBlock × OBlock)

abbrev IsSplit : Dirty → ℕ → ℕ → Type 0
IsSplit xs wanted i = IsPartitionPoint (λ y. ltb y.0.0 wanted ≡ true) (λ y. ltb y.0.0 wanted ≡ false) xs i

differs : (a b : ℕ) → (a ≡ b → ⊥) → (a == b) ≡ false
differs a b h = grind (arith, nat_tests)

equals : (a b : ℕ) → a ≡ b → (a == b) ≡ true
equals a b h = grind (arith, nat_tests)

pub found : (xs : Dirty) (wanted i : ℕ) (e : CBlock × OBlock) → IsNonDecreasingBy (λ e. e.0.0) xs → IsSplit xs wanted i
    → i < length xs → get_or xs i e ≡ e → nat_eq e.0.0 wanted ≡ is_dirty xs wanted
found xs wanted i e up split within at =
    elim (cases_eq e.0.0 wanted) [
      | inl same ↦ equals e.0.0 wanted same ∙ sym (list_any_at (λ y. y.0.0 == wanted) xs i e within (rw at (equals e.0.0 wanted same)))
      | inr other ↦ differs e.0.0 wanted other ∙ sym (list_any_none (λ y. y.0.0 == wanted) xs (λ k d b. elim (cases_lt k i) [
        | inl before ↦ let less = ltb-true _ _ (split.0 k d (omega arith) before) in differs _ _ (λ s. omega arith)
        | inr from ↦
            let least = ltb-false _ _ (split.1 i e (omega arith) within) in
            let rises = up i k e from b in
            let first : (get_or xs i e).0.0 ≡ e.0.0 = ap (λ y. y.0.0) at in
            let same_one : get_or xs k d ≡ get_or xs k e = get_or_default xs k d e b in
            let same_key : (get_or xs k d).0.0 ≡ (get_or xs k e).0.0 = ap (λ y. y.0.0) same_one in
            differs _ _ (λ s. other (omega arith))
      ]))
    ]

pub past : (xs : Dirty) (wanted i : ℕ) → IsSplit xs wanted i → length xs ≤ i → false ≡ is_dirty xs wanted
past xs wanted i split short = sym (list_any_none (λ y. y.0.0 == wanted) xs (λ k d b.
    let less = ltb-true _ _ (split.0 k d (omega arith) (omega arith)) in differs _ _ (λ s. omega arith)))
