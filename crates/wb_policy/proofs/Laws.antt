-- What mapping and unmapping do to a recency list that agrees with a mapping.
use Rattle.std.proofs.Common.{◌≡◌, ℕ, zero, suc, inl, inr, Bool, true, false, cond, List, [], ◌∷◌, nat_eq, Option, Some, None, refl, sym, ap, subst, ◌∙◌, arith}
use Rattle.std.specs.Prelude.{slice_get, slice_set, reverse, is_some}
use Rattle.std.specs.List.{IsDistinct, AllByRecursion, Contains, find}
use Rattle.std.specs.Option.{option_map_or}
use Rattle.std.specs.Cmp.{nat_eq_equiv}
use Rattle.std.specs.Map.{keys_of, lookup, lookup_entry, remove_entry}
use Rattle.std.proofs.lemmas.Bool.{cases_eq}
use Rattle.std.proofs.lemmas.Bool.Decides.{nat_tests}
use Rattle.std.proofs.lemmas.Map.{lookup-remove_entry}
use Rattle.std.proofs.lemmas.Map.Keys.{IsDistinct-head, IsDistinct-tail, IsDistinct-cons}
use Rattle.std.proofs.lemmas.List.Sorted.{IsPermutation-reverse, IsPermutation-sym, Contains-permutation}
use Rattle.std.proofs.lemmas.Map.Views.{lookup-from_Contains}
use Rattle.lru.proofs.CallerLemmas.{Contains-lookup_entry}
use Rattle.lru.proofs.Splits.{Contains-head, Contains-tail}
use Rattle.wb_policy.specs.Law.{Holdings, IsMappedAt, IsUnmapped}
use Rattle.wb_policy.specs.Recency.{Recency, AgreesWith, used, newly_mapped, no_longer_mapped, least_recent}
use Rattle.wb_policy.proofs.Uses.{unremoved}
use Rattle.wb_types.proofs.Lists.{slice_get-set}

pub eq_is : (a b : ℕ) → a ≡ b → nat_eq a b ≡ true
eq_is a b e = grind (arith, nat_tests)

pub eq_not : (a b : ℕ) → (a ≡ b → ⊥) → nat_eq a b ≡ false
eq_not a b n = grind (arith, nat_tests)

pub slice_get-set_other : {X : Type 0} (xs : List X) (i j : ℕ) (x : X) → (j ≡ i → ⊥) → slice_get (slice_set xs i x) j ≡ slice_get xs j
slice_get-set_other [] i j x n = refl
slice_get-set_other (z ∷ xs) zero zero x n = absurd (n refl)
slice_get-set_other (z ∷ xs) zero (suc j) x n = refl
slice_get-set_other (z ∷ xs) (suc i) zero x n = refl
slice_get-set_other (z ∷ xs) (suc i) (suc j) x n = slice_get-set_other xs i j x (λ e. n (ap (λ k. suc k) e))

-- keys after a removal
kept_apart : (P : ℕ → Type 0) (test : ℕ → Bool) (es : Recency) → AllByRecursion P (keys_of es) → AllByRecursion P (keys_of (remove_entry test es))
kept_apart P test [] all = all
kept_apart P test (e ∷ es) all = by (test e.0) (kept_apart P test es all.1)
  where
    by : (b : Bool) → AllByRecursion P (keys_of (remove_entry test es)) → AllByRecursion P (keys_of (cond b es (e ∷ remove_entry test es)))
    by true rest = all.1
    by false rest = (all.0, rest)

pub distinct-removed : (test : ℕ → Bool) (es : Recency) → IsDistinct nat_eq (keys_of es) → IsDistinct nat_eq (keys_of (remove_entry test es))
distinct-removed test [] d = d
distinct-removed test (e ∷ es) d = by (test e.0) (distinct-removed test es (IsDistinct-tail nat_eq e.0 (keys_of es) d))
  where
    by : (b : Bool) → IsDistinct nat_eq (keys_of (remove_entry test es)) → IsDistinct nat_eq (keys_of (cond b es (e ∷ remove_entry test es)))
    by true rest = IsDistinct-tail nat_eq e.0 (keys_of es) d
    by false rest = IsDistinct-cons nat_eq e.0 _ (kept_apart (λ y. nat_eq e.0 y ≡ false) test es (IsDistinct-head nat_eq e.0 (keys_of es) d)) rest

nat_same : (a b : ℕ) → nat_eq a b ≡ true → a ≡ b
nat_same a b h = grind (arith, nat_tests)

absent-removed : (b : ℕ) (es : Recency) → IsDistinct nat_eq (keys_of es) → AllByRecursion (λ y. nat_eq b y ≡ false) (keys_of (remove_entry (nat_eq b) es))
absent-removed b [] d = tt
absent-removed b (e ∷ es) d = by (nat_eq b e.0) refl (absent-removed b es (IsDistinct-tail nat_eq e.0 (keys_of es) d))
  where
    Absent : Recency → Type 0
    Absent r = AllByRecursion (λ y. nat_eq b y ≡ false) (keys_of r)

    by : (t : Bool) → nat_eq b e.0 ≡ t → AllByRecursion (λ y. nat_eq b y ≡ false) (keys_of (remove_entry (nat_eq b) es))
        → AllByRecursion (λ y. nat_eq b y ≡ false) (keys_of (cond t es (e ∷ remove_entry (nat_eq b) es)))
    by true same rest = rw (nat_same b e.0 same) (IsDistinct-head nat_eq e.0 (keys_of es) d)
    by false other rest = (other, rest)

pub distinct-newly : (b c : ℕ) (es : Recency) → IsDistinct nat_eq (keys_of es) → IsDistinct nat_eq (keys_of (newly_mapped b c es))
distinct-newly b c es d = IsDistinct-cons nat_eq b _ (absent-removed b es d) (distinct-removed (nat_eq b) es d)

one : (b x y : ℕ) → nat_eq b x ≡ true → nat_eq b y ≡ nat_eq x y
one b x y h = ap (λ n. nat_eq n y) (nat_same b x h)

pub lookup-removed_same : (b : ℕ) (es : Recency) → IsDistinct nat_eq (keys_of es) → lookup (nat_eq b) (no_longer_mapped b es) ≡ None
lookup-removed_same b es d = lookup-remove_entry nat_eq_equiv (nat_eq b) (one b) b es d ∙ ap (λ t. cond t None (lookup (nat_eq b) es)) (eq_is b b refl)

pub lookup-removed_other : (b q : ℕ) (es : Recency) → IsDistinct nat_eq (keys_of es) → (q ≡ b → ⊥) → lookup (nat_eq q) (no_longer_mapped b es) ≡ lookup (nat_eq q) es
lookup-removed_other b q es d n = lookup-remove_entry nat_eq_equiv (nat_eq b) (one b) q es d ∙ ap (λ t. cond t None (lookup (nat_eq q) es)) (eq_not b q (λ e. n (sym e)))

pub lookup-newly_same : (b c : ℕ) (es : Recency) → lookup (nat_eq b) (newly_mapped b c es) ≡ Some c
lookup-newly_same b c es = ap (λ t. cond t (Some c) (lookup (nat_eq b) (remove_entry (nat_eq b) es))) (eq_is b b refl)

pub lookup-newly_other : (b c q : ℕ) (es : Recency) → IsDistinct nat_eq (keys_of es) → (q ≡ b → ⊥) → lookup (nat_eq q) (newly_mapped b c es) ≡ lookup (nat_eq q) es
lookup-newly_other b c q es d n =
    ap (λ t. cond t (Some c) (lookup (nat_eq q) (remove_entry (nat_eq b) es))) (eq_not q b n) ∙ lookup-removed_other b q es d n

some_same : (x y : ℕ) → Some x ≡ Some y → x ≡ y
some_same x y h = cc

entry_same : (x y : Option ℕ) → Some x ≡ Some y → x ≡ y
entry_same x y h = cc

none_some : (x : ℕ) → None ≡ Some x → ⊥
none_some x h = cc

pub learns : (m : Holdings) (r : Recency) (b c : ℕ) → AgreesWith m r → IsUnmapped m b → slice_get m c ≡ Some None
    → AgreesWith (slice_set m c (Some b)) (newly_mapped b c r)
learns m r b c agrees unmapped free = record {
  once = distinct-newly b c r agrees.once;
  has = λ q at here. elim (cases_eq at c) [
    | inl same ↦
        let there : slice_get (slice_set m c (Some b)) at ≡ Some (Some b) = rw same (slice_get-set m c None (Some b) free) in
        let block : b ≡ q = some_same _ _ (entry_same _ _ (sym there ∙ here)) in
        subst (λ p. lookup (nat_eq p) (newly_mapped b c r) ≡ Some at) block
        (subst (λ p. lookup (nat_eq b) (newly_mapped b c r) ≡ Some p) (sym same) (lookup-newly_same b c r))
    | inr other ↦
        let there : IsMappedAt m q at = sym (slice_get-set_other m c at (Some b) other) ∙ here in
        lookup-newly_other b c q r agrees.once (λ e. unmapped at (rw (← e) there)) ∙ agrees.has q at there
  ];
  stands = λ q at found. elim (cases_eq q b) [
    | inl same ↦
        let moved : lookup (nat_eq b) (newly_mapped b c r) ≡ Some at = subst (λ p. lookup (nat_eq p) (newly_mapped b c r) ≡ Some at) same found in
        let place : c ≡ at = some_same _ _ (sym (lookup-newly_same b c r) ∙ moved) in
        subst (λ p. IsMappedAt (slice_set m c (Some b)) p at) (sym same)
        (subst (λ p. IsMappedAt (slice_set m c (Some b)) b p) place (slice_get-set m c None (Some b) free))
    | inr other ↦
        let there = agrees.stands q at (sym (lookup-newly_other b c q r agrees.once other) ∙ found) in
        slice_get-set_other m c at (Some b) (λ e. none_some q (entry_same _ _ (sym free ∙ rw e at there))) ∙ there
  ];
}

pub forgets : (m : Holdings) (r : Recency) (b c : ℕ) → AgreesWith m r → IsMappedAt m b c → AgreesWith (slice_set m c None) (no_longer_mapped b r)
forgets m r b c agrees mapped = record {
  once = distinct-removed (nat_eq b) r agrees.once;
  has = λ q at here. elim (cases_eq at c) [
    | inl same ↦ absurd (none_some q (entry_same _ _ (sym (slice_get-set m c (Some b) None mapped) ∙ rw same at here)))
    | inr other ↦
        let there : IsMappedAt m q at = sym (slice_get-set_other m c at None other) ∙ here in
        lookup-removed_other b q r agrees.once (λ e. other (some_same _ _ (sym (agrees.has b at (rw (← e) there)) ∙ agrees.has b c mapped))) ∙ agrees.has q at there
  ];
  stands = λ q at found. elim (cases_eq q b) [
    | inl same ↦ absurd (none_some at (sym (lookup-removed_same b r agrees.once) ∙ (rw same at found)))
    | inr other ↦
        let there = agrees.stands q at (sym (lookup-removed_other b q r agrees.once other) ∙ found) in
        slice_get-set_other m c at None (λ e. other (some_same _ _ (entry_same _ _ (sym (rw e at there) ∙ mapped)))) ∙ there
  ];
}

no_entry : (test : ℕ → Bool) (es : Recency) → lookup test es ≡ None → lookup_entry test es ≡ None
no_entry test [] h = refl
no_entry test (e ∷ es) h = by (test e.0) h (no_entry test es)
  where
    by : (b : Bool) → cond b (Some e.1) (lookup test es) ≡ None → (lookup test es ≡ None → lookup_entry test es ≡ None)
        → cond b (Some e) (lookup_entry test es) ≡ None
    by true h more = cc
    by false h more = more h

absent : (m : Holdings) (r : Recency) (b : ℕ) → AgreesWith m r → IsUnmapped m b → (o : Option ℕ) → lookup (nat_eq b) r ≡ o → o ≡ None
absent m r b agrees unmapped None h = refl
absent m r b agrees unmapped (Some at) h = absurd (unmapped at (agrees.stands b at h))

pub undoes : (m : Holdings) (r : Recency) (b c : ℕ) → AgreesWith m r → IsUnmapped m b → no_longer_mapped b (newly_mapped b c r) ≡ r
undoes m r b c agrees unmapped =
    let none : lookup (nat_eq b) r ≡ None = absent m r b agrees unmapped _ refl in
    let same : remove_entry (nat_eq b) r ≡ r = unremoved (nat_eq b) r (no_entry (nat_eq b) r none) in
    ap (λ t. cond t (remove_entry (nat_eq b) r) ((b, c) ∷ remove_entry (nat_eq b) (remove_entry (nat_eq b) r))) (eq_is b b refl) ∙ same

from_entry : (test : ℕ → Bool) (es : Recency) (e : ℕ × ℕ) → lookup_entry test es ≡ Some e → lookup test es ≡ Some e.1
from_entry test [] e h = cc
from_entry test (f ∷ es) e h = by (test f.0) h (from_entry test es e)
  where
    by : (b : Bool) → cond b (Some f) (lookup_entry test es) ≡ Some e → (lookup_entry test es ≡ Some e → lookup test es ≡ Some e.1)
        → cond b (Some f.1) (lookup test es) ≡ Some e.1
    by true h more = let same : f ≡ e = cc in ap (λ g. Some g.1) same
    by false h more = more h

-- a block that is used stays where it is
pub uses : (m : Holdings) (r : Recency) (b : ℕ) → AgreesWith m r → AgreesWith m (used b r)
uses m r b agrees = by (lookup_entry (nat_eq b) r) refl
  where
    by : (o : Option (ℕ × ℕ)) → lookup_entry (nat_eq b) r ≡ o → AgreesWith m (option_map_or (λ e. e ∷ remove_entry (nat_eq b) r) o r)
    by None h = agrees
    by (Some e) h =
        let at_b : lookup (nat_eq b) r ≡ Some e.1 = from_entry (nat_eq b) r e h in
        let key : b ≡ e.0 = nat_same b e.0 (Contains-lookup_entry (nat_eq b) r e h).1 in
        let moved : AgreesWith m (newly_mapped b e.1 r) = record {
          once = distinct-newly b e.1 r agrees.once;
          has = λ q at here. elim (cases_eq q b) [
            | inl same ↦
                let place : e.1 ≡ at = some_same _ _ (sym at_b ∙ (subst (λ p. lookup (nat_eq p) r ≡ Some at) same (agrees.has q at here))) in
                subst (λ p. lookup (nat_eq p) (newly_mapped b e.1 r) ≡ Some at) (sym same) (lookup-newly_same b e.1 r ∙ ap (λ p. Some p) place)
            | inr other ↦ lookup-newly_other b e.1 q r agrees.once other ∙ agrees.has q at here
          ];
          stands = λ q at found. elim (cases_eq q b) [
            | inl same ↦
                let there : lookup (nat_eq b) (newly_mapped b e.1 r) ≡ Some at = subst (λ p. lookup (nat_eq p) (newly_mapped b e.1 r) ≡ Some at) same found in
                let place : e.1 ≡ at = some_same _ _ (sym (lookup-newly_same b e.1 r) ∙ there) in
                subst (λ p. IsMappedAt m p at) (sym same) (agrees.stands b at (at_b ∙ ap (λ p. Some p) place))
            | inr other ↦ agrees.stands q at (sym (lookup-newly_other b e.1 q r agrees.once other) ∙ found)
          ];
        } in
        subst (λ p. AgreesWith m ((p, e.1) ∷ remove_entry (nat_eq b) r)) key moved

-- what is not in the list is not mapped
pub unmapped_from_absent : (m : Holdings) (r : Recency) (b : ℕ) → AgreesWith m r → is_some (lookup (nat_eq b) r) ≡ false → IsUnmapped m b
unmapped_from_absent m r b agrees none at here = let found = agrees.has b at here in absurd (no_some _ at found none)
  where
    no_some : (o : Option ℕ) (at : ℕ) → o ≡ Some at → is_some o ≡ false → ⊥
    no_some o at h n = let clash = rw h at n in cc

-- what is found is in the list, and passes
pub find_passes : {X : Type 0} (test : X → Bool) (es : List X) (e : X) → find test es ≡ Some e → Contains es e × (test e ≡ true)
find_passes test [] e h = cc
find_passes {X} test (f ∷ es) e h = by (test f) refl h (find_passes test es e)
  where
    by : (b : Bool) → test f ≡ b → cond b (Some f) (find test es) ≡ Some e → (find test es ≡ Some e → Contains es e × (test e ≡ true))
        → Contains (f ∷ es) e × (test e ≡ true)
    by true t h more = let same : f ≡ e = cc in (subst (Contains (f ∷ es)) same (Contains-head f es), subst (λ g. test g ≡ true) same t)
    by false t h more = let on = more h in (Contains-tail f es e on.0, on.1)

-- the least recent one that passes is mapped, and passes
pub least_recent-mapped : (m : Holdings) (r : Recency) (test : ℕ × ℕ → Bool) (e : ℕ × ℕ) → AgreesWith m r → least_recent test r ≡ Some e
    → IsMappedAt m e.0 e.1 × (test e ≡ true)
least_recent-mapped m r test e agrees h =
    let found = find_passes test (reverse r) e h in
    let inside : Contains r e = Contains-permutation (reverse r) r e (IsPermutation-sym r (reverse r) (IsPermutation-reverse r)) found.0 in
    (agrees.stands e.0 e.1 (lookup-from_Contains nat_eq_equiv e.0 e.1 r agrees.once inside), found.1)
