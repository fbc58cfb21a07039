-- How the mapped blocks are placed at an opening.
use Rattle.std.proofs.Common.{◌≡◌, ℕ, zero, suc, ◌+◌, ◌-◌, ◌<◌, ◌≤◌, ◌⊎◌, inl, inr, List, [], ◌∷◌, ◌++◌, length, take, map, get_or, nat_eq, Option, Some, None, refl, sym, ap, subst, ◌∙◌, arith}
use Rattle.std.specs.Prelude.{slice_get}
use Rattle.std.specs.List.{IsDistinct, Contains}
use Rattle.std.specs.Map.{keys_of, lookup}
use Rattle.std.proofs.lemmas.Bool.{cases_eq}
use Rattle.std.proofs.lemmas.List.{take_more, append-nil, map-append, length-take}
use Rattle.std.proofs.lemmas.List.Sorted.{IsPermutation-map, IsPermutation-sym, Contains-permutation}
use Rattle.lru.proofs.Splits.{Contains-head, Contains-tail, Contains-cons, Contains-nil}
use Rattle.wb_types.specs.declared.entry.Entry.{Entry}
use Rattle.wb_policy.specs.Law.{origins, IsMapping, IsMappedAt}
use Rattle.wb_policy.specs.Recency.{Recency, AgreesWith, newly_mapped, mapped_in_order}
use Rattle.wb_policy.specs.Placing.{mapped_from, IsPlacedByHint}
use Rattle.wb_policy.proofs.Laws.{distinct-newly, lookup-newly_same, lookup-newly_other}

abbrev Placed : Type 0
Placed = ℕ × (ℕ × ℕ)

-- a placed block with its cache block, as a recency list has it
abbrev pair : Placed → ℕ × ℕ
pair p = (p.1.1, p.1.0)

abbrev pairs_from : ℕ → List (Option Entry) → List (ℕ × ℕ)
pairs_from at entries = map pair (mapped_from at entries)

pub mapped_from-append : (at : ℕ) (xs ys : List (Option Entry)) → mapped_from at (xs ++ ys) ≡ mapped_from at xs ++ mapped_from (at + length xs) ys
mapped_from-append at [] ys = ap (λ n. mapped_from n ys) (omega arith)
mapped_from-append at (None ∷ xs) ys = mapped_from-append (at + 1) xs ys ∙ ap (λ n. mapped_from (at + 1) xs ++ mapped_from n ys) (omega arith)
mapped_from-append at (Some e ∷ xs) ys =
    ap (λ l. (e.hint, (at, e.origin.0)) ∷ l) (mapped_from-append (at + 1) xs ys ∙ ap (λ n. mapped_from (at + 1) xs ++ mapped_from n ys) (omega arith))

pub mapped_in_order-append : (r : Recency) (xs ys : List (ℕ × ℕ)) → mapped_in_order r (xs ++ ys) ≡ mapped_in_order (mapped_in_order r xs) ys
mapped_in_order-append r [] ys = refl
mapped_in_order-append r (x ∷ xs) ys = mapped_in_order-append (newly_mapped x.0 x.1 r) xs ys

-- one entry more
pub mapped_more-some : (xs : List (Option Entry)) (i : ℕ) (d : Option Entry) (e : Entry) → i < length xs → get_or xs i d ≡ Some e
    → mapped_from 0 (take (i + 1) xs) ≡ mapped_from 0 (take i xs) ++ (e.hint, (i, e.origin.0)) ∷ []
mapped_more-some xs i d e within here =
    let n : 0 + length (take i xs) ≡ i = omega (arith, length-take i xs) in
    ap (mapped_from 0) (take_more xs i d within) ∙ (mapped_from-append 0 (take i xs) (get_or xs i d ∷ []) ∙ rw (here, n) refl)

pub mapped_more-none : (xs : List (Option Entry)) (i : ℕ) (d : Option Entry) → i < length xs → get_or xs i d ≡ None
    → mapped_from 0 (take (i + 1) xs) ≡ mapped_from 0 (take i xs)
mapped_more-none xs i d within here =
    ap (mapped_from 0) (take_more xs i d within) ∙ (mapped_from-append 0 (take i xs) (get_or xs i d ∷ []) ∙ rw here (append-nil (mapped_from 0 (take i xs))))

pub order_more : (ps : List Placed) (i : ℕ) (d : Placed) → i < length ps
    → mapped_in_order [] (map pair (take (i + 1) ps)) ≡ newly_mapped (get_or ps i d).1.1 (get_or ps i d).1.0 (mapped_in_order [] (map pair (take i ps)))
order_more ps i d within =
    ap (λ l. mapped_in_order [] (map pair l)) (take_more ps i d within)
    ∙ (ap (mapped_in_order []) (map-append pair (take i ps) (get_or ps i d ∷ [])) ∙ mapped_in_order-append [] (map pair (take i ps)) (pair (get_or ps i d) ∷ []))

-- each placed block stands in the mapping
pair-stands : (at : ℕ) (es : List (Option Entry)) (b c : ℕ) → Contains (pairs_from at es) (b, c) → (at ≤ c) × (slice_get (origins es) (c - at) ≡ Some (Some b))
pair-stands at [] b c h = absurd (Contains-nil (b, c) h)
pair-stands at (None ∷ es) b c h =
    let rest = pair-stands (at + 1) es b c h in
    let e : c - at ≡ suc (c - (at + 1)) = omega arith in
    (omega arith, rw e rest.1)
pair-stands at (Some x ∷ es) b c h = elim (Contains-cons (x.origin.0, at) (pairs_from (at + 1) es) (b, c) h) [
  | inl same ↦
      let block : x.origin.0 ≡ b = ap (λ p. p.0) same in
      let place : at ≡ c = ap (λ p. p.1) same in
      let e : c - at ≡ 0 = omega arith in
      (omega arith, rw e (ap (λ n. Some (Some n)) block))
  | inr further ↦
      let rest = pair-stands (at + 1) es b c further in
      let e : c - at ≡ suc (c - (at + 1)) = omega arith in
      (omega arith, rw e rest.1)
]

-- and each mapped block is placed
pair-has : (at : ℕ) (es : List (Option Entry)) (b i : ℕ) → slice_get (origins es) i ≡ Some (Some b) → Contains (pairs_from at es) (b, at + i)
pair-has at [] b zero h = cc
pair-has at [] b (suc i) h = cc
pair-has at (None ∷ es) b zero h = cc
pair-has at (None ∷ es) b (suc i) h =
    let e : (at + 1) + i ≡ at + suc i = omega arith in
    subst (λ n. Contains (pairs_from (at + 1) es) (b, n)) e (pair-has (at + 1) es b i h)
pair-has at (Some x ∷ es) b zero h =
    let block : x.origin.0 ≡ b = cc in
    let e : at ≡ at + zero = omega arith in
    subst (λ n. Contains (pairs_from at (Some x ∷ es)) (b, n)) e (subst (λ n. Contains (pairs_from at (Some x ∷ es)) (n, at)) block (Contains-head (x.origin.0, at) (pairs_from (at + 1) es)))
pair-has at (Some x ∷ es) b (suc i) h =
    let e : (at + 1) + i ≡ at + suc i = omega arith in
    Contains-tail (x.origin.0, at) (pairs_from (at + 1) es) (b, at + suc i) (subst (λ n. Contains (pairs_from (at + 1) es) (b, n)) e (pair-has (at + 1) es b i h))

some_is : (x y : ℕ) → Some x ≡ Some y → x ≡ y
some_is x y h = cc

order-once : (r : Recency) (ps : List (ℕ × ℕ)) → IsDistinct nat_eq (keys_of r) → IsDistinct nat_eq (keys_of (mapped_in_order r ps))
order-once r [] d = d
order-once r (p ∷ ps) d = order-once (newly_mapped p.0 p.1 r) ps (distinct-newly p.0 p.1 r d)

-- what is found was placed, or was there before
order-stands : (r : Recency) (ps : List (ℕ × ℕ)) (q c : ℕ) → IsDistinct nat_eq (keys_of r) → lookup (nat_eq q) (mapped_in_order r ps) ≡ Some c
    → Contains ps (q, c) ⊎ (lookup (nat_eq q) r ≡ Some c)
order-stands r [] q c d h = inr h
order-stands r (p ∷ ps) q c d h = elim (order-stands (newly_mapped p.0 p.1 r) ps q c (distinct-newly p.0 p.1 r d) h) [
  | inl later ↦ inl (Contains-tail p ps (q, c) later)
  | inr now ↦ elim (cases_eq q p.0) [
    | inl same ↦
        let there : lookup (nat_eq p.0) (newly_mapped p.0 p.1 r) ≡ Some c = subst (λ n. lookup (nat_eq n) (newly_mapped p.0 p.1 r) ≡ Some c) same now in
        let place : p.1 ≡ c = some_is _ _ (sym (lookup-newly_same p.0 p.1 r) ∙ there) in
        inl (subst (λ n. Contains (p ∷ ps) (n, c)) (sym same) (subst (λ n. Contains (p ∷ ps) (p.0, n)) place (Contains-head p ps)))
    | inr other ↦ inr (sym (lookup-newly_other p.0 p.1 q r d other) ∙ now)
  ]
]

-- what is there stays there, if it is placed nowhere else
order-keeps : (r : Recency) (ps : List (ℕ × ℕ)) (q c : ℕ) → IsDistinct nat_eq (keys_of r) → ((o : ℕ) → Contains ps (q, o) → o ≡ c)
    → lookup (nat_eq q) r ≡ Some c → lookup (nat_eq q) (mapped_in_order r ps) ≡ Some c
order-keeps r [] q c d only h = h
order-keeps r (p ∷ ps) q c d only h =
    order-keeps (newly_mapped p.0 p.1 r) ps q c (distinct-newly p.0 p.1 r d) (λ o i. only o (Contains-tail p ps (q, o) i)) (elim (cases_eq q p.0) [
      | inl same ↦
          let place : p.1 ≡ c = only p.1 (subst (λ n. Contains (p ∷ ps) (n, p.1)) (sym same) (Contains-head p ps)) in
          subst (λ n. lookup (nat_eq n) (newly_mapped p.0 p.1 r) ≡ Some c) (sym same) (lookup-newly_same p.0 p.1 r ∙ ap (λ n. Some n) place)
      | inr other ↦ lookup-newly_other p.0 p.1 q r d other ∙ h
    ])

-- what is placed, and nowhere else, is found
order-has : (r : Recency) (ps : List (ℕ × ℕ)) (q c : ℕ) → IsDistinct nat_eq (keys_of r) → ((o : ℕ) → Contains ps (q, o) → o ≡ c)
    → Contains ps (q, c) → lookup (nat_eq q) (mapped_in_order r ps) ≡ Some c
order-has r [] q c d only h = absurd (Contains-nil (q, c) h)
order-has r (p ∷ ps) q c d only h = elim (Contains-cons p ps (q, c) h) [
  | inl same ↦
      let key : p.0 ≡ q = ap (λ e. e.0) same in
      let place : p.1 ≡ c = ap (λ e. e.1) same in
      order-keeps (newly_mapped p.0 p.1 r) ps q c (distinct-newly p.0 p.1 r d) (λ o i. only o (Contains-tail p ps (q, o) i))
      (subst (λ n. lookup (nat_eq n) (newly_mapped p.0 p.1 r) ≡ Some c) key (lookup-newly_same p.0 p.1 r ∙ ap (λ n. Some n) place))
  | inr later ↦ order-has (newly_mapped p.0 p.1 r) ps q c (distinct-newly p.0 p.1 r d) (λ o i. only o (Contains-tail p ps (q, o) i)) later
]

nowhere : (q at : ℕ) → lookup (nat_eq q) [] ≡ Some at → ⊥
nowhere q at h = cc

nothing_twice : IsDistinct nat_eq []
unfolding IsDistinct
nothing_twice = tt

pub placed-agrees : (es : List (Option Entry)) (r : Recency) → IsMapping (origins es) → IsPlacedByHint es r → AgreesWith (origins es) r
placed-agrees es r once placed =
    let moved = IsPermutation-map pair _ _ placed.1 in
    let ps : List (ℕ × ℕ) = map pair placed.0 in
    let stands : (b c : ℕ) → Contains ps (b, c) → IsMappedAt (origins es) b c =
    λ b c i. (let there = pair-stands 0 es b c (Contains-permutation _ _ (b, c) (IsPermutation-sym _ _ moved) i) in let e : c - 0 ≡ c = omega arith in rw e at there.1) in
    let agrees : AgreesWith (origins es) (mapped_in_order [] ps) = record {
      once = order-once [] ps (nothing_twice);
      has = λ b at here. order-has [] ps b at nothing_twice (λ o i. once b o at (stands b o i) here) (let e : 0 + at ≡ at = omega arith in Contains-permutation _ _ (b, at) moved (subst (λ n. Contains (pairs_from 0 es) (b, n)) e (pair-has 0 es b at here)));
      stands = λ b at found. elim (order-stands [] ps b at nothing_twice found) [
        | inl placed_so ↦ stands b at placed_so
        | inr before ↦ absurd (nowhere b at before)
      ];
    } in
    subst (λ l. AgreesWith (origins es) l) (sym placed.3) agrees
