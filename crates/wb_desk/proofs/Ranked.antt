-- Lists of live orders, in which each is found by its cache block.
use Rattle.std.proofs.Common.{◌≡◌, ◌≢◌, ◌<◌, ◌+◌, inl, inr, ℕ, suc, Bool, List, [], ◌∷◌, ◌++◌, Option, Some, None, length, cond, refl, sym, ap, ◌∙◌, arith}
use Rattle.std.proofs.lemmas.Bool.{cases_eq}
use Rattle.std.proofs.lemmas.Bool.Decides.{eqb_tells}
use Rattle.wb_desk.specs.Allocation.{LiveOrder, Apart, ApartAll, Shareless, cost, orders_without, cache_at, HasOrder}
use Rattle.wb_desk.specs.Acting.{order_in, rank_in}

abbrev Here : LiveOrder → List LiveOrder → ℕ → Type 0
Here o os c = (order_in (o ∷ os) c ≡ Some o) × (rank_in (o ∷ os) c ≡ 0)

abbrev There : LiveOrder → List LiveOrder → ℕ → Type 0
There o os c = (order_in (o ∷ os) c ≡ order_in os c) × (rank_in (o ∷ os) c ≡ suc (rank_in os c))

here : (o : LiveOrder) (os : List LiveOrder) (c : ℕ) → o.cache ≡ c → Here o os c
here o os c e = elim (eqb_tells o.cache c) [
  | inl h ↦ (ap (λ (b : Bool). cond b (Some o) (order_in os c)) h.0, ap (λ (b : Bool). cond b 0 (suc (rank_in os c))) h.0)
  | inr h ↦ absurd (h.1 e)
]

there : (o : LiveOrder) (os : List LiveOrder) (c : ℕ) → o.cache ≢ c → There o os c
there o os c n = elim (eqb_tells o.cache c) [
  | inl h ↦ absurd (n h.1)
  | inr h ↦ (ap (λ (b : Bool). cond b (Some o) (order_in os c)) h.0, ap (λ (b : Bool). cond b 0 (suc (rank_in os c))) h.0)
]

same_some : (o p : LiveOrder) → (let x : Option LiveOrder = Some o in x) ≡ Some p → o ≡ p
same_some o p e = cc

no_some : (o : LiveOrder) → (let x : Option LiveOrder = None in x) ≡ Some o → ⊥
no_some o e = cc

-- ---- an order more

pub in_push_same : (os : List LiveOrder) (p : LiveOrder) → order_in os p.cache ≡ None → order_in (os ++ p ∷ []) p.cache ≡ Some p
in_push_same [] p e = (here p [] p.cache refl).0
in_push_same (o ∷ os) p e = elim (cases_eq o.cache p.cache) [
  | inl h ↦ absurd (no_some o (sym e ∙ (here o os p.cache h).0))
  | inr n ↦ (there o (os ++ p ∷ []) p.cache n).0 ∙ in_push_same os p (sym (there o os p.cache n).0 ∙ e)
]

pub in_push_other : (os : List LiveOrder) (p : LiveOrder) (k : ℕ) → k ≢ p.cache → order_in (os ++ p ∷ []) k ≡ order_in os k
in_push_other [] p k n = (there p [] k (λ e. n (sym e))).0
in_push_other (o ∷ os) p k n = elim (cases_eq o.cache k) [
  | inl h ↦ (here o (os ++ p ∷ []) k h).0 ∙ sym (here o os k h).0
  | inr m ↦ (there o (os ++ p ∷ []) k m).0 ∙ in_push_other os p k n ∙ sym (there o os k m).0
]

pub cost_push : (os : List LiveOrder) (p : LiveOrder) → cost (os ++ p ∷ []) ≡ cost os + p.sectors
cost_push [] p = omega arith
cost_push (o ∷ os) p = omega (arith, cost_push os p)

-- ---- one less

pub rank_within : (os : List LiveOrder) (c : ℕ) (p : LiveOrder) → order_in os c ≡ Some p → rank_in os c < length os
rank_within [] c p e = absurd (no_some p e)
rank_within (o ∷ os) c p e = elim (cases_eq o.cache c) [
  | inl h ↦ omega (arith, (here o os c h).1)
  | inr n ↦ omega (arith, (there o os c n).1, rank_within os c p (sym (there o os c n).0 ∙ e))
]

pub rank_there : (os : List LiveOrder) (c : ℕ) (p : LiveOrder) → order_in os c ≡ Some p → cache_at os (rank_in os c) ≡ c
rank_there [] c p e = absurd (no_some p e)
rank_there (o ∷ os) c p e = elim (cases_eq o.cache c) [
  | inl h ↦ ap (λ (i : ℕ). cache_at (o ∷ os) i) (here o os c h).1 ∙ h
  | inr n ↦ ap (λ (i : ℕ). cache_at (o ∷ os) i) (there o os c n).1 ∙ rank_there os c p (sym (there o os c n).0 ∙ e)
]

pub in_without_other : (os : List LiveOrder) (c k : ℕ) → k ≢ c → order_in (orders_without os (rank_in os c)) k ≡ order_in os k
in_without_other [] c k n = refl
in_without_other (o ∷ os) c k n = elim (cases_eq o.cache c) [
  | inl h ↦ ap (λ (i : ℕ). order_in (orders_without (o ∷ os) i) k) (here o os c h).1 ∙ sym (there o os k (λ e. n (sym e ∙ h))).0
  | inr m ↦ ap (λ (i : ℕ). order_in (orders_without (o ∷ os) i) k) (there o os c m).1 ∙ past (in_without_other os c k n)
]
  where
    past : order_in (orders_without os (rank_in os c)) k ≡ order_in os k → order_in (o ∷ orders_without os (rank_in os c)) k ≡ order_in (o ∷ os) k
    past e = elim (cases_eq o.cache k) [
      | inl h ↦ (here o (orders_without os (rank_in os c)) k h).0 ∙ sym (here o os k h).0
      | inr l ↦ (there o (orders_without os (rank_in os c)) k l).0 ∙ e ∙ sym (there o os k l).0
    ]

-- no other has the cache block of one that stands apart from all
none_beside : (o : LiveOrder) (os : List LiveOrder) (c : ℕ) → ApartAll o os → o.cache ≡ c → order_in os c ≡ None
none_beside o [] c a e = refl
none_beside o (p ∷ os) c a e = (there p os c (λ h. a.0.cache (e ∙ sym h))).0 ∙ none_beside o os c a.1 e

pub in_without_same : (os : List LiveOrder) (c : ℕ) → Shareless os → order_in (orders_without os (rank_in os c)) c ≡ None
in_without_same [] c s = refl
in_without_same (o ∷ os) c s = elim (cases_eq o.cache c) [
  | inl h ↦ ap (λ (i : ℕ). order_in (orders_without (o ∷ os) i) c) (here o os c h).1 ∙ none_beside o os c s.0 h
  | inr n ↦ ap (λ (i : ℕ). order_in (orders_without (o ∷ os) i) c) (there o os c n).1 ∙ (there o (orders_without os (rank_in os c)) c n).0 ∙ in_without_same os c s.1
]

pub cost_without : (os : List LiveOrder) (c : ℕ) (p : LiveOrder) → order_in os c ≡ Some p → cost (orders_without os (rank_in os c)) + p.sectors ≡ cost os
cost_without [] c p e = absurd (no_some p e)
cost_without (o ∷ os) c p e = elim (cases_eq o.cache c) [
  | inl h ↦ omega (arith, ap (λ (i : ℕ). cost (orders_without (o ∷ os) i)) (here o os c h).1, ap (λ (x : LiveOrder). x.sectors) (same_some o p (sym (here o os c h).0 ∙ e)))
  | inr n ↦ omega (arith, ap (λ (i : ℕ). cost (orders_without (o ∷ os) i)) (there o os c n).1, cost_without os c p (sym (there o os c n).0 ∙ e))
]

-- ---- all of them

pub has_one : (os : List LiveOrder) (c : ℕ) (p : LiveOrder) → order_in os c ≡ Some p → HasOrder os c
has_one [] c p e = absurd (no_some p e)
has_one (o ∷ os) c p e = elim (cases_eq o.cache c) [
  | inl h ↦ inl h
  | inr n ↦ inr (has_one os c p (sym (there o os c n).0 ∙ e))
]

-- Of orders that share nothing each is the one of its cache block, so what is apart from those is apart from all.
pub apart_all : (o : LiveOrder) (os : List LiveOrder) → Shareless os → ((k : ℕ) (p : LiveOrder) → order_in os k ≡ Some p → Apart o p) → ApartAll o os
apart_all o [] s each = tt
apart_all o (p ∷ os) s each = (
  each p.cache p (here p os p.cache refl).0,
  apart_all o os s.1 (λ k q e. elim (cases_eq p.cache k) [
    | inl h ↦ absurd (no_some q (sym (none_beside p os k s.0 h) ∙ e))
    | inr n ↦ each k q ((there p os k n).0 ∙ e)
  ]),
)
