-- What holds of all live orders holds after each call.
use Rattle.std.proofs.Common.{◌≡◌, ◌≢◌, ◌≤◌, ◌<◌, ◌+◌, ◌*◌, ◌⊎◌, inl, inr, ℕ, Bool, true, false, nat_le, cond, List, [], ◌∷◌, ◌++◌, Option, Some, None, length, get_or, set, replicate, refl, sym, ap, subst, ◌∙◌, arith, get_or-set_same, get_or-set_other}
use Rattle.std.specs.List.{sum_by}
use Rattle.std.proofs.lemmas.Bool.{cases_eq, cases_lt, leb-true}
use Rattle.std.proofs.lemmas.List.{length-set, get_or_past, length-replicate, get_or-replicate}
use Rattle.std.proofs.lemmas.List.Folds.{sum_by-replicate}
use Rattle.std.proofs.lemmas.List.Sums.{sum_by-cons, sum_by-le-sum_by}
use Rattle.wb_types.specs.declared.number.CBlock.{CBlock}
use Rattle.wb_policy.specs.declared.order.Order.{Order}
use Rattle.wb_orders.specs.declared.live_order.LiveOrder.{LiveOrder}
use Rattle.wb_orders.specs.Named.{first_of, second_of, IsNamed}
use Rattle.wb_orders.specs.Orders.{no_orders, order_at, sectors_kept, cost_of, sectors_until, cost_until, marked, IsQueue, waits_in, AreOrders}

abbrev pub Slots : Type 0
Slots = List (Option LiveOrder)

pub within_of : (slots : Slots) (c : ℕ) (o : LiveOrder) → order_at slots c ≡ Some o → c < length slots
within_of slots c o e = elim (cases_lt c (length slots)) [
  | inl l ↦ l
  | inr p ↦ absurd (none_is_some (sym (get_or_past slots c None p) ∙ e))
]
  where
    none_is_some : (let x : Option LiveOrder = None in x) ≡ Some o → ⊥
    none_is_some h = cc

-- what stands in a slot after a change of one
pub slot_after : (slots : Slots) (c k : ℕ) (s : Option LiveOrder) (p : LiveOrder) → order_at (set slots c s) k ≡ Some p
    → ((k ≡ c) × (s ≡ Some p)) ⊎ ((k ≢ c) × (order_at slots k ≡ Some p))
slot_after slots c k s p e = elim (cases_eq k c) [
  | inl h ↦ inl (h, at h)
  | inr n ↦ inr (n, sym (get_or-set_other slots c k s None n) ∙ e)
]
  where
    at : k ≡ c → s ≡ Some p
    at h = sym (get_or-set_same slots c s None (subst (λ (x : ℕ). x < length slots) h (subst (λ (n : ℕ). k < n) (length-set slots c s) (within_of (set slots c s) k p e))))
        ∙ ap (λ (x : ℕ). order_at (set slots c s) x) (sym h) ∙ e

pub same_order : (o p : LiveOrder) → (let x : Option LiveOrder = Some o in x) ≡ Some p → o ≡ p
same_order o p e = cc

-- ---- sums

pub until-le : (n : ℕ) (s : Option LiveOrder) → sectors_until n s ≤ sectors_kept s
until-le n None = omega arith
until-le n (Some o) = by (nat_le o.number n)
  where
    by : (b : Bool) → cond b o.sectors 0 ≤ o.sectors
    by true = omega arith
    by false = omega arith

pub cost_until-le : (n : ℕ) (slots : Slots) → cost_until n slots ≤ cost_of slots
cost_until-le n slots = sum_by-le-sum_by (sectors_until n) sectors_kept slots (until-le n)

pub until-later : (n : ℕ) (o : LiveOrder) → n < o.number → sectors_until n (Some o) ≡ 0
until-later n o l = by (nat_le o.number n) refl
  where
    by : (b : Bool) → nat_le o.number n ≡ b → cond b o.sectors 0 ≡ 0
    by true e = absurd (omega (arith, leb-true o.number n e))
    by false e = refl

pub waits-le : (slots : Slots) → sum_by waits_in slots ≤ length slots
waits-le [] = omega arith
waits-le (s ∷ slots) = omega (arith, sum_by-cons waits_in s slots, one s, waits-le slots)
  where
    by : (b : Bool) → cond b 1 0 ≤ 1
    by true = omega arith
    by false = omega arith

    one : (s : Option LiveOrder) → waits_in s ≤ 1
    one None = omega arith
    one (Some o) = by o.waits

-- ---- none

nothing_at : (n c : ℕ) (o : LiveOrder) → order_at (replicate n None) c ≡ Some o → ⊥
nothing_at n c o e = elim (cases_lt c n) [
  | inl l ↦ differs (sym (get_or-replicate {A = Option LiveOrder} n c None None l) ∙ e)
  | inr p ↦ differs (sym (get_or_past (replicate n None) c None (omega (arith, p, length-replicate {A = Option LiveOrder} n None))) ∙ e)
]
  where
    differs : (let x : Option LiveOrder = None in x) ≡ Some o → ⊥
    differs h = cc

nobody_busy : (n b : ℕ) → get_or (replicate n false) b false ≡ true → ⊥
nobody_busy n b e = elim (cases_lt b n) [
  | inl l ↦ differs (sym (get_or-replicate {A = Bool} n b false false l) ∙ e)
  | inr p ↦ differs (sym (get_or_past (replicate n false) b false (omega (arith, p, length-replicate {A = Bool} n false))) ∙ e)
]
  where
    differs : false ≡ true → ⊥
    differs h = cc

zeros : (f : Option LiveOrder → ℕ) (n : ℕ) → f None ≡ 0 → sum_by f (replicate n None) ≡ 0
zeros f n e = sum_by-replicate f n None ∙ ap (λ (x : ℕ). n * x) e ∙ omega arith

pub none_kept : (cache_blocks origin_blocks : ℕ) → AreOrders (no_orders cache_blocks origin_blocks)
none_kept n m = record {
  numbered = λ c o e. absurd (nothing_at n c o e);
  once = λ c k o p e h q. absurd (nothing_at n c o e);
  apart = λ c k b o p e h i j. absurd (nothing_at n c o e);
  marks = λ c b o e i. absurd (nothing_at n c o e);
  marked_for = λ b e. absurd (nobody_busy m b e);
  within = λ c o e. absurd (nothing_at n c o e);
  queue = tt;
  all_wait = sym (zeros waits_in n refl);
}

pub none_cost : (n : ℕ) → 0 ≡ cost_of (replicate n None)
none_cost n = sym (zeros sectors_kept n refl)

-- ---- the queue

pub queue_other : (slots : Slots) (c : ℕ) (s : Option LiveOrder) (least : ℕ) (cs : List CBlock)
    → ((p : LiveOrder) → order_at slots c ≡ Some p → p.waits ≡ true → p.number < least)
    → IsQueue slots least cs → IsQueue (set slots c s) least cs
queue_other slots c s least [] early q = tt
queue_other slots c s least (k ∷ cs) early q = (
  q.0,
  get_or-set_other slots c k.0 s None differs ∙ q.1,
  q.2,
  q.3,
  queue_other slots c s (q.0.number + 1) cs (λ p e w. omega (arith, early p e w, q.3)) q.4,
)
  where
    differs : k.0 ≢ c
    differs e = omega (arith, early q.0 (ap (λ (x : ℕ). order_at slots x) (sym e) ∙ q.1) q.2, q.3)

pub queue_push : (slots : Slots) (c : CBlock) (o : LiveOrder) → c.0 < length slots → order_at slots c.0 ≡ None → o.waits ≡ true
    → ((k : ℕ) (p : LiveOrder) → order_at slots k ≡ Some p → p.number < o.number) → (least : ℕ) (cs : List CBlock) → least ≤ o.number
    → IsQueue slots least cs → IsQueue (set slots c.0 (Some o)) least (cs ++ c ∷ [])
queue_push slots c o inside vacant waits newest least [] le q = (o, get_or-set_same slots c.0 (Some o) None inside, waits, le, tt)
queue_push slots c o inside vacant waits newest least (k ∷ cs) le q = (
  q.0,
  get_or-set_other slots c.0 k.0 (Some o) None differs ∙ q.1,
  q.2,
  q.3,
  queue_push slots c o inside vacant waits newest (q.0.number + 1) cs (omega (arith, newest k.0 q.0 q.1)) q.4,
)
  where
    some_is_none : (let x : Option LiveOrder = Some q.0 in x) ≡ None → ⊥
    some_is_none h = cc

    differs : k.0 ≢ c.0
    differs e = some_is_none (sym q.1 ∙ ap (λ (x : ℕ). order_at slots x) e ∙ vacant)

-- ---- marks

marked_true : (busy : List Bool) (i b : ℕ) → i < length busy → get_or busy b false ≡ true → get_or (set busy i true) b false ≡ true
marked_true busy i b l e = elim (cases_eq b i) [
  | inl h ↦ ap (λ (x : ℕ). get_or (set busy i true) x false) h ∙ get_or-set_same busy i true false l
  | inr n ↦ get_or-set_other busy i b true false n ∙ e
]

pub marks_named : (order : Order) (busy : List Bool) (b : ℕ) → (first_of order).0 < length busy → (second_of order).0 < length busy
    → IsNamed order b → get_or (marked order true busy) b false ≡ true
marks_named order busy b f s n = elim n [
  | inl e ↦ marked_true (set busy (first_of order).0 true) (second_of order).0 b (omega (arith, s, length-set busy (first_of order).0 true))
      (ap (λ (x : ℕ). get_or (set busy (first_of order).0 true) x false) (sym e) ∙ get_or-set_same busy (first_of order).0 true false f)
  | inr e ↦ ap (λ (x : ℕ). get_or (marked order true busy) x false) (sym e)
      ∙ get_or-set_same (set busy (first_of order).0 true) (second_of order).0 true false (omega (arith, s, length-set busy (first_of order).0 true))
]

pub marks_stay : (order : Order) (busy : List Bool) (b : ℕ) → (first_of order).0 < length busy → (second_of order).0 < length busy
    → get_or busy b false ≡ true → get_or (marked order true busy) b false ≡ true
marks_stay order busy b f s e =
    marked_true (set busy (first_of order).0 true) (second_of order).0 b (omega (arith, s, length-set busy (first_of order).0 true))
    (marked_true busy (first_of order).0 b f e)

-- a block that an order does not name keeps its mark
pub marks_other : (order : Order) (is : Bool) (busy : List Bool) (b : ℕ) → (IsNamed order b → ⊥) → get_or (marked order is busy) b false ≡ get_or busy b false
marks_other order is busy b n =
    get_or-set_other (set busy (first_of order).0 is) (second_of order).0 b is false (λ e. n (inr (sym e)))
    ∙ get_or-set_other busy (first_of order).0 b is false (λ e. n (inl (sym e)))

pub cases_named : (order : Order) (b : ℕ) → IsNamed order b ⊎ (IsNamed order b → ⊥)
cases_named order b = elim (cases_eq (first_of order).0 b) [
  | inl e ↦ inl (inl e)
  | inr n ↦ elim (cases_eq (second_of order).0 b) [
    | inl e ↦ inl (inr e)
    | inr m ↦ inr (λ h. elim h [ inl e ↦ n e | inr e ↦ m e ])
  ]
]

-- a block that it names has no mark once it is over
pub unmarks_named : (order : Order) (busy : List Bool) (b : ℕ) → IsNamed order b → get_or (marked order false busy) b false ≡ true → ⊥
unmarks_named order busy b n e = elim (cases_eq b (second_of order).0) [
  | inl h ↦ gone (set busy (first_of order).0 false) (second_of order).0 b h e
  | inr m ↦ elim n [
    | inl h ↦ gone busy (first_of order).0 b (sym h) (sym (get_or-set_other (set busy (first_of order).0 false) (second_of order).0 b false false m) ∙ e)
    | inr h ↦ absurd (m (sym h))
  ]
]
  where
    differs : false ≡ true → ⊥
    differs h = cc

    gone : (xs : List Bool) (i k : ℕ) → k ≡ i → get_or (set xs i false) k false ≡ true → ⊥
    gone xs i k h t = elim (cases_lt k (length xs)) [
      | inl l ↦ differs (sym (ap (λ (x : ℕ). get_or (set xs i false) x false) h ∙ get_or-set_same xs i false false (subst (λ (x : ℕ). x < length xs) h l)) ∙ t)
      | inr p ↦ differs (sym (get_or_past (set xs i false) k false (omega (arith, p, length-set xs i false))) ∙ t)
    ]
