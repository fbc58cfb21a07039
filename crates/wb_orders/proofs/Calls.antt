-- What holds of all live orders holds after one is given, is taken or is over.
use Rattle.std.proofs.Common.{◌≡◌, ◌≢◌, ◌≤◌, ◌<◌, ◌+◌, inl, inr, ℕ, Bool, true, false, cond, List, [], ◌∷◌, Option, Some, None, length, get_or, set, slice_get, refl, sym, ap, subst, ◌∙◌, arith, get_or-set_same, get_or-set_other}
use Rattle.std.specs.List.{sum_by}
use Rattle.std.proofs.lemmas.Bool.{cases_eq, cases_lt}
use Rattle.std.proofs.lemmas.List.{length-set, length-append, get_or_past}
use Rattle.std.proofs.lemmas.List.Sums.{sum_by-set}
use Rattle.std.proofs.lemmas.Option.{get_or_from_slice_get, slice_get_within}
use Rattle.wb_types.specs.declared.number.CBlock.{CBlock}
use Rattle.wb_orders.specs.declared.live_order.LiveOrder.{LiveOrder}
use Rattle.wb_orders.specs.Named.{first_of, second_of, IsNamed}
use Rattle.wb_orders.specs.Orders.{Orders, order_at, sectors_kept, cost_of, sectors_until, cost_until, marked, IsIdle, queued, with_order, order_taken, HasOrder, IsQueue, waits_in, AreOrders}
use Rattle.wb_orders.proofs.Kept.{Slots, slot_after, same_order, until-later, cost_until-le, until-le, waits-le, queue_other, queue_push, marks_named, marks_stay, marks_other, cases_named, unmarks_named, within_of}

-- ---- one is given

abbrev one : Bool → ℕ
one b = cond b 1 0

true_false : true ≡ false → ⊥
true_false h = cc

pub record IsGiven (orders : Orders) (c : CBlock) (o : LiveOrder) : Type 0 where
  pub vacant : slice_get orders.slots c.0 ≡ Some None
  pub idle : IsIdle orders.busy o.order
  pub room : cost_of orders.slots + o.sectors ≤ o.threshold
  pub number : o.number ≡ orders.given

inside : (orders : Orders) (c : CBlock) (o : LiveOrder) → IsGiven orders c o → c.0 < length orders.slots
inside orders c o g = slice_get_within orders.slots c.0 None g.vacant

empty : (orders : Orders) (c : CBlock) (o : LiveOrder) → IsGiven orders c o → order_at orders.slots c.0 ≡ None
empty orders c o g = get_or_from_slice_get orders.slots c.0 None None g.vacant

not_there : (orders : Orders) (c : CBlock) (o p : LiveOrder) → IsGiven orders c o → order_at orders.slots c.0 ≡ Some p → ⊥
not_there orders c o p g e = differs (sym (empty orders c o g) ∙ e)
  where
    differs : (let x : Option LiveOrder = None in x) ≡ Some p → ⊥
    differs h = cc

first_in : (orders : Orders) (c : CBlock) (o : LiveOrder) → IsGiven orders c o → (first_of o.order).0 < length orders.busy
first_in orders c o g = slice_get_within orders.busy (first_of o.order).0 false g.idle.0

second_in : (orders : Orders) (c : CBlock) (o : LiveOrder) → IsGiven orders c o → (second_of o.order).0 < length orders.busy
second_in orders c o g = slice_get_within orders.busy (second_of o.order).0 false g.idle.1

-- a block that it names was not busy
was_idle : (orders : Orders) (c : CBlock) (o : LiveOrder) → IsGiven orders c o → (b : ℕ) → IsNamed o.order b → get_or orders.busy b false ≡ true → ⊥
was_idle orders c o g b n t = elim n [
  | inl e ↦ true_false (sym t ∙ ap (λ (x : ℕ). get_or orders.busy x false) (sym e) ∙ get_or_from_slice_get orders.busy (first_of o.order).0 false false g.idle.0)
  | inr e ↦ true_false (sym t ∙ ap (λ (x : ℕ). get_or orders.busy x false) (sym e) ∙ get_or_from_slice_get orders.busy (second_of o.order).0 false false g.idle.1)
]

-- a sum with the new one
more : (orders : Orders) (c : CBlock) (o : LiveOrder) → IsGiven orders c o → (f : Option LiveOrder → ℕ) → f None ≡ 0
    → sum_by f (set orders.slots c.0 (Some o)) ≡ sum_by f orders.slots + f (Some o)
more orders c o g f zero = omega (arith, sum_by-set f orders.slots c.0 (Some o) None (inside orders c o g), ap f (empty orders c o g), zero)

given_within : (orders : Orders) (c : CBlock) (o : LiveOrder) → AreOrders orders → IsGiven orders c o → (k : ℕ) (p : LiveOrder)
    → order_at (set orders.slots c.0 (Some o)) k ≡ Some p → cost_until p.number (set orders.slots c.0 (Some o)) ≤ p.threshold
given_within orders c o a g k p e = elim (slot_after orders.slots c.0 k (Some o) p e) [
  | inl h ↦ subst (λ (x : LiveOrder). cost_until x.number (set orders.slots c.0 (Some o)) ≤ x.threshold) (same_order o p h.1)
      (omega (arith, more orders c o g (sectors_until o.number) refl, cost_until-le o.number orders.slots, until-le o.number (Some o), g.room))
  | inr h ↦ omega (
    arith,
    more orders c o g (sectors_until p.number) refl,
    a.within k p h.1,
    until-later p.number o (omega (arith, a.numbered k p h.1, g.number)),
  )
]

given_marked : (orders : Orders) (c : CBlock) (o : LiveOrder) → AreOrders orders → IsGiven orders c o → (b : ℕ)
    → get_or (marked o.order true orders.busy) b false ≡ true → HasOrder (set orders.slots c.0 (Some o)) b
given_marked orders c o a g b t = elim (cases_named o.order b) [
  | inl n ↦ record { cache = c.0; order = o; there = get_or-set_same orders.slots c.0 (Some o) None (inside orders c o g); named = n }
  | inr n ↦ old (a.marked_for b (sym (marks_other o.order true orders.busy b n) ∙ t))
]
  where
    old : HasOrder orders.slots b → HasOrder (set orders.slots c.0 (Some o)) b
    old h = record {
      cache = h.cache;
      order = h.order;
      there = get_or-set_other orders.slots c.0 h.cache (Some o) None
          (λ e. not_there orders c o h.order g (ap (λ (x : ℕ). order_at orders.slots x) (sym e) ∙ h.there)) ∙ h.there;
      named = h.named;
    }

given_queue : (orders : Orders) (c : CBlock) (o : LiveOrder) → AreOrders orders → IsGiven orders c o → (w : Bool) → o.waits ≡ w
    → IsQueue (set orders.slots c.0 (Some o)) 0 (queued w c orders.waiting)
given_queue orders c o a g true w = queue_push orders.slots c o (inside orders c o g) (empty orders c o g) w
    (λ k p e. omega (arith, a.numbered k p e, g.number)) 0 orders.waiting (omega arith) a.queue
given_queue orders c o a g false w = queue_other orders.slots c.0 (Some o) 0 orders.waiting (λ p e v. absurd (not_there orders c o p g e)) a.queue

given_waits : (orders : Orders) (c : CBlock) (o : LiveOrder) → AreOrders orders → IsGiven orders c o → (w : Bool) → o.waits ≡ w
    → length (queued w c orders.waiting) ≡ sum_by waits_in (set orders.slots c.0 (Some o))
given_waits orders c o a g true w = omega (arith, length-append orders.waiting (c ∷ []), more orders c o g waits_in refl, a.all_wait, ap one w)
given_waits orders c o a g false w = omega (arith, more orders c o g waits_in refl, a.all_wait, ap one w)

given_once : (orders : Orders) (c : CBlock) (o : LiveOrder) → AreOrders orders → IsGiven orders c o → (k l : ℕ) (p q : LiveOrder)
    → order_at (set orders.slots c.0 (Some o)) k ≡ Some p → order_at (set orders.slots c.0 (Some o)) l ≡ Some q → p.number ≡ q.number → k ≡ l
given_once orders c o a g k l p q e f n = elim (slot_after orders.slots c.0 k (Some o) p e) [
  | inl h ↦ elim (slot_after orders.slots c.0 l (Some o) q f) [
    | inl i ↦ h.0 ∙ sym i.0
    | inr i ↦ absurd (omega (arith, a.numbered l q i.1, g.number, n, ap (λ (x : LiveOrder). x.number) (same_order o p h.1)))
  ]
  | inr h ↦ elim (slot_after orders.slots c.0 l (Some o) q f) [
    | inl i ↦ absurd (omega (arith, a.numbered k p h.1, g.number, n, ap (λ (x : LiveOrder). x.number) (same_order o q i.1)))
    | inr i ↦ a.once k l p q h.1 i.1 n
  ]
]

given_apart : (orders : Orders) (c : CBlock) (o : LiveOrder) → AreOrders orders → IsGiven orders c o → (k l b : ℕ) (p q : LiveOrder)
    → order_at (set orders.slots c.0 (Some o)) k ≡ Some p → order_at (set orders.slots c.0 (Some o)) l ≡ Some q → IsNamed p.order b → IsNamed q.order b → k ≡ l
given_apart orders c o a g k l b p q e f m n = elim (slot_after orders.slots c.0 k (Some o) p e) [
  | inl h ↦ elim (slot_after orders.slots c.0 l (Some o) q f) [
    | inl i ↦ h.0 ∙ sym i.0
    | inr i ↦ absurd (was_idle orders c o g b (subst (λ (x : LiveOrder). IsNamed x.order b) (sym (same_order o p h.1)) m) (a.marks l b q i.1 n))
  ]
  | inr h ↦ elim (slot_after orders.slots c.0 l (Some o) q f) [
    | inl i ↦ absurd (was_idle orders c o g b (subst (λ (x : LiveOrder). IsNamed x.order b) (sym (same_order o q i.1)) n) (a.marks k b p h.1 m))
    | inr i ↦ a.apart k l b p q h.1 i.1 m n
  ]
]

pub given_kept : (orders : Orders) (c : CBlock) (o : LiveOrder) → AreOrders orders → IsGiven orders c o → AreOrders (with_order orders c o)
given_kept orders c o a g = record {
  numbered = λ k p e. elim (slot_after orders.slots c.0 k (Some o) p e) [
    | inl h ↦ omega (arith, g.number, ap (λ (x : LiveOrder). x.number) (same_order o p h.1))
    | inr h ↦ omega (arith, a.numbered k p h.1)
  ];
  once = given_once orders c o a g;
  apart = given_apart orders c o a g;
  marks = λ k b p e n. elim (slot_after orders.slots c.0 k (Some o) p e) [
    | inl h ↦ marks_named o.order orders.busy b (first_in orders c o g) (second_in orders c o g) (subst (λ (x : LiveOrder). IsNamed x.order b) (sym (same_order o p h.1)) n)
    | inr h ↦ marks_stay o.order orders.busy b (first_in orders c o g) (second_in orders c o g) (a.marks k b p h.1 n)
  ];
  marked_for = given_marked orders c o a g;
  within = given_within orders c o a g;
  queue = given_queue orders c o a g o.waits refl;
  all_wait = given_waits orders c o a g o.waits refl;
}

-- the queue had room for it
pub given_room : (orders : Orders) (c : CBlock) (o : LiveOrder) → AreOrders orders → IsGiven orders c o → length orders.waiting < length orders.slots
given_room orders c o a g = omega (arith, a.all_wait, more orders c (record o { waits = true }) (record { vacant = g.vacant; idle = g.idle; room = g.room; number = g.number }) waits_in refl, waits-le (set orders.slots c.0 (Some (record o { waits = true }))), length-set orders.slots c.0 (Some (record o { waits = true })))

pub given_cost : (orders : Orders) (c : CBlock) (o : LiveOrder) → IsGiven orders c o → cost_of (set orders.slots c.0 (Some o)) ≡ cost_of orders.slots + o.sectors
given_cost orders c o g = more orders c o g sectors_kept refl

-- ---- one is taken

from_any : (slots : Slots) (n : ℕ) (cs : List CBlock) → IsQueue slots n cs → IsQueue slots 0 cs
from_any slots n [] q = tt
from_any slots n (c ∷ cs) q = (q.0, q.1, q.2, omega arith, q.4)

-- the order in a slot before the first of the queue was taken
pub record Came (slots : Slots) (k : ℕ) (p : LiveOrder) : Type 0 where
  pub order : LiveOrder
  pub there : order_at slots k ≡ Some order
  pub same : p ≡ record order { waits = p.waits }

came : (slots : Slots) (c k : ℕ) (o p : LiveOrder) → order_at slots c ≡ Some o → order_at (set slots c (Some (order_taken o))) k ≡ Some p → Came slots k p
came slots c k o p here e = elim (slot_after slots c k (Some (order_taken o)) p e) [
  | inl h ↦ record { order = o; there = ap (λ (x : ℕ). order_at slots x) h.0 ∙ here; same = was (same_order (order_taken o) p h.1) }
  | inr h ↦ record { order = p; there = h.1; same = refl }
]
  where
    was : order_taken o ≡ p → p ≡ record o { waits = p.waits }
    was q = subst (λ (x : LiveOrder). x ≡ record o { waits = x.waits }) q refl

goes : (slots : Slots) (c k : ℕ) (o p : LiveOrder) → order_at slots c ≡ Some o → order_at slots k ≡ Some p → (q : LiveOrder) × (order_at (set slots c (Some (order_taken o))) k ≡ Some q) × (q.order ≡ p.order)
goes slots c k o p here e = elim (cases_eq k c) [
  | inl h ↦ (
    order_taken o,
    ap (λ (x : ℕ). order_at (set slots c (Some (order_taken o))) x) h ∙ get_or-set_same slots c (Some (order_taken o)) None (within_of slots c o here),
    ap (λ (x : LiveOrder). x.order) (same_order o p (sym here ∙ ap (λ (x : ℕ). order_at slots x) (sym h) ∙ e)),
  )
  | inr n ↦ (p, get_or-set_other slots c k (Some (order_taken o)) None n ∙ e, refl)
]

same_sum : (slots : Slots) (c : ℕ) (o : LiveOrder) → order_at slots c ≡ Some o → (f : Option LiveOrder → ℕ) → f (Some (order_taken o)) ≡ f (Some o)
    → sum_by f (set slots c (Some (order_taken o))) ≡ sum_by f slots
same_sum slots c o here f same = omega (arith, sum_by-set f slots c (Some (order_taken o)) None (within_of slots c o here), ap f here, same)

pub taken_kept : (slots : Slots) (busy : List Bool) (c : CBlock) (cs : List CBlock) (given : ℕ) (o : LiveOrder)
    → AreOrders (record { slots = slots; busy = busy; waiting = c ∷ cs; given = given }) → order_at slots c.0 ≡ Some o
    → AreOrders (record { slots = set slots c.0 (Some (order_taken o)); busy = busy; waiting = cs; given = given })
taken_kept slots busy c cs given o a here = record {
  numbered = λ k p e. let f = came slots c.0 k o p here e in
      omega (arith, a.numbered k f.order f.there, ap (λ (x : LiveOrder). x.number) f.same);
  once = λ k l p q e h n. let f = came slots c.0 k o p here e in let g = came slots c.0 l o q here h in
      a.once k l f.order g.order f.there g.there (sym (ap (λ (x : LiveOrder). x.number) f.same) ∙ n ∙ ap (λ (x : LiveOrder). x.number) g.same);
  apart = λ k l b p q e h m n. let f = came slots c.0 k o p here e in let g = came slots c.0 l o q here h in
      a.apart k l b f.order g.order f.there g.there
      (subst (λ (x : LiveOrder). IsNamed x.order b) f.same m) (subst (λ (x : LiveOrder). IsNamed x.order b) g.same n);
  marks = λ k b p e n. let f = came slots c.0 k o p here e in a.marks k b f.order f.there (subst (λ (x : LiveOrder). IsNamed x.order b) f.same n);
  marked_for = λ b t. let h = a.marked_for b t in let f = goes slots c.0 h.cache o h.order here h.there in
      record { cache = h.cache; order = f.0; there = f.1; named = named b h.order f.0 f.2 h.named };
  within = λ k p e. let f = came slots c.0 k o p here e in
      omega (
        arith,
        a.within k f.order f.there,
        same_sum slots c.0 o here (sectors_until p.number) refl,
        ap (λ (x : LiveOrder). cost_until x.number slots) f.same,
        ap (λ (x : LiveOrder). x.threshold) f.same,
      );
  queue = from_any (set slots c.0 (Some (order_taken o))) (first.number + 1) cs (queue_other slots c.0 (Some (order_taken o)) (first.number + 1) cs early a.queue.4);
  all_wait = omega (arith, a.all_wait, sum_by-set waits_in slots c.0 (Some (order_taken o)) None (within_of slots c.0 o here), ap waits_in here, ap one waits);
}
  where
    named : (b : ℕ) (p q : LiveOrder) → q.order ≡ p.order → IsNamed p.order b → IsNamed q.order b
    named b p q e n = subst (λ x. IsNamed x b) (sym e) n

    first : LiveOrder
    first = a.queue.0

    is_first : (p : LiveOrder) → order_at slots c.0 ≡ Some p → first ≡ p
    is_first p e = same_order first p (sym a.queue.1 ∙ e)

    waits : o.waits ≡ true
    waits = ap (λ (x : LiveOrder). x.waits) (sym (is_first o here)) ∙ a.queue.2

    early : (p : LiveOrder) → order_at slots c.0 ≡ Some p → p.waits ≡ true → p.number < first.number + 1
    early p e w = omega (arith, ap (λ (x : LiveOrder). x.number) (is_first p e))

pub taken_cost : (slots : Slots) (c : ℕ) (o : LiveOrder) → order_at slots c ≡ Some o → cost_of (set slots c (Some (order_taken o))) ≡ cost_of slots
taken_cost slots c o here = same_sum slots c o here sectors_kept refl

-- ---- one is over

left : (slots : Slots) (c k : ℕ) (p : LiveOrder) → order_at (set slots c None) k ≡ Some p → (k ≢ c) × (order_at slots k ≡ Some p)
left slots c k p e = elim (slot_after slots c k None p e) [
  | inl h ↦ absurd (differs h.1)
  | inr h ↦ h
]
  where
    differs : (let x : Option LiveOrder = None in x) ≡ Some p → ⊥
    differs h = cc

less : (slots : Slots) (c : ℕ) (o : LiveOrder) → order_at slots c ≡ Some o → (f : Option LiveOrder → ℕ) → f None ≡ 0
    → sum_by f (set slots c None) + f (Some o) ≡ sum_by f slots
less slots c o here f zero = omega (arith, sum_by-set f slots c None None (within_of slots c o here), ap f here, zero)

pub over_kept : (orders : Orders) (c : CBlock) (o : LiveOrder) → AreOrders orders → order_at orders.slots c.0 ≡ Some o → o.waits ≡ false
    → AreOrders (record orders { slots = set orders.slots c.0 None; busy = marked o.order false orders.busy })
over_kept orders c o a here rests = record {
  numbered = λ k p e. a.numbered k p (left orders.slots c.0 k p e).1;
  once = λ k l p q e f n. a.once k l p q (left orders.slots c.0 k p e).1 (left orders.slots c.0 l q f).1 n;
  apart = λ k l b p q e f m n. a.apart k l b p q (left orders.slots c.0 k p e).1 (left orders.slots c.0 l q f).1 m n;
  marks = λ k b p e n. let f = left orders.slots c.0 k p e in
      marks_other o.order false orders.busy b (λ m. f.0 (sym (a.apart c.0 k b o p here f.1 m n))) ∙ a.marks k b p f.1 n;
  marked_for = λ b t. elim (cases_named o.order b) [
    | inl n ↦ absurd (unmarks_named o.order orders.busy b n t)
    | inr n ↦ stays b n (a.marked_for b (sym (marks_other o.order false orders.busy b n) ∙ t))
  ];
  within = λ k p e. let f = left orders.slots c.0 k p e in
      omega (arith, a.within k p f.1, less orders.slots c.0 o here (sectors_until p.number) refl);
  queue = queue_other orders.slots c.0 None 0 orders.waiting (λ p e w. absurd (not_waiting p e w)) a.queue;
  all_wait = omega (arith, a.all_wait, less orders.slots c.0 o here waits_in refl, ap one rests);
}
  where
    not_waiting : (p : LiveOrder) → order_at orders.slots c.0 ≡ Some p → p.waits ≡ true → ⊥
    not_waiting p e w = true_false (sym w ∙ ap (λ (x : LiveOrder). x.waits) (sym (same_order o p (sym here ∙ e))) ∙ rests)

    stays : (b : ℕ) → (IsNamed o.order b → ⊥) → HasOrder orders.slots b → HasOrder (set orders.slots c.0 None) b
    stays b n h = record {
      cache = h.cache;
      order = h.order;
      there = get_or-set_other orders.slots c.0 h.cache None None
          (λ e. n (subst (λ (x : LiveOrder). IsNamed x.order b) (same_order h.order o (sym h.there ∙ ap (λ (x : ℕ). order_at orders.slots x) e ∙ here)) h.named)) ∙ h.there;
      named = h.named;
    }

pub over_cost : (slots : Slots) (c : ℕ) (o : LiveOrder) → order_at slots c ≡ Some o → cost_of (set slots c None) + o.sectors ≡ cost_of slots
over_cost slots c o here = less slots c o here sectors_kept refl

-- the blocks of a live order are among the origin's
pub busy_in : (orders : Orders) (c b : ℕ) (o : LiveOrder) → AreOrders orders → order_at orders.slots c ≡ Some o → IsNamed o.order b → b < length orders.busy
busy_in orders c b o a here n = elim (cases_lt b (length orders.busy)) [
  | inl l ↦ l
  | inr p ↦ absurd (true_false (sym (a.marks c b o here n) ∙ get_or_past orders.busy b false p))
]
