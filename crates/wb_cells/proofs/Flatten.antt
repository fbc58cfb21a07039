-- A card of a seat is one of all cards, and who has the whole has all cards.
use Rattle.std.proofs.Common.{◌≡◌, ◌⊎◌, ℕ, zero, suc, ◌+◌, ◌≤◌, List, [], ◌∷◌, ◌++◌, set, sym, refl, ap, ◌∙◌, inl, inr, ⊎_elim, arith}
use mathlib.Core.Option.{some, some-injective, some-ne-none}
use lib.ListN.{get_elem?}
use Rattle.wb_words.specs.declared.card.Card.{Card}
use Rattle.wb_cells.specs.declared.view.View.{View}
use Rattle.wb_words.specs.Cards.{total}
use Rattle.wb_cells.specs.Views.{all_cards}
use Rattle.wb_words.proofs.Totals.{total-append, total_at}

module _ {A : Type 0} where
  abbrev past : List A → ℕ → ℕ
  past [] p = p
  past (x ∷ xs) p = suc (past xs p)

  set_past : (l m : List A) (p : ℕ) (d : A) → set (l ++ m) (past l p) d ≡ l ++ set m p d
  set_past [] m p d = refl
  set_past (x ∷ xs) m p d = ap (λ (t : List A). x ∷ t) (set_past xs m p d)

  at_past : (l m : List A) (p : ℕ) → get_elem? (l ++ m) (past l p) ≡ get_elem? m p
  at_past [] m p = refl
  at_past (x ∷ xs) m p = at_past xs m p

  set_front : (l m : List A) (k : ℕ) (c d : A) → get_elem? l k ≡ some c → set (l ++ m) k d ≡ set l k d ++ m
  set_front [] m k c d e = absurd (some-ne-none c (sym e))
  set_front (x ∷ xs) m zero c d e = refl
  set_front (x ∷ xs) m (suc k) c d e = ap (λ (t : List A). x ∷ t) (set_front xs m k c d e)

  at_front : (l m : List A) (k : ℕ) (c : A) → get_elem? l k ≡ some c → get_elem? (l ++ m) k ≡ some c
  at_front [] m k c e = absurd (some-ne-none c (sym e))
  at_front (x ∷ xs) m zero c e = e
  at_front (x ∷ xs) m (suc k) c e = at_front xs m k c e

  at_either : (l m : List A) (p : ℕ) (c : A) → get_elem? (l ++ m) p ≡ some c → ((q : ℕ) × (get_elem? l q ≡ some c)) ⊎ ((q : ℕ) × (get_elem? m q ≡ some c))
  at_either [] m p c e = inr (p, e)
  at_either (x ∷ xs) m zero c e = inl (0, e)
  at_either (x ∷ xs) m (suc p) c e = ⊎_elim (λ t. inl (suc t.0, t.1)) (λ t. inr t) (at_either xs m p c e)

-- where a card of a seat stands among all, and what becomes of all cards when it is changed
pub flat : (vs : List View) (id : ℕ) (v : View) (k : ℕ) (c : Card) → get_elem? vs id ≡ some v → get_elem? v.cards k ≡ some c
    → (p : ℕ) × (get_elem? (all_cards vs) p ≡ some c) × ((w : View) (d : Card) → w.cards ≡ set v.cards k d → all_cards (set vs id w) ≡ set (all_cards vs) p d)
flat [] id v k c at e = absurd (some-ne-none v (sym at))
flat (x ∷ xs) zero v k c at e =
    let is : x.cards ≡ v.cards = ap (λ (u : View). u.cards) (some-injective x v at) in let here : get_elem? x.cards k ≡ some c = ap (λ (l : List Card). get_elem? l k) is ∙ e in (
      k,
      at_front x.cards (all_cards xs) k c here,
      λ w d new. ap (λ (l : List Card). l ++ all_cards xs) (new ∙ ap (λ (l : List Card). set l k d) (sym is)) ∙ sym (set_front x.cards (all_cards xs) k c d here),
    )
flat (x ∷ xs) (suc id) v k c at e = let r = flat xs id v k c at e in (
  past x.cards r.0,
  at_past x.cards (all_cards xs) r.0 ∙ r.1,
  λ w d new. ap (λ (l : List Card). x.cards ++ l) (r.2 w d new) ∙ sym (set_past x.cards (all_cards xs) r.0 d),
)

append_nil : (l m : List Card) → m ≡ [] → l ++ m ≡ l
append_nil [] m e = e
append_nil (x ∷ xs) m e = ap (λ (t : List Card). x ∷ t) (append_nil xs m e)

module _ (f : View → ℕ) where
  no_cards : (vs : List View) → total f vs ≡ 0 → ((j : ℕ) (v : View) → get_elem? vs j ≡ some v → f v ≡ 0 → v.cards ≡ []) → all_cards vs ≡ []
  no_cards [] z bare = refl
  no_cards (x ∷ xs) z bare = let a : x.cards ≡ [] = bare 0 x refl (omega arith) in let b : all_cards xs ≡ [] = no_cards xs (omega arith) (λ j. bare (suc j)) in
      ap (λ (l : List Card). l ++ all_cards xs) a ∙ b

  -- where one seat has all the parts, all cards are that seat's
  pub alone : (vs : List View) (id : ℕ) (v : View) → get_elem? vs id ≡ some v → total f vs ≡ f v → ((j : ℕ) (u : View) → get_elem? vs j ≡ some u → f u ≡ 0 → u.cards ≡ []) → all_cards vs ≡ v.cards
  alone [] id v at e bare = absurd (some-ne-none v (sym at))
  alone (x ∷ xs) zero v at e bare = let p : f x ≡ f v = ap f (some-injective x v at) in
      append_nil x.cards (all_cards xs) (no_cards xs (omega arith) (λ j. bare (suc j))) ∙ ap (λ (u : View). u.cards) (some-injective x v at)
  alone (x ∷ xs) (suc id) v at e bare = let low : f v ≤ total f xs = total_at f xs id v at in
      let none : x.cards ≡ [] = bare 0 x refl (omega arith) in ap (λ (l : List Card). l ++ all_cards xs) none ∙ alone xs id v at (omega arith) (λ j. bare (suc j))

at_right : (l m : List Card) (q : ℕ) (c : Card) → get_elem? m q ≡ some c → (p : ℕ) × (get_elem? (l ++ m) p ≡ some c)
at_right [] m q c e = (q, e)
at_right (x ∷ xs) m q c e = let r = at_right xs m q c e in (suc r.0, r.1)

pub in_all : (vs : List View) (id : ℕ) (v : View) (q : ℕ) (c : Card) → get_elem? vs id ≡ some v → get_elem? v.cards q ≡ some c → (p : ℕ) × (get_elem? (all_cards vs) p ≡ some c)
in_all [] id v q c at e = absurd (some-ne-none v (sym at))
in_all (x ∷ xs) zero v q c at e = (q, at_front x.cards (all_cards xs) q c (ap (λ (u : View). get_elem? u.cards q) (some-injective x v at) ∙ e))
in_all (x ∷ xs) (suc id) v q c at e = let r = in_all xs id v q c at e in at_right x.cards (all_cards xs) r.0 c r.1

-- a card after a seat's view was changed is one of the new view, or was there
pub card_of_set : (vs : List View) (id : ℕ) (w : View) (p : ℕ) (c : Card) → get_elem? (all_cards (set vs id w)) p ≡ some c
    → ((q : ℕ) × (get_elem? w.cards q ≡ some c)) ⊎ ((q : ℕ) × (get_elem? (all_cards vs) q ≡ some c))
card_of_set [] id w p c e = inr (p, e)
card_of_set (x ∷ xs) zero w p c e = ⊎_elim (λ t. inl t) (λ t. inr (at_right x.cards (all_cards xs) t.0 c t.1)) (at_either w.cards (all_cards xs) p c e)
card_of_set (x ∷ xs) (suc id) w p c e = ⊎_elim (λ t. inr (t.0, at_front x.cards (all_cards xs) t.0 c t.1))
    (λ t. ⊎_elim (λ u. inl u) (λ u. inr (at_right x.cards (all_cards xs) u.0 c u.1)) (card_of_set xs id w t.0 c t.1)) (at_either x.cards (all_cards (set xs id w)) p c e)

pub card_of_snoc : (vs : List View) (w : View) (p : ℕ) (c : Card) → get_elem? (all_cards (vs ++ w ∷ [])) p ≡ some c → ((q : ℕ) × (get_elem? w.cards q ≡ some c)) ⊎ ((q : ℕ) × (get_elem? (all_cards vs) q ≡ some c))
card_of_snoc [] w p c e = ⊎_elim (λ t. inl t) (λ t. absurd (some-ne-none c (sym t.1))) (at_either w.cards [] p c e)
card_of_snoc (x ∷ xs) w p c e = ⊎_elim (λ t. inr (t.0, at_front x.cards (all_cards xs) t.0 c t.1))
    (λ t. ⊎_elim (λ u. inl u) (λ u. inr (at_right x.cards (all_cards xs) u.0 c u.1)) (card_of_snoc xs w t.0 c t.1)) (at_either x.cards (all_cards (xs ++ w ∷ [])) p c e)

pub cards_sum : (f : Card → ℕ) (vs : List View) (id : ℕ) (v w : View) → get_elem? vs id ≡ some v → total f (all_cards (set vs id w)) + total f v.cards ≡ total f (all_cards vs) + total f w.cards
cards_sum f [] id v w at = absurd (some-ne-none v (sym at))
cards_sum f (x ∷ xs) zero v w at = let same : total f x.cards ≡ total f v.cards = ap (λ (u : View). total f u.cards) (some-injective x v at) in
    omega (arith, total-append f w.cards (all_cards xs), total-append f x.cards (all_cards xs))
cards_sum f (x ∷ xs) (suc id) v w at = let r = cards_sum f xs id v w at in omega (arith, total-append f x.cards (all_cards (set xs id w)), total-append f x.cards (all_cards xs))

pub all-snoc : (f : Card → ℕ) (vs : List View) (w : View) → total f (all_cards (vs ++ w ∷ [])) ≡ total f (all_cards vs) + total f w.cards
all-snoc f [] w = omega (arith, total-append f w.cards [])
all-snoc f (x ∷ xs) w = let r = all-snoc f xs w in omega (arith, total-append f x.cards (all_cards (xs ++ w ∷ [])), total-append f x.cards (all_cards xs))
