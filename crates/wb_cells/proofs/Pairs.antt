-- A seat that sits for two passes: what is told of their cards.
use Rattle.std.proofs.Common.{◌≡◌, ◌≢◌, ◌⊎◌, ℕ, zero, suc, ◌+◌, ◌≤◌, List, [], ◌∷◌, ◌++◌, get_or, set, sym, refl, ap, ◌∙◌, subst, ⊎_elim, inl, inr, arith}
use lib.Seq.{set-get_or}
use mathlib.Core.Option.{some, some-injective, some-ne-none}
use lib.ListN.{get_elem?}
use Rattle.atomic_table.specs.Table.{State, Me, keeps, Allows, Splits, Joins}
use Rattle.atomic_table.proofs.Lists.{set_else}
use Rattle.wb_words.specs.declared.word.FailBit.{FailBit}
use Rattle.wb_words.specs.SharedWords.{HasBits}
use Rattle.wb_words.specs.declared.card.Card.{Card}
use Rattle.wb_words.specs.Cards.{blank_card, total, sharers, owners, writes_on, counts_of, shared_of, owned_of, stores, seals_on, ends, times_set}
use Rattle.wb_words.specs.Rule.{LockRule}
use Rattle.wb_words.proofs.Totals.{total-append}
use Rattle.wb_words.proofs.LogsKept.{AllNoLess, notes_on}
use Rattle.wb_cells.specs.declared.view.View.{View}
use Rattle.wb_cells.specs.Flat.{decode}
use Rattle.wb_cells.specs.Views.{Ruled, all_cards, seated, side_view, spent}
use Rattle.wb_cells.specs.Passes.{Excludes}
use Rattle.wb_cells.proofs.Core.{has_part}
use Rattle.wb_cells.proofs.Halves.{part_again}
use Rattle.wb_cells.proofs.Flatten.{in_all, card_of_set, card_of_snoc, cards_sum, all-snoc}
use Rattle.wb_cells.proofs.Passing.{AllSame, no_less_same, rule_from, cut_ruled, joined_ruled}

-- the rule over the same cards in another order
rule_again : (n : ℕ) (s : State ℕ View) (ds : List Card) → Ruled n s → ((f : Card → ℕ) → total f ds ≡ total f (all_cards s.views))
    → ((p : ℕ) (c : Card) → get_elem? ds p ≡ some c → (q : ℕ) × (get_elem? (all_cards s.views) q ≡ some c)) → LockRule n (decode s.words) ds
rule_again n s ds r same was = let cs : List Card = all_cards s.views in
    let all : AllSame cs ds = record { shared = λ b. same (shared_of b); owned = λ b. same (owned_of b); stored = λ b x. same (stores b x); sealed = λ b. same (seals_on b); last = λ b x. same (ends b x); bits = λ bit. same (times_set bit) } in
    let up : AllNoLess cs ds = no_less_same cs ds all (λ kind. same (counts_of kind)) in
    rule_from n (decode s.words) cs ds r.rule (λ b. same (sharers b)) (λ b. same (owners b)) (λ b. same (writes_on b)) (λ kind. same (counts_of kind)) all
    (λ p c e. let q = was p c e in r.rule.knows q.0 c q.1) (λ p c e. let q = was p c e in notes_on cs ds up c (r.rule.logs.notes q.0 c q.1))

either_card : (c d e : Card) (q : ℕ) → get_elem? (c ∷ d ∷ []) q ≡ some e → (c ≡ e) ⊎ (d ≡ e)
either_card c d e zero h = inl (some-injective c e h)
either_card c d e (suc zero) h = inr (some-injective d e h)
either_card c d e (suc (suc q)) h = absurd (some-ne-none e (sym h))

only_card : (c e : Card) (q : ℕ) → get_elem? (c ∷ []) q ≡ some e → c ≡ e
only_card c e zero h = some-injective c e h
only_card c e (suc q) h = absurd (some-ne-none e (sym h))

module _ (n id : ℕ) (v w : View) (c d : Card) (vc : v.cards ≡ c ∷ []) (wc : w.cards ≡ d ∷ []) where
  cards : (seated v w).cards ≡ c ∷ d ∷ []
  cards = λ j. vc j ++ wc j

  -- they sit down
  pub sits : (other : ℕ) → Joins (Ruled n) id v other w (seated v w) spent
  sits other s r at apart there = let both : View = seated v w in let vs : List View = set s.views id both in let us : List View = set vs other spent in
      let stood : get_elem? s.views other ≡ some w = sym (set_else s.views id other both apart) ∙ there in
      let here : get_elem? v.cards 0 ≡ some c = ap (λ (l : List Card). get_elem? l 0) vc in let there_too : get_elem? w.cards 0 ≡ some d = ap (λ (l : List Card). get_elem? l 0) wc in
      let part_v : v.fraction.pieces ≢ 0 = has_part n s r id 0 v c at here in let part_w : w.fraction.pieces ≢ 0 = has_part n s r other 0 w d stood there_too in
      joined_ruled n id v other w both s r at apart there part_v refl refl refl (part_v, (part_w, tt)) refl
      (rule_again n s (all_cards us) r
      (λ f. let a = cards_sum f s.views id v both at in let b = cards_sum f vs other w spent there in let t = total-append f v.cards w.cards in omega arith)
      (λ p e h. ⊎_elim (λ t. absurd (some-ne-none e (sym t.1)))
      (λ t. ⊎_elim (λ u. ⊎_elim (λ same. subst (λ (z : Card). (q : ℕ) × (get_elem? (all_cards s.views) q ≡ some z)) same (in_all s.views id v 0 c at here))
      (λ same. subst (λ (z : Card). (q : ℕ) × (get_elem? (all_cards s.views) q ≡ some z)) same (in_all s.views other w 0 d stood there_too))
      (either_card c d e u.0 (sym (ap (λ (l : List Card). get_elem? l u.0) cards) ∙ u.1))) (λ u. u) (card_of_set s.views id both t.0 e t.1)) (card_of_set vs other spent p e h)))

  -- they stand up, each as it was
  pub stands : Splits (Ruled n) id (seated v w) (side_view 0 (seated v w)) (side_view 1 (seated v w))
  stands s r at = let both : View = seated v w in let left : View = side_view 0 both in let right : View = side_view 1 both in let vs : List View = set s.views id left in
      let first : get_elem? both.cards 0 ≡ some c = ap (λ (l : List Card). get_elem? l 0) cards in let second : get_elem? both.cards 1 ≡ some d = ap (λ (l : List Card). get_elem? l 1) cards in
      let left_is : left.cards ≡ c ∷ [] = λ j. get_or (cards j) 0 blank_card ∷ [] in let right_is : right.cards ≡ d ∷ [] = λ j. get_or (cards j) 1 blank_card ∷ [] in
      let parts = r.sides id both at in let bits = r.floor id both at in
      cut_ruled n id both left right s r at (has_part n s r id 0 both c at first) parts.0 parts.1.0 (part_again s.views id both left right at refl r.parts) refl refl (front v.fail w.fail _ bits) (back v.fail w.fail _ bits) tt tt refl refl
      (rule_again n s (all_cards (vs ++ right ∷ [])) r
      (λ f. let a = cards_sum f s.views id both left at in let b = all-snoc f vs right in let x = ap (total f) left_is in let y = ap (total f) right_is in let z = ap (total f) cards in omega arith)
      (λ p e h. ⊎_elim (λ t. subst (λ (z : Card). (q : ℕ) × (get_elem? (all_cards s.views) q ≡ some z)) (only_card d e t.0 (sym (ap (λ (l : List Card). get_elem? l t.0) right_is) ∙ t.1)) (in_all s.views id both 1 d at second))
      (λ t. ⊎_elim (λ u. subst (λ (z : Card). (q : ℕ) × (get_elem? (all_cards s.views) q ≡ some z)) (only_card c e u.0 (sym (ap (λ (l : List Card). get_elem? l u.0) left_is) ∙ u.1)) (in_all s.views id both 0 c at first))
      (λ u. u) (card_of_set s.views id left t.0 e t.1)) (card_of_snoc vs right p e h)))
    where
      front : (bs cs : List FailBit) (x : ℕ) → HasBits x (bs ++ cs) → HasBits x bs
      front [] cs x h = tt
      front (bit ∷ bs) cs x h = (h.0, front bs cs x h.1)

      back : (bs cs : List FailBit) (x : ℕ) → HasBits x (bs ++ cs) → HasBits x cs
      back [] cs x h = h
      back (bit ∷ bs) cs x h = back bs cs x h.1

set_same : (vs : List View) (id : ℕ) (v : View) → get_elem? vs id ≡ some v → set vs id v ≡ vs
set_same [] id v e = refl
set_same (x ∷ xs) zero v e = ap (λ (z : View). z ∷ xs) (sym (some-injective x v e))
set_same (x ∷ xs) (suc id) v e = ap (λ (l : List View). x ∷ l) (set_same xs id v e)

-- a seat's cards are among all
view_sum : (f : Card → ℕ) (vs : List View) (id : ℕ) (v : View) → get_elem? vs id ≡ some v → total f v.cards ≤ total f (all_cards vs)
view_sum f vs id v at = let a = cards_sum f vs id v (record v { cards = [] }) at in omega arith

-- a look by which a seat that sits for two learns that their cards exclude each other
pub tells_apart : (n slots id : ℕ) (me : Me ℕ View) (c d : Card) → me.0.cards ≡ c ∷ d ∷ [] → me.0.blocks ≡ n → Allows (Ruled n) slots id me 0 (λ x. x) (λ x after. (after ≡ me) × Excludes n c d × Excludes n d c)
tells_apart n slots id me c d two sized s r _ at small = (
  me.0,
  keeps,
  tt,
  subst (λ (z : List ℕ × List View). Ruled n record { words = z.0; homes = s.homes; views = z.1 }) (λ j. (sym (set-get_or s.words 0 0) j, sym (set_same s.views id me.0 at) j)) r,
  (refl, excludes c d (λ f. omega (arith, sum f)), excludes d c (λ f. omega (arith, sum f))),
)
  where
    sum : (f : Card → ℕ) → f c + f d ≤ total f (all_cards s.views)
    sum f = let a = view_sum f s.views id me.0 at in let b = ap (total f) two in omega arith

    excludes : (e g : Card) → ((f : Card → ℕ) → f e + f g ≤ total f (all_cards s.views)) → Excludes n e g
    excludes e g low b inside owned = let lock = r.rule.cells b inside in let o = low (owners b) in let h = low (sharers b) in let none = lock.apart (omega arith) in let one = lock.one in (omega arith, omega arith)
