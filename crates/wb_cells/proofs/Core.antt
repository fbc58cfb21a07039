-- A step that keeps the rule over all cards is allowed.
use Rattle.std.proofs.Common.{◌≡◌, ◌≢◌, ℕ, zero, suc, ◌<◌, List, [], ◌∷◌, ◌++◌, length, get_or, set, sym, refl, ap, ◌∙◌, subst, ⊎_elim, Option, Some, None, get_or-set_same, length-set}
use Rattle.std.proofs.lemmas.Option.{none-some}
use mathlib.Core.Logic.{dite}
use mathlib.Core.Option.{some, some-ne-none}
use native.Mathlib.Decide.{ℕ_discrete}
use lib.ListN.{get_elem?}
use Rattle.atomic_table.specs.Table.{State, Me, keeps, Allows}
use Rattle.atomic_table.proofs.Lists.{at_set, at_index}
use Rattle.wb_words.specs.declared.word.Word.{Word as WordName}
use Rattle.wb_words.specs.SharedWords.{Words, value_of}
use Rattle.wb_words.specs.declared.card.Card.{Card}
use Rattle.wb_cells.specs.declared.view.View.{View}
use Rattle.wb_words.specs.SharedWords.{IsWord, HasBits, put}
use Rattle.wb_words.specs.declared.word.FailBit.{FailBit}
use Rattle.wb_words.proofs.Totals.{slice_at}
use Rattle.wb_cells.specs.Flat.{index_of, decode}
use Rattle.wb_words.specs.Cards.{blank_card}
use Rattle.wb_words.specs.Rule.{LockRule}
use Rattle.wb_cells.specs.Fractions.{IsWhole}
use Rattle.wb_cells.specs.Views.{Ruled, AllHaveParts, all_cards, view_pieces, words_or}
use Rattle.wb_cells.specs.Moves.{card_at, FoundWords, SeatMoves}
use Rattle.wb_cells.proofs.Decoding.{decode_get, decode_set}
use Rattle.wb_cells.proofs.Halves.{crowd, whole_sum, same_parts, some_pieces}
use Rattle.wb_cells.proofs.Flatten.{flat, alone}

abbrev fitted : View → List FailBit → List Card → Option (List ℕ) → View
fitted v fail ds ws = record { fraction = v.fraction; blocks = v.blocks; cards = ds; fail = fail; words = ws; sides = v.sides }

pub some_is : (a b : List ℕ) → Some a ≡ Some b → a ≡ b
some_is a b e = cc

here : (vs : List View) (k : ℕ) (v w : View) → get_elem? vs k ≡ some v → get_elem? (set vs k w) k ≡ some w
here [] k v w e = absurd (some-ne-none v (sym e))
here (y ∷ ys) zero v w e = refl
here (y ∷ ys) (suc k) v w e = here ys k v w e

-- a seat with a card has a part
pub has_part : (n : ℕ) (s : State ℕ View) → Ruled n s → (id k : ℕ) (v : View) (c : Card) → get_elem? s.views id ≡ some v → get_elem? v.cards k ≡ some c → v.fraction.pieces ≢ 0
has_part n s r id k v c at e z = some-ne-none c (sym e ∙ ap (λ (l : List Card). get_elem? l k) (r.bare id v at z))

-- all cards are those of the seat that has the whole
pub all_its_own : (n : ℕ) (s : State ℕ View) (r : Ruled n s) (id : ℕ) (v : View) → get_elem? s.views id ≡ some v → IsWhole v.fraction → all_cards s.views ≡ v.cards
all_its_own n s r id v at all = alone (view_pieces r.parts.depth) s.views id v at (whole_sum s.views r.parts id v at all) (λ j u e z. r.bare j u e (some_pieces r.parts.depth u.fraction z))

module _ (n id i x : ℕ) (s : State ℕ View) (r : Ruled n s) (v : View) (at : get_elem? s.views id ≡ some v) (some_part : v.fraction.pieces ≢ 0) where
  -- the rule where the cards of the seat id become ds, and the word i becomes x
  after : (fail : List FailBit) (ds : List Card) (ws : Option (List ℕ)) → HasBits (decode (set s.words i x)).fail fail → ((bits : List FailBit) → HasBits (decode s.words).fail bits → HasBits (decode (set s.words i x)).fail bits) → LockRule n (decode (set s.words i x)) (all_cards (set s.views id (fitted v fail ds ws)))
      → ((xs : List ℕ) → ws ≡ Some xs → (xs ≡ set s.words i x) × IsWhole v.fraction)
      → Ruled n record { words = set s.words i x; homes = s.homes; views = set s.views id (fitted v fail ds ws) }
  after fail ds ws low grown rule new = let w : View = fitted v fail ds ws in record {
    wide = length-set s.words i x ∙ r.wide;
    rule = rule;
    parts = same_parts s.views id v w at refl r.parts;
    bare = λ j u e z. ⊎_elim (λ (t : (j ≡ id) × (w ≡ u)). absurd (some_part (ap (λ (y : View). y.fraction.pieces) t.1 ∙ z)))
        (λ (t : (j ≢ id) × (get_elem? s.views j ≡ some u)). r.bare j u t.1 z) (at_set s.views id j w u e);
    sized = λ j u e more. ⊎_elim (λ (t : (j ≡ id) × (w ≡ u)). ap (λ (y : View). y.blocks) (sym t.1) ∙ r.sized id v at some_part)
        (λ (t : (j ≢ id) × (get_elem? s.views j ≡ some u)). r.sized j u t.1 more) (at_set s.views id j w u e);
    floor = λ j u e. ⊎_elim (λ (t : (j ≡ id) × (w ≡ u)). subst (λ (y : View). HasBits (decode (set s.words i x)).fail y.fail) t.1 low)
        (λ (t : (j ≢ id) × (get_elem? s.views j ≡ some u)). grown u.fail (r.floor j u t.1)) (at_set s.views id j w u e);
    sides = λ j u e. ⊎_elim (λ (t : (j ≡ id) × (w ≡ u)). subst (λ (y : View). AllHaveParts y.sides) t.1 (r.sides id v at)) (λ (t : (j ≢ id) × (get_elem? s.views j ≡ some u)). r.sides j u t.1) (at_set s.views id j w u e);
    known = λ j u xs e is. ⊎_elim
        (λ (t : (j ≡ id) × (w ≡ u)). let h = new xs (ap (λ (y : View). y.words) t.1 ∙ is) in (h.0, subst (λ (y : View). IsWhole y.fraction) t.1 h.1))
        (λ (t : (j ≢ id) × (get_elem? s.views j ≡ some u)). absurd (crowd s.views r.parts id v j u at some_part t.0 t.1 (r.known j u xs t.1 is).1)) (at_set s.views id j w u e);
  }

pub has_both : (x : ℕ) (bs cs : List FailBit) → HasBits x bs → HasBits x cs → HasBits x (bs ++ cs)
has_both x [] cs a b = b
has_both x (bit ∷ bs) cs a b = (a.0, has_both x bs cs a.1 b)

-- a step that gives the card k what `can` finds for it
pub steps : (n slots id : ℕ) (word : WordName) (k : ℕ) (me : Me ℕ View) (f : ℕ → ℕ) (bits : List FailBit) (Q : ℕ → Card → Card → Type 0) (E : ℕ → Words → Words → Type 0) → IsWord n word → k < length me.0.cards
    → ((w : Words) (cs : List Card) (p x : ℕ) → LockRule n w cs → get_elem? cs p ≡ some (card_at k me.0) → HasBits w.fail me.0.fail → x ≡ value_of w word → x < 18446744073709551616
    → (d : Card) × LockRule n (put w word (f x)) (set cs p d) × Q x (card_at k me.0) d × E x w (put w word (f x)))
    → ((w : Words) (x : ℕ) → x ≡ value_of w word → ((bs : List FailBit) → HasBits w.fail bs → HasBits (put w word (f x)).fail bs) × HasBits (put w word (f x)).fail bits)
    → Allows (Ruled n) slots id me (index_of word) f (λ x. SeatMoves bits k (Q x) (E x) me)
steps n slots id word k me f bits Q E named turn can grows s r _ at small =
    let v : View = me.0 in let i : ℕ = index_of word in let x : ℕ = get_or s.words i 0 in let c : Card = card_at k v in
    let stands : get_elem? v.cards k ≡ some c = at_index v.cards k c turn (get_or_self v.cards k) in
    let place = flat s.views id v k c at stands in
    let t = can (decode s.words) (all_cards s.views) place.0 x r.rule place.1 (r.floor id v at) (decode_get n s.words word r.wide named) small in
    let d : Card = t.0 in let now : card_at k (fitted v (bits ++ v.fail) (set v.cards k d) None) ≡ d = get_or-set_same v.cards k d blank_card turn in
    let put_is : decode (set s.words i (f x)) ≡ put (decode s.words) word (f x) = decode_set n s.words word (f x) r.wide named in
    let up = grows (decode s.words) x (decode_get n s.words word r.wide named) in
    let grown : (bs : List FailBit) → HasBits (decode s.words).fail bs → HasBits (decode (set s.words i (f x))).fail bs = λ bs h. subst (λ (u : Words). HasBits u.fail bs) (sym put_is) (up.0 bs h) in
    let high : HasBits (decode (set s.words i (f x))).fail bits = subst (λ (u : Words). HasBits u.fail bits) (sym put_is) up.1 in
    let low : HasBits (decode (set s.words i (f x))).fail (bits ++ v.fail) = has_both _ bits v.fail high (grown v.fail (r.floor id v at)) in
    let some_part : v.fraction.pieces ≢ 0 = has_part n s r id k v c at stands in
    let rule : (ws : Option (List ℕ)) → LockRule n (decode (set s.words i (f x))) (all_cards (set s.views id (fitted v (bits ++ v.fail) (set v.cards k d) ws))) =
    λ ws. subst (λ (z : Words × List Card). LockRule n z.0 z.1) (λ j. (sym put_is j, sym (place.2 (fitted v (bits ++ v.fail) (set v.cards k d) ws) d refl) j)) t.1 in
    let found : FoundWords (E x) k v = record {
      was = decode s.words;
      now = put (decode s.words) word (f x);
      changed = t.3;
      cards = all_cards s.views;
      place = place.0;
      here = slice_at (all_cards s.views) place.0 c place.1;
      rule = subst (λ (m : ℕ). LockRule m (decode s.words) (all_cards s.views)) (sym (r.sized id v at some_part)) r.rule;
      only = λ all. all_its_own n s r id v at all;
    } in
    dite (ℕ_discrete v.fraction.pieces (Rattle.wb_cells.specs.Fractions.doubled 1 v.fraction.halvings))
    (λ (all : IsWhole v.fraction). let ws : Option (List ℕ) = Some (set s.words i (f x)) in let w : View = fitted v (bits ++ v.fail) (set v.cards k d) ws in
    let state : Ruled n record { words = set s.words i (f x); homes = s.homes; views = set s.views id w } =
    after n id i (f x) s r v at some_part (bits ++ v.fail) (set v.cards k d) ws low grown (rule ws) (λ xs e. (some_is _ _ (sym e), all)) in (
      w,
      keeps,
      tt,
      state,
      (
        record {
          card = subst (Q x c) (sym now) t.2;
          others = ap (set v.cards k) (sym now);
          fraction = refl;
          blocks = refl;
          fail = refl;
          found = found;
          words = λ _. record {
            was = decode s.words;
            all = refl;
            changed = subst (E x (decode s.words)) (sym put_is) t.3;
            rule_was = subst (λ (z : ℕ × List Card). LockRule z.0 (decode s.words) z.1) (λ j. (sym (r.sized id v at some_part) j, all_its_own n s r id v at all j)) r.rule;
            rule = subst (λ (z : ℕ × List Card). LockRule z.0 (decode (set s.words i (f x))) z.1)
                (λ j. (sym (r.sized id v at some_part) j, all_its_own n _ state id w (here s.views id v w at) all j)) state.rule;
            same = λ is. ap decode (sym (r.known id v (words_or v.words) at is).0);
          };
        },
        refl,
      ),
    ))
    (λ part. (
      fitted v (bits ++ v.fail) (set v.cards k d) None,
      keeps,
      tt,
      after n id i (f x) s r v at some_part (bits ++ v.fail) (set v.cards k d) None low grown (rule None) (λ xs e. absurd (none-some xs e)),
      (record { card = subst (Q x c) (sym now) t.2; others = ap (set v.cards k) (sym now); fraction = refl; blocks = refl; fail = refl; found = found; words = λ all. absurd (part all) }, refl),
    ))
  where
    get_or_self : (l : List Card) (k : ℕ) → get_or l k blank_card ≡ get_or l k (get_or l k blank_card)
    get_or_self [] k = refl
    get_or_self (y ∷ ys) zero = refl
    get_or_self (y ∷ ys) (suc k) = get_or_self ys k
