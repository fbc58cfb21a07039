-- Steps of a seat of one card; seats cut in two and put together.
use Rattle.std.proofs.Common.{◌≡◌, ◌≢◌, ℕ, zero, suc, ◌+◌, ◌-◌, ◌*◌, ◌%◌, ◌^◌, List, [], ◌∷◌, ◌++◌, get_or, set, sym, refl, ap, ◌∙◌, subst, ⊎_elim, arith, None}
use Rattle.std.proofs.lemmas.Option.{none-some}
use mathlib.Core.Option.{some, some-injective, some-ne-none}
use lib.ListN.{get_elem?}
use Rattle.atomic_table.specs.Seated.{TableId}
use Rattle.atomic_table.specs.Table.{State, Me, Splits, Joins}
use Rattle.atomic_table.proofs.Lists.{at_set, at_snoc, set_else}
use Rattle.wb_words.specs.declared.word.Kind.{Kind}
use Rattle.wb_words.specs.declared.word.Word.{Word as WordName}
use Rattle.wb_words.specs.SharedWords.{Words, word_at}
use Rattle.wb_words.specs.declared.card.Hold.TheVariants.{Nothing}
use Rattle.wb_words.specs.declared.card.Card.{Card}
use Rattle.wb_cells.specs.declared.view.View.{View}
use Rattle.wb_words.specs.SharedWords.{HasBits, fail_word}
use Rattle.wb_cells.specs.Flat.{decode}
use Rattle.wb_words.specs.Cards.{blank_card, total, is_block, count_of_write, is_count, is_share, is_own, seal_times, seal_count, is_newest, is_bit, shares, owns, sharers, owners, writes_on, counts_of, shared_of, owned_of, stores, seals_on, ends, times_set, merged}
use Rattle.wb_words.specs.Rule.{block, AllSawNoMore, Knows, LooksAllowed, LossesAllowed, NotesWhatWas, LockRule, IsLock}
use Rattle.wb_words.specs.Moments.{Moment}
use Rattle.wb_types.specs.declared.number.OBlock.{OBlock}
use Rattle.wb_words.specs.declared.word.FailBit.{FailBit}
use Rattle.wb_words.specs.declared.word.FailBit.TheVariants.{Failed, Suspended}
use Rattle.wb_cells.specs.declared.view.Fraction.{Fraction}
use Rattle.wb_cells.specs.Fractions.{IsWhole, together}
use Rattle.wb_cells.specs.Views.{Ruled, AllHaveParts, MakeWhole, all_cards, cut_left, cut_right, merged_cards, joined, spent}
use Rattle.wb_cells.specs.Moves.{card_at, SeatMoves}
use Rattle.wb_cells.specs.Passes.{pass_state, IsPass}
use Rattle.wb_words.proofs.Totals.{total-append}
use Rattle.wb_cells.proofs.Halves.{crowd, split_parts, join_parts, doubled-le}
use Rattle.wb_cells.proofs.Flatten.{in_all, card_of_set, card_of_snoc, cards_sum, all-snoc}
use Rattle.wb_cells.proofs.Core.{has_part, has_both}
use Rattle.wb_words.proofs.RuleKept.{blank_knows}
use Rattle.wb_words.proofs.LogsKept.{AllNoLess, last_same, notes_on, blank_notes}
use mathlib.Core.Logic.{dite}
use native.Mathlib.Decide.{ℕ_discrete}

module _ {bits : List FailBit} {how : Card → Card → Type 0} {change : Words → Words → Type 0} where
  -- one card stays one card
  pub passes : (words : ℕ) (m after : Me ℕ View) → IsPass words m → SeatMoves bits 0 how change m after → IsPass words after
  passes words m after p s = record {
    one = s.0.others ∙ ap (λ (l : List Card). set l 0 (card_at 0 after.0)) p.one;
    sized = p.sized ∙ ap (λ (n : ℕ). 3 * n + 5) (sym s.0.blocks);
    bare = s.1 ∙ p.bare;
  }

  pub shows : (t u : TableId) (m after : Me ℕ View) (c : Card) → u ≡ t → SeatMoves bits 0 how change m after → card_at 0 after.0 ≡ c → pass_state u after ≡ record (pass_state t m) { card = c; failed = bits ++ m.0.fail }
  shows t u m after c same s is = λ i. record { table = same i; fraction = s.0.fraction i; card = is i; failed = s.0.fail i }

-- the moment of a step
pub moment_of : {bits : List FailBit} {how : Card → Card → Type 0} {change : Words → Words → Type 0} (words n : ℕ) (m after : Me ℕ View) → IsPass words m → words ≡ 3 * n + 5 → SeatMoves bits 0 how change m after
    → (at : Moment n (IsWhole m.0.fraction) (card_at 0 m.0)) × (now : Words) × change at.words now
moment_of words n m after p sized s = let f = s.0.found in let z = p.sized in let same : m.0.blocks ≡ n = omega arith in (
  record { words = f.was; cards = f.cards; place = f.place; here = f.here; rule = subst (λ (b : ℕ). LockRule b f.was f.cards) same f.rule; only = λ all. f.only all ∙ p.one },
  f.now,
  f.changed,
)

-- what all cards did, where the same was done
pub record AllSame (cs ds : List Card) : Type 0 where
  pub shared : (b : ℕ) → total (shared_of b) ds ≡ total (shared_of b) cs
  pub owned : (b : ℕ) → total (owned_of b) ds ≡ total (owned_of b) cs
  pub stored : (b x : ℕ) → total (stores b x) ds ≡ total (stores b x) cs
  pub sealed : (b : ℕ) → total (seals_on b) ds ≡ total (seals_on b) cs
  pub last : (b x : ℕ) → total (ends b x) ds ≡ total (ends b x) cs
  pub bits : (bit : FailBit) → total (times_set bit) ds ≡ total (times_set bit) cs

pub no_less_same : (cs ds : List Card) → AllSame cs ds → ((kind : Kind) → total (counts_of kind) ds ≡ total (counts_of kind) cs) → AllNoLess cs ds
no_less_same cs ds same counts = record {
  shared = λ b. let e = same.shared b in omega arith;
  owned = λ b. let e = same.owned b in omega arith;
  stored = λ b x. let e = same.stored b x in omega arith;
  counts = λ kind. let e = counts kind in omega arith;
  bits = λ bit. let e = same.bits bit in omega arith;
}

-- the rule reads sums over the cards, and what each one knows and notes
pub rule_from : (n : ℕ) (w : Words) (cs ds : List Card) → LockRule n w cs → ((b : ℕ) → total (sharers b) ds ≡ total (sharers b) cs) → ((b : ℕ) → total (owners b) ds ≡ total (owners b) cs)
    → ((b : ℕ) → total (writes_on b) ds ≡ total (writes_on b) cs) → ((kind : Kind) → total (counts_of kind) ds ≡ total (counts_of kind) cs) → AllSame cs ds → ((p : ℕ) (c : Card) → get_elem? ds p ≡ some c → Knows w c) → ((p : ℕ) (c : Card) → get_elem? ds p ≡ some c → NotesWhatWas ds c) → LockRule n w ds
rule_from n w cs ds r sh ow wr co same knows notes = record {
  cells_are = r.cells_are;
  seals_are = r.seals_are;
  numbers_are = r.numbers_are;
  cells = λ b l. subst (λ (z : ℕ × ℕ). IsLock (word_at w.cells (block b)) z.0 z.1) (λ j. (sym (sh b) j, sym (ow b) j)) (r.cells b l);
  numbers = λ b l. r.numbers b l ∙ sym (wr b);
  fits = r.fits;
  counts = λ kind. r.counts kind ∙ ap (λ (z : ℕ). z % 2 ^ 64) (sym (co kind));
  knows = knows;
  logs = record {
    seals = λ b l. last_same cs ds b (word_at w.seals (block b)) (same.sealed b) (same.last b (word_at w.seals (block b))) (r.logs.seals b l);
    fail = r.logs.fail ∙ (λ j. fail_word (sym (same.bits Failed) j) (sym (same.bits Suspended) j));
    notes = notes;
  };
}

knows_blank : (w : Words) (q : ℕ) (c : Card) → get_elem? (blank_card ∷ []) q ≡ some c → Knows w c
knows_blank w zero c e = subst (Knows w) (some-injective blank_card c e) (blank_knows w)
knows_blank w (suc q) c e = absurd (some-ne-none c (sym e))

notes_blank : (cs : List Card) (q : ℕ) (c : Card) → get_elem? (blank_card ∷ []) q ≡ some c → NotesWhatWas cs c
notes_blank cs zero c e = subst (NotesWhatWas cs) (some-injective blank_card c e) (blank_notes cs)
notes_blank cs (suc q) c e = absurd (some-ne-none c (sym e))

first_has : (l : List Card) (c : Card) → l ≡ c ∷ [] → get_elem? l 0 ≡ some c
first_has l c e = ap (λ (l : List Card). get_elem? l 0) e

-- a seat's view is cut in two
pub cut_ruled : (n id : ℕ) (v left right : View) (s : State ℕ View) (r : Ruled n s) → get_elem? s.views id ≡ some v → v.fraction.pieces ≢ 0 → left.fraction.pieces ≢ 0 → right.fraction.pieces ≢ 0 → MakeWhole (set s.views id left ++ right ∷ [])
    → left.blocks ≡ v.blocks → right.blocks ≡ v.blocks → HasBits (decode s.words).fail left.fail → HasBits (decode s.words).fail right.fail → AllHaveParts left.sides → AllHaveParts right.sides → left.words ≡ None → right.words ≡ None
    → LockRule n (decode s.words) (all_cards (set s.views id left ++ right ∷ [])) → Ruled n record { words = s.words; homes = s.homes; views = set s.views id left ++ right ∷ [] }
cut_ruled n id v left right s r at some_part part_l part_r parts blocks_l blocks_r bits_l bits_r sides_l sides_r words_l words_r rule = let vs : List View = set s.views id left in record {
  wide = r.wide;
  rule = rule;
  parts = parts;
  bare = λ j u e z. ⊎_elim
      (λ g. ⊎_elim (λ (t : (j ≡ id) × (left ≡ u)). absurd (part_l (ap (λ (y : View). y.fraction.pieces) t.1 ∙ z))) (λ (t : (j ≢ id) × (get_elem? s.views j ≡ some u)). r.bare j u t.1 z) (at_set s.views id j left u g))
      (λ (t : right ≡ u). absurd (part_r (ap (λ (y : View). y.fraction.pieces) t ∙ z))) (at_snoc vs right u j e);
  sized = λ j u e more. ⊎_elim
      (λ g. ⊎_elim (λ (t : (j ≡ id) × (left ≡ u)). ap (λ (y : View). y.blocks) (sym t.1) ∙ (blocks_l ∙ r.sized id v at some_part)) (λ (t : (j ≢ id) × (get_elem? s.views j ≡ some u)). r.sized j u t.1 more) (at_set s.views id j left u g))
      (λ (t : right ≡ u). ap (λ (y : View). y.blocks) (sym t) ∙ (blocks_r ∙ r.sized id v at some_part)) (at_snoc vs right u j e);
  floor = λ j u e. ⊎_elim
      (λ g. ⊎_elim (λ (t : (j ≡ id) × (left ≡ u)). subst (λ (y : View). HasBits (decode s.words).fail y.fail) t.1 bits_l) (λ (t : (j ≢ id) × (get_elem? s.views j ≡ some u)). r.floor j u t.1) (at_set s.views id j left u g))
      (λ (t : right ≡ u). subst (λ (y : View). HasBits (decode s.words).fail y.fail) t bits_r) (at_snoc vs right u j e);
  sides = λ j u e. ⊎_elim
      (λ g. ⊎_elim (λ (t : (j ≡ id) × (left ≡ u)). subst (λ (y : View). AllHaveParts y.sides) t.1 sides_l) (λ (t : (j ≢ id) × (get_elem? s.views j ≡ some u)). r.sides j u t.1) (at_set s.views id j left u g))
      (λ (t : right ≡ u). subst (λ (y : View). AllHaveParts y.sides) t sides_r) (at_snoc vs right u j e);
  known = λ j u ws e is. ⊎_elim
      (λ g. ⊎_elim (λ (t : (j ≡ id) × (left ≡ u)). absurd (none-some ws (sym words_l ∙ (ap (λ (y : View). y.words) t.1 ∙ is))))
      (λ (t : (j ≢ id) × (get_elem? s.views j ≡ some u)). absurd (crowd s.views r.parts id v j u at some_part t.0 t.1 (r.known j u ws t.1 is).1)) (at_set s.views id j left u g))
      (λ (t : right ≡ u). absurd (none-some ws (sym words_r ∙ (ap (λ (y : View). y.words) t ∙ is)))) (at_snoc vs right u j e);
}

pub splits : (n id : ℕ) (v : View) (c : Card) → v.cards ≡ c ∷ [] → Splits (Ruled n) id v (cut_left v) (cut_right v)
splits n id v c one s r at =
    let left : View = cut_left v in let right : View = cut_right v in let vs : List View = set s.views id left in
    let some_part : v.fraction.pieces ≢ 0 = has_part n s r id 0 v c at (first_has v.cards c one) in
    let same : (f : Card → ℕ) → f blank_card ≡ 0 → total f (all_cards (vs ++ right ∷ [])) ≡ total f (all_cards s.views) =
    λ f z. let a = cards_sum f s.views id v left at in let b = all-snoc f vs right in omega arith in
    let all : AllSame (all_cards s.views) (all_cards (vs ++ right ∷ [])) = record { shared = λ b. same (shared_of b) refl; owned = λ b. same (owned_of b) refl; stored = λ b x. same (stores b x) refl; sealed = λ b. same (seals_on b) refl; last = λ b x. same (ends b x) refl; bits = λ bit. same (times_set bit) refl } in
    let up : AllNoLess (all_cards s.views) (all_cards (vs ++ right ∷ [])) = no_less_same (all_cards s.views) (all_cards (vs ++ right ∷ [])) all (λ kind. same (counts_of kind) refl) in
    cut_ruled n id v left right s r at some_part some_part some_part (split_parts s.views id v left right at refl refl r.parts) refl refl (r.floor id v at) (r.floor id v at) (r.sides id v at) tt refl refl
    (rule_from n (decode s.words) (all_cards s.views) (all_cards (vs ++ right ∷ [])) r.rule (λ b. same (sharers b) refl) (λ b. same (owners b) refl) (λ b. same (writes_on b) refl) (λ kind. same (counts_of kind) refl) all
    (λ p c e. ⊎_elim (λ t. knows_blank (decode s.words) t.0 c t.1)
    (λ t. ⊎_elim (λ u. let q = in_all s.views id v u.0 c at u.1 in r.rule.knows q.0 c q.1) (λ u. r.rule.knows u.0 c u.1) (card_of_set s.views id left t.0 c t.1)) (card_of_snoc vs right p c e))
    (λ p c e. ⊎_elim (λ t. notes_blank (all_cards (vs ++ right ∷ [])) t.0 c t.1)
    (λ t. notes_on (all_cards s.views) (all_cards (vs ++ right ∷ [])) up c (⊎_elim (λ u. let q = in_all s.views id v u.0 c at u.1 in r.rule.logs.notes q.0 c q.1) (λ u. r.rule.logs.notes u.0 c u.1) (card_of_set s.views id left t.0 c t.1)))
    (card_of_snoc vs right p c e)))

saw-append : (w : Words) (l m : List (WordName × ℕ)) → AllSawNoMore w l → AllSawNoMore w m → AllSawNoMore w (l ++ m)
saw-append w [] m a b = b
saw-append w (q ∷ qs) m a b = (a.0, saw-append w qs m a.1 b)

knows_merged : (w : Words) (c d : Card) → Knows w c → Knows w d → Knows w (merged c d)
knows_merged w c d k l = let none = blank_knows w in record { seal = none.seal; number = none.number; saw = saw-append w c.saw d.saw k.saw l.saw }

looks-append : (cs : List Card) (l m : List (WordName × ℕ)) → LooksAllowed cs l → LooksAllowed cs m → LooksAllowed cs (l ++ m)
looks-append cs [] m a b = b
looks-append cs (q ∷ qs) m a b = (a.0, looks-append cs qs m a.1 b)

losses-append : (cs : List Card) (l m : List (OBlock × ℕ)) → LossesAllowed cs l → LossesAllowed cs m → LossesAllowed cs (l ++ m)
losses-append cs [] m a b = b
losses-append cs (q ∷ qs) m a b = (a.0, losses-append cs qs m a.1 b)

notes_merged : (cs : List Card) (c d : Card) → NotesWhatWas cs c → NotesWhatWas cs d → NotesWhatWas cs (merged c d)
notes_merged cs c d k l = record {
  looks = looks-append cs c.saw d.saw k.looks l.looks;
  losses = losses-append cs c.lost d.lost k.losses l.losses;
  shared = λ b. omega arith;
  owned = λ b. let x = k.owned b in let y = l.owned b in omega (arith, total-append (is_block b) c.kept d.kept, total-append (is_own b) c.took d.took);
  sealed = λ b h. let o = total-append (is_own b) c.took d.took in let t = total-append (seal_count b) c.stored d.stored in
      dite (ℕ_discrete (seals_on b c) 0) (λ none. let y = l.sealed b (omega arith) in omega arith) (λ has. let x = k.sealed b (omega arith) in omega arith);
  kept = λ b. let x = k.kept b in let y = l.kept b in omega (arith, total-append (is_block b) c.kept d.kept, total-append (is_bit Failed) c.set d.set, total-append (is_bit Suspended) c.set d.set);
}

module _ (c d : Card) where
  pub merged_writes : (b : ℕ) → writes_on b (merged c d) ≡ writes_on b c + writes_on b d
  merged_writes b = total-append (count_of_write b) c.added d.added

  pub merged_counts : (kind : Kind) → counts_of kind (merged c d) ≡ counts_of kind c + counts_of kind d
  merged_counts kind = total-append (is_count kind) c.added d.added

-- two seats' views are put together
pub joined_ruled : (n id : ℕ) (v : View) (other : ℕ) (w both : View) (s : State ℕ View) (r : Ruled n s) → get_elem? s.views id ≡ some v → other ≢ id → get_elem? (set s.views id both) other ≡ some w → v.fraction.pieces ≢ 0
    → both.fraction ≡ together v.fraction w.fraction → both.blocks ≡ v.blocks → both.fail ≡ v.fail ++ w.fail → AllHaveParts both.sides → both.words ≡ None
    → LockRule n (decode s.words) (all_cards (set (set s.views id both) other spent)) → Ruled n record { words = s.words; homes = s.homes; views = set (set s.views id both) other spent }
joined_ruled n id v other w both s r at apart there some_part fraction blocks fail sides words rule = let vs : List View = set s.views id both in
    let stood : get_elem? s.views other ≡ some w = sym (set_else s.views id other both apart) ∙ there in record {
      wide = r.wide;
      rule = rule;
      parts = join_parts s.views id v both other w spent at apart there fraction refl refl r.parts;
      bare = λ j u e z. ⊎_elim (λ (t : (j ≡ other) × (spent ≡ u)). ap (λ (y : View). y.cards) (sym t.1))
          (λ (t : (j ≢ other) × (get_elem? vs j ≡ some u)). ⊎_elim (λ (q : (j ≡ id) × (both ≡ u)). absurd (some_part (piece_of u (ap (λ (p : Fraction). p.pieces) (sym fraction) ∙ (ap (λ (y : View). y.fraction.pieces) q.1 ∙ z)))))
          (λ (q : (j ≢ id) × (get_elem? s.views j ≡ some u)). r.bare j u q.1 z) (at_set s.views id j both u t.1)) (at_set vs other j spent u e);
      sized = λ j u e more. ⊎_elim (λ (t : (j ≡ other) × (spent ≡ u)). absurd (more (ap (λ (y : View). y.fraction.pieces) (sym t.1))))
          (λ (t : (j ≢ other) × (get_elem? vs j ≡ some u)). ⊎_elim (λ (q : (j ≡ id) × (both ≡ u)). ap (λ (y : View). y.blocks) (sym q.1) ∙ (blocks ∙ r.sized id v at some_part))
          (λ (q : (j ≢ id) × (get_elem? s.views j ≡ some u)). r.sized j u q.1 more) (at_set s.views id j both u t.1)) (at_set vs other j spent u e);
      floor = λ j u e. ⊎_elim (λ (t : (j ≡ other) × (spent ≡ u)). subst (λ (y : View). HasBits (decode s.words).fail y.fail) t.1 tt)
          (λ (t : (j ≢ other) × (get_elem? vs j ≡ some u)). ⊎_elim (λ (q : (j ≡ id) × (both ≡ u)). subst (λ (y : View). HasBits (decode s.words).fail y.fail) q.1
          (subst (HasBits (decode s.words).fail) (sym fail) (has_both _ v.fail w.fail (r.floor id v at) (r.floor other w stood))))
          (λ (q : (j ≢ id) × (get_elem? s.views j ≡ some u)). r.floor j u q.1) (at_set s.views id j both u t.1)) (at_set vs other j spent u e);
      sides = λ j u e. ⊎_elim (λ (t : (j ≡ other) × (spent ≡ u)). subst (λ (y : View). AllHaveParts y.sides) t.1 tt)
          (λ (t : (j ≢ other) × (get_elem? vs j ≡ some u)). ⊎_elim (λ (q : (j ≡ id) × (both ≡ u)). subst (λ (y : View). AllHaveParts y.sides) q.1 sides)
          (λ (q : (j ≢ id) × (get_elem? s.views j ≡ some u)). r.sides j u q.1) (at_set s.views id j both u t.1)) (at_set vs other j spent u e);
      known = λ j u ws e is. ⊎_elim (λ (t : (j ≡ other) × (spent ≡ u)). absurd (none-some ws (ap (λ (y : View). y.words) t.1 ∙ is)))
          (λ (t : (j ≢ other) × (get_elem? vs j ≡ some u)). ⊎_elim (λ (q : (j ≡ id) × (both ≡ u)). absurd (none-some ws (sym words ∙ (ap (λ (y : View). y.words) q.1 ∙ is))))
          (λ (q : (j ≢ id) × (get_elem? s.views j ≡ some u)). absurd (crowd s.views r.parts id v j u at some_part q.0 q.1 (r.known j u ws q.1 is).1)) (at_set s.views id j both u t.1)) (at_set vs other j spent u e);
    }
  where
    piece_of : (u : View) → (together v.fraction w.fraction).pieces ≡ 0 → v.fraction.pieces ≡ 0
    piece_of u z = let l = doubled-le v.fraction.pieces (w.fraction.halvings - v.fraction.halvings) in omega arith

pub joins : (n id : ℕ) (v : View) (other : ℕ) (w : View) (c d : Card) → v.cards ≡ c ∷ [] → w.cards ≡ d ∷ [] → c.hold ≡ Nothing → d.hold ≡ Nothing → Joins (Ruled n) id v other w (joined v w) spent
joins n id v other w c d vc wc ch dh s r at apart there =
    let both : View = joined v w in let vs : List View = set s.views id both in let us : List View = set vs other spent in
    let stood : get_elem? s.views other ≡ some w = sym (set_else s.views id other both apart) ∙ there in
    let cards : both.cards ≡ merged c d ∷ [] = λ j. merged_cards (vc j) (wc j) in
    let some_part : v.fraction.pieces ≢ 0 = has_part n s r id 0 v c at (first_has v.cards c vc) in
    let same : (f : Card → ℕ) → f (merged c d) ≡ f c + f d → total f (all_cards us) ≡ total f (all_cards s.views) = λ f sum.
    let a = cards_sum f s.views id v both at in let b = cards_sum f vs other w spent there in
    let x : total f both.cards ≡ f (merged c d) + 0 = ap (total f) cards in let y : total f v.cards ≡ f c + 0 = ap (total f) vc in let z : total f w.cards ≡ f d + 0 = ap (total f) wc in omega arith in
    let ck : Knows (decode s.words) c = let q = in_all s.views id v 0 c at (first_has v.cards c vc) in r.rule.knows q.0 c q.1 in
    let dk : Knows (decode s.words) d = let q = in_all s.views other w 0 d stood (first_has w.cards d wc) in r.rule.knows q.0 d q.1 in
    let all : AllSame (all_cards s.views) (all_cards us) = record {
      shared = λ b. same (shared_of b) (total-append (is_share b) c.took d.took);
      owned = λ b. same (owned_of b) (total-append (is_own b) c.took d.took);
      stored = λ b x. same (stores b x) (total-append (seal_times b x) c.stored d.stored);
      sealed = λ b. same (seals_on b) (total-append (seal_count b) c.stored d.stored);
      last = λ b x. same (ends b x) (total-append (is_newest b x) c.stored d.stored);
      bits = λ bit. same (times_set bit) (total-append (is_bit bit) c.set d.set);
    } in
    let up : AllNoLess (all_cards s.views) (all_cards us) = no_less_same (all_cards s.views) (all_cards us) all (λ kind. same (counts_of kind) (merged_counts c d kind)) in
    let cn : NotesWhatWas (all_cards us) c = notes_on (all_cards s.views) (all_cards us) up c (let q = in_all s.views id v 0 c at (first_has v.cards c vc) in r.rule.logs.notes q.0 c q.1) in
    let dn : NotesWhatWas (all_cards us) d = notes_on (all_cards s.views) (all_cards us) up d (let q = in_all s.views other w 0 d stood (first_has w.cards d wc) in r.rule.logs.notes q.0 d q.1) in
    joined_ruled n id v other w both s r at apart there some_part refl refl refl tt refl
    (rule_from n (decode s.words) (all_cards s.views) (all_cards us) r.rule
    (λ b. same (sharers b) (let x : shares b c.hold ≡ 0 = ap (shares b) ch in let y : shares b d.hold ≡ 0 = ap (shares b) dh in omega arith))
    (λ b. same (owners b) (let x : owns b c.hold ≡ 0 = ap (owns b) ch in let y : owns b d.hold ≡ 0 = ap (owns b) dh in omega (arith, total-append (is_block b) c.kept d.kept)))
    (λ b. same (writes_on b) (merged_writes c d b)) (λ kind. same (counts_of kind) (merged_counts c d kind)) all
    (λ p e g. ⊎_elim (λ t. absurd (some-ne-none e (sym t.1)))
    (λ t. ⊎_elim (λ u. merged_at u.0 e (subst (λ (l : List Card). get_elem? l u.0 ≡ some e) cards u.1) ck dk) (λ u. r.rule.knows u.0 e u.1) (card_of_set s.views id both t.0 e t.1)) (card_of_set vs other spent p e g))
    (λ p e g. ⊎_elim (λ t. absurd (some-ne-none e (sym t.1)))
    (λ t. ⊎_elim (λ u. notes_at u.0 e (subst (λ (l : List Card). get_elem? l u.0 ≡ some e) cards u.1) cn dn) (λ u. notes_on (all_cards s.views) (all_cards us) up e (r.rule.logs.notes u.0 e u.1)) (card_of_set s.views id both t.0 e t.1)) (card_of_set vs other spent p e g)))
  where
    notes_at : (q : ℕ) (e : Card) → get_elem? (merged c d ∷ []) q ≡ some e → NotesWhatWas (all_cards (set (set s.views id (joined v w)) other spent)) c → NotesWhatWas (all_cards (set (set s.views id (joined v w)) other spent)) d → NotesWhatWas (all_cards (set (set s.views id (joined v w)) other spent)) e
    notes_at zero e g k l = subst (NotesWhatWas (all_cards (set (set s.views id (joined v w)) other spent))) (some-injective (merged c d) e g) (notes_merged (all_cards (set (set s.views id (joined v w)) other spent)) c d k l)
    notes_at (suc q) e g k l = absurd (some-ne-none e (sym g))

    merged_at : (q : ℕ) (e : Card) → get_elem? (merged c d ∷ []) q ≡ some e → Knows (decode s.words) c → Knows (decode s.words) d → Knows (decode s.words) e
    merged_at zero e g k l = subst (Knows (decode s.words)) (some-injective (merged c d) e g) (knows_merged (decode s.words) c d k l)
    merged_at (suc q) e g k l = absurd (some-ne-none e (sym g))

pub joined_card : (v w : View) (c d : Card) → v.cards ≡ c ∷ [] → w.cards ≡ d ∷ [] → card_at 0 (joined v w) ≡ merged c d
joined_card v w c d vc wc = λ j. get_or (merged_cards (vc j) (wc j)) 0 blank_card
