-- Each step may be made.
use Rattle.std.proofs.Common.{◌≡◌, ◌≢◌, ℕ, zero, suc, ◌+◌, ◌-◌, ◌*◌, ◌%◌, ◌^◌, ◌<◌, ◌≤◌, Bool, true, false, if◌then◌else◌, eqb, List, [], ◌∷◌, length, set, replicate, sym, refl, ap, ◌∙◌, subst, ⊎_elim, arith, Some, bit_or}
use Rattle.std.proofs.lemmas.List.{append-nil, length-replicate}
use Rattle.std.proofs.lemmas.Bool.{eqb-true}
use Rattle.std.proofs.lemmas.Nat.Bits.{bit_at_or, bit_at-lt}
use Rattle.std.proofs.lemmas.Bool.Decides.{eqb_tells}
use mathlib.Core.Option.{some, some-injective, some-ne-none}
use lib.ListN.{get_elem?}
use prog.Atomic.{either}
use Rattle.atomic_table.specs.Table.{Me, Allows, opening}
use Rattle.wb_types.specs.declared.number.OBlock.{OBlock}
use Rattle.wb_words.specs.declared.word.Access.{Access}
use Rattle.wb_words.specs.declared.word.Access.TheVariants.{Shared, Owned}
use Rattle.wb_words.specs.declared.word.Kind.{Kind}
use Rattle.wb_words.specs.declared.word.Kind.TheVariants.{ReadHit, ReadMiss, WriteHit, WriteMiss}
use Rattle.wb_words.specs.declared.word.Word.{Word as WordName}
use Rattle.wb_words.specs.declared.word.Word.TheVariants.{Cell as LockWord, Seal as SealWord, Number, Count as CountWord, Fail}
use Rattle.wb_words.specs.SharedWords.{Words, word_at, value_of, with_cell, can_take, taken, given_back, one_more, counted}
use Rattle.wb_words.specs.declared.card.Hold.TheVariants.{Nothing, Held}
use Rattle.wb_words.specs.declared.card.Card.{Card}
use Rattle.wb_cells.specs.declared.view.View.{View}
use Rattle.wb_words.specs.SharedWords.{IsWord, HasBits, put, bit_word, bit_number}
use Rattle.wb_words.specs.declared.word.FailBit.{FailBit}
use Rattle.wb_words.specs.declared.word.FailBit.TheVariants.{Failed, Suspended}
use Rattle.wb_cells.specs.Flat.{index_of, decode}
use Rattle.wb_words.specs.Cards.{blank_card, looked, losing, holding, sealing, finishing, counting, failing}
use Rattle.wb_words.specs.Rule.{LockRule}
use Rattle.wb_cells.specs.Fractions.{IsWhole}
use Rattle.wb_cells.specs.Views.{Ruled, AllHaveParts, first_view}
use Rattle.wb_cells.specs.Crews.{IsCrew}
use Rattle.wb_words.specs.Looks.{Finds}
use Rattle.wb_cells.specs.Moves.{card_at, SeatMoves}
use Rattle.wb_words.proofs.Values.{put_same, put_count}
use Rattle.wb_cells.proofs.Decoding.{decode_fresh}
use Rattle.wb_cells.proofs.Core.{steps, some_is}
use Rattle.wb_words.proofs.RuleKept.{look_keeps, loss_keeps, take_keeps, release_keeps, seal_keeps, finish_keeps, count_keeps, fail_keeps, finds, has_room, fresh_rule}

-- a step that leaves the fail word
same_fail : (old new : ℕ) → new ≡ old → ((bits : List FailBit) → HasBits old bits → HasBits new bits) × HasBits new []
same_fail old new e = ((λ bits h. subst (λ (z : ℕ). HasBits z bits) (sym e) h), tt)

-- a bit that is set leaves every other
bits_on : (x y : ℕ) (bits : List FailBit) → HasBits x bits → HasBits (bit_or x y) bits
bits_on x y [] h = tt
bits_on x y (bit ∷ bits) h = let i : ℕ = bit_number bit in let small = bit_at-lt y i in let one = h.0 in (bit_at_or x y i ∙ (omega arith), bits_on x y bits h.1)

bit_new : (x : ℕ) (bit : FailBit) → HasBits (bit_or x (bit_word bit)) (bit ∷ [])
bit_new x Failed = let small = bit_at-lt x 0 in (bit_at_or x 1 0 ∙ (omega arith), tt)
bit_new x Suspended = let small = bit_at-lt x 1 in (bit_at_or x 2 1 ∙ (omega arith), tt)

count_fail : (w : Words) (kind : Kind) (x : ℕ) → (put w (CountWord kind) x).fail ≡ w.fail
count_fail w ReadHit x = refl
count_fail w ReadMiss x = refl
count_fail w WriteHit x = refl
count_fail w WriteMiss x = refl

-- the lock word that an exchange puts
raised : (access : Access) (seen : ℕ) → can_take access seen ≡ true → seen + taken access 0 ≡ taken access seen
raised Shared seen can = omega arith
raised Owned seen can = let z = eqb-true seen 0 can in omega arith

module _ (n slots id : ℕ) (me : Me ℕ View) (k : ℕ) (turn : k < length me.0.cards) where
  pub allow_look : (word : WordName) → IsWord n word
      → Allows (Ruled n) slots id me (index_of word) (λ x. x) (λ x. SeatMoves [] k (λ c d. (d ≡ looked word x c) × Finds word x c × (word ≡ Fail → HasBits x me.0.fail)) (λ was now. (x ≡ value_of was word) × (now ≡ was)) me)
  allow_look word named = let c : Card = card_at k me.0 in steps n slots id word k me (λ x. x) [] (λ x c d. (d ≡ looked word x c) × Finds word x c × (word ≡ Fail → HasBits x me.0.fail)) (λ x was now. (x ≡ value_of was word) × (now ≡ was)) named turn
      (λ w cs p x r at floor is _. (
        looked word x c,
        subst (λ (z : ℕ). LockRule n (put w word z) (set cs p (looked word z c))) (sym is) (subst (λ (u : Words). LockRule n u (set cs p (looked word (value_of w word) c))) (sym (put_same w word)) (look_keeps n w cs p c r at word named)),
        (refl, subst (λ (z : ℕ). Finds word z c) (sym is) (finds w word c (r.knows p c at)), λ e. subst (λ (z : ℕ). HasBits z me.0.fail) (sym (is ∙ ap (value_of w) e)) floor),
        (is, ap (put w word) is ∙ put_same w word),
      )) (λ w x is. same_fail w.fail (put w word x).fail (ap (λ (u : Words). u.fail) (ap (put w word) is ∙ put_same w word)))

  -- an exchange may be lost
  take_at : (access : Access) (b : OBlock) (seen : ℕ) → b.0 < n → (card_at k me.0).hold ≡ Nothing → can_take access seen ≡ true
      → Allows (Ruled n) slots id me (index_of (LockWord b)) (λ x. either (eqb x seen) (taken access seen) x)
      (λ x. SeatMoves [] k (λ c d. d ≡ (if eqb x seen then holding (Held access b) c else losing b x c))
      (λ was now. (x ≡ word_at was.cells b) × (now ≡ (if eqb x seen then with_cell was b (taken access seen) else was))) me)
  take_at access b seen named idle can = let c : Card = card_at k me.0 in let f : ℕ → ℕ = λ x. either (eqb x seen) (taken access seen) x in
      let Q : ℕ → Card → Card → Type 0 = λ x c d. d ≡ (if eqb x seen then holding (Held access b) c else losing b x c) in
      let E : ℕ → Words → Words → Type 0 = λ x was now. (x ≡ word_at was.cells b) × (now ≡ (if eqb x seen then with_cell was b (taken access seen) else was)) in
      steps n slots id (LockWord b) k me f [] Q E named turn
      (λ w cs p x r at floor is _. ⊎_elim
      (λ (hit : (eqb x seen ≡ true) × (x ≡ seen)). (
        holding (Held access b) c,
        subst (λ (t : Bool). LockRule n (put w (LockWord b) (either t (taken access seen) x)) (set cs p (holding (Held access b) c))) (sym hit.0) (take_keeps n w cs p c r at access b seen named idle (sym is ∙ hit.1) can),
        ap (λ (t : Bool). if t then holding (Held access b) c else losing b x c) (sym hit.0),
        (is, ap (λ (t : Bool). with_cell w b (either t (taken access seen) x)) hit.0 ∙ ap (λ (t : Bool). if t then with_cell w b (taken access seen) else w) (sym hit.0)),
      ))
      (λ (miss : (eqb x seen ≡ false) × (x ≢ seen)). (
        losing b x c,
        subst (λ (t : Bool). LockRule n (put w (LockWord b) (either t (taken access seen) x)) (set cs p (losing b x c))) (sym miss.0)
            (subst (λ (u : Words). LockRule n u (set cs p (losing b x c))) (sym (ap (with_cell w b) is ∙ put_same w (LockWord b))) (subst (λ (z : ℕ). LockRule n w (set cs p (losing b z c))) (sym is) (loss_keeps n w cs p c r at b named))),
        ap (λ (t : Bool). if t then holding (Held access b) c else losing b x c) (sym miss.0),
        (is, ap (λ (t : Bool). with_cell w b (either t (taken access seen) x)) miss.0 ∙ ((ap (with_cell w b) is ∙ put_same w (LockWord b)) ∙ ap (λ (t : Bool). if t then with_cell w b (taken access seen) else w) (sym miss.0))),
      )) (eqb_tells x seen)) (λ w x is. same_fail w.fail w.fail refl)

  pub allow_take : (access : Access) (b : OBlock) (seen weight : ℕ) → weight ≡ taken access 0 → b.0 < n → (card_at k me.0).hold ≡ Nothing → can_take access seen ≡ true
      → Allows (Ruled n) slots id me (index_of (LockWord b)) (λ x. either (eqb x seen) (seen + weight) x)
      (λ x. SeatMoves [] k (λ c d. d ≡ (if eqb x seen then holding (Held access b) c else losing b x c))
      (λ was now. (x ≡ word_at was.cells b) × (now ≡ (if eqb x seen then with_cell was b (taken access seen) else was))) me)
  allow_take access b seen weight is named idle can = subst (λ (new : ℕ). Allows (Ruled n) slots id me (index_of (LockWord b)) (λ x. either (eqb x seen) new x)
      (λ x. SeatMoves [] k (λ c d. d ≡ (if eqb x seen then holding (Held access b) c else losing b x c))
      (λ was now. (x ≡ word_at was.cells b) × (now ≡ (if eqb x seen then with_cell was b (taken access seen) else was))) me))
      (sym (ap (λ (z : ℕ). seen + z) is ∙ raised access seen can)) (take_at access b seen named idle can)

  pub allow_release : (access : Access) (b : OBlock) (less : ℕ) → less ≡ taken access 0 → b.0 < n → (card_at k me.0).hold ≡ Held access b
      → Allows (Ruled n) slots id me (index_of (LockWord b)) (λ x. (x + (2 ^ 64 - less)) % 2 ^ 64)
      (λ x. SeatMoves [] k (λ c d. d ≡ holding Nothing c) (λ was now. now ≡ with_cell was b (given_back access (word_at was.cells b))) me)
  allow_release access b less what named own = let c : Card = card_at k me.0 in
      steps n slots id (LockWord b) k me (λ x. (x + (2 ^ 64 - less)) % 2 ^ 64) [] (λ x c d. d ≡ holding Nothing c) (λ x was now. now ≡ with_cell was b (given_back access (word_at was.cells b))) named turn
      (λ w cs p x r at floor is _. let kept = release_keeps n w cs p c r at access b named own in
      let same : (x + (2 ^ 64 - less)) % 2 ^ 64 ≡ given_back access (word_at w.cells b) = ap (λ (z : ℕ). (z + (2 ^ 64 - less)) % 2 ^ 64) is ∙ (ap (λ (z : ℕ). (word_at w.cells b + (2 ^ 64 - z)) % 2 ^ 64) what ∙ kept.1) in (
        holding Nothing c,
        subst (λ (z : ℕ). LockRule n (with_cell w b z) (set cs p (holding Nothing c))) (sym same) kept.0,
        refl,
        ap (with_cell w b) same,
      )) (λ w x is. same_fail w.fail w.fail refl)

  pub allow_seal : (b : OBlock) (seal : ℕ) → b.0 < n → (card_at k me.0).hold ≡ Held Owned b
      → Allows (Ruled n) slots id me (index_of (SealWord b)) (λ _. seal) (λ _. SeatMoves [] k (λ c d. d ≡ sealing b seal c) (λ was now. now ≡ put was (SealWord b) seal) me)
  allow_seal b seal named own = let c : Card = card_at k me.0 in
      steps n slots id (SealWord b) k me (λ _. seal) [] (λ _ c d. d ≡ sealing b seal c) (λ _ was now. now ≡ put was (SealWord b) seal) named turn
      (λ w cs p x r at floor is _. (sealing b seal c, seal_keeps n w cs p c r at b seal named own, refl, refl)) (λ w x is. same_fail w.fail w.fail refl)

  pub allow_finish : (b : OBlock) (y : ℕ) → b.0 < n → (card_at k me.0).hold ≡ Held Owned b → (card_at k me.0).number ≡ Some y → y ≢ 18446744073709551615
      → Allows (Ruled n) slots id me (index_of (Number b)) (λ x. (x + 1) % 2 ^ 64) (λ x. SeatMoves [] k (λ c d. d ≡ finishing b c) (λ was now. now ≡ put was (Number b) (one_more (word_at was.numbers b))) me)
  allow_finish b y named own known room = let c : Card = card_at k me.0 in
      steps n slots id (Number b) k me (λ x. (x + 1) % 2 ^ 64) [] (λ x c d. d ≡ finishing b c) (λ x was now. now ≡ put was (Number b) (one_more (word_at was.numbers b))) named turn
      (λ w cs p x r at floor is _. (
        finishing b c,
        subst (λ (z : ℕ). LockRule n (put w (Number b) (one_more z)) (set cs p (finishing b c))) (sym is) (finish_keeps n w cs p c r at b y named own known (has_room n w cs p c r at b y named own known room)),
        refl,
        ap (λ (z : ℕ). put w (Number b) (one_more z)) is,
      )) (λ w x is. same_fail w.fail w.fail refl)

  pub allow_count : (kind : Kind) → Allows (Ruled n) slots id me (index_of (CountWord kind)) (λ x. (x + 1) % 2 ^ 64) (λ x. SeatMoves [] k (λ c d. d ≡ counting kind c) (λ was now. now ≡ counted was kind) me)
  allow_count kind = let c : Card = card_at k me.0 in
      steps n slots id (CountWord kind) k me (λ x. (x + 1) % 2 ^ 64) [] (λ x c d. d ≡ counting kind c) (λ x was now. now ≡ counted was kind) tt turn
      (λ w cs p x r at floor is _. (
        counting kind c,
        subst (λ (z : ℕ). LockRule n (put w (CountWord kind) (one_more z)) (set cs p (counting kind c))) (sym is) (count_keeps n w cs p c r at kind),
        refl,
        ap (λ (z : ℕ). put w (CountWord kind) (one_more z)) is ∙ put_count w kind,
      )) (λ w x is. same_fail w.fail (put w (CountWord kind) ((x + 1) % 2 ^ 64)).fail (count_fail w kind ((x + 1) % 2 ^ 64)))

  allow_bit : (bit : FailBit) → Allows (Ruled n) slots id me 0 (λ x. bit_or x (bit_word bit)) (λ x. SeatMoves (bit ∷ []) k (λ c d. d ≡ failing bit c) (λ was now. now ≡ put was Fail (bit_or was.fail (bit_word bit))) me)
  allow_bit bit = let c : Card = card_at k me.0 in
      steps n slots id Fail k me (λ x. bit_or x (bit_word bit)) (bit ∷ []) (λ x c d. d ≡ failing bit c) (λ x was now. now ≡ put was Fail (bit_or was.fail (bit_word bit))) tt turn
      (λ w cs p x r at floor is _. (
        failing bit c,
        subst (λ (z : ℕ). LockRule n (put w Fail (bit_or z (bit_word bit))) (set cs p (failing bit c))) (sym is) (fail_keeps n w cs p c r at bit),
        refl,
        ap (λ (z : ℕ). put w Fail (bit_or z (bit_word bit))) is,
      ))
      (λ w x is. ((λ bits h. bits_on x (bit_word bit) bits (subst (λ (z : ℕ). HasBits z bits) (sym is) h)), bit_new x bit))

  pub allow_fail : (bit : FailBit) (value : ℕ) → value ≡ bit_word bit
      → Allows (Ruled n) slots id me 0 (λ x. bit_or x value) (λ x. SeatMoves (bit ∷ []) k (λ c d. d ≡ failing bit c) (λ was now. now ≡ put was Fail (bit_or was.fail (bit_word bit))) me)
  allow_fail bit value is = subst (λ (z : ℕ). Allows (Ruled n) slots id me 0 (λ x. bit_or x z) (λ x. SeatMoves (bit ∷ []) k (λ c d. d ≡ failing bit c) (λ was now. now ≡ put was Fail (bit_or was.fail (bit_word bit))) me))
      (sym is) (allow_bit bit)

-- the opening
pub starts : (n m : ℕ) → Ruled n (opening (replicate (3 * n + 5) 0) [] (first_view n m))
starts n m = record {
  wide = length-replicate (3 * n + 5) 0;
  rule = subst (λ (z : Words × List Card). LockRule n z.0 z.1) (λ j. (sym (decode_fresh n) j, sym (append-nil (replicate m blank_card)) j)) (fresh_rule n m);
  parts = record { depth = 0; deep = λ j v e. first_deep j v e; sum = refl };
  bare = λ j v e z. absurd (first_parts j v e z);
  sized = λ j v e more. first_blocks j v e;
  floor = λ j v e. first_floor j v e;
  sides = λ j v e. first_sides j v e;
  known = λ j v ws e is. first_words j v ws e is;
}
  where
    first_deep : (j : ℕ) (v : View) → get_elem? (first_view n m ∷ []) j ≡ some v → v.fraction.halvings ≤ 0
    first_deep zero v e = let h : 0 ≡ v.fraction.halvings = ap (λ (u : View). u.fraction.halvings) (some-injective (first_view n m) v e) in omega arith
    first_deep (suc j) v e = absurd (some-ne-none v (sym e))

    first_floor : (j : ℕ) (v : View) → get_elem? (first_view n m ∷ []) j ≡ some v → HasBits (decode (replicate (3 * n + 5) 0)).fail v.fail
    first_floor zero v e = subst (λ (u : View). HasBits (decode (replicate (3 * n + 5) 0)).fail u.fail) (some-injective (first_view n m) v e) tt
    first_floor (suc j) v e = absurd (some-ne-none v (sym e))

    first_sides : (j : ℕ) (v : View) → get_elem? (first_view n m ∷ []) j ≡ some v → AllHaveParts v.sides
    first_sides zero v e = subst (λ (u : View). AllHaveParts u.sides) (some-injective (first_view n m) v e) tt
    first_sides (suc j) v e = absurd (some-ne-none v (sym e))

    first_parts : (j : ℕ) (v : View) → get_elem? (first_view n m ∷ []) j ≡ some v → v.fraction.pieces ≡ 0 → ⊥
    first_parts zero v e z = let w : 1 ≡ v.fraction.pieces = ap (λ (u : View). u.fraction.pieces) (some-injective (first_view n m) v e) in omega arith
    first_parts (suc j) v e z = some-ne-none v (sym e)

    first_blocks : (j : ℕ) (v : View) → get_elem? (first_view n m ∷ []) j ≡ some v → v.blocks ≡ n
    first_blocks zero v e = ap (λ (u : View). u.blocks) (sym (some-injective (first_view n m) v e))
    first_blocks (suc j) v e = absurd (some-ne-none v (sym e))

    first_words : (j : ℕ) (v : View) (ws : List ℕ) → get_elem? (first_view n m ∷ []) j ≡ some v → v.words ≡ Some ws → (ws ≡ replicate (3 * n + 5) 0) × IsWhole v.fraction
    first_words zero v ws e is = let same : Some (replicate (3 * n + 5) 0) ≡ Some ws = ap (λ (u : View). u.words) (some-injective (first_view n m) v e) ∙ is in
        (some_is _ _ (sym same), subst (λ (u : View). IsWhole u.fraction) (some-injective (first_view n m) v e) refl)
    first_words (suc j) v ws e is = absurd (some-ne-none v (sym e))

pub crew_opened : (n b m : ℕ) (v : View) → b ≡ n → v ≡ first_view n m → IsCrew b v
crew_opened n b m v same is = subst (λ (z : ℕ × View). IsCrew z.0 z.1) (λ j. (sym same j, sym is j))
    record { all = refl; sized = refl; known = refl; rule = subst (λ (w : Words). LockRule n w (replicate m blank_card)) (sym (decode_fresh n)) (fresh_rule n m) }
