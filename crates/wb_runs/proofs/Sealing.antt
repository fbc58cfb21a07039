-- Who opens a target owns, seals and gives back each mapped block; so the words keep their rule, and it holds nothing then.
use Rattle.std.proofs.Common.{◌≡◌, ◌∙◌, ◌<◌, ◌==◌, ℕ, zero, suc, Bool, true, cond, List, [], ◌∷◌, Option, Some, None, refl, sym, ap, subst, slice_get, slice_set, slice_index_or, if◌then◌else◌, replicate}
use Rattle.std.specs.Prelude.{unwrap_or}
use mathlib.Core.Option.{some}
use lib.ListN.{get_elem?}
use Rattle.wb_types.specs.declared.entry.Entry.{Entry}
use Rattle.wb_types.specs.declared.number.OBlock.{OBlock}
use Rattle.wb_types.specs.declared.number.CBlock.{CBlock}
use Rattle.wb_words.specs.declared.word.Access.TheVariants.{Owned}
use Rattle.wb_words.specs.declared.word.Word.TheVariants.{Seal as SealWord}
use Rattle.wb_words.specs.declared.card.Card.{Card}
use Rattle.wb_words.specs.declared.card.Hold.TheVariants.{Nothing, Held}
use Rattle.wb_words.specs.declared.step.CellStep.{CellStep}
use Rattle.wb_words.specs.declared.step.CellStep.TheVariants.{Take, Seal, Release}
use Rattle.wb_words.specs.SharedWords.{Words, with_cell, put, seal_word}
use Rattle.wb_words.specs.Cards.{holding, losing, sealing}
use Rattle.wb_words.specs.Rule.{LockRule}
use Rattle.wb_words.specs.Effects.{words_after, card_after}
use Rattle.wb_words.proofs.RuleKept.{step_keeps}
use Rattle.wb_contents.proofs.Lists.{set_twice}
use Rattle.wb_promise.specs.Effects.{sealing_steps, words_by, card_by}

set_card : (cards : List Card) (a : ℕ) (c : Card) → get_elem? cards a ≡ some c → slice_set cards a c ≡ cards
set_card [] a c e = refl
set_card (d ∷ cards) zero c e = let same : d ≡ c = cc in ap (λ (x : Card). x ∷ cards) (sym same)
set_card (d ∷ cards) (suc a) c e = ap (λ cs. d ∷ cs) (set_card cards a c e)

card_set : (cards : List Card) (a : ℕ) (c d : Card) → get_elem? cards a ≡ some c → get_elem? (slice_set cards a d) a ≡ some d
card_set [] a c d e = absurd (cc)
card_set (x ∷ cards) zero c d e = refl
card_set (x ∷ cards) (suc a) c d e = card_set cards a c d e

-- nobody has taken a block
abbrev pub NoneTaken : List ℕ → Type 0
NoneTaken cells = (i : ℕ) → unwrap_or (slice_get cells i) 0 ≡ 0

taken_back : (cells : List ℕ) (i : ℕ) → NoneTaken cells → NoneTaken (slice_set (slice_set cells i 1) i 0)
taken_back [] i n j = refl
taken_back (x ∷ cells) zero n zero = refl
taken_back (x ∷ cells) zero n (suc j) = n (suc j)
taken_back (x ∷ cells) (suc i) n zero = n zero
taken_back (x ∷ cells) (suc i) n (suc j) = taken_back cells i (λ k. n (suc k)) j

pub fresh_taken : (k : ℕ) → NoneTaken (replicate k 0)
fresh_taken zero i = refl
fresh_taken (suc k) zero = refl
fresh_taken (suc k) (suc i) = fresh_taken k i

-- each entry is of one of so many blocks
abbrev pub EntriesInside : ℕ → List (Option Entry) → Type 0
EntriesInside blocks entries = (i : ℕ) (e : Entry) → slice_index_or entries i None ≡ Some e → e.origin.0 < blocks

module _ (blocks : ℕ) (clean : Bool) (a : ℕ) where
  -- words and the card of who seals, among the cards of all
  pub record Sealed (words : Words) (cards : List Card) (card : Card) : Type 0 where
    pub rule : LockRule blocks words (slice_set cards a card)
    pub nothing : card.hold ≡ Nothing
    pub none : NoneTaken words.cells

  -- one block
  module _ (words : Words) (cards : List Card) (card : Card) (b : OBlock) (place : Option CBlock) (dirty : Bool) (inside : b.0 < blocks) (r : LockRule blocks words cards) (here : get_elem? cards a ≡ some card) (nothing : card.hold ≡ Nothing) (none : NoneTaken words.cells) where
    abbrev owning : Card
    owning = holding (Held Owned b) card

    abbrev owned : Words
    owned = with_cell words b 1

    won_words : words_after words (Take Owned b 0) ≡ owned
    won_words = ap (λ (x : ℕ). if x == 0 then with_cell words b 1 else words) (none b.0)

    won_card : card_after words (Take Owned b 0) card ≡ owning
    won_card = ap (λ (x : ℕ). if x == 0 then holding (Held Owned b) card else losing b x card) (none b.0)

    rule_owned : LockRule blocks owned (slice_set cards a owning)
    rule_owned = subst (λ (ws : Words). LockRule blocks ws (slice_set cards a owning)) won_words
        (subst (λ (c : Card). LockRule blocks (words_after words (Take Owned b 0)) (slice_set cards a c)) won_card (step_keeps blocks words cards a card (Take Owned b 0) r here (inside, nothing, refl)))

    abbrev sealed : Words
    sealed = put owned (SealWord b) (seal_word place dirty)

    abbrev seals : Card
    seals = sealing b (seal_word place dirty) owning

    rule_sealed : LockRule blocks sealed (slice_set cards a seals)
    rule_sealed = subst (λ (cs : List Card). LockRule blocks sealed cs) (set_twice cards a owning seals)
        (step_keeps blocks owned (slice_set cards a owning) a owning (Seal b place dirty) rule_owned (card_set cards a card owning here) (inside, refl))

    abbrev given_words : Words
    given_words = with_cell sealed b 0

    abbrev given_card : Card
    given_card = holding Nothing seals

    rule_given : LockRule blocks given_words (slice_set cards a given_card)
    rule_given = subst (λ (cs : List Card). LockRule blocks given_words cs) (set_twice cards a seals given_card)
        (step_keeps blocks sealed (slice_set cards a seals) a seals (Release Owned b) rule_sealed (card_set cards a card seals here) (inside, refl))

    none_given : NoneTaken given_words.cells
    none_given = taken_back words.cells b.0 none

    three_words : (later : List CellStep) → words_by words (Take Owned b 0 ∷ Seal b place dirty ∷ Release Owned b ∷ later) ≡ words_by given_words later
    three_words later = ap (λ (ws : Words). words_by ws (Seal b place dirty ∷ Release Owned b ∷ later)) won_words

    three_card : (later : List CellStep) → card_by words card (Take Owned b 0 ∷ Seal b place dirty ∷ Release Owned b ∷ later) ≡ card_by given_words given_card later
    three_card later = ap (λ (ws : Words). card_by ws (card_after words (Take Owned b 0) card) (Seal b place dirty ∷ Release Owned b ∷ later)) won_words
        ∙ ap (λ (c : Card). card_by owned c (Seal b place dirty ∷ Release Owned b ∷ later)) won_card

  pub all_sealed : (c : ℕ) (entries : List (Option Entry)) (words : Words) (cards : List Card) (card : Card) → EntriesInside blocks entries → LockRule blocks words cards → get_elem? cards a ≡ some card → card.hold ≡ Nothing → NoneTaken words.cells →
      Sealed (words_by words (sealing_steps clean c entries)) cards (card_by words card (sealing_steps clean c entries))
  all_sealed c [] words cards card inside r here nothing none = record { rule = subst (λ (cs : List Card). LockRule blocks words cs) (sym (set_card cards a card here)) r; nothing = nothing; none = none }
  all_sealed c (None ∷ entries) words cards card inside r here nothing none = all_sealed (suc c) entries words cards card (λ i e f. inside (suc i) e f) r here nothing none
  all_sealed c (Some entry ∷ entries) words cards card inside r here nothing none =
      let b = entry.origin in
      let place : Option CBlock = Some (record { 0 = c }) in
      let dirty = cond clean entry.dirty true in
      let in_b = inside 0 entry refl in
      let cards' = slice_set cards a (given_card words cards card b place dirty in_b r here nothing none) in
      let ws = given_words words cards card b place dirty in_b r here nothing none in
      let cd = given_card words cards card b place dirty in_b r here nothing none in
      let steps = sealing_steps clean (suc c) entries in
      let rest = all_sealed (suc c) entries ws cards' cd (λ i e f. inside (suc i) e f) (rule_given words cards card b place dirty in_b r here nothing none) (card_set cards a card cd here) refl (none_given words cards card b place dirty in_b r here nothing none) in
      subst (λ (x : Words). Sealed x cards (card_by words card (sealing_steps clean c (Some entry ∷ entries)))) (sym (three_words words cards card b place dirty in_b r here nothing none steps))
      (subst (λ (x : Card). Sealed (words_by ws steps) cards x) (sym (three_card words cards card b place dirty in_b r here nothing none steps))
      (record { rule = subst (λ (cs : List Card). LockRule blocks (words_by ws steps) cs) (set_twice cards a cd (card_by ws cd steps)) rest.rule; nothing = rest.nothing; none = rest.none }))
