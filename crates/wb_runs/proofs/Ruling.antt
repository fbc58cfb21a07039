-- The rule of the shared words, over the cards of actors of whom one changes.
use Rattle.std.proofs.Common.{◌≡◌, ◌∙◌, inl, inr, ℕ, zero, suc, List, [], ◌∷◌, Some, refl, sym, ap, subst, length, slice_get, slice_set, map, replicate}
use Rattle.std.proofs.lemmas.Bool.{cases_eq}
use mathlib.Core.Option.{some}
use lib.ListN.{get_elem?}
use Rattle.wb_words.specs.declared.card.Card.{Card}
use Rattle.wb_words.specs.declared.step.CellStep.{CellStep}
use Rattle.wb_words.specs.SharedWords.{Words, fresh_words}
use Rattle.wb_words.specs.Cards.{blank_card}
use Rattle.wb_words.specs.Rule.{LockRule}
use Rattle.wb_words.specs.Effects.{words_after, card_after}
use Rattle.wb_words.specs.Ready.{IsReady}
use Rattle.wb_words.proofs.RuleKept.{step_keeps, fresh_rule}
use Rattle.wb_promise.specs.States.{Actor, resting}
use Rattle.wb_runs.specs.Holding.{cards_of}
use Rattle.wb_contents.proofs.Lists.{set_other, set_there}

pub cards_set : (xs : List Actor) (i : ℕ) (y : Actor) → cards_of (slice_set xs i y) ≡ slice_set (cards_of xs) i y.card
cards_set [] i y = refl
cards_set (x ∷ xs) zero y = refl
cards_set (x ∷ xs) (suc i) y = ap (λ cs. x.card ∷ cs) (cards_set xs i y)

pub card_at : (xs : List Actor) (i : ℕ) (x : Actor) → slice_get xs i ≡ Some x → get_elem? (cards_of xs) i ≡ some x.card
card_at [] i x e = absurd (cc)
card_at (z ∷ xs) zero x e = let same : z ≡ x = cc in ap (λ (v : Actor). some v.card) same
card_at (z ∷ xs) (suc i) x e = card_at xs i x e

set_card : (xs : List Actor) (i : ℕ) (x : Actor) → slice_get xs i ≡ Some x → slice_set (cards_of xs) i x.card ≡ cards_of xs
set_card [] i x e = refl
set_card (z ∷ xs) zero x e = let same : z ≡ x = cc in ap (λ (v : Actor). v.card ∷ cards_of xs) (sym same)
set_card (z ∷ xs) (suc i) x e = ap (λ cs. z.card ∷ cs) (set_card xs i x e)

-- a step on the words keeps the rule
pub rule_after : (blocks : ℕ) (words : Words) (actors : List Actor) (a : ℕ) (x y : Actor) (step : CellStep) → LockRule blocks words (cards_of actors) → slice_get actors a ≡ Some x → IsReady blocks x.card step → y.card ≡ card_after words step x.card →
    LockRule blocks (words_after words step) (cards_of (slice_set actors a y))
rule_after blocks words actors a x y step r e ready is =
    subst (λ (cs : List Card). LockRule blocks (words_after words step) cs) (sym (cards_set actors a y ∙ ap (slice_set (cards_of actors) a) is))
    (step_keeps blocks words (cards_of actors) a x.card step r (card_at actors a x e) ready)

-- and so does one on anything else
pub rule_same : (blocks : ℕ) (words : Words) (actors : List Actor) (a : ℕ) (x y : Actor) → LockRule blocks words (cards_of actors) → slice_get actors a ≡ Some x → y.card ≡ x.card → LockRule blocks words (cards_of (slice_set actors a y))
rule_same blocks words actors a x y r e is =
    subst (λ (cs : List Card). LockRule blocks words cs) (sym (cards_set actors a y ∙ ap (slice_set (cards_of actors) a) is ∙ set_card actors a x e)) r

-- nobody knows anything
abbrev pub AllBlank : List Actor → Type 0
AllBlank actors = (a : ℕ) (x : Actor) → slice_get actors a ≡ Some x → x.card ≡ blank_card

pub blank_cards : (actors : List Actor) → AllBlank actors → cards_of actors ≡ replicate (length actors) blank_card
blank_cards [] b = refl
blank_cards (x ∷ xs) b =
    let rest = blank_cards xs (λ a z e. b (suc a) z e) in
    ap (λ (c : Card). c ∷ cards_of xs) (b zero x refl) ∙ ap (λ (cs : List Card). blank_card ∷ cs) rest

-- of fresh words that is the rule
pub fresh_ruled : (blocks : ℕ) (actors : List Actor) → AllBlank actors → LockRule blocks (fresh_words blocks) (cards_of actors)
fresh_ruled blocks actors b = subst (λ (cs : List Card). LockRule blocks (fresh_words blocks) cs) (sym (blank_cards actors b)) (fresh_rule blocks (length actors))

-- what holds of each actor holds of each once one has changed
pub each_set : (actors : List Actor) (a : ℕ) (x y : Actor) (Is : Actor → Type 0) → slice_get actors a ≡ Some x → Is y → ((b : ℕ) (z : Actor) → slice_get actors b ≡ Some z → Is z) →
    (b : ℕ) (z : Actor) → slice_get (slice_set actors a y) b ≡ Some z → Is z
each_set actors a x y Is e h all b z f = elim (cases_eq b a) [
  | inl s ↦ let here : Some y ≡ Some z = sym (set_there actors a x y e) ∙ ap (λ k. slice_get (slice_set actors a y) k) (sym s) ∙ f in
      let same : y ≡ z = cc in subst Is same h
  | inr m ↦ all b z (sym (set_other actors a b y m) ∙ f)
]

pub all_rest : (actors : List Actor) (a : ℕ) (x : Actor) → slice_get (map (λ (x : Actor). resting) actors) a ≡ Some x → x ≡ resting
all_rest [] a x e = absurd (cc)
all_rest (y ∷ ys) zero x e = cc
all_rest (y ∷ ys) (suc a) x e = all_rest ys a x e
