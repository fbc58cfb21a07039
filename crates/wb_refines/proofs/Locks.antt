-- What the rule of the shared words tells of abstract actors: who has a block by its card wins it there.
use Rattle.std.proofs.Common.{◌≡◌, ◌≢◌, ◌<◌, ◌≤◌, ◌+◌, ◌∙◌, ◌⊎◌, inl, inr, ℕ, zero, suc, List, [], ◌∷◌, Some, refl, sym, ap, arith, slice_get}
use Rattle.wb_types.specs.declared.number.OBlock.{OBlock}
use Rattle.wb_words.specs.declared.word.Access.{Access}
use Rattle.wb_words.specs.declared.word.Access.TheVariants.{Shared as Sharing, Owned}
use Rattle.wb_words.specs.declared.card.Hold.{Hold}
use Rattle.wb_words.specs.declared.card.Hold.TheVariants.{Held as HoldsBlock}
use Rattle.wb_words.specs.declared.card.Card.{Card}
use Rattle.wb_words.specs.SharedWords.{Words}
use Rattle.wb_words.specs.Cards.{total, owns, shares, owners, sharers}
use Rattle.wb_words.specs.Rule.{LockRule}
use Rattle.wb_words.proofs.Totals.{total_at, at_slice}
use Rattle.wb_link.specs.Tables.{Done}
use Rattle.wb_link.specs.World.{Nothing, Shares, Owns, AbstractActor}
use Rattle.wb_refines.proofs.Holding.{is_one, owns_there, shares_there}
use Rattle.wb_refines.specs.Going.{WinsBeside}
use Rattle.wb_refines.specs.Models.{BelowBeside, IsBelow, held_of, held_for}
use Rattle.wb_refines.specs.Roles.{claim}
use Rattle.wb_refines.specs.Laws.{HasNoMore}
use Rattle.wb_words.specs.declared.word.Word.TheVariants.{Seal as SealWord, Number}
use Rattle.wb_words.specs.declared.step.CellStep.TheVariants.{Look}
use Rattle.wb_tasks.specs.declared.step.Want.{Want}
use Rattle.wb_tasks.specs.declared.step.Want.TheVariants.{Cell}

-- two cards are both in a sum
pub total_two : {A : Type 0} (f : A → ℕ) (xs : List A) (i j : ℕ) (x y : A) → i ≢ j → slice_get xs i ≡ Some x → slice_get xs j ≡ Some y → f x + f y ≤ total f xs
total_two f [] i j x y n e g = absurd (cc)
total_two f (z ∷ xs) zero zero x y n e g = absurd (n refl)
total_two f (z ∷ xs) zero (suc j) x y n e g = let same : z ≡ x = cc in let is : f z ≡ f x = ap f same in let l = total_at f xs j y (at_slice xs j y g) in omega (arith, is, l)
total_two f (z ∷ xs) (suc i) zero x y n e g = let same : z ≡ y = cc in let is : f z ≡ f y = ap f same in let l = total_at f xs i x (at_slice xs i x e) in omega (arith, is, l)
total_two f (z ∷ xs) (suc i) (suc j) x y n e g = let l = total_two f xs i j x y (λ s. n (ap suc s)) e g in omega (arith, l)

module _ (blocks : ℕ) (words : Words) (cards : List Card) (actors : List AbstractActor) (a : ℕ) (card : Card) (block : OBlock) (rule : LockRule blocks words cards) (inside : block.0 < blocks) (here : slice_get cards a ≡ Some card) (below : BelowBeside actors cards a) where
  pub wins : (access : Access) → card.hold ≡ HoldsBlock access block → WinsBeside actors a Nothing (claim access block) Done
  wins Sharing h = (
    refl,
    λ c x n g k.
        let other = below c x n g (λ e. let bad : Nothing ≡ Owns block.0 = sym e ∙ k in absurd (cc)) in
        let lock = rule.cells block.0 inside in
        let mine : sharers block.0 card ≡ 1 = ap (λ (v : Hold). shares block.0 v) h ∙ is_one block in
        let l = total_at (sharers block.0) cards a card (at_slice cards a card here) in
        let m = total_at (owners block.0) cards c other.0 (at_slice cards c other.0 other.1) in
        let o = other.2.owned block.0 k in
        let none = lock.apart (omega (arith, m, o)) in
        omega (arith, mine, l, none),
  )
  wins Owned h = (
    refl,
    λ c x n g.
        let lock = rule.cells block.0 inside in
        let mine : owns block.0 card.hold ≡ 1 = ap (λ (v : Hold). owns block.0 v) h ∙ is_one block in
        let l = total_at (owners block.0) cards a card (at_slice cards a card here) in (
          λ k. let other = below c x n g (λ e. let bad : Nothing ≡ Owns block.0 = sym e ∙ k in absurd (cc)) in
              let two = total_two (owners block.0) cards a c card other.0 (λ s. n (sym s)) here other.1 in
              let o = other.2.owned block.0 k in
              let one = lock.one in
              omega (arith, mine, two, o, one),
          λ k. let other = below c x n g (λ e. let bad : Nothing ≡ Shares block.0 = sym e ∙ k in absurd (cc)) in
              let m = total_at (sharers block.0) cards c other.0 (at_slice cards c other.0 other.1) in
              let o = other.2.shared block.0 k in
              let none = lock.apart (omega (arith, mine, l)) in
              omega (arith, m, o, none),
        ),
  )

-- ---- what an actor at a task has

held_cases : (ws : List Want) (card : Card) → (held_for ws card ≡ Nothing) ⊎ (held_for ws card ≡ held_of card.hold)
held_cases (Cell (Look (SealWord block)) ∷ ws) card = inl refl
held_cases (Cell (Look (Number block)) ∷ ws) card = inl refl
held_cases ws card = inr refl

-- what it has is counted
pub held_below : (ws : List Want) (card : Card) (y : AbstractActor) → y.held ≡ held_for ws card → IsBelow y card
held_below ws card y e = record {
  owned = λ block k. elim (held_cases ws card) [
    | inl n ↦ let bad : Nothing ≡ Owns block = sym n ∙ sym e ∙ k in absurd (cc)
    | inr h ↦ let one = owns_there card.hold block (sym h ∙ sym e ∙ k) in omega (arith, one)
  ];
  shared = λ block k. elim (held_cases ws card) [
    | inl n ↦ let bad : Nothing ≡ Shares block = sym n ∙ sym e ∙ k in absurd (cc)
    | inr h ↦ let one = shares_there card.hold block (sym h ∙ sym e ∙ k) in omega (arith, one)
  ];
}

pub has_no_more : HasNoMore
has_no_more size content plan card y is = held_below plan.steps card y (ap (λ (v : AbstractActor). v.held) is.is)
