-- Steps that look or exchange, by a pass.
use Rattle.std.proofs.Common.{◌≡◌, ℕ, ◌==◌, Bool, if◌then◌else◌, refl, sym, ap, ◌∙◌, subst}
use Rattle.wb_types.specs.declared.number.OBlock.{OBlock}
use Rattle.wb_words.specs.declared.word.Access.{Access}
use Rattle.wb_words.specs.declared.word.Word.{Word as WordName}
use Rattle.wb_words.specs.declared.card.Hold.TheVariants.{Held}
use Rattle.wb_words.specs.declared.step.CellStep.{CellStep}
use Rattle.wb_words.specs.declared.step.CellStep.TheVariants.{Look, Take}
use Rattle.wb_words.specs.declared.step.CellResult.TheVariants.{Done, Word as Found, Lost}
use Rattle.wb_words.specs.SharedWords.{value_of, word_at}
use Rattle.wb_words.specs.Cards.{looked, losing, holding}
use Rattle.wb_words.specs.Moments.{Moment}
use Rattle.wb_cells.specs.Fractions.{IsWhole}
use Rattle.wb_cells.specs.Passes.{PassState, IsFound, StepsBy}

module _ (blocks : ℕ) (pass pass' : PassState) (step : CellStep) (x : ℕ) where
  pub looks : (word : WordName) → step ≡ Look word → pass' ≡ record pass { card = looked word x pass.card } → IsFound word x pass
      → ((at : Moment blocks (IsWhole pass.fraction) pass.card) × (x ≡ value_of at.words word)) → StepsBy blocks pass step (Found x) pass'
  looks word is made found at = subst (λ (s : CellStep). StepsBy blocks pass s (Found x) pass') (sym is) (record {
    words = at.0.words;
    met = ((at.0, refl), subst (λ (y : ℕ). IsFound word y pass) at.1 found);
    result_is = ap (λ (y : ℕ). Found y) at.1;
    pass_is = made ∙ ap (λ (y : ℕ). record pass { card = looked word y pass.card }) at.1;
  })

  pub exchanges : (access : Access) (block : OBlock) (seen : ℕ) → step ≡ Take access block seen
      → pass' ≡ record pass { card = (if x == seen then holding (Held access block) pass.card else losing block x pass.card) }
      → ((at : Moment blocks (IsWhole pass.fraction) pass.card) × (x ≡ word_at at.words.cells block))
      → (won : Bool) → (x == seen) ≡ won → StepsBy blocks pass step (if won then Done else Lost) pass'
  exchanges access block seen is made at won test = subst (λ (s : CellStep). StepsBy blocks pass s (if won then Done else Lost) pass') (sym is) (record {
    words = at.0.words;
    met = (at.0, refl);
    result_is = ap (λ (b : Bool). if b then Done else Lost) (sym test ∙ ap (λ (y : ℕ). y == seen) at.1);
    pass_is = made ∙ ap (λ (y : ℕ). record pass { card = (if y == seen then holding (Held access block) pass.card else losing block y pass.card) }) at.1;
  })
