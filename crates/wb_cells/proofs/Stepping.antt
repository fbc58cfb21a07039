-- A step of a grip, from the step on the words.
use Rattle.std.proofs.Common.{◌≡◌, ◌≢◌, ℕ, Bool, true, false, cond, if◌then◌else◌, eqb, List, [], sym, refl, ap, ◌∙◌, subst}
use Rattle.std.proofs.lemmas.Bool.{eqb-true}
use Rattle.wb_types.specs.declared.number.OBlock.{OBlock}
use Rattle.wb_types.specs.declared.refusal.Refusal.TheVariants.{Failed}
use Rattle.wb_words.specs.declared.word.Access.{Access}
use Rattle.wb_words.specs.declared.word.FailBit.{FailBit}
use Rattle.wb_words.specs.declared.word.Word.{Word as WordName}
use Rattle.wb_words.specs.declared.word.Word.TheVariants.{Cell as LockWord, Seal as SealWord, Number, Fail}
use Rattle.wb_words.specs.SharedWords.{word_at, value_of, HasBits}
use Rattle.wb_words.specs.declared.card.Hold.TheVariants.{Held}
use Rattle.wb_words.specs.declared.card.Card.{Card}
use Rattle.wb_words.specs.declared.grip.GripStage.{GripStage}
use Rattle.wb_words.specs.declared.grip.GripStage.TheVariants.{LookFail, LookLock, Exchange, LookSeal, LookNumber}
use Rattle.wb_words.specs.declared.grip.Grip.{Grip}
use Rattle.wb_words.specs.declared.grip.Gripped.{Gripped}
use Rattle.wb_words.specs.declared.grip.Gripped.TheVariants.{More, Refused}
use Rattle.wb_words.specs.declared.step.CellStep.{CellStep}
use Rattle.wb_words.specs.declared.step.CellStep.TheVariants.{Look, Take}
use Rattle.wb_words.specs.Cards.{looked, losing, holding}
use Rattle.wb_words.specs.Effects.{found_by, card_after}
use Rattle.wb_words.specs.Looks.{Finds}
use Rattle.wb_words.specs.Moments.{Moment}
use Rattle.wb_words.specs.Grips.{told_at, stage_after, step_at, card_having_found, FindsAt, GripStep}
use Rattle.wb_words.proofs.RuleKept.{finds}
use Rattle.wb_words.proofs.Totals.{at_slice}
use Rattle.wb_cells.proofs.Alone.{no_bits}

module _ {blocks : ℕ} {alone : Type 0} (access : Access) (block : OBlock) (card : Card) (x : ℕ) (at : Moment blocks alone card) where
  made_so : (stage : GripStage) → x ≡ found_by at.words (step_at access block stage) → card_after at.words (step_at access block stage) card ≡ card_having_found access block stage x card
  made_so LookFail is = ap (λ (z : ℕ). looked Fail z card) (sym is)
  made_so LookLock is = ap (λ (z : ℕ). looked (LockWord block) z card) (sym is)
  made_so (Exchange seen) is = ap (λ (z : ℕ). if eqb z seen then holding (Held access block) card else losing block z card) (sym is)
  made_so LookSeal is = ap (λ (z : ℕ). looked (SealWord block) z card) (sym is)
  made_so (LookNumber seal) is = ap (λ (z : ℕ). looked (Number block) z card) (sym is)

  found_so : (word : WordName) → x ≡ value_of at.words word → Finds word x card
  found_so word is = subst (λ (z : ℕ). Finds word z card) (sym is) (finds at.words word card (at.rule.knows at.place card (at_slice at.cards at.place card at.here)))

  finds_so : (stage : GripStage) → x ≡ found_by at.words (step_at access block stage) → FindsAt block stage x card
  finds_so LookFail is = found_so Fail is
  finds_so LookLock is = found_so (LockWord block) is
  finds_so (Exchange seen) is = tt
  finds_so LookSeal is = found_so (SealWord block) is
  finds_so (LookNumber seal) is = found_so (Number block) is

module _ {blocks : ℕ} {alone : Type 0} (grip next : Grip) (card after : Card) (result : Gripped) (x : ℕ) (at : Moment blocks alone card)
    (told : result ≡ told_at grip.access grip.block grip.stage x) (next_is : next ≡ record grip { stage = stage_after grip.access grip.stage x }) where
  step_made : x ≡ found_by at.words (step_at grip.access grip.block grip.stage) → after ≡ card_after at.words (step_at grip.access grip.block grip.stage) card → GripStep blocks alone grip card result next after
  step_made is made = record {
    at = at;
    found = x;
    found_is = is;
    made = made;
    told = told;
    next_is = next_is;
    after_is = made ∙ made_so grip.access grip.block card x at grip.stage is;
    finds = finds_so grip.access grip.block card x at grip.stage is;
  }

  -- a look
  pub look_made : (stage : GripStage) (word : WordName) → grip.stage ≡ stage → step_at grip.access grip.block stage ≡ Look word → x ≡ value_of at.words word → after ≡ looked word x card → GripStep blocks alone grip card result next after
  look_made stage word stage_is step is made = let same : step_at grip.access grip.block grip.stage ≡ Look word = ap (step_at grip.access grip.block) stage_is ∙ step in
      step_made (is ∙ ap (found_by at.words) (sym same)) (made ∙ (ap (λ (z : ℕ). looked word z card) is ∙ ap (λ (s : CellStep). card_after at.words s card) (sym same)))

  -- the exchange
  pub take_made : (seen : ℕ) → grip.stage ≡ Exchange seen → x ≡ word_at at.words.cells grip.block → after ≡ (if eqb x seen then holding (Held grip.access grip.block) card else losing grip.block x card) → GripStep blocks alone grip card result next after
  take_made seen stage_is is made = let same : step_at grip.access grip.block grip.stage ≡ Take grip.access grip.block seen = ap (step_at grip.access grip.block) stage_is in
      step_made (is ∙ ap (found_by at.words) (sym same))
      (made ∙ (ap (λ (z : ℕ). if eqb z seen then holding (Held grip.access grip.block) card else losing grip.block z card) is ∙ ap (λ (s : CellStep). card_after at.words s card) (sym same)))

-- who has failed finds so
pub fails : (access : Access) (block : OBlock) (x : ℕ) (bits : List FailBit) → HasBits x bits → bits ≢ [] → told_at access block LookFail x ≡ Refused Failed
fails access block x bits h some_bits = by_test (eqb x 0) refl
  where
    by_test : (t : Bool) → eqb x 0 ≡ t → cond t (More x) (Refused Failed) ≡ Refused Failed
    by_test true z = absurd (some_bits (no_bits bits (subst (λ (y : ℕ). HasBits y bits) (eqb-true x 0 z) h)))
    by_test false z = refl
