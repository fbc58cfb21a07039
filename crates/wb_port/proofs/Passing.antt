-- What the pass knows after each step of a request that is answered done.
use Rattle.std.proofs.Common.{◌≡◌, ◌==◌, ℕ, Bool, true, false, List, ◌∷◌, refl, sym, ap, ◌∙◌, subst, if◌then◌else◌}
use Rattle.wb_types.specs.declared.number.OBlock.{OBlock}
use Rattle.wb_words.specs.declared.word.Access.{Access}
use Rattle.wb_words.specs.declared.word.Word.{Word as WordName}
use Rattle.wb_words.specs.declared.word.Word.TheVariants.{Cell as LockWord, Seal as SealWord, Number, Fail}
use Rattle.wb_words.specs.declared.card.Hold.{Hold}
use Rattle.wb_words.specs.declared.card.Hold.TheVariants.{Nothing, Held}
use Rattle.wb_words.specs.declared.card.Card.{Card}
use Rattle.wb_words.specs.declared.step.CellStep.{CellStep}
use Rattle.wb_words.specs.declared.step.CellStep.TheVariants.{Look, Take, SetFailed, SetSuspended}
use Rattle.wb_words.specs.declared.step.CellResult.{CellResult}
use Rattle.wb_words.specs.declared.step.CellResult.TheVariants.{Done as CellDone, Word as Found, Lost as CellLost}
use Rattle.wb_words.specs.SharedWords.{Words, value_of, word_at}
use Rattle.wb_words.specs.Effects.{card_after}
use Rattle.wb_words.specs.Cards.{looked, losing, holding, failing_at}
use Rattle.wb_words.specs.Looks.{SawAtMost}
use Rattle.wb_words.specs.declared.word.FailBit.{FailBit}
use Rattle.wb_cells.specs.Passes.{PassState, StepsBy, IsFound, bits_after}
use Rattle.wb_tasks.specs.Ready.{MayMake}
use Rattle.wb_tasks.specs.Plan.{got_of}
use Rattle.wb_tasks.specs.declared.step.Want.{Want}
use Rattle.wb_tasks.specs.declared.step.Want.TheVariants.{Cell}
use Rattle.wb_tasks.specs.declared.step.Got.{Got}
use Rattle.wb_tasks.specs.declared.step.Got.TheVariants.{Done, Word}
use Rattle.wb_port.specs.Hands.{DoneByPass}
use Rattle.wb_port.specs.Kinds.{LeavesHolds}
use Rattle.wb_port.specs.Requests.{taking_card}

-- the same pass with another card
abbrev pub with_card : PassState → Card → PassState
with_card pass card = record pass { card = card }

-- a step by a pass makes of its card what such a step may make
pub made_by_pass : (blocks : ℕ) (pass pass' : PassState) (want : Want) (got : Got) → DoneByPass blocks pass want got pass' → MayMake want got pass.card pass'.card
made_by_pass blocks pass pass' (Cell step) got h = (h.2.words, h.1 ∙ ap got_of h.2.result_is, ap (λ (p : PassState). p.card) h.2.pass_is)
made_by_pass blocks pass pass' want got h = ap (λ (p : PassState). p.card) h

-- and leaves it of the same words
pub same_table : (blocks : ℕ) (pass pass' : PassState) (want : Want) (got : Got) → DoneByPass blocks pass want got pass' → pass'.table ≡ pass.table
same_table blocks pass pass' (Cell step) got h = ap (λ (p : PassState). p.table) h.2.pass_is
same_table blocks pass pass' want got h = ap (λ (p : PassState). p.table) h

module _ (blocks : ℕ) (pass pass' : PassState) where
  by_look : (word : WordName) (x : ℕ) → DoneByPass blocks pass (Cell (Look word)) (Word x) pass' → (pass' ≡ with_card pass (looked word x pass.card)) × IsFound word x pass
  by_look word x h =
      let told : Word x ≡ got_of (Found (value_of h.2.words word)) = h.1 ∙ ap got_of h.2.result_is in
      let is : x ≡ value_of h.2.words word = same_word told in
      (h.2.pass_is ∙ ap (λ (y : ℕ). with_card pass (looked word y pass.card)) (sym is), subst (λ (y : ℕ). IsFound word y pass) (sym is) h.2.met.1)
    where
      word_in : Got → ℕ
      word_in (Word y) = y
      word_in got = 0

      same_word : {y z : ℕ} → Word y ≡ Word z → y ≡ z
      same_word e = ap word_in e

  by_take : (access : Access) (block : OBlock) (seen : ℕ) → DoneByPass blocks pass (Cell (Take access block seen)) Done pass' → pass' ≡ with_card pass (holding (Held access block) pass.card)
  by_take access block seen h =
      let word = word_at h.2.words.cells block in
      won (word == seen) word (h.1 ∙ ap got_of h.2.result_is) h.2.pass_is
    where
      won : (b : Bool) (word : ℕ) → Done ≡ got_of (if b then CellDone else CellLost) → pass' ≡ with_card pass (if b then (holding (Held access block) pass.card) else (losing block word pass.card)) → pass' ≡ with_card pass (holding (Held access block) pass.card)
      won true word told is = is
      won false word told is = absurd (cc)

-- taking the block, by the five steps
pub by_taking : (n1 n2 n3 n4 n5 : ℕ) (access : Access) (block : OBlock) (lock seal number : ℕ) (p p1 p2 p3 p4 p5 : PassState)
    → DoneByPass n1 p (Cell (Look Fail)) (Word 0) p1 → DoneByPass n2 p1 (Cell (Look (LockWord block))) (Word lock) p2 → DoneByPass n3 p2 (Cell (Take access block lock)) Done p3
    → DoneByPass n4 p3 (Cell (Look (SealWord block))) (Word seal) p4 → DoneByPass n5 p4 (Cell (Look (Number block))) (Word number) p5
    → (p5 ≡ with_card p (taking_card access block lock seal number p.card)) × SawAtMost block number p.card.saw
by_taking n1 n2 n3 n4 n5 access block lock seal number p p1 p2 p3 p4 p5 h1 h2 h3 h4 h5 =
    let a = by_look n1 p p1 Fail 0 h1 in
    let b = by_look n2 p1 p2 (LockWord block) lock h2 in
    let c = by_take n3 p2 p3 access block lock h3 in
    let d = by_look n4 p3 p4 (SealWord block) seal h4 in
    let e = by_look n5 p4 p5 (Number block) number h5 in
    let to2 : p2 ≡ with_card p (looked (LockWord block) lock (looked Fail 0 p.card)) = b.0 ∙ ap (λ (q : PassState). with_card q (looked (LockWord block) lock q.card)) a.0 in
    let to3 : p3 ≡ with_card p (holding (Held access block) (looked (LockWord block) lock (looked Fail 0 p.card))) = c ∙ ap (λ (q : PassState). with_card q (holding (Held access block) q.card)) to2 in
    let to4 : p4 ≡ with_card p (looked (SealWord block) seal (holding (Held access block) (looked (LockWord block) lock (looked Fail 0 p.card)))) = d.0 ∙ ap (λ (q : PassState). with_card q (looked (SealWord block) seal q.card)) to3 in
    let saw : p4.card.saw ≡ (SealWord block, seal) ∷ ((LockWord block, lock) ∷ ((Fail, 0) ∷ p.card.saw)) = ap (λ (q : PassState). q.card.saw) to4 in
    let least : SawAtMost block number ((SealWord block, seal) ∷ ((LockWord block, lock) ∷ ((Fail, 0) ∷ p.card.saw))) = subst (SawAtMost block number) saw (e.1.0.grows block refl) in
    (e.0 ∙ ap (λ (q : PassState). with_card q (looked (Number block) number q.card)) to4, least.1.1.1)

-- any other step on a word
pub by_step : (blocks : ℕ) (pass pass' : PassState) (step : CellStep) (made : Card → Card) → ((words : Words) → card_after words step pass.card ≡ made pass.card) → bits_after step pass.failed ≡ pass.failed
    → DoneByPass blocks pass (Cell step) Done pass' → pass' ≡ with_card pass (made pass.card)
by_step blocks pass pass' step made is bits h =
    h.2.pass_is ∙ (ap (λ (c : Card). record pass { card = c; failed = bits_after step pass.failed }) (is h.2.words) ∙ ap (λ (f : List FailBit). record pass { card = made pass.card; failed = f }) bits)

-- who has no block has none after a step by which none is taken
pub free_then : (blocks : ℕ) (pass pass' : PassState) (step : CellStep) (result : CellResult) → LeavesHolds step → StepsBy blocks pass step result pass' → pass.card.hold ≡ Nothing → pass'.card.hold ≡ Nothing
free_then blocks pass pass' step result free h idle = ap (λ (p : PassState). p.card.hold) h.pass_is ∙ held step free
  where
    held : (step : CellStep) → LeavesHolds step → (card_after h.words step pass.card).hold ≡ Nothing
    held (Look word) f = idle
    held SetFailed f = ap (λ (x : Hold). (failing_at x pass.card).hold) idle ∙ idle
    held SetSuspended f = ap (λ (x : Hold). (failing_at x pass.card).hold) idle ∙ idle
    held step f = absurd f
