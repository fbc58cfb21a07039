-- A step of a job on a block on the shared words, for its own actor.
use Rattle.std.proofs.Common.{◌≡◌, ◌∙◌, ◌⊎◌, inl, inr, ℕ, Bool, true, false, List, [], ◌∷◌, Option, Some, None, refl, sym, ap, subst, slice_get}
use Rattle.wb_words.specs.SharedWords.{Words, flag}
use Rattle.wb_words.specs.Rule.{LockRule}
use Rattle.wb_words.specs.Effects.{result_of, words_after, card_after}
use Rattle.wb_words.specs.declared.card.Card.{Card}
use Rattle.wb_words.specs.declared.step.CellStep.{CellStep}
use Rattle.wb_words.specs.declared.step.CellStep.TheVariants.{Look, Release, Seal}
use Rattle.wb_words.specs.declared.word.Word.TheVariants.{Cell as LockWord, Fail}
use Rattle.wb_tasks.specs.Tables.{BlockJob, OnBlock, range_of}
use Rattle.wb_tasks.specs.Plan.{Plan, after, got_of}
use Rattle.wb_tasks.specs.Ready.{Suits}
use Rattle.wb_tasks.specs.declared.step.Answer.{Answer}
use Rattle.wb_tasks.specs.declared.step.Answer.TheVariants.{Refused as Refuses}
use Rattle.wb_tasks.specs.declared.step.Want.{Want}
use Rattle.wb_tasks.specs.declared.step.Want.TheVariants.{Cell}
use Rattle.wb_types.specs.declared.refusal.Refusal.TheVariants.{Failed}
use Rattle.wb_link.specs.Tables.{Script, Got, Job as AbstractJob}
use Rattle.wb_link.specs.World.{Shared, AbstractActor, is_alone}
use Rattle.wb_refines.specs.Going.{shared_after, gone, MayGo, AreQuiet}
use Rattle.wb_refines.specs.Models.{plan_of, WordsAgree, SameElse, HasStopped, IsBelow, TellsPlace}
use Rattle.wb_refines.specs.Roles.{Role, IsAs, Plays, TakesBeside}
use Rattle.wb_refines.proofs.Cells.{same_else}
use Rattle.wb_refines.proofs.Followed.{cell_steps_followed}
use Rattle.wb_refines.proofs.Holding.{holds_nothing}
use Rattle.wb_refines.proofs.Locks.{held_below}
use Rattle.wb_simulation.specs.Steps.{AreOfBlock}
use Rattle.wb_simulation.proofs.Steps.{finds_failed}
use Rattle.wb_simulation.specs.Actors.{IsLate}
use Rattle.wb_simulation.specs.Worlds.{IsUnfinished}

-- refused, and what it has it keeps; its job there is of this kind
abbrev pub StoppedAs : (AbstractJob → Type 0) → Bool → Plan → Card → AbstractActor → Type 0
StoppedAs Is failed plan card y = (k : HasStopped failed plan card y) × Is k.script.job

-- who leads a commit has led it before, and if it has still something to do it had so
abbrev pub Leading : AbstractActor → AbstractActor → Type 0
Leading y y' = y'.leads ≡ true → (y.leads ≡ true) × (IsUnfinished y'.task → IsUnfinished y.task)

-- These results of an abstract actor lead to these words, and leave it at this.
pub record Acted (At : AbstractActor → Type 0) (Is : AbstractJob → Type 0) (actors : List AbstractActor) (a : ℕ) (s : Shared) (y : AbstractActor) (words : Words) (plan : Plan) (card : Card) : Type 0 where
  pub results : List Got
  pub may : MayGo actors a s y y.task results
  pub quiet : AreQuiet y.task results
  pub words_agree : WordsAgree words (shared_after s y y.task results)
  pub same : SameElse s (shared_after s y y.task results)
  pub failed : Bool
  pub has_failed : failed ≡ true → flag words.fail ≡ true
  pub at : At (gone y y.task results) ⊎ StoppedAs Is failed plan card (gone y y.task results) ⊎ IsLate failed plan (gone y y.task results)
  pub below : IsBelow (gone y y.task results) card
  pub order : (gone y y.task results).order ≡ y.order
  pub leads : Leading y (gone y y.task results)
  pub among_others : is_alone (gone y y.task results).task ≡ false

-- nothing was done there
pub shared_stays : (s : Shared) (y : AbstractActor) (task : Option Script) → shared_after s y task [] ≡ s
shared_stays s y None = refl
shared_stays s y (Some script) = refl

pub gone_nowhere : (y : AbstractActor) (task : Option Script) → gone y task [] ≡ y
gone_nowhere y None = refl
gone_nowhere y (Some script) = refl

quiet_none : (task : Option Script) → AreQuiet task []
quiet_none None = tt
quiet_none (Some script) = tt

-- what a step tells of a seal
pub tells : (size block : ℕ) (step : CellStep) (ws : List Want) → AreOfBlock size block (Cell step ∷ ws) → TellsPlace step × AreOfBlock size block ws
tells size block (Seal b place dirty) ws o = o
tells size block step ws o = (tt, o)

module _ (job : BlockJob) (Is : AbstractJob → Type 0) (words : Words) (actors : List AbstractActor) (a : ℕ) (card : Card) (s : Shared) (y : AbstractActor) (answer : Answer) (w : WordsAgree words s) where
  abbrev Goal : (AbstractActor → Type 0) → CellStep → List Want → Type 0
  Goal At step ws = Acted At Is actors a s y (words_after words step) (after (plan_of job (Cell step ∷ ws) answer) (got_of (result_of words step))) (card_after words step card)

  -- it is at the same there
  pub acts_in_role : (role : Role) → Plays role job → Is role.job → (blocks : ℕ) (cards : List Card) (step : CellStep) (ws : List Want) → LockRule blocks words cards → slice_get cards a ≡ Some card → TakesBeside role step actors cards a card → TellsPlace step → Suits blocks (plan_of job (Cell step ∷ ws) answer) card →
      IsAs role (plan_of job (Cell step ∷ ws) answer) card y → Goal (IsAs role (after (plan_of job (Cell step ∷ ws) answer) (got_of (result_of words step))) (card_after words step card)) step ws
  acts_in_role role plays its blocks cards step ws rule here below t suits is =
      let f = cell_steps_followed role job plays blocks words cards actors a card s y step ws answer rule here below w t suits is in
      let z = gone y y.task f.results in
      let plan' = after (plan_of job (Cell step ∷ ws) answer) (got_of (result_of words step)) in
      let leads : z.leads ≡ false = elim f.at [ inl i ↦ ap (λ (v : AbstractActor). v.leads) i.is | inr k ↦ k.0.leads ] in
      record {
        results = f.results;
        may = f.may;
        failed = flag (words_after words step).fail;
        quiet = f.quiet;
        words_agree = f.words_agree;
        same = f.same;
        has_failed = λ e. e;
        at = elim f.at [ inl i ↦ inl i | inr k ↦ inr (inl (k.0, subst Is (sym k.1) its)) ];
        below = elim f.at [ inl i ↦ held_below plan'.steps (card_after words step card) z (ap (λ (v : AbstractActor). v.held) i.is) | inr k ↦ k.0.below ];
        order = f.order ∙ sym (ap (λ (v : AbstractActor). v.order) is.is);
        leads = λ l. let bad : true ≡ false = sym l ∙ leads in absurd (cc);
        among_others = elim f.at [ inl i ↦ ap (λ (v : AbstractActor). is_alone v.task) i.is ∙ plays.among_others | inr k ↦ ap is_alone k.0.task ∙ k.0.among_others ];
      }

  -- nothing is done there
  nothing : {At : AbstractActor → Type 0} (words' : Words) (plan' : Plan) (card' : Card) → WordsAgree words' s → (failed : Bool) → (failed ≡ true → flag words'.fail ≡ true) → StoppedAs Is failed plan' card' y ⊎ IsLate failed plan' y → IsBelow y card' → is_alone y.task ≡ false → Acted At Is actors a s y words' plan' card'
  nothing {At} words' plan' card' w' failed has r below alone = record {
    results = [];
    may = tt;
    quiet = quiet_none y.task;
    words_agree = subst (λ (t : Shared). WordsAgree words' t) (sym (shared_stays s y y.task)) w';
    same = subst (λ (t : Shared). SameElse s t) (sym (shared_stays s y y.task)) (same_else s);
    failed = failed;
    has_failed = has;
    at = inr (subst (λ (z : AbstractActor). StoppedAs Is failed plan' card' z ⊎ IsLate failed plan' z) (sym (gone_nowhere y y.task)) r);
    below = subst (λ (z : AbstractActor). IsBelow z card') (sym (gone_nowhere y y.task)) below;
    order = ap (λ (z : AbstractActor). z.order) (gone_nowhere y y.task);
    leads = subst (Leading y) (sym (gone_nowhere y y.task)) (λ l. (l, λ more. more));
    among_others = ap (λ (z : AbstractActor). is_alone z.task) (gone_nowhere y y.task) ∙ alone;
  }

  -- what it is at may rest on this, that the target has failed
  module _ (failed : Bool) (has : failed ≡ true → flag words.fail ≡ true) where
    -- it has nothing left but to give back the block, which is not taken there
    stopped : {At : AbstractActor → Type 0} (step : CellStep) (ws : List Want) → is_alone y.task ≡ false → StoppedAs Is failed (plan_of job (Cell step ∷ ws) answer) card y → Goal At step ws
    stopped (Release access b) [] alone k =
        let below = holds_nothing y (card_after words (Release access b) card) k.0.free in
        nothing (words_after words (Release access b)) (plan_of job [] answer) (card_after words (Release access b) card) (record { fail = w.fail; seals = w.seals }) failed has
        (inl (record { over = tt; refused = k.0.refused; script = k.0.script; task = k.0.task; nothing = k.0.nothing; undone = k.0.undone; among_others = k.0.among_others; leads = k.0.leads; below = below; free = inl k.0.free }, k.1)) below alone
    stopped step ws alone k = absurd k.0.over

    -- it has no task there, and finds that the target has failed
    late : {At : AbstractActor → Type 0} (step : CellStep) (ws : List Want) → is_alone y.task ≡ false → IsBelow y card → IsLate failed (plan_of job (Cell step ∷ ws) answer) y → Goal At step ws
    late {At} step ws alone below l = elim l.at [
      | inl e ↦ let steps : Cell step ∷ ws ≡ Cell (Look Fail) ∷ Cell (Look (LockWord (range_of job).block)) ∷ [] = ap (λ (p : Plan). p.steps) e in
          let same : step ≡ Look Fail = cc in subst (λ (v : CellStep). Goal At v ws) (sym same)
          (subst (λ (p : Plan). Acted At Is actors a s y words p (card_after words (Look Fail) card)) (sym (finds_failed words (OnBlock job) ws answer (has l.has_failed)))
          (nothing words (plan_of job [] (Refuses Failed)) (card_after words (Look Fail) card) w failed has (inr (record { has_failed = l.has_failed; nothing = l.nothing; at = inr (refl, λ e. absurd (cc)) })) (record { owned = below.owned; shared = below.shared }) alone))
      | inr e ↦ let bad : Cell step ∷ ws ≡ [] = e.0 in absurd (cc)
    ]

    -- so where it is at nothing there, or has only to answer
    pub acts_over : {At : AbstractActor → Type 0} (step : CellStep) (ws : List Want) → IsBelow y card → is_alone y.task ≡ false → StoppedAs Is failed (plan_of job (Cell step ∷ ws) answer) card y ⊎ IsLate failed (plan_of job (Cell step ∷ ws) answer) y → Goal At step ws
    acts_over step ws below alone (inl k) = stopped step ws alone k
    acts_over step ws below alone (inr l) = late step ws alone below l
