-- Where a migration of the run is carried in the abstract world: whoever is past its look at the fail word, and has not only to answer.
use Rattle.std.proofs.Common.{◌≡◌, ◌∙◌, ◌<◌, inl, inr, ℕ, List, ◌∷◌, Some, refl, sym, ap, subst, slice_get}
use Rattle.std.proofs.lemmas.Option.{slice_get_within}
use Rattle.wb_types.specs.declared.number.OBlock.{OBlock}
use Rattle.wb_words.specs.declared.word.Access.TheVariants.{Owned}
use Rattle.wb_words.specs.declared.word.Word.TheVariants.{Seal as SealWord, Number}
use Rattle.wb_words.specs.declared.card.Hold.TheVariants.{Held}
use Rattle.wb_words.specs.declared.step.CellStep.TheVariants.{Look}
use Rattle.wb_tasks.specs.Tables.{BlockRange, Migrating, OnBlock, TaskJob}
use Rattle.wb_tasks.specs.Plan.{Plan, want}
use Rattle.wb_tasks.specs.Ready.{Has, Suits, SuitsJob, IsOwnStep}
use Rattle.wb_tasks.specs.declared.step.Migration.{Migration}
use Rattle.wb_tasks.specs.declared.step.Want.{Want}
use Rattle.wb_tasks.specs.declared.step.Want.TheVariants.{Cell}
use Rattle.wb_link.specs.World.{World}
use Rattle.wb_promise.specs.declared.job.Job.TheVariants.{Migrate}
use Rattle.wb_promise.specs.States.{Actor}
use Rattle.wb_simulation.specs.Steps.{AreOfBlock}
use Rattle.wb_simulation.specs.Worlds.{Situation, Agrees}
use Rattle.wb_simulation.proofs.Followed.{begins_by, IsWithin, never_late, never_over}
use Rattle.wb_runs.proofs.Plans.{own_next}
use Rattle.wb_contents.proofs.Lists.{there_is as there}

module _ (now : Situation) (blocks : ℕ) (s : World) (g : Agrees now s)
    (a : ℕ) (x : Actor) (migration : Migration) (block : OBlock) (plan : Plan) (ex : slice_get now.actors a ≡ Some x) (xt : x.task ≡ Some (Migrate migration block, plan)) (suits : Suits blocks plan x.card) where
  -- its task is a migration of that block
  pub record Carried : Type 0 where
    pub kind : Migration
    pub part : BlockRange
    pub job : plan.job ≡ OnBlock (Migrating kind part)
    pub block_is : part.block ≡ block
    pub of_block : AreOfBlock now.size part.block.0 plan.steps

  module _ (next : Want) (e : next ≡ want plan) (within : IsWithin next) where
    abbrev first : (ws : List Want) × (plan.steps ≡ next ∷ ws)
    first = begins_by plan next (sym e) (λ answer q. subst IsWithin q within)

    pub carried : Carried
    carried =
        let less = slice_get_within now.actors a x ex in
        let y = there s.actors a (subst (λ (k : ℕ). a < k) (sym g.many) less) in
        let d = g.orders_agree.carried a x y.0 migration block plan ex y.1 xt in
        elim d.at [
          | inl k ↦ record { kind = migration; part = d.part; job = d.job; block_is = k.block_is; of_block = k.of_block }
          | inr o ↦ absurd (elim o [ inl h ↦ never_over plan next (sym e) within h.0.over | inr l ↦ never_late d.failed plan (OnBlock (Migrating migration d.part)) next y.0 d.job refl (sym e) within l ])
        ]

    -- so the step is one of its own
    pub own : (m : Migration) × (part : BlockRange) × IsOwnStep (OnBlock (Migrating m part)) next
    own = (carried.kind, carried.part, own_next blocks plan x.card suits _ next carried.job e)

    -- and what it has is what such a task needs
    pub has : Has (Migrating carried.kind carried.part) x.card (next ∷ first.0)
    has = subst (λ (ws : List Want). Has (Migrating carried.kind carried.part) x.card ws) first.1 (subst (λ (q : TaskJob). SuitsJob blocks q x.card plan.steps) carried.job suits).1

  -- where it looks at its block's seal or number, it owns the block
  pub looks_seal : (b : OBlock) → Cell (Look (SealWord b)) ≡ want plan → x.card.hold ≡ Held Owned block
  looks_seal b e = let c = carried (Cell (Look (SealWord b))) e tt in (has (Cell (Look (SealWord b))) e tt).0 ∙ ap (λ (k : OBlock). Held Owned k) c.block_is

  pub looks_number : (b : OBlock) → Cell (Look (Number b)) ≡ want plan → x.card.hold ≡ Held Owned block
  looks_number b e = let c = carried (Cell (Look (Number b))) e tt in (has (Cell (Look (Number b))) e tt).0 ∙ ap (λ (k : OBlock). Held Owned k) c.block_is
