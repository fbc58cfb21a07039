-- A migration's steps on the shared words are followed.
use Rattle.std.proofs.Common.{Bool, ◌≡◌, ◌∙◌, ◌⊎◌, inl, inr, ℕ, List, ◌∷◌, Some, refl, sym, subst, arith, slice_get}
use Rattle.wb_types.specs.declared.number.OBlock.{OBlock}
use Rattle.wb_types.specs.declared.number.CBlock.{CBlock}
use Rattle.wb_words.specs.SharedWords.{Words, word_at, place_in}
use Rattle.wb_words.specs.Rule.{LockRule}
use Rattle.wb_words.specs.Effects.{result_of, words_after, card_after}
use Rattle.wb_words.proofs.Totals.{at_slice}
use Rattle.wb_words.specs.declared.card.Card.{Card}
use Rattle.wb_words.specs.declared.step.CellStep.{CellStep}
use Rattle.wb_words.specs.declared.step.CellStep.TheVariants.{Look, Release, Seal}
use Rattle.wb_words.specs.declared.word.Word.TheVariants.{Seal as SealWord, Number}
use Rattle.wb_tasks.specs.Tables.{BlockRange, Migrating, OnBlock}
use Rattle.wb_tasks.specs.Plan.{Plan, after, got_of}
use Rattle.wb_tasks.specs.Ready.{Has, Suits}
use Rattle.wb_words.specs.declared.word.Access.TheVariants.{Owned}
use Rattle.wb_tasks.proofs.Readiness.{job_stays}
use Rattle.wb_simulation.proofs.Among.{card_there, own_there, takes}
use Rattle.wb_tasks.specs.declared.step.Answer.{Answer}
use Rattle.wb_tasks.specs.declared.step.Migration.{Migration}
use Rattle.wb_tasks.specs.declared.step.Want.{Want}
use Rattle.wb_tasks.specs.declared.step.Want.TheVariants.{Cell}
use Rattle.wb_link.specs.World.{World, AbstractActor}
use Rattle.wb_refines.specs.Models.{plan_of}
use Rattle.wb_refines.specs.Migrations.{order_on, IsWhere}
use Rattle.wb_refines.specs.Roles.{Role, IsAs}
use Rattle.wb_refines.specs.Carried.{migration_role}
use Rattle.wb_refines.proofs.Roles.{migrations_play}
use Rattle.wb_promise.specs.declared.job.Job.TheVariants.{Migrate}
use Rattle.wb_promise.specs.States.{Actor}
use Rattle.wb_runs.specs.Holding.{cards_of}
use Rattle.wb_simulation.specs.Steps.{IsTail}
use Rattle.wb_simulation.specs.Carried.{IsCarried, HasEnded}
use Rattle.wb_simulation.specs.Worlds.{Situation, Agrees, Stays}
use Rattle.wb_simulation.specs.Laws.{WantsNext, stepped_actor}
use Rattle.wb_simulation.specs.Migrating.{SealTells, SeesWhere, Carried}
use Rattle.wb_simulation.proofs.Steps.{AreCopies, after_cell, migration_works}
use Rattle.wb_simulation.proofs.Cells.{Acted, acts_in_role, acts_over, tells}
use Rattle.wb_simulation.proofs.Followed.{first, among_all}
use Rattle.wb_simulation.proofs.Orders.{carried_again}
use Rattle.wb_simulation.proofs.Carrying.{IsMigratingOf, at_it, under_migrates, quiet_are_carried, stands_there, carried_job}
use Rattle.wb_simulation.proofs.Copying.{no_write_read, lives, order_is}
use Rattle.wb_simulation.specs.Telling.{Carries, IsMigrating}
use Rattle.wb_simulation.specs.Actors.{IsLate, IsAmongOthers}

-- ---- a step on the words

-- a step on the words leaves a tail
tail_after : (words : Words) (part : BlockRange) (migration : Migration) (step : CellStep) (ws : List Want) (answer : Answer) → IsTail (Cell step ∷ ws) → IsTail (after (plan_of (Migrating migration part) (Cell step ∷ ws) answer) (got_of (result_of words step))).steps
tail_after words part migration (Seal b place dirty) ws answer t = t
tail_after words part migration (Release access b) ws answer t = t
tail_after words part migration step ws answer t = absurd t

module _ (now : Situation) (blocks : ℕ) (a : ℕ) (x : Actor) (step : CellStep) (s : World) (y : AbstractActor) (g : Agrees now s)
    (rule : LockRule blocks now.words (cards_of now.actors)) (ex : slice_get now.actors a ≡ Some x) (ey : slice_get s.actors a ≡ Some y) (m : Migration) (block : OBlock) (part : BlockRange) (ws : List Want) (answer : Answer) (f : IsCarried now.size now.orders m block part (Cell step ∷ ws) answer x y) (suits : Suits blocks (plan_of (Migrating m part) (Cell step ∷ ws) answer) x.card) (sees : SeesWhere now.words now.orders s.shared.mapping m block step) where
  abbrev cache : CBlock
  cache = f.c

  abbrev plan : Plan
  plan = plan_of (Migrating m part) (Cell step ∷ ws) answer

  abbrev plan' : Plan
  plan' = after plan (got_of (result_of now.words step))

  abbrev words' : Words
  words' = words_after now.words step

  abbrev card' : Card
  card' = card_after now.words step x.card

  abbrev x' : Actor
  x' = record x { task = Some (Migrate m block, plan'); card = card' }

  -- its seal tells where its order, which is live unless it only seals its block and gives it back, has the block
  tells_where : ¬ IsTail (Cell step ∷ ws) → SealTells now.words now.orders s.shared.mapping m block → (b : OBlock) → b ≡ block → IsWhere m cache (place_in (word_at now.words.seals b))
  tells_where no_tail seen b e =
      let same = order_is now a x s y g ex ey m block part (Cell step) ws answer f no_tail in
      subst (λ (v : OBlock). IsWhere m cache (place_in (word_at now.words.seals v))) (sym e) (seen f.c f.next f.order (lives now a x s y g ex ey m block part (Cell step) ws answer f no_tail) f.of (λ n. stands_there s.shared.mapping f.c.0 f.order m block f.next (order_on part cache f.next) f.of same refl n))

  -- a seal that is looked at tells where its order says
  seen_where : (b : OBlock) → step ≡ Look (SealWord b) → IsWhere m cache (place_in (word_at now.words.seals b))
  seen_where b e = tells_where (subst (λ (v : CellStep). ¬ IsTail (Cell v ∷ ws)) (sym e) (λ t. t)) (subst (λ (v : CellStep). SeesWhere now.words now.orders s.shared.mapping m block v) e sees) b ((subst (λ (v : CellStep). Has (Migrating m part) x.card (Cell v ∷ ws)) e suits.1).1 ∙ f.block_is)

  -- what is left is of the block, and each extent is written once it was read
  copies : AreCopies now.size part.block.0 plan'.steps
  copies =
      let t = tells now.size part.block.0 step ws f.of_block in
      after_cell (AreCopies now.size part.block.0) (OnBlock (Migrating m part)) now.words step ws answer (tt, tt, tt) (t.1, f.paired.1, f.paired.0) (λ seen. (tt, (tt, (tt, tt)), tt))
      (λ b is. let w = migration_works now.size part f.is_part m cache f.fills f.small (word_at now.words.seals b) (seen_where b is) in (w.0, (w.2, w.1), tt)) (tt, (tt, tt), tt)

  -- the number of a block is looked at with its seal known
  finds : (b : OBlock) → step ≡ Look (Number b) → (seal : ℕ) → x.card.seal ≡ Some seal → IsWhere m cache (place_in seal)
  finds b is seal known =
      let has : Has (Migrating m part) x.card (Cell (Look (Number b)) ∷ ws) = subst (λ (v : CellStep). Has (Migrating m part) x.card (Cell v ∷ ws)) is suits.1 in
      let told : word_at now.words.seals part.block ≡ seal = (rule.knows a x.card (at_slice (cards_of now.actors) a x.card (card_there now.actors a x ex))).seal Owned part.block seal has.0 known in
      subst (λ (v : ℕ). IsWhere m cache (place_in v)) told (tells_where (subst (λ (v : CellStep). ¬ IsTail (Cell v ∷ ws)) (sym is) (λ t. t)) (subst (λ (v : CellStep). SeesWhere now.words now.orders s.shared.mapping m block v) is sees) part.block f.block_is)

  abbrev role : Role
  role = migration_role part cache f.next m f.kept

  pub acts : Acted (IsAs role plan' card') IsMigrating s.actors a s.shared y words' plan' card'
  acts = acts_in_role (Migrating m part) IsMigrating now.words s.actors a x.card s.shared y answer g.words_agree role (migrations_play part cache f.next m f.kept (let some = f.is_part.some in let sized = f.is_part.sized in omega (arith, some, sized)) f.fills) (under_migrates (order_on part cache f.next) _ m)
      blocks (cards_of now.actors) step ws rule (card_there now.actors a x ex) (takes now s g role a x.card step finds) (tells now.size part.block.0 step ws f.of_block).0 suits f.at

  pub is_carried : (z : AbstractActor) → IsAs role plan' card' z → IsCarried now.size now.orders m block part plan'.steps plan'.answer x' z
  is_carried z i = carried_again now.size now.orders now.orders m block part (Cell step ∷ ws) plan'.steps answer plan'.answer x x' y z f f.kept (elim f.has [ inl l ↦ inl l | inr t ↦ inr (tail_after now.words part m step ws answer t) ])
      (subst (λ (p : Plan). IsAs role p card' z) (λ k. record { job = job_stays plan (got_of (result_of now.words step)) k; steps = plan'.steps; answer = plan'.answer }) i)
      (record { of_block = copies.0; paired = copies.1; read = no_write_read now.size plan'.steps x.buffer _ copies.2 })

-- ---- any step of a migration on the words

pub cells : (now : Situation) (blocks : ℕ) (a : ℕ) (x : Actor) (migration : Migration) (block : OBlock) (plan : Plan) (step : CellStep) (s : World) →
    LockRule blocks now.words (cards_of now.actors) → WantsNext now a x s (Migrate migration block) plan (Cell step) → Suits blocks plan x.card → SeesWhere now.words now.orders s.shared.mapping migration block step →
    Carried Stays a s (record now { words = words_after now.words step }) (stepped_actor now.words (Migrate migration block) plan step x)
cells now blocks a x migration block plan step s rule wants suits sees =
    let y = own_there now s wants.agrees a x wants.here in
    let d = wants.agrees.orders_agree.carried a x y.0 migration block plan wants.here y.1 wants.task in
    first plan (OnBlock (Migrating migration d.part)) (Cell step) d.job wants.asks (λ p. Suits blocks p x.card → At d.failed d.part y.0 p → Goal p) (λ rest k suits at. elim at [
      | inl f ↦ goes d.part y.0 y.1 rest (acts now blocks a x step s y.0 wants.agrees rule wants.here y.1 migration block d.part rest plan.answer f suits sees) (is_carried now blocks a x step s y.0 wants.agrees rule wants.here y.1 migration block d.part rest plan.answer f suits sees)
          (carried_job now.size now.orders migration block d.part (Cell step ∷ rest) plan.answer x y.0 f)
      | inr o ↦ goes d.part y.0 y.1 rest (acts_over (Migrating migration d.part) IsMigrating now.words s.actors a x.card s.shared y.0 plan.answer wants.agrees.words_agree d.failed d.has_failed step rest y.2.below (y.2.among_others (subst IsAmongOthers (sym wants.task) tt)) o) (λ z (n : ⊥). absurd n)
          (elim o [ inl e ↦ subst IsMigratingOf (sym e.0.task) e.1 | inr l ↦ subst IsMigratingOf (sym l.nothing) tt ])
    ]) (λ k q. absurd (cc)) suits d.at
  where
    At : Bool → BlockRange → AbstractActor → Plan → Type 0
    At failed part y p = IsCarried now.size now.orders migration block part p.steps p.answer x y ⊎ HasEnded failed p x y ⊎ IsLate failed p y

    Goal : Plan → Type 0
    Goal p = Carried Stays a s (record now { words = words_after now.words step }) (stepped_actor now.words (Migrate migration block) p step x)

    goes : (part : BlockRange) (y : AbstractActor) → slice_get s.actors a ≡ Some y → (rest : List Want) {At : AbstractActor → Type 0} (acted : Acted At IsMigrating s.actors a s.shared y (words_after now.words step) (after (plan_of (Migrating migration part) (Cell step ∷ rest) plan.answer) (got_of (result_of now.words step))) (card_after now.words step x.card)) →
        ((z : AbstractActor) → At z → IsCarried now.size now.orders migration block part (after (plan_of (Migrating migration part) (Cell step ∷ rest) plan.answer) (got_of (result_of now.words step))).steps (after (plan_of (Migrating migration part) (Cell step ∷ rest) plan.answer) (got_of (result_of now.words step))).answer (stepped_actor now.words (Migrate migration block) (plan_of (Migrating migration part) (Cell step ∷ rest) plan.answer) step x) z) →
        IsMigratingOf y.task → Goal (plan_of (Migrating migration part) (Cell step ∷ rest) plan.answer)
    goes part y ey rest acted carried migrates =
        let of : Plan = plan_of (Migrating migration part) (Cell step ∷ rest) plan.answer in
        among_all now blocks a x (Migrate migration block) step s y rule wants.here ey wants.agrees of Carries acted (acted.results, quiet_are_carried acted.results y.task migrates acted.quiet, refl) tt
        (λ m b p e. at_it now.size (words_after now.words step) now.orders (stepped_actor now.words (Migrate migration block) of step x) _ migration block (after of (got_of (result_of now.words step))) m b p (record { part = part; job = job_stays of (got_of (result_of now.words step)); failed = acted.failed; has_failed = acted.has_failed; at = elim acted.at [ inl i ↦ inl (carried _ i) | inr o ↦ inr o ] }) e)
