-- Who begins a task without a block is ready for each of its steps, and has none after the answer.
use Rattle.std.proofs.Common.{◌≡◌, ◌∙◌, ◌*◌, ℕ, ap, List, sym, subst}
use Rattle.wb_words.specs.declared.card.Card.{Card}
use Rattle.wb_words.specs.declared.card.Hold.TheVariants.{Nothing}
use Rattle.wb_types.specs.declared.extent.Extent.{Extent}
use Rattle.wb_types.specs.declared.number.OBlock.{OBlock}
use Rattle.wb_policy.specs.declared.order.Order.{Order}
use Rattle.wb_tasks.specs.declared.step.DeviceStep.TheVariants.{Read, Write}
use Rattle.wb_tasks.specs.declared.step.Migration.{Migration}
use Rattle.wb_tasks.specs.declared.step.Want.TheVariants.{Device}
use Rattle.wb_port.specs.Moves.{copied_to}
use Rattle.wb_tasks.proofs.Placed.{moves_there}
use Rattle.wb_port.proofs.Placed.{AreIn, IsMoving, MovesAt, whole_in, copies_there}
use Rattle.wb_target.specs.Works.{IsOrdered, MayWork, MayMigrate}
use Rattle.wb_tasks.specs.Tables.{TaskJob, BlockRange, OnBlock, Reading, Writing, Displacing, Invalidating, Migrating, Flushing, Suspending, Opening}
use Rattle.wb_tasks.specs.Ready.{AreFirst, MayTake, MayMake, IsOwnStep, Suits, left_by}
use Rattle.wb_tasks.specs.Plan.{Plan, table, want}
use Rattle.wb_tasks.specs.Run.{IsRunOf, Leads}
use Rattle.wb_tasks.specs.declared.step.Answer.{Answer}
use Rattle.wb_tasks.specs.declared.step.Want.{Want}
use Rattle.wb_tasks.specs.declared.step.Got.{Got}
use Rattle.wb_tasks.proofs.Driving.{run_first}
use Rattle.wb_tasks.proofs.Readiness.{is_ready, is_own_step, ends_holding_nothing}
use Rattle.wb_port.proofs.Readying.{suits_there}
use Rattle.wb_stage.specs.Jobs.{MayRun}
use Rattle.wb_stage.specs.Stages.{IsServed}
use Rattle.wb_stage.proofs.Readying.{served, begins, same_job}

-- a migration copies what it may
may_copy : (migration : Migration) (part : BlockRange) (held : List Order) (card : Card) (w : Want) → IsOrdered held part.block (copied_to migration) → IsMoving (Migrating migration part) card w → MayWork part.block_sectors held card w
may_copy migration part held card (Device (Read device e)) o m = record { block = part.block; seal = m.1.0; owned = m.0; seen = m.1.1; dirty = m.1.2.1; at = m.1.2.0 }
may_copy migration part held card (Device (Write device e)) o m = (record { block = part.block; to = copied_to migration; seal = m.1.0; owned = m.0; seen = m.1.1; dirty = m.1.2.1; at = m.1.2.0 }, o)
may_copy migration part held card w o m = tt

-- and a flush nothing
flush_moves : (serves : List OBlock) (most size : ℕ) (held : List Order) (card : Card) (w : Want) → IsOwnStep (Flushing serves most) w → MayWork size held card w
flush_moves serves most size held card (Device (Read device e)) o = absurd o
flush_moves serves most size held card (Device (Write device e)) o = absurd o
flush_moves serves most size held card w o = tt

-- Where every step makes of a card what such a step may make, its actor is ready wherever the steps have led.
module _ {S : Type 0} (led : S → Want → Got → S → Type 0) (card : S → Card) (makes : (s : S) (w : Want) (g : Got) (t : S) → led s w g t → MayMake w g (card s) (card t)) where
  -- a task of any kind that a client runs
  module _ (blocks : ℕ) (s : Plan) (job : TaskJob) (old : S) (begun : s ≡ table job) (may : MayRun blocks job) (idle : (card old).hold ≡ Nothing) where
    at_start : Suits blocks s (card old)
    at_start = subst (λ (t : Plan). Suits blocks t (card old)) (sym begun) (begins blocks job (card old) may idle)

    pub work_ready : (steps : List (Want × Got)) (mid : S) → AreFirst s steps → Leads led old steps mid → MayTake blocks (card mid) (want (left_by s steps)) × IsServed (want (left_by s steps))
    work_ready steps mid f l =
        let suits = suits_there led card makes blocks s old steps mid at_start f l in
        let same : (left_by s steps).job ≡ job = same_job s steps ∙ ap (λ (t : Plan). t.job) begun in
        (is_ready blocks (left_by s steps) (card mid) suits, served blocks job (want (left_by s steps)) may (subst (λ (j : TaskJob). IsOwnStep j (want (left_by s steps))) same (is_own_step blocks (left_by s steps) (card mid) suits)))

    pub work_own : (steps : List (Want × Got)) (mid : S) → AreFirst s steps → Leads led old steps mid → IsOwnStep job (want (left_by s steps))
    work_own steps mid f l =
        let suits = suits_there led card makes blocks s old steps mid at_start f l in
        subst (λ (j : TaskJob). IsOwnStep j (want (left_by s steps))) (same_job s steps ∙ ap (λ (t : Plan). t.job) begun) (is_own_step blocks (left_by s steps) (card mid) suits)

    pub work_moves : (size : ℕ) (held : List Order) → MayMigrate size held job → (steps : List (Want × Got)) (mid : S) → AreFirst s steps → Leads led old steps mid → MayWork size held (card mid) (want (left_by s steps))
    work_moves size held migrates steps mid f l = by_job job begun may migrates
      where
        by_job : (job : TaskJob) → s ≡ table job → MayRun blocks job → MayMigrate size held job → MayWork size held (card mid) (want (left_by s steps))
        by_job (OnBlock (Migrating migration part)) b m is =
            subst (λ (n : ℕ). MayWork n held (card mid) (want (left_by s steps))) (sym is.0)
            (may_copy migration part held (card mid) (want (left_by s steps)) is.3
            (moves_there (MovesAt (Migrating migration part)) (Migrating migration part) (copies_there part is.1 (subst (λ (es : List Extent). AreIn (part.block.0 * part.block_sectors) part.block_sectors es) (sym is.2) (whole_in part.block_sectors part.block)) migration) led card makes blocks s old b m idle steps mid f l))
        by_job (OnBlock (Reading part)) b m never = absurd never
        by_job (OnBlock (Writing part)) b m never = absurd never
        by_job (OnBlock (Displacing part)) b m never = absurd never
        by_job (OnBlock (Invalidating part)) b m never = absurd never
        by_job (Suspending all most) b m free = absurd m
        by_job (Flushing serves most) b m free =
            let suits = suits_there led card makes blocks s old steps mid (subst (λ (t : Plan). Suits blocks t (card old)) (sym b) (begins blocks (Flushing serves most) (card old) m idle)) f l in
            flush_moves serves most size held (card mid) (want (left_by s steps)) (subst (λ (j : TaskJob). IsOwnStep j (want (left_by s steps))) (same_job s steps ∙ ap (λ (t : Plan). t.job) b) (is_own_step blocks (left_by s steps) (card mid) suits))
        by_job (Opening left) b m free = absurd m

    pub work_idle : (steps : List (Want × Got)) (answer : Answer) (new : S) → IsRunOf s steps answer → Leads led old steps new → (card new).hold ≡ Nothing
    work_idle steps answer new run l =
        let whole = run_first s steps answer run in
        ends_holding_nothing blocks (left_by s steps) (card new) answer (suits_there led card makes blocks s old steps new at_start whole.0 l) whole.1
