-- Where the steps of a stage lead, as steps on what the stage is at.
use Rattle.std.proofs.Common.{ℕ, List, [], ◌∷◌, ap, subst}
use Rattle.wb_disk.specs.Device.{History}
use Rattle.wb_tasks.specs.Run.{Leads}
use Rattle.wb_tasks.specs.declared.step.Want.{Want}
use Rattle.wb_tasks.specs.declared.step.Got.{Got}
use Rattle.wb_port.specs.Hands.{ReadState, WriteState, ReadStep, WriteStep, ReadLed, WriteLed}
use Rattle.wb_port.specs.declared.moving.ReadStage.{ReadStage}
use Rattle.wb_port.specs.declared.moving.WriteStage.{WriteStage}

-- what a stage is at
abbrev pub reading_at : {D : Type 0} → ReadStage D → ReadState D
reading_at x = record { hand = x.hand.now; out = x.out.now; moved = x.moved }

abbrev pub writing_at : {D : Type 0} → WriteStage D → WriteState D
writing_at x = record { hand = x.hand.now; moved = x.moved }

module _ {D : Type 0} (tells : Type 0) (size : D → ℕ) (contents : D → List History) (faults : D → ℕ) where
  pub steps_read : (steps : List (Want × Got)) (old new : ReadStage D) → Leads (ReadLed tells size contents faults) old steps new → Leads (ReadStep tells size contents faults old.cells.now.blocks) (reading_at old) steps (reading_at new)
  steps_read [] old new e = ap (λ (y : ReadStage D). reading_at y) e
  steps_read (step ∷ steps) old new l = (reading_at l.0, (l.1.by_pass, l.1.into), subst (λ c. Leads (ReadStep tells size contents faults c.now.blocks) (reading_at l.0) steps (reading_at new)) l.1.cells (steps_read steps l.0 new l.2))

  pub steps_written : (steps : List (Want × Got)) (old new : WriteStage D) → Leads (WriteLed tells size contents faults) old steps new → Leads (WriteStep tells size contents faults old.cells.now.blocks old.from.now) (writing_at old) steps (writing_at new)
  steps_written [] old new e = ap (λ (y : WriteStage D). writing_at y) e
  steps_written (step ∷ steps) old new l = (
    writing_at l.0,
    (l.1.by_pass, l.1.from),
    subst (λ f. Leads (WriteStep tells size contents faults old.cells.now.blocks f.now) (writing_at l.0) steps (writing_at new)) l.1.same_slice
        (subst (λ c. Leads (WriteStep tells size contents faults c.now.blocks l.0.from.now) (writing_at l.0) steps (writing_at new)) l.1.cells (steps_written steps l.0 new l.2)),
  )
