-- Runs of a task, and where its steps lead.
use Rattle.std.specs.Prelude.{◌≡◌, List, [], ◌∷◌}
use Rattle.wb_tasks.specs.Plan.{Plan, want, after, Fits}
use Rattle.wb_tasks.specs.declared.step.Answer.{Answer}
use Rattle.wb_tasks.specs.declared.step.Want.{Want}
use Rattle.wb_tasks.specs.declared.step.Want.TheVariants.{End}
use Rattle.wb_tasks.specs.declared.step.Got.{Got}

-- These steps and results are a whole run of what is left of a task, and it ends with this answer.
abbrev pub IsRunOf : Plan → List (Want × Got) → Answer → Type 0
IsRunOf s [] answer = want s ≡ End answer
IsRunOf s (step ∷ steps) answer = (step.0 ≡ want s) × Fits step.0 step.1 × IsRunOf (after s step.1) steps answer

-- One after another these steps lead from the first state to the last.
abbrev pub Leads : {S : Type 0} → (S → Want → Got → S → Type 0) → S → List (Want × Got) → S → Type 0
Leads led old [] new = old ≡ new
Leads {S} led old (step ∷ steps) new = (mid : S) × led old step.0 step.1 mid × Leads led mid steps new
