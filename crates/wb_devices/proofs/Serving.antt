-- An opening wants steps of an opening alone.
use Rattle.std.proofs.Common.{◌≡◌, ◌∙◌, ℕ, List, [], ◌∷◌, refl, sym, subst, ap}
use Rattle.wb_words.specs.Cards.{blank_card}
use Rattle.wb_tasks.specs.Tables.{TaskJob, Opening}
use Rattle.wb_tasks.specs.Ready.{AreFirst, MayMake, IsOwnStep, IsOpenings, Suits, left_by}
use Rattle.wb_tasks.specs.Plan.{Plan, table, want, after, Fits}
use Rattle.wb_tasks.specs.declared.step.Want.{Want}
use Rattle.wb_tasks.specs.declared.step.Want.TheVariants.{Cell, Device, Desk, End}
use Rattle.wb_tasks.specs.declared.step.Got.{Got}
use Rattle.wb_tasks.specs.Run.{Leads}
use Rattle.wb_disk.specs.Device.{History}
use Rattle.wb_devices.specs.Openings.{MayGoOn}
use Rattle.wb_devices.specs.OpeningLed.{LedOpening}
use Rattle.wb_devices.specs.declared.opening_stage.OpeningStage.{OpeningStage}
use Rattle.wb_tasks.proofs.Readiness.{opening_begins, keeps_ready, is_own_step, job_stays}

-- a step of an opening is on no word, and so changes no card
stays : (w : Want) (got : Got) → IsOpenings w → MayMake w got blank_card blank_card
stays (Cell step) got h = absurd h
stays (Device step) got h = refl
stays (Desk step) got h = refl
stays (End answer) got h = refl

wanted : (left : ℕ) (s : Plan) → s.job ≡ Opening left → Suits 0 s blank_card → IsOpenings (want s)
wanted left s job suits = subst (λ (j : TaskJob). IsOwnStep j (want s)) job (is_own_step 0 s blank_card suits)

from : (left : ℕ) (s : Plan) (steps : List (Want × Got)) → s.job ≡ Opening left → Suits 0 s blank_card → AreFirst s steps → IsOpenings (want (left_by s steps))
from left s [] job suits f = wanted left s job suits
from left s (step ∷ steps) job suits f =
    let fits : Fits (want s) step.1 = subst (λ (w : Want). Fits w step.1) f.0 f.1 in
    from left (after s step.1) steps (job_stays s step.1 ∙ job) (keeps_ready 0 s blank_card blank_card step.1 suits fits (stays (want s) step.1 (wanted left s job suits))) f.2

pub opens_only : (s : Plan) (left : ℕ) (steps : List (Want × Got)) → s ≡ table (Opening left) → AreFirst s steps → IsOpenings (want (left_by s steps))
opens_only s left steps begun f = from left s steps (ap (λ (t : Plan). t.job) begun) (subst (λ (t : Plan). Suits 0 t blank_card) (sym begun) (opening_begins 0 left blank_card refl)) f

-- wherever its steps lead, the reading is one of the metadata device
module _ {D : Type 0} (tells : Type 0) (size : D → ℕ) (contents : D → List History) (faults : D → ℕ) where
  goes_on_then : (old : OpeningStage D) (w : Want) (got : Got) (new : OpeningStage D) → LedOpening tells size contents faults old w got new → MayGoOn (size new.devices.metadata) new.opening
  goes_on_then old (Device step) got new l = l.3
  goes_on_then old (Cell step) got new l = absurd l
  goes_on_then old (Desk step) got new l = absurd l
  goes_on_then old (End answer) got new l = absurd l

  pub goes_on_still : (old : OpeningStage D) (steps : List (Want × Got)) (new : OpeningStage D) → MayGoOn (size old.devices.metadata) old.opening → Leads (LedOpening tells size contents faults) old steps new → MayGoOn (size new.devices.metadata) new.opening
  goes_on_still old [] new h e = subst (λ (s : OpeningStage D). MayGoOn (size s.devices.metadata) s.opening) e h
  goes_on_still old (step ∷ steps) new h l = goes_on_still l.0 steps new (goes_on_then old step.0 step.1 l.0 l.1) l.2
