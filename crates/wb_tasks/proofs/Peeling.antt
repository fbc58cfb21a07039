-- The next step of a run, and the rest of it.
use Rattle.std.proofs.Common.{List, [], ◌∷◌, subst}
use Rattle.wb_tasks.specs.Plan.{Plan, want, after, Fits, IsStep}
use Rattle.wb_tasks.specs.Run.{IsRunOf, Leads}
use Rattle.wb_tasks.specs.declared.step.Answer.{Answer}
use Rattle.wb_tasks.specs.declared.step.Want.{Want}
use Rattle.wb_tasks.specs.declared.step.Got.{Got}

-- What the next step gave, and the rest of a run that is answered so.
pub record Peeled {S : Type 0} (led : S → Want → Got → S → Type 0) (s : Plan) (answer : Answer) (old new : S) : Type 0 where
  pub got : Got
  pub mid : S
  pub rest : List (Want × Got)
  pub fits : Fits (want s) got
  pub did : led old (want s) got mid
  pub run : IsRunOf (after s got) rest answer
  pub leads : Leads led mid rest new

-- a step that is to be taken is taken by a run
pub peel : {S : Type 0} (led : S → Want → Got → S → Type 0) (s : Plan) (answer : Answer) (steps : List (Want × Got)) (old new : S) → IsStep (want s) → IsRunOf s steps answer → Leads led old steps new → Peeled led s answer old new
peel led s answer [] old new is r l = absurd (subst (λ (w : Want). IsStep w) r is)
peel led s answer (step ∷ steps) old new is r l = record {
  got = step.1;
  mid = l.0;
  rest = steps;
  fits = subst (λ (w : Want). Fits w step.1) r.0 r.1;
  did = subst (λ (w : Want). led old w step.1 l.0) r.0 l.1;
  run = r.2;
  leads = l.2;
}
