use Rattle.std.proofs.Common.{◌≡◌, ap, ◌+◌, ◌≤◌, List, [], ◌∷◌, ◌++◌, length, sym, subst, ◌∙◌, append-nil, arith, length-append}
use Rattle.wb_tasks.specs.Plan.{want, after, Fits}
use Rattle.wb_tasks.specs.Length.{longest}
use Rattle.wb_tasks.specs.declared.step.Want.{Want}
use Rattle.wb_tasks.specs.declared.step.Got.{Got}
use Rattle.wb_tasks.specs.Ready.{left_by}
use Rattle.wb_tasks.specs.Plan.{Plan, IsStep}
use Rattle.wb_tasks.proofs.Driving.{falls, first_more, left_more, leads_more, leaves_more, longest_of-some, IsStep-no_answer}
use Rattle.wb_tasks.proofs.stage.drive.Goals as goal

pub returns-in-End : goal.returns-in-End
returns-in-End g c =
    let so_far = c.loop-want.invariant in
    let s = g.T.Task.plan c.loop-want.task in
    let whole = so_far.1.3 [] c.in-End.answer (sym so_far.0 ∙ c.in-End.is) in
    record { run = (so_far.1.0, omega (arith, so_far.1.1, longest_of-some s.job s.steps), rw append-nil at whole, so_far.1.2) }

pub perform-got-requires-clause-step : goal.perform-got-requires-clause-step
perform-got-requires-clause-step g c = IsStep-no_answer c.loop-want.want c.in_default.not-End

pub perform-got-requires-clause-ready : goal.perform-got-requires-clause-ready
perform-got-requires-clause-ready g c =
    let so_far = c.loop-want.invariant in
    let t = g.T.Task.plan c.args.task.now in
    let next : c.loop-want.want ≡ want (left_by t so_far.1.0) = so_far.0 ∙ ap want so_far.1.5 in
    rw next (c.requires so_far.1.0 c.loop-want.stage so_far.1.4 so_far.1.2
    (subst (λ (w : Want). IsStep w) next (IsStep-no_answer c.loop-want.want c.in_default.not-End)))

pub loop-want-smaller : goal.loop-want-smaller
loop-want-smaller g c =
    let s = g.T.Task.plan c.loop-want.task in
    let fits : Fits (want s) c.perform-got.result = subst (λ (w : Want). Fits w c.perform-got.result) c.loop-want.invariant.0 c.perform-got.ensures.kind in
    rw c.next-want-in-loop-want.ensures.left (falls s.job s.steps s.answer c.perform-got.result fits)

pub loop-want-preserved : goal.loop-want-preserved
loop-want-preserved g c =
    let so_far = c.loop-want.invariant in
    let s = g.T.Task.plan c.loop-want.task in
    let t = g.T.Task.plan c.args.task.now in
    let got = c.perform-got.result in
    let step : List (Want × Got) = (want s, got) ∷ [] in
    let fits : Fits (want s) got = subst (λ (w : Want). Fits w got) so_far.0 c.perform-got.ensures.kind in
    let led : g.S.Stage.led c.loop-want.stage (want s) got c.perform-got.new.self =
    subst (λ (w : Want). g.S.Stage.led c.loop-want.stage w got c.perform-got.new.self) so_far.0 c.perform-got.ensures.led in
    let shorter : length (so_far.1.0 ++ step) + longest (after s got) ≤ longest t =
    omega (arith, so_far.1.1, length-append so_far.1.0 step, falls s.job s.steps s.answer got fits) in (
      c.next-want-in-loop-want.ensures.want,
      (
        so_far.1.0 ++ step,
        rw c.next-want-in-loop-want.ensures.left shorter,
        leads_more g.S.Stage.led c.args.stage.now so_far.1.0 c.loop-want.stage (want s) got c.perform-got.new.self so_far.1.2 led,
        rw c.next-want-in-loop-want.ensures.left (leaves_more t so_far.1.0 s got so_far.1.3 fits),
        rw so_far.1.5 (first_more t so_far.1.0 got so_far.1.4 (subst (λ (v : Plan). Fits (want v) got) so_far.1.5 fits)),
        c.next-want-in-loop-want.ensures.left ∙ ap (λ (v : Plan). after v got) so_far.1.5 ∙ sym (left_more t so_far.1.0 (want s) got),
      ),
    )
