use Rattle.std.proofs.Common.{◌+◌, ◌%◌, ◌^◌, ◌≤◌, ℕ, length, refl, sym, ◌∙◌, ap, arith, subst}
use Rattle.wb_meta.specs.Laws.{Wanted}
use Rattle.wb_meta.specs.Placing.{HavePlaces}
use Rattle.wb_meta.specs.Commits.{CommitHasCome, steps_left}
use Rattle.wb_meta.specs.declared.commit_steps.CommitSteps.{CommitSteps}
use Rattle.wb_meta.proofs.Crashing.{failed_crash, done_crash}
use Rattle.wb_meta.proofs.Imaging.{failed_next, done_next}
use Rattle.wb_meta.proofs.commit_steps.commit.Goals as goal
use Rattle.wb_types.proofs.Truth.{on_err}

pub loop-steps-init : goal.loop-steps-init
loop-steps-init g c = (refl, λ tells. c.new-steps.ensures.begins c.args.image.now (g.D.Disk.contents c.args.disk.now), λ tells. refl)

pub next-requires : goal.next-requires
next-requires g c = subst (λ (n : ℕ). HavePlaces c.args.image.now.nodes.items n) (sym c.loop-steps.invariant.0) c.requires

pub loop-steps-smaller : goal.loop-steps-smaller
loop-steps-smaller g c =
    let nodes = length c.args.image.now.nodes.items in
    let some : 1 ≤ steps_left nodes c.loop-steps.steps = c.is_done.ensures.left nodes c.loop-steps-test.true in
    let left = c.in_ok-next.ensures.left in
    omega (arith, left, some)

pub loop-steps-preserved : goal.loop-steps-preserved
loop-steps-preserved g c = (
  c.in_ok-next.ensures.size ∙ c.loop-steps.invariant.0,
  λ tells. c.in_ok-next.ensures.come tells (g.D.Disk.contents c.args.disk.now) (c.loop-steps.invariant.1 tells),
  λ tells. c.in_ok-next.ensures.no_fault tells ∙ c.loop-steps.invariant.2 tells,
)

pub returns-in_err-next-clause-size : goal.returns-in_err-next-clause-size
returns-in_err-next-clause-size g c = c.in_err-next.ensures.size ∙ c.loop-steps.invariant.0

pub returns-in_err-next-clause-err : goal.returns-in_err-next-clause-err
returns-in_err-next-clause-err g c tells =
    let before = g.D.Disk.contents c.args.disk.now in
    let failed = c.in_err-next.ensures.failed tells before (c.loop-steps.invariant.1 tells) in
    on_err c.from_residual.result (λ old found m may. failed_crash c.args.image.now (g.D.Disk.size c.args.disk.now) before (g.D.Disk.contents c.next.new.disk) c.loop-steps.steps old (Wanted c.args.image.now found m) c.requires may failed)

pub returns-in_err-next-clause-cause : goal.returns-in_err-next-clause-cause
returns-in_err-next-clause-cause g c tells =
    on_err c.from_residual.result (c.in_err-next.ensures.cause tells ∙ ap (λ n. (n + 1) % 2 ^ 64) (c.loop-steps.invariant.2 tells))

pub returns-in_err-next-clause-tree_or_old : goal.returns-in_err-next-clause-tree_or_old
returns-in_err-next-clause-tree_or_old g c tells =
    let before = g.D.Disk.contents c.args.disk.now in
    let failed = c.in_err-next.ensures.failed tells before (c.loop-steps.invariant.1 tells) in
    on_err c.from_residual.result (λ m n plan old next. failed_next m n plan c.args.image.now before old next (g.D.Disk.contents c.next.new.disk) c.loop-steps.steps failed)

pub returns-clause-size : goal.returns-clause-size
returns-clause-size g c = c.loop-steps.invariant.0

pub returns-clause-ok : goal.returns-clause-ok
returns-clause-ok g c tells old found m may sectors left =
    let before = g.D.Disk.contents c.args.disk.now in
    let now = g.D.Disk.contents c.loop-steps.disk in
    let P : CommitSteps → Type 0 = λ s. CommitHasCome c.args.image.now before s now in
    let done = subst P (c.is_done.ensures.done.0 c.loop-steps-test.false) (c.loop-steps.invariant.1 tells) in
    done_crash c.args.image.now before now old (Wanted c.args.image.now found m) may done sectors left

pub returns-clause-tree : goal.returns-clause-tree
returns-clause-tree g c tells m n plan old next sectors left =
    let before = g.D.Disk.contents c.args.disk.now in
    let now = g.D.Disk.contents c.loop-steps.disk in
    let P : CommitSteps → Type 0 = λ s. CommitHasCome c.args.image.now before s now in
    let done = subst P (c.is_done.ensures.done.0 c.loop-steps-test.false) (c.loop-steps.invariant.1 tells) in
    done_next m n plan c.args.image.now before old next now done sectors left

pub returns-clause-no_fault : goal.returns-clause-no_fault
returns-clause-no_fault g c tells = c.loop-steps.invariant.2 tells
