use Rattle.std.proofs.Common.{◌+◌, ◌∙◌, ap, refl}
use Rattle.wb_nbd.specs.declared.connection.Turns.{Turns}
use Rattle.wb_nbd.specs.Talking.{still, further}
use Rattle.wb_nbd.proofs.connection.Connection.serve.Goals as goal

pub loop-init : goal.loop-init
loop-init g c = (still, refl, refl)

pub loop-preserved : goal.loop-preserved
loop-preserved g c =
    let goes = c.if-not-branch.false in
    let counted = c.in_ok-take_turn.ensures.counted goes in (
      further c.loop.invariant.0 (c.in_ok-take_turn.ensures.turn goes),
      ap (λ (t : Turns). t.taken) counted ∙ ap (λ n. n + 1) c.loop.invariant.1,
      ap (λ (t : Turns). t.sent) counted ∙ ap (λ n. n + 1) c.loop.invariant.2,
    )
