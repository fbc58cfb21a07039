use Rattle.std.proofs.Common.{arith}
use Rattle.std.proofs.lemmas.Grind.{common_steps}
use Rattle.std.proofs.KnownBytes.{Consumes-trans}
use Rattle.wb_nbd.proofs.input.skip.Goals as goal

pub loop-left-preserved : goal.loop-left-preserved
loop-left-preserved g c =
    let i = c.loop-left.invariant in
    let e = c.in_ok-fill.ensures.read in
    let m = c.in_ok-fill.ensures.many in
    (_, Consumes-trans _ _ _ _ _ i.1 e, grind (arith, common_steps, i.2, m, c.min-next.ensures))
