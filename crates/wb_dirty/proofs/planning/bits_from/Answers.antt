use Rattle.std.proofs.Common.{◌∙◌, sym, arith}
use Rattle.wb_dirty.proofs.PlanBits.{word-none, word-set, word-clear}
use Rattle.wb_dirty.proofs.planning.bits_from.Goals.{then-has, else-has}
use Rattle.wb_dirty.proofs.planning.bits_from.Goals as goal

pub loop-t-init : goal.loop-t-init
loop-t-init c = word-none c.args.dirty.now c.args.first

pub loop-t-preserved : goal.loop-t-preserved
loop-t-preserved c =
    elim c.if-has.branch [
      | then-has w ↦ word-set c.args.dirty.now c.args.first c.loop-t.word c.loop-t.t c.if-has.word c.loop-t.invariant c.loop-t-test.true (sym c.has.ensures ∙ w.if-has.true) w.word-is
      | else-has w ↦ word-clear c.args.dirty.now c.args.first c.loop-t.word c.loop-t.t c.if-has.word c.loop-t.invariant (sym c.has.ensures ∙ w.if-has.false) w.word-is
    ]

pub returns : goal.returns
returns c k below = c.loop-t.invariant.set k (omega (arith, c.loop-t-test.false))
