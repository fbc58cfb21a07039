use Rattle.std.proofs.Common.{sym, ◌∙◌, refl}
use Rattle.wb_dirty.proofs.TakenBits.{taken-set, taken-clear, taken-fault, taken-all}
use Rattle.wb_dirty.proofs.bits.take_bits.Goals.{then-is_set+else-not-has, else-is_set}
use Rattle.wb_dirty.proofs.bits.take_bits.Goals as goal

pub returns-then-not-has-clause-fault : goal.returns-then-not-has-clause-fault
returns-then-not-has-clause-fault c =
    taken-fault c.args.mapped.now c.args.leaf c.args.words.now c.args.dirty.now c.loop-k.dirty c.loop-k.k _ c.loop-k.invariant c.loop-k-test.true
    (sym c.is_set.ensures ∙ c.if-is_set.true) refl (sym c.has.ensures ∙ c.if-not-has.true)

pub returns-clause-ok : goal.returns-clause-ok
returns-clause-ok c = taken-all c.args.mapped.now c.args.leaf c.args.words.now c.args.dirty.now c.loop-k.dirty c.loop-k.k c.loop-k.invariant c.loop-k-test.false

pub loop-k-preserved : goal.loop-k-preserved
loop-k-preserved c =
    elim c.if-is_set.branch [
      | then-is_set+else-not-has w ↦
          taken-set c.args.mapped.now c.args.leaf c.args.words.now c.args.dirty.now c.loop-k.dirty c.loop-k.k _ c.if-is_set.dirty c.loop-k.invariant c.loop-k-test.true
          (sym c.is_set.ensures ∙ w.if-is_set.true) refl (sym w.has.ensures ∙ w.if-not-has.false) (w.dirty-is ∙ w.insert.ensures)
      | else-is_set w ↦
          taken-clear c.args.mapped.now c.args.leaf c.args.words.now c.args.dirty.now c.loop-k.dirty c.loop-k.k c.if-is_set.dirty c.loop-k.invariant c.loop-k-test.true
          (sym c.is_set.ensures ∙ w.if-is_set.false) w.dirty-is
    ]
