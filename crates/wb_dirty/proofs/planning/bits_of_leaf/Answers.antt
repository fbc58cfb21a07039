use Rattle.std.proofs.Common.{◌*◌, refl, ◌∙◌, arith}
use Rattle.std.proofs.lemmas.List.{length-set}
use Rattle.wb_dirty.proofs.PlanBits.{words-more}
use Rattle.wb_dirty.proofs.planning.bits_of_leaf.Goals as goal

pub loop-j-init : goal.loop-j-init
loop-j-init c = record { size = refl; set = λ k below. absurd (omega arith) }

pub loop-j-preserved : goal.loop-j-preserved
loop-j-preserved c =
    words-more c.args.dirty.now (2048 * c.args.index) c.loop-j.words _ c.loop-j.j c.bits_from.result c.loop-j.invariant c.loop-j-test.true c.bits_from.ensures refl (length-set c.loop-j.words c.loop-j.j c.bits_from.result ∙ c.loop-j.invariant.size)

pub returns : goal.returns
returns c k below = c.loop-j.invariant.set k (omega (arith, c.loop-j-test.false))
