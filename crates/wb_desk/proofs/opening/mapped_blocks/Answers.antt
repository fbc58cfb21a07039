use Rattle.std.proofs.Common.{arith}
use Rattle.wb_desk.proofs.Index.{mapped_list}
use Rattle.wb_desk.proofs.opening.mapped_blocks.Goals as goal

pub returns : goal.returns
returns c = mapped_list c.args.geometry.now.cache_blocks c.args.tree.now.entries c.loop-c.mapped.items c.loop-c.invariant.size c.requires
    (λ k l. c.loop-c.invariant.before k (omega (arith, c.loop-c-test.false)))
