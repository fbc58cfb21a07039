use Rattle.std.proofs.Common.{arith}
use Rattle.wb_tests_meta.proofs.OwnPlaces.{own-mapping}
use Rattle.wb_tests_meta.proofs.meta.rounds.is_own.Goals as goal

pub returns : goal.returns
returns c = λ yes origin_blocks few.
    own-mapping c.args.blocks origin_blocks c.args.tree.now.entries c.requires few (λ block entry before there. c.loop-block.invariant block entry (omega (arith, before, c.loop-block-test.false)) there)
