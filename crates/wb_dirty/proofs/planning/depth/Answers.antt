use Rattle.wb_dirty.proofs.DirtyBits.{depth-one, depth-two, depth-three}
use Rattle.wb_dirty.proofs.planning.depth.Goals as goal
use Rattle.std.proofs.Common.{arith}

pub returns-then-cache_blocks-le2048-clause-value : goal.returns-then-cache_blocks-le2048-clause-value
returns-then-cache_blocks-le2048-clause-value c = depth-one c.args.cache_blocks c.if-cache_blocks-le2048.true

pub returns-then-cache_blocks-le65536-clause-value : goal.returns-then-cache_blocks-le65536-clause-value
returns-then-cache_blocks-le65536-clause-value c = depth-two c.args.cache_blocks (omega (arith, c.if-cache_blocks-le2048.false)) c.if-cache_blocks-le65536.true

pub returns-else-cache_blocks-le65536-clause-value : goal.returns-else-cache_blocks-le65536-clause-value
returns-else-cache_blocks-le65536-clause-value c = depth-three c.args.cache_blocks (omega (arith, c.if-cache_blocks-le65536.false)) c.requires
