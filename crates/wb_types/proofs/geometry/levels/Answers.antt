use Rattle.std.proofs.Common.{arith}
use Rattle.std.proofs.lemmas.Bool.Decides.{nat_tests}
use Rattle.wb_types.specs.Limits.{depth_of}
use Rattle.wb_types.proofs.Levels.{IsDepth-three, IsDepth-four}
use Rattle.wb_types.proofs.geometry.levels.Goals as goal

pub returns-then-cache_blocks-le32-clause-value : goal.returns-then-cache_blocks-le32-clause-value
unfolding depth_of
returns-then-cache_blocks-le32-clause-value c = grind (arith, nat_tests)

pub returns-then-cache_blocks-le1024-clause-value : goal.returns-then-cache_blocks-le1024-clause-value
unfolding depth_of
returns-then-cache_blocks-le1024-clause-value c = grind (arith, nat_tests)

pub returns-then-cache_blocks-le32768-clause-value : goal.returns-then-cache_blocks-le32768-clause-value
unfolding depth_of
returns-then-cache_blocks-le32768-clause-value c = grind (arith, nat_tests)

pub returns-then-cache_blocks-le32768-clause-depth : goal.returns-then-cache_blocks-le32768-clause-depth
returns-then-cache_blocks-le32768-clause-depth c = IsDepth-three _ (omega arith) (omega arith)

pub returns-else-cache_blocks-le32768-clause-value : goal.returns-else-cache_blocks-le32768-clause-value
unfolding depth_of
returns-else-cache_blocks-le32768-clause-value c = grind (arith, nat_tests)

pub returns-else-cache_blocks-le32768-clause-depth : goal.returns-else-cache_blocks-le32768-clause-depth
returns-else-cache_blocks-le32768-clause-depth c = IsDepth-four _ (omega arith) (omega arith)
