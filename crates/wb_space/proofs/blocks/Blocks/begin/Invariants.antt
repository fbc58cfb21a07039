use Rattle.std.proofs.Common.{◌≡◌, map}
use Rattle.wb_bits.proofs.Chosen.{chosen}
use Rattle.wb_space.specs.Blocks.{is_late, commit_begun}
use Rattle.wb_space.proofs.blocks.Blocks.begin.Given as goal

abbrev pub invariant-loop-c : goal.invariant-loop-c
invariant-loop-c l = map commit_begun l.self ≡ map commit_begun l.initial.self

abbrev pub decreases-loop-c : goal.decreases-loop-c
decreases-loop-c l = chosen is_late l.self
