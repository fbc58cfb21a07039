use Rattle.std.proofs.Common.{◌≡◌, take}
use Rattle.wb_policy.specs.Placing.{mapped_from}
use Rattle.wb_policy.proofs.tiny_lfu.mapped_blocks.Given as goal

abbrev pub invariant-loop-at : goal.invariant-loop-at
invariant-loop-at l = l.blocks.items ≡ mapped_from 0 (take l.at l.fn.mapping)
