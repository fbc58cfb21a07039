use Rattle.wb_devices.proofs.Anew.{AreBitsTo}
use Rattle.wb_devices.proofs.converting.dirty_bits.Given as goal

abbrev pub invariant-loop-block : goal.invariant-loop-block
invariant-loop-block g l = AreBitsTo l.tree.entries l.block l.bits
