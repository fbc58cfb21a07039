use Rattle.std.proofs.Common.{◌≡◌, replicate}
use Rattle.wb_disk.specs.Memory.{blank}
use Rattle.wb_disk.specs.Stored.{histories, capacities}
use Rattle.wb_disk.proofs.memory.MemDisk.new.Given as goal

abbrev pub invariant-loop : goal.invariant-loop
invariant-loop l = (histories l.all.items ≡ replicate l.counter blank) × (capacities l.all.items ≡ replicate l.counter 0)
