use Rattle.std.proofs.Common.{length}
use Rattle.wb_meta.specs.Reads.{AreStepsOn}
use Rattle.wb_tests_meta.proofs.meta.reading.is_read_by.Given as goal

abbrev pub invariant-loop-sector : goal.invariant-loop-sector
invariant-loop-sector l = AreStepsOn (length l.disk.contents) l.steps
