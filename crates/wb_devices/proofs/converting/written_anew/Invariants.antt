use Rattle.wb_devices.proofs.Anew.{IsAnewTo}
use Rattle.wb_devices.proofs.converting.written_anew.Given as goal

abbrev pub invariant-loop-number : goal.invariant-loop-number
invariant-loop-number g l = IsAnewTo l.tree l.number l.anew
