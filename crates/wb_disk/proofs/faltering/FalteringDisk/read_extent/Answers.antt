use Rattle.std.proofs.Common.{false}
use Rattle.wb_disk.proofs.faltering.FalteringDisk.read_extent.Goals as goal

pub returns-clause-how : goal.returns-clause-how
returns-clause-how c = λ _. ((λ at. false), tt)
