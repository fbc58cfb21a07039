use Rattle.std.proofs.Common.{sym, ap}
use Rattle.wb_meta.specs.Reads.{known_root}
use Rattle.wb_meta.proofs.read_steps.ReadSteps.root.Goals as goal

pub returns-in-RootFound : goal.returns-in-RootFound
returns-in-RootFound g c = sym (ap known_root c.in-RootFound.is)
