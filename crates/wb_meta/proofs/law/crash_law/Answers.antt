use Rattle.wb_disk.proofs.Leaving.{crash-left, read-left}
use Rattle.wb_meta.proofs.law.crash_law.Goals as goal

pub returns-clause-crashed : goal.returns-clause-crashed
returns-clause-crashed c = crash-left

pub returns-clause-read : goal.returns-clause-read
returns-clause-read c = read-left
