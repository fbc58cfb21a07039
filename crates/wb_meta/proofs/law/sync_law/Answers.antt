use Rattle.wb_disk.proofs.Leaving.{left-synced, left-crashed, newest-synced, read-partly, left-partly}
use Rattle.wb_meta.proofs.law.sync_law.Goals as goal

pub returns-clause-left : goal.returns-clause-left
returns-clause-left c = left-synced

pub returns-clause-crashed : goal.returns-clause-crashed
returns-clause-crashed c = left-crashed

pub returns-clause-again : goal.returns-clause-again
returns-clause-again c = newest-synced

pub returns-clause-failed : goal.returns-clause-failed
returns-clause-failed c = read-partly

pub returns-clause-no_more : goal.returns-clause-no_more
returns-clause-no_more c = left-partly
