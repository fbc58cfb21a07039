use Rattle.wb_meta.proofs.Deciding.{stored_is_read, crash_decides, sync_decides, failed_sync_leaves, read_is_committed, nothing_is_refused}
use Rattle.wb_meta.proofs.roots.one_state_is_read.Goals as goal

pub returns-clause-stored : goal.returns-clause-stored
returns-clause-stored g = stored_is_read

pub returns-clause-crash : goal.returns-clause-crash
returns-clause-crash g = crash_decides

pub returns-clause-sync : goal.returns-clause-sync
returns-clause-sync g = sync_decides

pub returns-clause-failed_sync : goal.returns-clause-failed_sync
returns-clause-failed_sync g = failed_sync_leaves

pub returns-clause-read : goal.returns-clause-read
returns-clause-read g = read_is_committed

pub returns-clause-not_refused : goal.returns-clause-not_refused
returns-clause-not_refused g = nothing_is_refused
