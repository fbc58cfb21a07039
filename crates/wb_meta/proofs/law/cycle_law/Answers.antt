use Rattle.wb_meta.proofs.Round.{stored_formatted, stored_read, stored_edited, unused_free, next_planned, stored_committed}
use Rattle.wb_meta.proofs.law.cycle_law.Goals as goal

pub returns-clause-formatted : goal.returns-clause-formatted
returns-clause-formatted c = stored_formatted

pub returns-clause-read : goal.returns-clause-read
returns-clause-read c = stored_read

pub returns-clause-edited : goal.returns-clause-edited
returns-clause-edited c = stored_edited

pub returns-clause-free : goal.returns-clause-free
returns-clause-free c = unused_free

pub returns-clause-planned : goal.returns-clause-planned
returns-clause-planned c = next_planned

pub returns-clause-committed : goal.returns-clause-committed
returns-clause-committed c = stored_committed
