use Rattle.wb_desk.proofs.Deciding.{decisions_given, ticks_end, cleaner_ends}
use Rattle.wb_desk.proofs.decisions.decisions_law.Goals as goal

pub returns : goal.returns
returns g = record { accesses = decisions_given; ticks = ticks_end; cleaner = cleaner_ends }
