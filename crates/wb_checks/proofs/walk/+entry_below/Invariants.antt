use Rattle.wb_checks.proofs.walk.+entry_below.Given as goal

abbrev pub decreases-entry_below : goal.decreases-entry_below
decreases-entry_below g l = l.level
