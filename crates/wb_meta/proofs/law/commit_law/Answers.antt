use Rattle.wb_meta.specs.Laws.{Wanted}
use Rattle.wb_meta.proofs.Crashing.{come_crash, early_crash, nodes_crash, failed_crash, done_crash}
use Rattle.wb_meta.proofs.Stepping.{goes_on, fails}
use Rattle.wb_meta.proofs.law.commit_law.Goals as goal

pub returns-clause-goes_on : goal.returns-clause-goes_on
returns-clause-goes_on c = goes_on

pub returns-clause-fails : goal.returns-clause-fails
returns-clause-fails c = fails

pub returns-clause-during : goal.returns-clause-during
returns-clause-during c image of before now steps old found m = come_crash image of before now steps old (Wanted image found m)

pub returns-clause-failed : goal.returns-clause-failed
returns-clause-failed c image of before now steps old found m = failed_crash image of before now steps old (Wanted image found m)

pub returns-clause-before_root : goal.returns-clause-before_root
returns-clause-before_root c image of before now steps old found m = early_crash image of before now steps old (Wanted image found m)

pub returns-clause-failed_node : goal.returns-clause-failed_node
returns-clause-failed_node c image of count before now old found m = nodes_crash image of before now old (Wanted image found m)

pub returns-clause-done : goal.returns-clause-done
returns-clause-done c image before now old found m = done_crash image before now old (Wanted image found m)
