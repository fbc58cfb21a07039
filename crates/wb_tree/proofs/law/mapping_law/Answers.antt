use Rattle.wb_tree.proofs.Stored.EntryChanges.{set-mapping, clear-mapping}
use Rattle.wb_tree.proofs.law.mapping_law.Goals as goal

pub returns-clause-set : goal.returns-clause-set
returns-clause-set c = set-mapping

pub returns-clause-clear : goal.returns-clause-clear
returns-clause-clear c = clear-mapping
