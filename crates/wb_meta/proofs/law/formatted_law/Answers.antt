use Rattle.wb_meta.proofs.Round.{formatted_tree}
use Rattle.wb_meta.proofs.law.formatted_law.Goals as goal

pub returns-clause-first : goal.returns-clause-first
returns-clause-first c geometry device formatted = formatted.first

pub returns-clause-empty : goal.returns-clause-empty
returns-clause-empty c = formatted_tree
