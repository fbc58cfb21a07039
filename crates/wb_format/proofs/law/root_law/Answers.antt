use Rattle.wb_format.proofs.Values.{one_root}
use Rattle.wb_format.proofs.Spellings.{one_root_spelling}
use Rattle.wb_format.proofs.law.root_law.Goals as goal

pub returns-clause-one_value : goal.returns-clause-one_value
returns-clause-one_value c = one_root

pub returns-clause-one_spelling : goal.returns-clause-one_spelling
returns-clause-one_spelling c = one_root_spelling
