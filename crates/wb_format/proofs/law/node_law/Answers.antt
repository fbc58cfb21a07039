use Rattle.wb_format.proofs.Values.{one_node}
use Rattle.wb_format.proofs.Spellings.{one_node_spelling}
use Rattle.wb_format.proofs.law.node_law.Goals as goal

pub returns-clause-one_value : goal.returns-clause-one_value
returns-clause-one_value c = one_node

pub returns-clause-one_spelling : goal.returns-clause-one_spelling
returns-clause-one_spelling c = one_node_spelling
