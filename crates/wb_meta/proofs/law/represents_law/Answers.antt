use Rattle.wb_meta.proofs.OneReading.{state_reading, damage_reading, tree_reading, one_reading, whole_read}
use Rattle.wb_meta.proofs.law.represents_law.Goals as goal

pub returns-clause-state : goal.returns-clause-state
returns-clause-state c = state_reading

pub returns-clause-damage : goal.returns-clause-damage
returns-clause-damage c = damage_reading

pub returns-clause-tree : goal.returns-clause-tree
returns-clause-tree c = tree_reading

pub returns-clause-one : goal.returns-clause-one
returns-clause-one c = one_reading

pub returns-clause-whole : goal.returns-clause-whole
returns-clause-whole c = whole_read
