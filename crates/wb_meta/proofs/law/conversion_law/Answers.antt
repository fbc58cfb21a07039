use Rattle.wb_meta.proofs.Converting.{bits_come_back, anew_is_mapping, anew_is_edited, conversion_begins, conversion_keeps}
use Rattle.wb_meta.proofs.law.conversion_law.Goals as goal

pub returns-clause-bits : goal.returns-clause-bits
returns-clause-bits c = bits_come_back

pub returns-clause-mapping : goal.returns-clause-mapping
returns-clause-mapping c = anew_is_mapping

pub returns-clause-edited : goal.returns-clause-edited
returns-clause-edited c = anew_is_edited

pub returns-clause-begins : goal.returns-clause-begins
returns-clause-begins c = conversion_begins

pub returns-clause-keeps : goal.returns-clause-keeps
returns-clause-keeps c = conversion_keeps
