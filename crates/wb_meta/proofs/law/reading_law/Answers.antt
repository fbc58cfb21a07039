use Rattle.wb_meta.proofs.OneReading.{one_newest, one_tree, one_state, one_refusal, state_only, fitting_only, not_refused, old_or_tree, old_or_tree-read}
use Rattle.wb_meta.proofs.law.reading_law.Goals as goal

pub returns-clause-one_root : goal.returns-clause-one_root
returns-clause-one_root c = one_newest

pub returns-clause-one_tree : goal.returns-clause-one_tree
returns-clause-one_tree c = one_tree

pub returns-clause-one_state : goal.returns-clause-one_state
returns-clause-one_state c = one_state

pub returns-clause-one_refusal : goal.returns-clause-one_refusal
returns-clause-one_refusal c = one_refusal

pub returns-clause-state_only : goal.returns-clause-state_only
returns-clause-state_only c = state_only

pub returns-clause-fitting_only : goal.returns-clause-fitting_only
returns-clause-fitting_only c = fitting_only

pub returns-clause-not_refused : goal.returns-clause-not_refused
returns-clause-not_refused c = not_refused

pub returns-clause-old_or_tree : goal.returns-clause-old_or_tree
returns-clause-old_or_tree c = old_or_tree

pub returns-clause-old_or_tree_not_refused : goal.returns-clause-old_or_tree_not_refused
returns-clause-old_or_tree_not_refused c = old_or_tree-read
