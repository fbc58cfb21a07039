use Rattle.wb_tasks.proofs.Bounding.{longest_cut, flush_bounded, suspend_bounded, opening_bounded}
use Rattle.wb_tasks.proofs.law.step_bound.Goals as goal

pub returns-clause-sectors : goal.returns-clause-sectors
returns-clause-sectors c job whole i = longest_cut job whole i

pub returns-clause-flush : goal.returns-clause-flush
returns-clause-flush c serves most = flush_bounded serves most

pub returns-clause-suspend : goal.returns-clause-suspend
returns-clause-suspend c blocks most = suspend_bounded blocks most

pub returns-clause-opening : goal.returns-clause-opening
returns-clause-opening c left = opening_bounded left
