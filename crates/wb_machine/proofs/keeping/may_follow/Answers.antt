use Rattle.wb_machine.proofs.Kept.{on_false}
use Rattle.wb_machine.proofs.keeping.may_follow.Goals as goal

pub returns-then-is_reserved-clause-other : goal.returns-then-is_reserved-clause-other
returns-then-is_reserved-clause-other c = on_false c.brings.result _ _ (λ none f. none f.0 f.1) c.brings.ensures.other
