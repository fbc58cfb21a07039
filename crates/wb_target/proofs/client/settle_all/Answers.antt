use Rattle.std.proofs.Common.{List, subst}
use Rattle.wb_types.specs.declared.number.OBlock.{OBlock}
use Rattle.wb_target.specs.Told.{WereSettled}
use Rattle.wb_target.proofs.client.settle_all.Goals as goal

pub returns-then-not-is_empty-clause-told : goal.returns-then-not-is_empty-clause-told
returns-then-not-is_empty-clause-told g c = λ some. subst (λ (blocks : List OBlock). WereSettled g.P.Policy.ordered g.P.Policy.settled blocks) c.as_slice.ensures.value c.settle.ensures
