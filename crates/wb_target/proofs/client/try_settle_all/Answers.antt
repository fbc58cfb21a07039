use Rattle.std.proofs.Common.{List, subst}
use Rattle.wb_types.specs.declared.number.OBlock.{OBlock}
use Rattle.wb_target.specs.Told.{WereSettled}
use Rattle.wb_target.proofs.client.try_settle_all.Goals as goal

pub returns-clause-told : goal.returns-clause-told
returns-clause-told g c = subst (λ (blocks : List OBlock). WereSettled g.P.Policy.ordered g.P.Policy.settled blocks) c.as_slice.ensures.value c.if-not-try_settle.ensures
