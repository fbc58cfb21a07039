use Rattle.std.proofs.Common.{◌≡◌, subst}
use Rattle.wb_types.specs.declared.number.OBlock.{OBlock}
use Rattle.wb_target.specs.Told.{WasGivenUp}
use Rattle.wb_target.proofs.carrying.give_up.Goals as goal

pub returns-in-Some : goal.returns-in-Some
returns-in-Some g c = λ one is. let same : c.in-Some.block ≡ one = cc in subst (λ (b : OBlock). WasGivenUp g.row.P.Denot c.args.held.now b) same c.release.ensures
