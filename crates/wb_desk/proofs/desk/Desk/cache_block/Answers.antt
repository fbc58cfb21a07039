use Rattle.std.proofs.Common.{subst}
use Rattle.wb_policy.specs.declared.order.Order.{Order}
use Rattle.wb_desk.specs.Desks.{holdings, Takes}
use Rattle.wb_desk.proofs.Index.{none_takes}
use Rattle.wb_desk.proofs.desk.Desk.cache_block.Goals as goal

pub returns-in-Demote-clause-none : goal.returns-in-Demote-clause-none
returns-in-Demote-clause-none g c = none_takes (holdings c.args.self.now) c.in-Demote.b.0 c.args.order c.place.result
    (λ k t. subst (λ (o : Order). Takes (holdings c.args.self.now) k o) c.in-Demote.is t) c.place.ensures.none

pub returns-in-Clean-clause-none : goal.returns-in-Clean-clause-none
returns-in-Clean-clause-none g c = none_takes (holdings c.args.self.now) c.in-Clean.b.0 c.args.order c.place-in-Clean.result
    (λ k t. subst (λ (o : Order). Takes (holdings c.args.self.now) k o) c.in-Clean.is t) c.place-in-Clean.ensures.none
