use Rattle.std.proofs.Common.{true, refl}
use Rattle.wb_desk.proofs.Safe.{given_decided, none_decided}
use Rattle.wb_desk.proofs.desk.Desk.queue.Goals as goal

pub returns-in-Some-clause-calls : goal.returns-in-Some-clause-calls
returns-in-Some-clause-calls g c =
    given_decided g.P.Policy.knows c.args.self.now c.give.new.self true c.args.order c.may_reserve.ensures.desk (c.in-Some.c, c.in-Some.ensures.may, c.give.ensures) tt

pub returns-in-None-clause-calls : goal.returns-in-None-clause-calls
returns-in-None-clause-calls g c = none_decided g.P.Policy.knows c.args.self.now c.args.self.now refl
