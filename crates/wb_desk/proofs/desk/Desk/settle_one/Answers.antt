use Rattle.wb_desk.proofs.Giving.{settled_by}
use Rattle.wb_desk.proofs.Safe.{decided_then}
use Rattle.wb_desk.proofs.desk.Desk.settle_one.Goals as goal

pub returns-in-Some-clause-settled : goal.returns-in-Some-clause-settled
returns-in-Some-clause-settled g c = settled_by g.P.Policy.ordered g.P.Policy.settled c.args.self.now c.decide.new.self c.queue.new.self c.args.block c.queue.result c.in-Some.order
    c.in-Some.ensures.state c.in-Some.ensures.lawful c.queue.ensures.given c.queue.ensures.may_not c.queue.ensures.other

pub returns-in-Some-clause-calls : goal.returns-in-Some-clause-calls
returns-in-Some-clause-calls g c = decided_then g.P.Policy.knows c.args.self.now c.decide.new.self c.queue.new.self c.decide.ensures.calls c.queue.ensures.calls
