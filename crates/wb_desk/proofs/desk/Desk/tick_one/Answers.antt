use Rattle.wb_desk.proofs.Giving.{gives_by, ends_by, ends_without}
use Rattle.wb_desk.proofs.Safe.{decided_then}
use Rattle.wb_desk.proofs.desk.Desk.tick_one.Goals as goal

pub returns-in-Some-clause-gives : goal.returns-in-Some-clause-gives
returns-in-Some-clause-gives g c = gives_by g.P.Policy.cleaned g.P.Policy.ticked c.args.self.now c.decide_tick.new.self c.queue.new.self c.args.dirty.now c.args.given c.queue.result c.in-Some.order
    c.in-Some.ensures.state c.queue.ensures.given

pub returns-in-Some-clause-ends : goal.returns-in-Some-clause-ends
returns-in-Some-clause-ends g c = ends_by g.P.Policy.cleaned g.P.Policy.ticked c.args.self.now c.decide_tick.new.self c.queue.new.self c.args.dirty.now c.args.given c.queue.result c.in-Some.order
    c.in-Some.ensures.state c.in-Some.ensures.lawful c.queue.ensures.may_not c.queue.ensures.other

pub returns-in-None-clause-ends : goal.returns-in-None-clause-ends
returns-in-None-clause-ends g c = ends_without g.P.Policy.cleaned g.P.Policy.ticked c.args.self.now c.decide_tick.new.self c.args.dirty.now c.args.given c.in-None.ensures.state

pub returns-in-Some-clause-calls : goal.returns-in-Some-clause-calls
returns-in-Some-clause-calls g c = decided_then g.P.Policy.knows c.args.self.now c.decide_tick.new.self c.queue.new.self c.decide_tick.ensures.calls c.queue.ensures.calls
