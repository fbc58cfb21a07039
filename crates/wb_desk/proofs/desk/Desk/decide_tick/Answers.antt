use Rattle.std.proofs.Common.{◌∙◌, refl, ap, subst}
use Rattle.wb_desk.specs.Desks.{DeskState, DeskInvariant, holdings}
use Rattle.wb_desk.proofs.Giving.{asked_at, may_clean}
use Rattle.wb_desk.proofs.Safe.{asked_decided}
use Rattle.wb_desk.proofs.desk.Desk.decide_tick.Goals as goal

pub returns-clause-state : goal.returns-clause-state
returns-clause-state g c = asked_at g.P.Policy.cleaned g.P.Policy.ticked _ c.args.self.now _ c.args.dirty.now c.args.given c.tick.result _ c.self.view_is
    c.tick.ensures.order refl c.room.ensures.room c.busy.ensures refl (rw c.tick.ensures.state refl)

pub returns-clause-lawful : goal.returns-clause-lawful
returns-clause-lawful g c =
    let i = subst (λ (d : DeskState _). DeskInvariant g.P.Policy.knows d) c.self.view_is c.self.invariant.desk in
    let told = subst (λ (d : DeskState _). g.P.Policy.knows c.self.inside.policy (holdings d)) c.self.view_is c.self.invariant.desk.known in
    may_clean g.P.Policy.knows c.args.self.now c.self.inside.mode c.busy.result.now c.tick.result i c.room.ensures.orders
    (ap (λ (d : DeskState _). d.mode) c.self.view_is) (c.busy.ensures ∙ ap (λ (d : DeskState _). d.orders.busy) c.self.view_is)
    (c.tick.ensures.law (holdings c.args.self.now) told c.requires.mapped)

pub returns-clause-calls : goal.returns-clause-calls
returns-clause-calls g c =
    let i = subst (λ (d : DeskState _). DeskInvariant g.P.Policy.knows d) c.self.view_is c.self.invariant.desk in
    asked_decided g.P.Policy.knows c.args.self.now _ c.tick.new.self i
    (ap (λ (d : DeskState _). let n : DeskState _ = record d { policy = c.tick.new.self } in n) c.self.view_is)
