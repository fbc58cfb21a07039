use Rattle.std.proofs.Common.{refl, ap, subst, ◌∙◌}
use Rattle.std.specs.List.{position}
use Rattle.wb_policy.specs.declared.situation.Settled.{Settled as Access}
use Rattle.wb_space.specs.Blocks.{is_free}
use Rattle.wb_desk.specs.Desks.{DeskState, DeskInvariant, holdings}
use Rattle.wb_desk.proofs.Giving.{may_give}
use Rattle.wb_desk.proofs.Safe.{asked_decided}
use Rattle.wb_desk.proofs.desk.Desk.decide.Goals as goal

pub returns-clause-state : goal.returns-clause-state
returns-clause-state g c =
    let access : Access = record { block = c.args.block; mode = c.self.inside.mode; least_free = c.least_free.result; room = c.room.result; busy = c.busy.result } in (
      access,
      record {
        block = refl;
        mode = ap (λ (d : DeskState _). d.mode) c.self.view_is;
        least_free = c.least_free.ensures ∙ ap (λ (d : DeskState _). position is_free d.space.blocks) c.self.view_is;
        room = c.room.ensures.room;
        busy = c.busy.ensures ∙ ap (λ (d : DeskState _). d.orders.busy) c.self.view_is;
      },
      c.settle.ensures.order ∙ ap (λ (d : DeskState _). g.P.Policy.ordered d.policy access) c.self.view_is,
      rw c.settle.ensures.state (ap (λ (d : DeskState _). let n : DeskState _ = record d { policy = g.P.Policy.settled d.policy access } in n) c.self.view_is),
    )

pub returns-clause-lawful : goal.returns-clause-lawful
returns-clause-lawful g c =
    let access : Access = record { block = c.args.block; mode = c.self.inside.mode; least_free = c.least_free.result; room = c.room.result; busy = c.busy.result } in
    let i = subst (λ (d : DeskState _). DeskInvariant g.P.Policy.knows d) c.self.view_is c.self.invariant.desk in
    let told = subst (λ (d : DeskState _). g.P.Policy.knows c.self.inside.policy (holdings d)) c.self.view_is c.self.invariant.desk.known in
    may_give g.P.Policy.knows c.args.self.now c.args.block access c.settle.result i c.room.ensures.orders (record {
      block = refl;
      mode = ap (λ (d : DeskState _). d.mode) c.self.view_is;
      least_free = c.least_free.ensures ∙ ap (λ (d : DeskState _). position is_free d.space.blocks) c.self.view_is;
      room = c.room.ensures.room;
      busy = c.busy.ensures ∙ ap (λ (d : DeskState _). d.orders.busy) c.self.view_is;
    }) (c.settle.ensures.law (holdings c.args.self.now) told)

pub returns-clause-calls : goal.returns-clause-calls
returns-clause-calls g c =
    let i = subst (λ (d : DeskState _). DeskInvariant g.P.Policy.knows d) c.self.view_is c.self.invariant.desk in
    asked_decided g.P.Policy.knows c.args.self.now _ c.settle.new.self i
    (ap (λ (d : DeskState _). let n : DeskState _ = record d { policy = c.settle.new.self } in n) c.self.view_is)
