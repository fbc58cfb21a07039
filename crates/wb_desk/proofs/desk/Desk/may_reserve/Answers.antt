use Rattle.std.proofs.Common.{◌≡◌, ℕ, subst, sym}
use Rattle.std.specs.Option.{IfNone}
use Rattle.std.proofs.Common.{Option}
use Rattle.wb_types.specs.declared.number.CBlock.{CBlock}
use Rattle.wb_orders.specs.Orders.{MayGive}
use Rattle.wb_desk.specs.Desks.{DeskInvariant, DeskState, MayReserve, sectors_asked}
use Rattle.wb_desk.proofs.Index.{refused, lawful_takes}
use Rattle.wb_desk.proofs.desk.Desk.may_reserve.Goals as goal

pub returns-in_err-c-clause-other : goal.returns-in_err-c-clause-other
returns-in_err-c-clause-other g c = subst (λ (x : Option CBlock). IfNone x ((k : CBlock) → MayReserve c.args.self.now k c.args.order → ⊥)) (sym c.from_residual.ensures)
    (λ k m. c.in_err-c.ensures.none k (lawful_takes c.args.self.now k c.args.order m.lawful))

pub returns-then-not-may_give-clause-other : goal.returns-then-not-may_give-clause-other
returns-then-not-may_give-clause-other g c =
    let i = subst (λ (d : DeskState _). DeskInvariant g.P.Policy.knows d) c.self.view_is c.self.invariant.desk in
    let s = subst (λ (d : DeskState _). c.sectors-sectors.result ≡ sectors_asked d.geometry c.args.order) (sym c.self.view_is) c.sectors-sectors.ensures in
    refused c.args.self.now c.in_ok-c.c c.args.order i.mapping c.in_ok-c.ensures.takes (λ m.
    c.if-not-may_give.ensures.other (subst (λ (n : ℕ). MayGive c.self.inside.orders c.in_ok-c.c c.args.order n c.self.inside.threshold) (sym s)
    (subst (λ (d : DeskState _). MayReserve d c.in_ok-c.c c.args.order) (sym c.self.view_is) m).give))
