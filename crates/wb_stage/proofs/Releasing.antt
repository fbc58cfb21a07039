-- An order that does not live is not given up.
use Rattle.std.proofs.Common.{◌≡◌, Option, Some, refl, sym, subst}
use Rattle.wb_policy.specs.declared.order.Order.{Order}
use Rattle.wb_desk.specs.Desks.{DeskState, IsLive}
use Rattle.wb_stage.specs.Asking.{IsGivenUp}

pub dead_order : {P : Type 0} (d : DeskState P) (found : Option Order) (order : Order) → found ≡ Some order → ¬ IsLive d order → IsGivenUp found d d
dead_order d found order e dead = subst (λ (o : Option Order). IsGivenUp o d d) (sym e) ((λ live. absurd (dead live)), (λ other. refl))
