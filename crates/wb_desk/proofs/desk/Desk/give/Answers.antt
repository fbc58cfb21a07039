use Rattle.std.proofs.Common.{◌≡◌, subst, sym}
use Rattle.wb_desk.specs.Desks.{DeskState, MayReserve, sectors_asked}
use Rattle.wb_desk.proofs.Kept.{reserved_kept}
use Rattle.wb_desk.proofs.desk.Desk.give.Goals as goal

pub invariant_of-self : goal.invariant_of-self
invariant_of-self g c =
    let m = subst (λ (d : DeskState _). MayReserve d c.args.c c.args.order) (sym c.self.view_is) c.requires in
    let s = subst (λ (d : DeskState _). c.sectors-sectors.result ≡ sectors_asked d.geometry c.args.order) (sym c.self.view_is) c.sectors-sectors.ensures in
    rw (c.reserve_block.ensures, c.give.ensures, s) (record {
      desk = reserved_kept g.P.Policy.knows _ c.args.c c.args.order c.args.waits c.self.invariant.desk m;
      sound = c.self.invariant.sound;
      index = c.self.invariant.index;
      have_left = c.self.invariant.have_left;
      count = c.self.invariant.count;
    })
