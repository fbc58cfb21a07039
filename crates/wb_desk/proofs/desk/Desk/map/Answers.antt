use Rattle.std.proofs.Common.{arith, sym, subst}
use Rattle.wb_desk.specs.Desks.{DeskState}
use Rattle.wb_desk.specs.Entries.{MayMap}
use Rattle.wb_desk.proofs.Entering.{entrance, mapped_inside, mapped_parts}
use Rattle.wb_desk.proofs.desk.Desk.map.Goals as goal

pub places_above-above-requires : goal.places_above-above-requires
places_above-above-requires g c =
    let may = subst (λ (d : DeskState _). MayMap d c.args.b c.args.c) (sym c.self.view_is) c.requires in
    omega (arith, (entrance g.P.Policy.knows _ c.args.b c.args.c c.self.invariant.desk may).inside, c.self.invariant.desk.mapping.size)

pub index_mut-requires : goal.index_mut-requires
index_mut-requires g c =
    let may = subst (λ (d : DeskState _). MayMap d c.args.b c.args.c) (sym c.self.view_is) c.requires in
    omega (arith, mapped_inside g.P.Policy.knows _ c.args.b c.args.c c.self.inside.cached.items c.self.inside.left c.self.inside.mapped c.self.invariant c.end.ensures.orders may)

pub invariant_of-self-2 : goal.invariant_of-self-2
invariant_of-self-2 g c =
    let may = subst (λ (d : DeskState _). MayMap d c.args.b c.args.c) (sym c.self.view_is) c.requires in
    rw (c.end.ensures.state, c.map.ensures, c.one_more-self-inside.ensures, c.note_left.ensures, c.places_above-above.ensures) (mapped_parts g.P.Policy.knows _ c.args.b c.args.c c.enter.new.tree c.enter.new.policy c.self.inside.cached.items c.self.inside.left c.self.inside.mapped
    c.self.invariant c.end.ensures.orders may c.in_ok-enter.ensures.tree c.in_ok-enter.ensures.knows)
