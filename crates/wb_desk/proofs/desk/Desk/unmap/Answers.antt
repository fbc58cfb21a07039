use Rattle.std.proofs.Common.{arith, sym, subst, ap, ◌∙◌, None}
use Rattle.wb_types.specs.declared.number.CBlock.{CBlock}
use Rattle.wb_policy.specs.Law.{IsMappedAt}
use Rattle.wb_desk.specs.Desks.{DeskState, DeskInvariant, holdings}
use Rattle.wb_desk.specs.Entries.{MayUnmap, unmapped}
use Rattle.wb_tree.specs.Edits.{IsChangedAt}
use Rattle.wb_desk.proofs.Leaving.{mapped_state, mapped_within, found_there, removed_there, some_mapped, unmapped_parts}
use Rattle.wb_desk.proofs.desk.Desk.unmap.Goals as goal

pub places_above-above-requires : goal.places_above-above-requires
places_above-above-requires g c =
    let at = subst (λ (d : DeskState _). IsMappedAt (holdings d) c.args.b.0 c.in-Some.c.0) (sym c.self.view_is) c.in-Some.ensures.mapped in
    omega (arith, (mapped_within g.P.Policy.knows _ c.args.b.0 c.in-Some.c.0 c.self.invariant.desk at).0, c.self.invariant.desk.mapping.size)

pub end_removal-kept-requires-clause-removed : goal.end_removal-kept-requires-clause-removed
end_removal-kept-requires-clause-removed g c =
    let at = subst (λ (d : DeskState _). IsMappedAt (holdings d) c.args.b.0 c.in-Some.c.0) (sym c.self.view_is) c.in-Some.ensures.mapped in
    let may = subst (λ (d : DeskState _). MayUnmap d c.args.b) (sym c.self.view_is) c.requires in
    removed_there g.P.Policy.knows _ c.args.b c.in-Some.c c.self.invariant.desk at may

pub remove-requires : goal.remove-requires
remove-requires g c =
    let at = subst (λ (d : DeskState _). IsMappedAt (holdings d) c.args.b.0 c.in-Some.c.0) (sym c.self.view_is) c.in-Some.ensures.mapped in
    mapped_state g.P.Policy.knows _ c.args.b.0 c.in-Some.c.0 c.self.invariant.desk at

pub index_mut-requires : goal.index_mut-requires
index_mut-requires g c =
    let at = subst (λ (d : DeskState _). IsMappedAt (holdings d) c.args.b.0 c.in-Some.c.0) (sym c.self.view_is) c.in-Some.ensures.mapped in
    omega (arith, (mapped_within g.P.Policy.knows _ c.args.b.0 c.in-Some.c.0 c.self.invariant.desk at).1, c.self.invariant.index.size)

pub overflow_sub-self : goal.overflow_sub-self
overflow_sub-self g c =
    let at = subst (λ (d : DeskState _). IsMappedAt (holdings d) c.args.b.0 c.in-Some.c.0) (sym c.self.view_is) c.in-Some.ensures.mapped in
    some_mapped g.P.Policy.knows _ c.args.b c.in-Some.c c.leave.new.tree c.self.inside.cached.items c.self.inside.left c.self.inside.mapped c.self.invariant at c.leave.ensures.tree

pub invariant_of-self : goal.invariant_of-self
invariant_of-self g c =
    let at = subst (λ (d : DeskState _). IsMappedAt (holdings d) c.args.b.0 c.in-Some.c.0) (sym c.self.view_is) c.in-Some.ensures.mapped in
    let may = subst (λ (d : DeskState _). MayUnmap d c.args.b) (sym c.self.view_is) c.requires in
    rw (c.remove.ensures, c.one_more-self-inside.ensures, c.end_removal-kept.ensures.orders, c.end_removal-kept.ensures.kept, c.note_left.ensures, c.places_above-above.ensures) (unmapped_parts g.P.Policy.knows _ c.args.b c.in-Some.c c.leave.new.tree c.leave.new.policy
    c.self.inside.cached.items c.self.inside.left c.self.inside.mapped c.self.invariant at (removed_there g.P.Policy.knows _ c.args.b c.in-Some.c c.self.invariant.desk at may) c.leave.ensures.tree c.leave.ensures.knows)

pub returns : goal.returns
returns g c = λ may.
    let i = subst (λ (d : DeskState _). DeskInvariant g.P.Policy.knows d) c.self.view_is c.self.invariant.desk in
    let e = found_there g.P.Policy.knows c.args.self.now c.args.b c.in-Some.c i c.in-Some.ensures.mapped may in
    let changed = subst (λ (d : DeskState _). IsChangedAt d.tree c.leave.new.tree c.in-Some.c.0 None) c.self.view_is c.leave.ensures.tree in (
      subst (λ (k : CBlock). IsChangedAt c.args.self.now.tree c.leave.new.tree k.0 None) e changed,
      rw (c.remove.ensures, c.one_more-self-inside.ensures, c.end_removal-kept.ensures.orders, c.end_removal-kept.ensures.kept, c.leave.ensures.policy)
          (ap (λ (d : DeskState _). unmapped d c.in-Some.c c.leave.new.tree (g.P.Policy.without_entry d.policy c.args.b.0)) c.self.view_is
          ∙ ap (λ (k : CBlock). unmapped c.args.self.now k c.leave.new.tree (g.P.Policy.without_entry c.args.self.now.policy c.args.b.0)) e),
    )
