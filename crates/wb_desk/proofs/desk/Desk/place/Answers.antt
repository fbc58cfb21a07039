use Rattle.std.proofs.Common.{subst}
use Rattle.std.specs.Option.{IfSome, IfNone}
use Rattle.wb_policy.specs.Law.{IsUnmapped, IsMappedAt}
use Rattle.wb_desk.specs.Desks.{DeskState, holdings}
use Rattle.wb_desk.proofs.Index.{outside_unmapped, place_right}
use Rattle.wb_desk.proofs.desk.Desk.place.Goals as goal

pub returns-then-at-self-clause-none : goal.returns-then-at-self-clause-none
returns-then-at-self-clause-none g c = subst (λ (d : DeskState _). IsUnmapped (holdings d) c.args.b.0) c.self.view_is
    (outside_unmapped c.self.inside.geometry.cache_blocks c.self.inside.geometry.origin_blocks c.self.inside.tree.entries c.args.b.0 c.self.invariant.desk.mapping c.if-at-self.true)

pub returns-clause-mapped : goal.returns-clause-mapped
returns-clause-mapped g c = subst (λ (d : DeskState _). IfSome c.index.result.now (λ k. IsMappedAt (holdings d) c.args.b.0 k.0)) c.self.view_is
    (place_right c.self.inside.geometry.origin_blocks _ c.self.inside.cached.items c.args.b.0 c.index.result.now c.self.invariant.index c.if-at-self.false c.index.ensures).0

pub returns-clause-none : goal.returns-clause-none
returns-clause-none g c = subst (λ (d : DeskState _). IfNone c.index.result.now (IsUnmapped (holdings d) c.args.b.0)) c.self.view_is
    (place_right c.self.inside.geometry.origin_blocks _ c.self.inside.cached.items c.args.b.0 c.index.result.now c.self.invariant.index c.if-at-self.false c.index.ensures).1
