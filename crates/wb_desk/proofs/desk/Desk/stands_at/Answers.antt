use Rattle.std.proofs.Common.{subst}
use Rattle.wb_desk.specs.Desks.{DeskState, DeskInvariant, holdings}
use Rattle.wb_policy.specs.Law.{IsMappedAt}
use Rattle.wb_desk.proofs.Index.{mapped_once, elsewhere}
use Rattle.wb_desk.proofs.desk.Desk.stands_at.Goals as goal

pub returns-in-Some-clause-other : goal.returns-in-Some-clause-other
returns-in-Some-clause-other g c =
    let i = subst (λ (d : DeskState _). DeskInvariant g.P.Policy.knows d) c.self.view_is c.self.invariant.desk in
    elsewhere c.in-Some.field-0.0 c.args.c.0 (IsMappedAt (holdings c.args.self.now) c.args.b.0 c.args.c.0 → ⊥) (λ n m. n (mapped_once c.args.self.now.geometry.cache_blocks c.args.self.now.geometry.origin_blocks c.args.self.now.tree.entries
    c.args.b.0 c.in-Some.field-0.0 c.args.c.0 i.mapping c.in-Some.ensures.mapped m))
