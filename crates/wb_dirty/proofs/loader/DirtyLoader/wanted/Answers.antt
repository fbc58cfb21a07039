use Rattle.std.proofs.Common.{subst}
use Rattle.wb_dirty.specs.Loading.{DirtyLoading, MayReach}
use Rattle.wb_dirty.proofs.loader.DirtyLoader.wanted.Goals as goal

pub returns-in-Some-clause-fresh : goal.returns-in-Some-clause-fresh
returns-in-Some-clause-fresh c =
    subst (λ (l : DirtyLoading). MayReach l.asked.root l.marks.reached c.in-Some.node.place) c.self.view_is (c.self.invariant.fresh c.in-Some.node c.in-Some.is)
