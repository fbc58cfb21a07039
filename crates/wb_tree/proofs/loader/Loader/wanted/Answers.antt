use Rattle.std.proofs.Common.{subst}
use Rattle.wb_tree.specs.Loading.{Loading, IsFresh}
use Rattle.wb_tree.proofs.loader.Loader.wanted.Goals as goal

pub returns-clause-fresh : goal.returns-clause-fresh
returns-clause-fresh g c =
    subst (λ (l : Loading). IsFresh l.root l.found.reached c.in_ok-node.node.place) c.self.view_is (c.self.invariant.fresh c.in_ok-node.node c.in_ok-node.was)
