use Rattle.wb_tree.proofs.Branching.Known.{used-tree}
use Rattle.wb_tree.proofs.tree.Tree.places.Goals as goal

pub returns-in_err-collect-clause-used : goal.returns-in_err-collect-clause-used
returns-in_err-collect-clause-used g c = let b = c.self.inside in used-tree b.cache_blocks b.depth b.root c.args.self.now c.self.invariant.boxes c.self.view_is

pub returns-clause-used : goal.returns-clause-used
returns-clause-used g c = let b = c.self.inside in used-tree b.cache_blocks b.depth b.root c.args.self.now c.self.invariant.boxes c.self.view_is
