use Rattle.wb_tree.proofs.tree.node.Node.+set.Given as goal

abbrev pub decreases-set : goal.decreases-set
decreases-set g l = goal.size-set g l
