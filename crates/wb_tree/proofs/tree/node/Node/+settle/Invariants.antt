use Rattle.wb_tree.proofs.tree.node.Node.+settle.Given as goal

abbrev pub decreases-settle : goal.decreases-settle
decreases-settle g l = goal.size-settle g l
