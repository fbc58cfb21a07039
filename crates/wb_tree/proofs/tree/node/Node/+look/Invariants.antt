use Rattle.wb_tree.proofs.tree.node.Node.+look.Given as goal

abbrev pub decreases-look : goal.decreases-look
decreases-look g l = goal.size-look g l
