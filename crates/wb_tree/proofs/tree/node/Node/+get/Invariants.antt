use Rattle.wb_tree.proofs.tree.node.Node.+get.Given as goal

abbrev pub decreases-get : goal.decreases-get
decreases-get g l = goal.size-get g l
