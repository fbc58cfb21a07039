use Rattle.wb_tree.proofs.tree.node.Node.+clear.Given as goal

abbrev pub decreases-clear : goal.decreases-clear
decreases-clear g l = goal.size-clear g l
