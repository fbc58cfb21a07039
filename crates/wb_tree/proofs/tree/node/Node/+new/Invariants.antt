use Rattle.wb_tree.proofs.tree.node.Node.+new.Given as goal

abbrev pub decreases-new : goal.decreases-new
decreases-new g l = l.level
