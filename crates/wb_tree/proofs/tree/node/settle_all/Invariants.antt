use Rattle.std.proofs.Common.{take}
use Rattle.wb_tree.specs.Settling.{NodesAreSettled}
use Rattle.wb_tree.proofs.tree.node.settle_all.Given as goal

abbrev pub invariant-loop-node : goal.invariant-loop-node
invariant-loop-node g l = NodesAreSettled l.fn.top l.top (take l.node-index l.nodes)
