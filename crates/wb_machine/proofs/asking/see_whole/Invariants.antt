use Rattle.std.proofs.Common.{take}
use Rattle.std.specs.Prelude.{All}
use Rattle.wb_types.specs.declared.number.Place.{Place}
use Rattle.wb_format.specs.declared.node.Node.{Node}
use Rattle.wb_promise.specs.Happenings.{IsWholeNode}
use Rattle.wb_machine.proofs.asking.see_whole.Given as goal

abbrev pub invariant-loop-node : goal.invariant-loop-node
invariant-loop-node l = All (λ (node : Place × Node). IsWholeNode node.1) (take l.node-index l.nodes)
