use Rattle.std.proofs.Common.{List, subst}
use Rattle.std.proofs.lemmas.List.{take_all}
use Rattle.std.proofs.lemmas.List.Elements.{All-more}
use Rattle.std.specs.Prelude.{All}
use Rattle.wb_types.specs.declared.number.Place.{Place}
use Rattle.wb_format.specs.declared.node.Node.{Node}
use Rattle.wb_promise.specs.Happenings.{IsWholeNode}
use Rattle.wb_machine.proofs.asking.see_whole.Goals as goal

pub loop-node-preserved : goal.loop-node-preserved
loop-node-preserved c = All-more (λ (node : Place × Node). IsWholeNode node.1) c.args.nodes.now c.loop-node.node-index c.node-item.result c.loop-node-test.true c.loop-node.invariant
    (subst (λ (node : Place × Node). IsWholeNode node.1) c.node-item.is c.see_node.ensures)

pub returns : goal.returns
returns c = subst (λ (nodes : List (Place × Node)). All (λ (node : Place × Node). IsWholeNode node.1) nodes) (take_all c.loop-node.node-index c.args.nodes.now c.loop-node-test.false) c.loop-node.invariant
