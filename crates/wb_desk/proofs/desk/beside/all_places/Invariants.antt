use Rattle.std.proofs.Common.{◌≡◌, ◌++◌, map, take}
use Rattle.std.specs.Prelude.{filter}
use Rattle.wb_desk.proofs.desk.beside.all_places.Given as goal

abbrev pub invariant-loop-node : goal.invariant-loop-node
invariant-loop-node l = l.used.items ≡ l.initial.used.items ++ map (λ node. node.0) (filter (λ node. node.1.dirty) (take l.node-index l.nodes))
