use Rattle.std.proofs.Common.{◌≡◌, map, drop}
use Rattle.std.specs.Prelude.{filter}
use Rattle.wb_space.specs.Places.{noted}
use Rattle.wb_desk.proofs.desk.beside.note_bits.Given as goal

abbrev pub invariant-loop-node : goal.invariant-loop-node
invariant-loop-node l = noted (map (λ node. node.0) (filter (λ node. node.1.dirty) (drop l.node-index l.nodes))) l.left
    ≡ noted (map (λ node. node.0) (filter (λ node. node.1.dirty) l.nodes)) l.initial.left
