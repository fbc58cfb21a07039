use Rattle.wb_space.specs.Blocks.{is_free, is_late, is_early}
use Rattle.wb_space.proofs.States.{indexed_set}
use Rattle.std.proofs.Common.{◌∙◌, arith}
use Rattle.std.proofs.lemmas.List.{length-set}
use Rattle.wb_space.proofs.blocks.Blocks.put.Goals as goal

pub invariant_of-self : goal.invariant_of-self
invariant_of-self c = record {
  small = omega (arith, c.self.invariant.small, length-set c.self.inside.states.items c.args.c c.args.block);
  free = c.set.ensures ∙ indexed_set is_free c.self.inside.states.items c.self.inside.free c.args.c c.args.block c.is_free.result c.self.invariant.free c.is_free.ensures;
  late = c.set-2.ensures ∙ indexed_set is_late c.self.inside.states.items c.self.inside.late c.args.c c.args.block c.is_late.result c.self.invariant.late c.is_late.ensures;
  early = c.set-3.ensures ∙ indexed_set is_early c.self.inside.states.items c.self.inside.early c.args.c c.args.block c.is_early.result c.self.invariant.early c.is_early.ensures;
}
