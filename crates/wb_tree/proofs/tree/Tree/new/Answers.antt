use Rattle.std.proofs.Common.{refl}
use Rattle.wb_tree.proofs.Branching.Edits.{none-boxes, none-entries, unknown-sound}
use Rattle.wb_tree.proofs.tree.Tree.new.Goals as goal

pub invariant_of-result : goal.invariant_of-result
invariant_of-result g c = record {
  boxes = none-boxes c.args.cache_blocks c.depth_for.result c.depth_for.ensures.value c.requires c.depth_for.ensures.from c.depth_for.ensures.to c.depth_for.ensures.enough;
  many = refl;
}

pub returns-clause-entries : goal.returns-clause-entries
returns-clause-entries g c = none-entries _ _ c.depth_for.ensures.enough

pub returns-clause-sound : goal.returns-clause-sound
returns-clause-sound g c = unknown-sound _
