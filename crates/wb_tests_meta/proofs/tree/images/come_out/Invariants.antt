use Rattle.std.proofs.Common.{◌≡◌, length}
use Rattle.wb_tree.specs.Mapping.{AreInside}
use Rattle.wb_trial.specs.Own.{AreOwn}
use Rattle.wb_tests_meta.proofs.tree.images.come_out.Given as goal

abbrev pub invariant-loop-row : goal.invariant-loop-row
invariant-loop-row l = record {
  size : length l.tree.entries ≡ 40;
  own : AreOwn l.tree.entries;
  inside : AreInside l.geometry.meta_sectors l.tree;
}
