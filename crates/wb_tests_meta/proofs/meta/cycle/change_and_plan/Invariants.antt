use Rattle.std.proofs.Common.{◌≡◌, length}
use Rattle.std.specs.Prelude.{Contains}
use Rattle.wb_types.specs.declared.number.Place.{Place}
use Rattle.wb_tree.specs.Mapping.{AreInside, IsPlaceOf}
use Rattle.wb_tests_meta.proofs.meta.cycle.change_and_plan.Given as goal

abbrev pub invariant-loop-block : goal.invariant-loop-block
invariant-loop-block l = record {
  size : length l.tree.entries ≡ l.root.geometry.cache_blocks;
  used : (place : Place) → IsPlaceOf l.tree place → Contains l.used.items place;
  inside : AreInside l.root.geometry.meta_sectors l.tree;
}
