use Rattle.std.proofs.Common.{◌≡◌, ◌≤◌, map, vec_len}
use Rattle.std.specs.Prelude.{All}
use Rattle.wb_disk.specs.Device.{newest}
use Rattle.wb_tree.specs.Reading.{IsNewestRoot}
use Rattle.wb_checks.specs.Samples.{IsMappedClean}
use Rattle.wb_checks.proofs.walk.draw_by_walks.Given as goal

abbrev pub invariant-walks : goal.invariant-walks
invariant-walks g l = record {
  size : g.D.Disk.size l.metadata ≡ g.D.Disk.size l.initial.metadata;
  same : g.D.Disk.tells → g.D.Disk.contents l.metadata ≡ g.D.Disk.contents l.initial.metadata;
  no_fault : g.D.Disk.tells → g.D.Disk.faults l.metadata ≡ g.D.Disk.faults l.initial.metadata;
  most : vec_len l.drawn ≤ l.most;
  clean : g.D.Disk.tells → IsNewestRoot (map newest (g.D.Disk.contents l.initial.metadata)) l.root
      → All (IsMappedClean (map newest (g.D.Disk.contents l.initial.metadata))) l.drawn.items;
}
