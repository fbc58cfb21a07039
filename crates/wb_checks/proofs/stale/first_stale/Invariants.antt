use Rattle.std.proofs.Common.{◌≡◌, take, vec_len}
use Rattle.std.specs.Prelude.{All}
use Rattle.wb_checks.specs.Samples.{AreAsBefore, HaveSizes, IsSameOnBoth}
use Rattle.wb_checks.proofs.stale.first_stale.Given as goal

abbrev pub invariant-blocks-2 : goal.invariant-blocks-2
invariant-blocks-2 g l = record {
  sizes : HaveSizes g.D.Disk.size l.initial.devices l.devices;
  kept : g.D.Disk.tells → AreAsBefore g.D.Disk.contents l.initial.devices l.devices;
  same : g.D.Disk.tells → All (IsSameOnBoth (g.D.Disk.contents l.initial.devices.cache) (g.D.Disk.contents l.initial.devices.origin) l.size) (take l.block-index l.drawn);
  left : vec_len l.left ≡ 1024;
  right : vec_len l.right ≡ 1024;
}
