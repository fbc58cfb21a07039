use Rattle.std.proofs.Common.{◌≡◌, ◌<◌, ℕ, None, slice_index_or, vec_len}
use Rattle.wb_checks.specs.Samples.{AreAsBefore}
use Rattle.wbmeta.specs.Comparing.{IsHome}
use Rattle.wbmeta.proofs.verifying.verify.Given as goal

abbrev pub invariant-loop-c : goal.invariant-loop-c
invariant-loop-c g l =
    let contents = g.D.Disk.contents in
    record {
      left : vec_len l.left ≡ 1024;
      right : vec_len l.right ≡ 1024;
      kept : g.D.Disk.tells → AreAsBefore contents l.fn.devices l.devices;
      same : g.D.Disk.tells → l.verified.differing ≡ 0 → (k : ℕ) → k < l.c
          → IsHome (contents l.fn.devices.cache) (contents l.fn.devices.origin) l.block l.found.clean k (slice_index_or l.found.entries.items k None);
    }
