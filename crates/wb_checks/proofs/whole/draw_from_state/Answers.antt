use Rattle.std.proofs.Common.{arith}
use Rattle.wb_devices.specs.Clean.{entries_of}
use Rattle.wb_checks.proofs.Drawing.{still_read}
use Rattle.wb_checks.proofs.whole.draw_from_state.Goals as goal

pub blocks-2-preserved : goal.blocks-2-preserved
blocks-2-preserved c = record {
  flag = c.blocks-2.invariant.flag;
  seen = let one = c.in_ok-seen.ensures.one in omega arith;
  most = c.consider.ensures.most c.blocks-2.invariant.most;
  clean = still_read (entries_of c.args.state.now) _ c.stored_entry-entry.result c.blocks-2.drawn.items c.consider.new.drawn.items c.stored_entry-entry.ensures
      c.in_ok-seen.ensures.drawn c.blocks-2.invariant.clean;
}
