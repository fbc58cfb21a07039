use Rattle.std.proofs.Common.{◌≡◌, ◌≤◌, true, vec_len}
use Rattle.std.specs.Prelude.{All}
use Rattle.wb_devices.specs.Clean.{entries_of}
use Rattle.wb_checks.specs.Samples.{IsCleanIn}
use Rattle.wb_checks.proofs.whole.draw_from_state.Given as goal

abbrev pub invariant-blocks-2 : goal.invariant-blocks-2
invariant-blocks-2 l = record {
  flag : l.state.root.clean ≡ true;
  seen : l.seen ≤ l.number;
  most : vec_len l.drawn ≤ l.most;
  clean : All (IsCleanIn (entries_of l.state)) l.drawn.items;
}
