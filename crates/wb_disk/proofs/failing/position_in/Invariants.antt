use Rattle.std.proofs.Common.{◌≡◌, drop}
use Rattle.wb_disk.specs.Crash.{named_position}
use Rattle.wb_disk.proofs.failing.position_in.Given as goal

abbrev pub invariant-loop-name : goal.invariant-loop-name
invariant-loop-name l = named_position l.device (drop l.name-index l.named) l.at l.position ≡ named_position l.device l.named l.at l.otherwise
