use Rattle.std.proofs.Common.{◌≡◌, None, take}
use Rattle.std.specs.List.{find}
use Rattle.wb_policy.specs.Cleaner.{is_waiting}
use Rattle.wb_policy.proofs.cleaner.first_idle.Given as goal

abbrev pub invariant-loop-number : goal.invariant-loop-number
invariant-loop-number l = find (is_waiting l.fn.busy) (take l.number l.fn.dirty) ≡ None
