use Rattle.std.proofs.Common.{◌≡◌, replicate}
use Rattle.wb_machine.specs.Members.{free}
use Rattle.wb_machine.proofs.making.resting_members.Given as goal

abbrev pub invariant-loop : goal.invariant-loop
invariant-loop l = l.members.items ≡ replicate l.counter free
