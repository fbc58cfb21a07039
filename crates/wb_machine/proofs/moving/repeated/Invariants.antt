use Rattle.std.proofs.Common.{◌≡◌, replicate}
use Rattle.wb_machine.proofs.moving.repeated.Given as goal

abbrev pub invariant-loop : goal.invariant-loop
invariant-loop l = l.all.items ≡ replicate l.counter l.content
