use Rattle.std.proofs.Common.{Contains, drop}
use Rattle.wb_machine.proofs.keeping.keeps.Given as goal

-- what they have stands where none was looked at yet
abbrev pub invariant-loop-kept : goal.invariant-loop-kept
invariant-loop-kept l = Contains l.orders l.order → Contains (drop l.kept-index l.orders) l.order
