use Rattle.std.proofs.Common.{◌≡◌, drop}
use Rattle.wb_desk.specs.Opening.{value_after, last_value}
use Rattle.wb_desk.proofs.opening.last_value.Given as goal

abbrev pub invariant-loop-entry : goal.invariant-loop-entry
invariant-loop-entry l = value_after l.wanted l.found (drop l.entry-index l.keys) ≡ last_value l.wanted l.keys
