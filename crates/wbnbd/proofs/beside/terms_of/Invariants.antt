use Rattle.std.proofs.Common.{◌<◌, ◌≤◌}
use Rattle.wbnbd.proofs.beside.terms_of.Given as goal

abbrev pub decreases-loop-preferred : goal.decreases-loop-preferred
decreases-loop-preferred l = l.preferred

abbrev pub invariant-loop-preferred : goal.invariant-loop-preferred
invariant-loop-preferred l = (0 < l.preferred) × (l.preferred ≤ 33554432)
