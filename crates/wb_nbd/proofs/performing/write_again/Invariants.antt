use Rattle.std.proofs.Common.{◌-◌, ◌≡◌, ◌≤◌}
use Rattle.wb_nbd.specs.Performing.{WritesZeros}
use Rattle.wb_nbd.proofs.performing.write_again.Given as goal

abbrev pub invariant-loop-done : goal.invariant-loop-done
invariant-loop-done g l = WritesZeros g.E.Export.acts l.fn.export l.at.0 l.done l.export × (l.done ≤ l.count) × (g.E.Export.size l.export ≡ g.E.Export.size l.fn.export)

abbrev pub decreases-loop-done : goal.decreases-loop-done
decreases-loop-done g l = l.count - l.done
