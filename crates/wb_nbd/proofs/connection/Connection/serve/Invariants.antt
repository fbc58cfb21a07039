use Rattle.std.specs.Prelude.{◌≡◌}
use Rattle.wb_nbd.specs.Serving.{ServesAll}
use Rattle.wb_nbd.proofs.connection.Connection.serve.Given as goal

abbrev pub invariant-loop : goal.invariant-loop
invariant-loop g l = ServesAll g.E.Export.size g.E.Export.acts l.fn.export l.export × (l.turns.taken ≡ l.counter) × (l.turns.sent ≡ l.counter)
