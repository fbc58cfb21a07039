use Rattle.std.proofs.Common.{ℕ, Some, ap}
use Rattle.wb_machine.proofs.machine.Machine.opened.Goals as goal

pub returns-in-Standing : goal.returns-in-Standing
returns-in-Standing c = rw (← c.self.view_is, c.in-Standing.is) (ap (λ (told : ℕ × ℕ × ℕ). Some told) c.counts_of.ensures)
