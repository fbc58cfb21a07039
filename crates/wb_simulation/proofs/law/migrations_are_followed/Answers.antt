use Rattle.wb_simulation.proofs.Migrations.{migrations_followed}
use Rattle.wb_simulation.proofs.law.migrations_are_followed.Goals as goal

pub returns : goal.returns
returns g = migrations_followed
