use Rattle.wb_refines.proofs.Migrating.{migration_tables_agree}
use Rattle.wb_refines.proofs.migration_tables_agree.Goals as goal

pub returns : goal.returns
returns g = migration_tables_agree
