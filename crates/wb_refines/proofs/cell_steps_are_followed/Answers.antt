use Rattle.wb_refines.proofs.Roles.{request_cells_followed, migration_cells_followed}
use Rattle.wb_refines.proofs.Locks.{has_no_more}
use Rattle.wb_refines.proofs.cell_steps_are_followed.Goals as goal

pub returns : goal.returns
returns g = record { requests = request_cells_followed; migrations = migration_cells_followed; has_no_more = has_no_more }
