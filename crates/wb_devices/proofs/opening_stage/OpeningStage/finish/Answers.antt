use Rattle.wb_devices.proofs.Reopened.{fits_on}
use Rattle.wb_devices.proofs.opening_stage.OpeningStage.finish.Goals as goal

pub returns-clause-state : goal.returns-clause-state
returns-clause-state g c opened = c.finish.ensures _ opened

pub returns-clause-fits : goal.returns-clause-fits
returns-clause-fits g c opened = fits_on opened c.finish.result (c.finish.ensures _ opened)
