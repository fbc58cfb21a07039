use Rattle.wb_devices.proofs.Serving.{opens_only, goes_on_still}
use Rattle.wb_devices.proofs.Ending.{has_ended}
use Rattle.wb_devices.proofs.opening_stage.OpeningStage.run.Goals as goal

pub drive-requires : goal.drive-requires
drive-requires g c steps mid first leads step = (opens_only _ c.requires.begun.0 steps c.requires.begun.1 first, goes_on_still g.D.Disk.tells g.D.Disk.size g.D.Disk.contents g.D.Disk.faults c.args.self.now steps mid c.requires.goes_on leads)

pub returns-clause-goes_on : goal.returns-clause-goes_on
returns-clause-goes_on g c = let run = c.drive.ensures.run in goes_on_still g.D.Disk.tells g.D.Disk.size g.D.Disk.contents g.D.Disk.faults c.args.self.now run.0 _ c.requires.goes_on run.3

pub returns-clause-ended : goal.returns-clause-ended
returns-clause-ended g c h = let run = c.drive.ensures.run in has_ended g.D.Disk.tells g.D.Disk.size g.D.Disk.contents g.D.Disk.faults c.args.self.now _ c.requires.begun.0 run.0 _ _ c.requires.begun.1 h run.2 run.3
