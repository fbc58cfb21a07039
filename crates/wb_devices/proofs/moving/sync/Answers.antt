use Rattle.wb_disk.specs.Extents.{Syncing}
use Rattle.wb_disk.proofs.FailedSyncs.{partly_so}
use Rattle.wb_devices.proofs.moving.sync.Goals as goal

pub returns-in-Err-clause-did : goal.returns-in-Err-clause-did
returns-in-Err-clause-did g c tells = (
  partly_so (g.D.Disk.falters c.args.disk.now Syncing) (g.D.Disk.contents c.args.disk.now) (g.D.Disk.contents c.sync.new.self) (c.in-Err.ensures.how tells),
  c.in-Err.ensures.cause tells,
)
