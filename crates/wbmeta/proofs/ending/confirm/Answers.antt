use Rattle.std.proofs.Common.{map}
use Rattle.wb_disk.specs.Device.{newest}
use Rattle.wbmeta.proofs.Leaving.{left_as}
use Rattle.wbmeta.proofs.ending.confirm.Goals as goal

pub returns-then-is_reached-clause-reached : goal.returns-then-is_reached-clause-reached
returns-then-is_reached-clause-reached g c told =
    let found = c.in-Ok.found in
    left_as c.args.aim (map newest (g.D.Disk.contents c.args.disk.now)) c.args.geometry.now found.generation found.clean found.entries.items c.count_all.result
    (c.in-Ok.ensures.found told) c.count_all.ensures.counted c.count_all.ensures.clean c.if-is_reached.ensures
