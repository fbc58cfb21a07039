use Rattle.std.proofs.Common.{ap}
use Rattle.wb_disk.proofs.Sectors.{Gives-newest, at_place}
use Rattle.wb_disk.proofs.memory.MemDiskDisk.read.Goals as goal

pub returns-clause-given : goal.returns-clause-given
returns-clause-given c =
    let ps = c.self.inside.sectors.items in
    let p = c.index-pending.result.now in
    let here = at_place ps c.self.inside.faults c.args.at p c.args.self.now c.self.view_is c.requires c.index-pending.ensures in
    rw c.newest.ensures (Gives-newest ps c.args.self.now.contents c.args.at p (ap (λ m. m.contents) c.self.view_is) here)
