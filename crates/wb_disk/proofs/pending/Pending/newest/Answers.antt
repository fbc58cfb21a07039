use Rattle.std.proofs.Common.{sym}
use Rattle.wb_disk.proofs.Devices.{last_of-last}
use Rattle.wb_disk.proofs.pending.Pending.newest.Goals as goal

pub returns-in-Some : goal.returns-in-Some
returns-in-Some c =
    sym (last_of-last c.args.self.now.durable c.args.self.now.later.items c.in-Some.last.now (sym (rw c.deref.ensures.value at c.in-Some.ensures.value)))
