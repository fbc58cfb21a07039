use Rattle.std.proofs.Common.{[]}
use Rattle.wb_target.specs.Blocking.{WriteCame}
use Rattle.wb_target.specs.Carried.{client_state}
use Rattle.wb_target.specs.Works.{AskedSharing, WasAsked}
use Rattle.wb_opened.proofs.Ranging.{durably_never_outside}
use Rattle.wb_opened.proofs.client.ClientServed.write_fua.Goals as goal

pub returns-in-Err-clause-range : goal.returns-in-Err-clause-range
returns-in-Err-clause-range g c = durably_never_outside (WriteCame g.D.Disk.tells g.D.Disk.size g.D.Disk.contents g.D.Disk.faults (WasAsked g.P.Policy.with_entry g.P.Policy.without_entry []) c.args.self.now.port.geometry)
    g.D.Disk.tells g.D.Disk.size g.D.Disk.contents g.D.Disk.faults (AskedSharing g.P.Policy.with_entry g.P.Policy.without_entry) c.args.self.now.port.geometry c.args.at.0 _ c.args.self.now.port.hand c.args.from.now (client_state c.write_fua.new.self.port) c.in-Err.ensures.stopped

pub returns-in-Ok-clause-done : goal.returns-in-Ok-clause-done
returns-in-Ok-clause-done g c = (c.in-Ok.field-0, c.in-Ok.ensures.written, c.in-Ok.ensures.synced)
