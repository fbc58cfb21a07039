use Rattle.wb_machine.proofs.Performed.{sync_done}
use Rattle.wb_machine.proofs.opener.sync.Goals as goal

pub returns-clause-commit : goal.returns-clause-commit
returns-clause-commit c = (sync_done c.args.devices.now c.perform.new.self c.args.commit.now c.perform.new.commit c.args.device c.perform.result c.perform.ensures.kind c.requires c.perform.ensures.others (c.perform.ensures.did tt) (c.perform.ensures.how tt) c.perform.ensures.goes).0

pub returns-clause-devices : goal.returns-clause-devices
returns-clause-devices c = (sync_done c.args.devices.now c.perform.new.self c.args.commit.now c.perform.new.commit c.args.device c.perform.result c.perform.ensures.kind c.requires c.perform.ensures.others (c.perform.ensures.did tt) (c.perform.ensures.how tt) c.perform.ensures.goes).1
