use Rattle.std.proofs.Common.{length, refl}
use Rattle.wb_devices.specs.Moving.{device_in}
use Rattle.wb_checks.proofs.Pieces.{gives_all}
use Rattle.wb_checks.proofs.comparing.read_piece.Goals as goal

pub returns-in-Done-clause-held : goal.returns-in-Done-clause-held
returns-in-Done-clause-held g c = λ tells.
    let did = c.in-Done.ensures.did tells in
    gives_all (g.D.Disk.contents (device_in c.args.device c.args.devices.now)) c.args.first (length c.args.into.now) (length c.args.into.now) c.read.new.into c.in-Done.ensures.many refl did.1
