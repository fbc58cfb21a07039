use Rattle.std.proofs.Common.{◌∙◌, ap, map, sym}
use Rattle.std.specs.List.{slice_get}
use Rattle.wb_disk.specs.Device.{newest}
use Rattle.wb_meta.proofs.Sectors.{given_there, on_ok}
use Rattle.wb_checks.proofs.held.read_slot.Goals as goal

pub returns-clause-holds : goal.returns-clause-holds
returns-clause-holds g c tells =
    let device = g.D.Disk.contents c.args.disk.now in
    let given = on_ok c.read.result (sym c.is_err.ensures.value ∙ c.if-is_err.false) (c.read.ensures.given tells) in
    c.held_in.ensures (map newest device) (ap (λ at. slice_get (map newest device) at) (sym c.from-at.ensures) ∙ given_there device _ c.read.new.out given)
