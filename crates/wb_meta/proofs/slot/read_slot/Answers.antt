use Rattle.std.proofs.Common.{sym, ap, ◌∙◌, map}
use Rattle.std.specs.List.{slice_get}
use Rattle.wb_disk.specs.Device.{newest}
use Rattle.wb_meta.proofs.Sectors.{given_there, on_ok}
use Rattle.wb_meta.proofs.slot.read_slot.Goals as goal

pub returns-clause-found : goal.returns-clause-found
returns-clause-found g c tells =
    let device = g.D.Disk.contents c.args.disk.now in
    let given = on_ok c.read.result (sym c.is_err.ensures.value ∙ c.if-is_err.false) (c.read.ensures.given tells) in
    c.root_in.ensures (map newest device) (ap (λ at. slice_get (map newest device) at) (sym c.from-at.ensures) ∙ given_there device _ c.read.new.out given)
