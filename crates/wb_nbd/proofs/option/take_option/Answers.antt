use Rattle.std.proofs.Common.{◌++◌, refl}
use Rattle.std.proofs.KnownBytes.{Consumes-trans}
use Rattle.wb_nbd.proofs.option.take_option.Goals as goal

pub returns : goal.returns
returns g c =
    let a = c.in_ok-header.ensures in
    let b = c.in_ok-wish.ensures in
    (a.0 ++ b.0, Consumes-trans _ _ _ _ _ a.1 b.1, record { header = a.0; more = b.0; option = c.in_ok-header.header; whole = refl; spelled = a.2; its_number = refl; its_length = b.2; its_wish = b.3 })
