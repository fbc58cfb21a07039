use Rattle.std.proofs.Common.{◌++◌, refl}
use Rattle.std.proofs.KnownBytes.{Consumes-trans}
use Rattle.wb_nbd.proofs.job.take_job.Goals as goal

pub returns : goal.returns
returns g c =
    let a = c.in_ok-request.ensures in
    let b = c.in_ok-task.ensures in
    (a.0 ++ b.0, Consumes-trans _ _ _ _ _ a.1 b.1, record { header = a.0; payload = b.0; request = c.in_ok-request.request; whole = refl; spelled = a.2; cookie = refl; task = b.2 })
