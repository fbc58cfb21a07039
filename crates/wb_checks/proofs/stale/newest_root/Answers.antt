use Rattle.std.proofs.Common.{ap, map}
use Rattle.wb_disk.specs.Device.{History, newest}
use Rattle.std.specs.Prelude.{List}
use Rattle.wb_checks.proofs.Standing.{newest_held}
use Rattle.wb_checks.proofs.stale.newest_root.Goals as goal

pub returns-clause-newest : goal.returns-clause-newest
returns-clause-newest g c tells =
    let same = ap (λ (device : List History). map newest device) (c.in_ok-first.ensures.same tells) in
    newest_held _ _ c.in_ok-first.field-0 c.in_ok-second.field-0 c.newer.result same (c.in_ok-first.ensures.holds tells) (c.in_ok-second.ensures.holds tells) c.newer.ensures
