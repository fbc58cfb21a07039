use Rattle.std.proofs.Common.{sym, ◌∙◌, map}
use Rattle.wb_disk.specs.Device.{newest}
use Rattle.wb_checks.proofs.Fronts.{root_found}
use Rattle.wb_checks.proofs.front.read_front.Goals.{then-is_some-via-then-is_some, then-is_some-via-else-is_some+then-is_some-2}
use Rattle.wb_checks.proofs.front.read_front.Goals as goal

pub returns-then-is_some-clause-told : goal.returns-then-is_some-clause-told
returns-then-is_some-clause-told g c tells =
    let sectors = map newest (g.D.Disk.contents c.args.metadata.now) in
    let first = c.in_ok-first.ensures.holds tells in
    let second = rw (c.read_slot.ensures.same tells) at (c.in_ok-second.ensures.holds tells) in
    elim c.then-is_some.branch [
      | then-is_some-via-then-is_some w ↦ root_found sectors 0 c.in_ok-first.field-0.root first.root (sym c.is_some.ensures ∙ w.if-is_some.true)
      | then-is_some-via-else-is_some+then-is_some-2 w ↦ root_found sectors 1 c.in_ok-second.field-0.root second.root (sym w.is_some-else-is_some.ensures ∙ w.if-is_some-2.true)
    ]
