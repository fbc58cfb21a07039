use Rattle.std.proofs.Common.{inl}
use Rattle.wb_checks.specs.Slots.{AreFormatted}
use Rattle.wb_checks.proofs.Standing.{formatted, has_generation, not_formatted, root_held}
use Rattle.wb_checks.proofs.slots.stand_alone.Goals.{else-root-eq0-via-then-root-eq0+else-second, else-root-eq0-via-else-root-eq0}
use Rattle.wb_checks.proofs.slots.stand_alone.Goals as goal

pub returns-then-second : goal.returns-then-second
returns-then-second c sectors a b none = inl (formatted sectors c.args.first c.args.second c.in-Some.root c.in-Some.is c.if-root-eq0.true c.if-second.true a b none)

pub returns-else-root-eq0 : goal.returns-else-root-eq0
returns-else-root-eq0 c sectors a b none =
    let other : ¬ AreFormatted sectors = elim c.else-root-eq0.branch [
      | else-root-eq0-via-then-root-eq0+else-second w ↦ λ (f : AreFormatted sectors). b.more w.if-second.false f.second
      | else-root-eq0-via-else-root-eq0 w ↦ not_formatted sectors c.in-Some.root (root_held sectors 0 c.args.first c.in-Some.root c.in-Some.is a) w.if-root-eq0.false
    ] in
    (none, has_generation sectors 0 c.args.first c.in-Some.root c.in-Some.is a, other)
