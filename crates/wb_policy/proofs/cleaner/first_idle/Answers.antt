use Rattle.std.proofs.Common.{rules}
use Rattle.wb_policy.specs.Cleaner.{is_waiting}
use Rattle.wb_policy.proofs.Turns.{found_at, none_yet}
use Rattle.wb_policy.proofs.cleaner.first_idle.Goals as goal

pub returns-then-not-is_busy : goal.returns-then-not-is_busy
returns-then-not-is_busy c =
    found_at (is_waiting c.args.busy.now) c.args.dirty.now c.loop-number.number _ c.loop-number.invariant c.loop-number-test.true (search rules)

pub loop-number-preserved : goal.loop-number-preserved
loop-number-preserved c =
    none_yet (is_waiting c.args.busy.now) c.args.dirty.now c.loop-number.number (record { 0 = 0 }, record { 0 = 0 }) c.loop-number.invariant c.loop-number-test.true (search rules)
