use Rattle.std.proofs.Common.{◌≡◌, ℕ, List, ◌++◌, reverse, None}
use Rattle.std.specs.List.{find}
use Rattle.wb_policy.specs.Recency.{is_dirty_and_idle}
use Rattle.wb_policy.proofs.recency.Recency.least_dirty.Given as goal

-- what is left, and then what was seen, of which none passes
abbrev pub invariant-loop-number : goal.invariant-loop-number
invariant-loop-number l =
    (seen : List (ℕ × ℕ)) × (l.fn.self ≡ l.number-iterator.iter ++ seen)
    × (find (is_dirty_and_idle l.fn.tick.busy.now l.fn.tick.dirty.now) (reverse seen) ≡ None)
