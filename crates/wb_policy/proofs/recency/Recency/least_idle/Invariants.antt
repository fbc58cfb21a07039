use Rattle.std.proofs.Common.{◌≡◌, ℕ, List, ◌++◌, reverse, None}
use Rattle.std.specs.List.{find}
use Rattle.wb_policy.specs.Recency.{is_idle}
use Rattle.wb_policy.proofs.recency.Recency.least_idle.Given as goal

-- what is left, and then what was seen, of which none is idle
abbrev pub invariant-loop-block : goal.invariant-loop-block
invariant-loop-block l =
    (seen : List (ℕ × ℕ)) × (l.fn.self ≡ l.block-iterator.iter ++ seen) × (find (is_idle l.fn.busy) (reverse seen) ≡ None)
