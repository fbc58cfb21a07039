use Rattle.std.proofs.Common.{◌≡◌, ◌≤◌, [], length, take, map}
use Rattle.wb_policy.specs.Recency.{mapped_in_order}
use Rattle.wb_policy.proofs.recency.Recency.of.Given as goal

-- the blocks so far, each more recent than the one before, and room for all that follow
abbrev pub invariant-loop-number : goal.invariant-loop-number
invariant-loop-number l = (l.blocks.entries ≡ mapped_in_order [] (map (λ p. (p.1.1, p.1.0)) (take l.number l.placed))) × (length l.blocks.entries ≤ l.number) × (l.blocks.cap ≡ length l.placed)
