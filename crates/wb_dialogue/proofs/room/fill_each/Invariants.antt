use Rattle.std.proofs.Common.{◌≡◌, ◌<◌, ℕ, [], get_or, replicate}
use Rattle.wb_dialogue.proofs.room.fill_each.Given as goal

-- each sector so far is filled
abbrev pub invariant-loop-content : goal.invariant-loop-content
invariant-loop-content l = record { filled : (k : ℕ) → k < l.content-index → get_or l.contents k [] ≡ replicate 512 l.fill }
