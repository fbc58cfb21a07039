use Rattle.std.proofs.Common.{◌≡◌, ◌<◌, ◌+◌, ◌^◌, ◌++◌, ℕ, List, length, string_bytes}
use Rattle.wb_dialogue.proofs.Showing.{Leads}
use Rattle.wb_dialogue.proofs.shown.show.Given as goal

-- what was added, whatever is added behind it
abbrev pub invariant-loop-rest : goal.invariant-loop-rest
invariant-loop-rest l = record {
  numbered : l.sector + length l.rest < 2 ^ 64;
  shown : (sent : List ℕ) × (string_bytes l.text ≡ string_bytes l.fn.text ++ sent) × Leads sent l.sector l.rest l.first l.contents;
}

abbrev pub decreases-loop-rest : goal.decreases-loop-rest
decreases-loop-rest l = length l.rest
