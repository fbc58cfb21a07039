use Rattle.std.proofs.Common.{◌≡◌, ◌≤◌, ◌+◌, ◌*◌, ◌++◌, ℕ, List, length, drop}
use Rattle.std.specs.Str.{IsAscii}
use Rattle.wb_dialogue.specs.Shown.{AreLinesOf}
use Rattle.wb_dialogue.proofs.shown.lay.Given as goal

-- what is laid are the lines of those that are not left
abbrev pub invariant-loop-content : goal.invariant-loop-content
invariant-loop-content l = record {
  room : 27 * length l.left ≤ l.at;
  within : l.at ≤ length l.lines;
  laid : (done : List (List ℕ)) × (l.contents ≡ l.left ++ done) × AreLinesOf (drop l.at l.lines) (l.first + length l.left) done;
  ascii : IsAscii (drop l.at l.lines);
}

abbrev pub decreases-loop-content : goal.decreases-loop-content
decreases-loop-content l = length l.left
