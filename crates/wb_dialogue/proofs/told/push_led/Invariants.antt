use Rattle.std.proofs.Common.{◌≡◌, ◌++◌, ◌≤◌, ℕ, List, length}
use Rattle.wb_dialogue.specs.Leading.{lead_of, lines_led, led_by}
use Rattle.wb_dialogue.proofs.told.push_led.Given as goal

-- what was added, and what is left
abbrev pub invariant-loop-byte : goal.invariant-loop-byte
invariant-loop-byte l = record {
  added : l.lines.items ++ lines_led (lead_of l.client) l.begins l.rest ≡ l.fn.lines.items ++ led_by l.client l.text;
  kept : (part : List ℕ) × (l.lines.items ≡ l.fn.lines.items ++ part);
  bounded : length l.lines.items ≤ 67108864;
}

abbrev pub decreases-loop-byte : goal.decreases-loop-byte
decreases-loop-byte l = length l.rest
