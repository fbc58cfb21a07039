use Rattle.std.proofs.Common.{◌≡◌, ◌≢◌, ◌<◌, ℕ, length, get_or, true, false}
use Rattle.wb_dialogue.proofs.fill.Fill.of.Given as goal

-- what is said so far is right of the bytes so far
abbrev pub invariant-loop-byte : goal.invariant-loop-byte
invariant-loop-byte l = record {
  same : l.is_same ≡ true → (k : ℕ) → k < l.byte-index → get_or l.content k 0 ≡ l.first;
  other : l.is_same ≡ false → (k : ℕ) × (k < length l.content) × (get_or l.content k 0 ≢ l.first);
}
