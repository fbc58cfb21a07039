use Rattle.std.proofs.Common.{◌≡◌, ◌<◌, ◌+◌, ◌*◌, ℕ, slice_index}
use Rattle.wb_format.specs.Bytes.{number_at, SameBytes, IsSector}
use Rattle.wb_format.proofs.node.put_words.Given as goal

abbrev pub invariant-loop-j : goal.invariant-loop-j
invariant-loop-j l = record {
  bytes : IsSector l.content;
  words : (k : ℕ) → k < l.j → number_at l.content (32 + 8 * k) 8 ≡ slice_index l.words k;
  before : SameBytes l.content l.initial.content 0 32;
  after : SameBytes l.content l.initial.content 288 512;
}
