use Rattle.std.proofs.Common.{◌≡◌, length}
use Rattle.wb_table.specs.Words.{words_of}
use Rattle.wb_table.proofs.words.SplitSpacesIterator.next.Given as goal

abbrev pub invariant-loop-word : goal.invariant-loop-word
invariant-loop-word l = words_of l.self.0.now ≡ words_of l.initial.self.0.now

abbrev pub decreases-loop-word : goal.decreases-loop-word
decreases-loop-word l = length l.self.0.now
