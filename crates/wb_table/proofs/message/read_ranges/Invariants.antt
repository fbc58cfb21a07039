use Rattle.std.proofs.Common.{List, ◌++◌}
use Rattle.wb_types.specs.declared.message.CBlockRange.{CBlockRange as Range}
use Rattle.wb_table.specs.Messages.{NameRanges}
use Rattle.wb_table.specs.Words.{words_of}
use Rattle.wb_table.proofs.message.read_ranges.Given as goal

-- If all the words name ranges, those that are left name some; and those that were read, with what these name, are named by all.
abbrev pub invariant-loop-word : goal.invariant-loop-word
invariant-loop-word l = record {
  next : (goal.iterator-loop-word).can_next l.words;
  finite : (goal.iterator-loop-word).is_finite l.words;
  onward : (all : List Range) → NameRanges (words_of l.initial.words.0.now) all → (rest : List Range) × NameRanges (words_of l.words.0.now) rest;
  back : (rest : List Range) → NameRanges (words_of l.words.0.now) rest → NameRanges (words_of l.initial.words.0.now) (l.ranges.items ++ rest);
}
