use Rattle.std.proofs.Common.{◌≡◌, ◌++◌, ℕ, List}
use Rattle.wb_table.specs.Words.{words_of}
use Rattle.wb_lines.specs.Lines.{SpellsAllNamed}
use Rattle.wb_lines.proofs.named.read_all_named.Given as goal

abbrev pub invariant-loop-word : goal.invariant-loop-word
invariant-loop-word l = record {
  next : (goal.iterator-loop-word).can_next l.words;
  finite : (goal.iterator-loop-word).is_finite l.words;
  before : List (List ℕ);
  cut : words_of l.initial.words.0.now ≡ before ++ words_of l.words.0.now;
  read : SpellsAllNamed before l.all.items;
}
