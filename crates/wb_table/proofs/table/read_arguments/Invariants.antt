use Rattle.std.proofs.Common.{◌≡◌, length}
use Rattle.wb_table.specs.Table.{GivesKeys, no_keys}
use Rattle.wb_table.specs.Words.{words_of}
use Rattle.wb_table.specs.declared.table.Keys.{Keys}
use Rattle.wb_table.proofs.table.read_arguments.Given as goal

-- What all the words give, if they are as many as was said, is what those that are left give behind what was given so far, if they are as many as are left.
abbrev pub invariant-loop-word : goal.invariant-loop-word
invariant-loop-word l = record {
  next : (goal.iterator-loop-word).can_next l.words;
  finite : (goal.iterator-loop-word).is_finite l.words;
  onward : (after : Keys) → GivesKeys l.policy no_keys (words_of l.initial.words.0.now) after → length (words_of l.initial.words.0.now) ≡ l.initial.left
      → GivesKeys l.policy l.keys (words_of l.words.0.now) after × (length (words_of l.words.0.now) ≡ l.left);
  back : (after : Keys) → GivesKeys l.policy l.keys (words_of l.words.0.now) after → length (words_of l.words.0.now) ≡ l.left
      → GivesKeys l.policy no_keys (words_of l.initial.words.0.now) after × (length (words_of l.initial.words.0.now) ≡ l.initial.left);
}
