use Rattle.std.proofs.Common.{[], inr, refl, sym, subst, ◌∙◌, append-nil}
use Rattle.wb_table.specs.Messages.{NameRanges}
use Rattle.wb_table.specs.Words.{words_of}
use Rattle.wb_table.proofs.Messages.{first_names, none_names_none}
use Rattle.wb_table.proofs.message.read_ranges.Goals as goal

pub returns-in_default-read_range-clause-refused : goal.returns-in_default-read_range-clause-refused
returns-in_default-read_range-clause-refused c = inr (
  refl,
  λ all named.
      let left = c.loop-word.invariant.onward all named in
      let first = first_names c.in-Some.word.now _ left.0 (subst (λ words. NameRanges words left.0) c.in-Some.ensures.steps left.1) in
      c.in_default-read_range.ensures.none first.0 first.1,
)

pub returns-clause-found : goal.returns-clause-found
returns-clause-found c =
    let all = c.loop-word.invariant.back [] (none_names_none _ c.in_default.ensures.steps.0) in
    subst (λ ranges. NameRanges (words_of c.args.words.0.now) ranges) (append-nil c.loop-word.ranges.items ∙ sym c.new.ensures) all
