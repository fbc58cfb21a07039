use Rattle.std.proofs.Common.{◌<◌, length, arith, rules, Some, None, ◌∙◌, sym, ap, lit<}
use Rattle.std.proofs.lemmas.Str.Pattern.{split_once_first}
use Rattle.std.proofs.lemmas.Bool.{eqb-false}
use Rattle.wb_table.proofs.Parts.{words_of-word, words_of-last}
use Rattle.wb_table.proofs.words.SplitSpacesIterator.next.Goals as goal

pub returns-then-not-is_empty-clause-steps : goal.returns-then-not-is_empty-clause-steps
returns-then-not-is_empty-clause-steps c =
    let text = c.loop-word.self.0.now in
    let cut = split_once_first 32 text (Some (c.in-Some.word, c.in-Some.rest)) c.in-Some.ensures.cases (lit< tt) in
    let some = eqb-false (length c.in-Some.word.now) 0 (sym c.if-not-is_empty.ensures) in
    let filled : 0 < length c.in-Some.word.now = omega (arith, some) in
    sym c.loop-word.invariant ∙ words_of-word text _ _ cut.0 cut.1 cut.2 filled

pub returns-then-not-is_empty-clause-goes : goal.returns-then-not-is_empty-clause-goes
returns-then-not-is_empty-clause-goes c =
    let e = returns-then-not-is_empty-clause-steps c in
    let shorter = ap length e in
    search rules

pub returns-else-is_empty-clause-steps : goal.returns-else-is_empty-clause-steps
returns-else-is_empty-clause-steps c =
    let text = c.loop-word.self.0.now in
    let whole = split_once_first 32 text None c.in_default.ensures.cases (lit< tt) in
    let some = eqb-false (length text) 0 (sym c.if-is_empty.ensures) in
    let filled : 0 < length text = omega (arith, some) in
    sym c.loop-word.invariant ∙ words_of-last text whole filled

pub returns-else-is_empty-clause-goes : goal.returns-else-is_empty-clause-goes
returns-else-is_empty-clause-goes c =
    let e = returns-else-is_empty-clause-steps c in
    let shorter = ap length e in
    search rules
