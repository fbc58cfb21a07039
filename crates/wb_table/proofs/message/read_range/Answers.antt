use Rattle.std.proofs.Common.{Some, lit<}
use Rattle.std.proofs.lemmas.Str.Pattern.{split_once_first}
use Rattle.wb_table.proofs.Messages.{none_maps, parted_at_dash}
use Rattle.wb_table.proofs.message.read_range.Goals as goal

pub returns-in-Some-clause-none : goal.returns-in-Some-clause-none
returns-in-Some-clause-none c =
    let cut = split_once_first 45 c.args.word.now (Some (c.in-Some.begin, c.in-Some.end)) c.in-Some.ensures.cases (lit< tt) in
    none_maps c.read_span.result (λ no range named. no range (parted_at_dash c.args.word.now _ _ range cut named)) c.read_span.ensures.none
