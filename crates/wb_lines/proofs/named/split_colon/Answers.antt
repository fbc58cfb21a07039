use Rattle.std.proofs.Common.{Some, None, lit<}
use Rattle.std.proofs.lemmas.Str.Pattern.{split_once_first}
use Rattle.wb_lines.proofs.Colons.{parts_of-cut, parts_of-whole}
use Rattle.wb_lines.proofs.named.split_colon.Goals as goal

pub returns-in-Some-clause-cut : goal.returns-in-Some-clause-cut
returns-in-Some-clause-cut c =
    let cut = split_once_first 58 c.args.word.now (Some (c.in-Some.first, c.in-Some.rest)) c.in-Some.ensures.cases (lit< tt) in
    parts_of-cut c.args.word.now _ _ cut.0 cut.1 cut.2

pub returns-in-None-clause-whole : goal.returns-in-None-clause-whole
returns-in-None-clause-whole c = parts_of-whole c.args.word.now (split_once_first 58 c.args.word.now None c.in-None.ensures.cases (lit< tt))
