use Rattle.std.proofs.Common.{rules}
use Rattle.std.proofs.lemmas.Fmt.{length-decimal-le}
use Rattle.wb_dialogue.proofs.Laid.{line_laid}
use Rattle.wb_dialogue.proofs.shown.lay_line.Goals as goal

pub write_digits-requires : goal.write_digits-requires
write_digits-requires c = search (rules, length-decimal-le 20)

pub returns-clause-start : goal.returns-clause-start
returns-clause-start c = search (rules, length-decimal-le 20)

pub returns-clause-laid : goal.returns-clause-laid
returns-clause-laid c =
    let word = c.lay_name-end.ensures.laid in
    line_laid c.args.sector _ word.0 _ _ _ _ _ c.of.result c.ranges.sector.fits c.of.ensures word.1 word.2 c.lay_byte-end.ensures.laid word.3 c.lay_byte-end-2.ensures.laid c.write_digits.ensures.written
