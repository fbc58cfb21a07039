use Rattle.std.proofs.Common.{◌≡◌, true}
use Rattle.std.specs.Char.{is_ascii_digit}
use Rattle.std.specs.List.{list_all}
use Rattle.wb_table.proofs.Digits.{SpellsNumber-not_parsed}
use Rattle.wb_table.proofs.number.read_number.Goals as goal

pub returns-clause-none : goal.returns-clause-none
returns-clause-none c =
    let d : list_all is_ascii_digit c.args.word.now ≡ true = cc in
    rw c.ok.ensures.value (SpellsNumber-not_parsed c.args.word.now c.parse.result c.parse.ensures.value.0 d)
