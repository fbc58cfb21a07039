use Rattle.std.proofs.Common.{rules}
use Rattle.std.specs.Char.{is_ascii_digit}
use Rattle.std.proofs.lemmas.List.Folds.{list_all_more}
use Rattle.std.proofs.lemmas.Int.Digits.{digits_value_more}
use Rattle.wb_dialogue.proofs.usual.leading_number.Goals as goal

-- src/usual.rt:44:5
pub loop-count-preserved : goal.loop-count-preserved
loop-count-preserved c =
    let text = c.args.text.now in
    let count = c.loop-count.count in
    let more = list_all_more is_ascii_digit text count 0 c.loop-count-test.true in
    let value = digits_value_more 10 text count c.loop-count-test.true in
    search rules
