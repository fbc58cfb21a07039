use Rattle.std.proofs.Common.{◌≡◌, ◌∙◌, sym, [], length, replicate, arith}
use Rattle.std.proofs.lemmas.List.{get_or-replicate, length-replicate, ext_get_or}
use Rattle.wb_dialogue.proofs.room.fill_each.Goals as goal

pub returns : goal.returns
returns c =
    let count = length c.args.contents.now in
    let filled = replicate 512 c.args.fill in
    let same : length c.loop-content.contents ≡ count = omega arith in
    ext_get_or [] c.loop-content.contents (replicate count filled) (same ∙ sym (length-replicate count filled))
    (λ k within. c.loop-content.invariant.filled k (omega arith) ∙ sym (get_or-replicate count k filled [] (omega (arith, within, same))))
