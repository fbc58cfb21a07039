use Rattle.std.proofs.Common.{◌∙◌, false, not, map, sym, arith}
use Rattle.std.proofs.lemmas.List.{ext_get_or, get_or-map, length-map}
use Rattle.wb_space.proofs.places.others_of.Goals as goal

pub returns : goal.returns
returns c = ext_get_or false c.loop-at.others (map not c.args.uses.now) (c.loop-at.invariant.size ∙ sym (length-map c.args.uses.now not))
    (λ k l. c.loop-at.invariant.others k (omega (arith, l, c.loop-at.auto.at-end, c.loop-at-test.false, c.loop-at.invariant.size, c.size-count.ensures))
    ∙ sym (get_or-map not c.args.uses.now k false false (omega (arith, l, c.loop-at.invariant.size))))
