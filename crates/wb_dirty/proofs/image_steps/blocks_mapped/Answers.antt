use Rattle.std.proofs.Common.{◌≡◌, ◌∙◌, sym, None, false, length, is_some, arith}
use Rattle.std.proofs.lemmas.List.{ext_get_or, get_or-map, length-map}
use Rattle.wb_dirty.proofs.image_steps.blocks_mapped.Goals as goal

pub returns-clause-mapped : goal.returns-clause-mapped
returns-clause-mapped g c =
    let h = c.loop-block.invariant in
    let size : length c.loop-block.mapped ≡ length c.args.tree.now.entries = h.size ∙ (h.blocks ∙ sym c.requires) in
    ext_get_or false c.loop-block.mapped _ (size ∙ sym (length-map c.args.tree.now.entries is_some)) (λ k inside.
    h.before k (omega (arith, inside, h.size, c.loop-block-test.false)) ∙ sym (get_or-map is_some c.args.tree.now.entries k None false (omega (arith, inside, size))))
