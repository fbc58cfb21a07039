use Rattle.std.proofs.Common.{◌∙◌, ℕ, None, false, replicate, refl, sym, ap, arith}
use Rattle.wb_tests_desk.proofs.States.{one_entry}
use Rattle.wb_tests_desk.proofs.desk.state.Goals as goal

pub returns : goal.returns
returns c = rw c.new-2.ensures.items (one_entry _ c.new-tree.result c.set.new.self 1 (record { origin = record { 0 = 3 }; dirty = false; hint = 0 })
    (c.new-tree.ensures.entries ∙ ap (λ (n : ℕ). replicate n None) (sym c.in_ok-geometry.ensures.cache_blocks ∙ ap (λ g. g.cache_blocks) (sym c.root.ensures)))
    c.new-tree.ensures.known c.in_ok-set.ensures.entries c.set.ensures.edited c.set.ensures.sound
    (omega (arith, c.in_ok-geometry.ensures.origin_blocks, ap (λ g. g.origin_blocks) c.root.ensures)) (omega arith) refl)
