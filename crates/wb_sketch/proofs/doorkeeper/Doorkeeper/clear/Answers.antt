use Rattle.std.proofs.Common.{◌≡◌, ◌*◌, ℕ, false, length, replicate, ap, ◌∙◌, arith}
use Rattle.wb_sketch.specs.Packed.{mark_in, marks_in}
use Rattle.wb_sketch.proofs.Packing.{values_in-replicate, length-values_in}
use Rattle.wb_sketch.proofs.WordMarks.{mark_in-none}
use Rattle.wb_sketch.proofs.doorkeeper.Doorkeeper.clear.Goals as goal

pub returns : goal.returns
returns c =
    let zeros : c.fill.new.self.items ≡ replicate c.self.inside.words.len 0 = c.fill.ensures.items (λ y e. e) in
    let lengths : 64 * c.self.inside.words.len ≡ length c.args.self.now =
    omega (arith, ap length c.self.view_is, length-values_in mark_in 64 c.self.inside.words.items, c.self.inside.words.ok.0) in
    ap marks_in zeros ∙ values_in-replicate mark_in 64 c.self.inside.words.len false (omega arith) mark_in-none ∙ ap (λ (n : ℕ). replicate n false) lengths
