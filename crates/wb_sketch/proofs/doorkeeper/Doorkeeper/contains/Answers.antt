use Rattle.std.proofs.Common.{◌<◌, ◌*◌, ◌/◌, ◌%◌, ℕ, Bool, false, List, length, get_or, sym, ap, ◌∙◌, arith}
use Rattle.std.proofs.lemmas.List.{get_or_read}
use Rattle.wb_sketch.specs.Packed.{mark_in}
use Rattle.wb_sketch.proofs.Packing.{get_or-values_in, length-values_in}
use Rattle.wb_sketch.proofs.WordMarks.{mark_in-is}
use Rattle.wb_sketch.proofs.doorkeeper.Doorkeeper.contains.Goals as goal

pub index-requires : goal.index-requires
index-requires c = omega (arith, ap length c.self.view_is, length-values_in mark_in 64 c.self.inside.words.items, c.self.inside.words.ok.0)

pub returns : goal.returns
returns c =
    let within : c.args.place < 64 * length c.self.inside.words.items = omega (arith, ap length c.self.view_is, length-values_in mark_in 64 c.self.inside.words.items) in
    mark_in-is c.index.result.now (c.args.place % 64)
    ∙ ap (λ (w : ℕ). mark_in w (c.args.place % 64)) (get_or_read c.self.inside.words.items (c.args.place / 64) c.index.result.now (omega arith) c.index.ensures 0)
    ∙ sym (get_or-values_in mark_in 64 c.self.inside.words.items c.args.place false within)
    ∙ ap (λ (xs : List Bool). get_or xs c.args.place false) c.self.view_is
