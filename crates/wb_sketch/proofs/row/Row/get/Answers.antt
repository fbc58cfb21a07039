use Rattle.std.proofs.Common.{◌<◌, ◌*◌, ◌/◌, ◌%◌, ℕ, List, length, get_or, sym, ap, ◌∙◌, arith}
use Rattle.std.proofs.lemmas.List.{get_or_read}
use Rattle.wb_sketch.specs.Packed.{counter_in}
use Rattle.wb_sketch.proofs.Packing.{get_or-values_in, length-values_in}
use Rattle.wb_sketch.proofs.row.Row.get.Goals as goal

pub index-requires : goal.index-requires
index-requires c = omega (arith, ap length c.self.view_is, length-values_in counter_in 16 c.self.inside.words.items, c.self.inside.words.ok.0)

pub returns-clause-value : goal.returns-clause-value
returns-clause-value c =
    let within : c.args.place < 16 * length c.self.inside.words.items = omega (arith, ap length c.self.view_is, length-values_in counter_in 16 c.self.inside.words.items) in
    c.counter_in.ensures.value
    ∙ ap (λ (w : ℕ). counter_in w (c.args.place % 16)) (get_or_read c.self.inside.words.items (c.args.place / 16) c.index.result.now (omega arith) c.index.ensures 0)
    ∙ sym (get_or-values_in counter_in 16 c.self.inside.words.items c.args.place 0 within)
    ∙ ap (λ (xs : List ℕ). get_or xs c.args.place 0) c.self.view_is
