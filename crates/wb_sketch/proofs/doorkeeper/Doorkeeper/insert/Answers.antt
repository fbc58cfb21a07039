use Rattle.std.proofs.Common.{◌<◌, ◌*◌, ◌/◌, ◌%◌, ◌^◌, ℕ, true, length, ap, ◌∙◌, arith}
use Rattle.std.proofs.lemmas.List.{get_or_read}
use Rattle.std.specs.Int.RustNames.{bit_or}
use Rattle.wb_sketch.specs.Packed.{mark_in}
use Rattle.wb_sketch.proofs.Packing.{values_in-set, length-values_in}
use Rattle.wb_sketch.proofs.WordMarks.{marked-here, marked-other}
use Rattle.wb_sketch.proofs.doorkeeper.Doorkeeper.insert.Goals as goal

pub index_mut-requires : goal.index_mut-requires
index_mut-requires c = omega (arith, ap length c.self.view_is, length-values_in mark_in 64 c.self.inside.words.items, c.self.inside.words.ok.0)

pub returns : goal.returns
returns c =
    let within : c.args.place < 64 * length c.self.inside.words.items = omega (arith, ap length c.self.view_is, length-values_in mark_in 64 c.self.inside.words.items) in
    rw (← c.self.view_is)
    (values_in-set mark_in 64 c.self.inside.words.items c.args.place (bit_or c.index_mut.result.now (1 * 2 ^ (c.args.place % 64) % 2 ^ 64)) true (omega arith) within
    (marked-here c.index_mut.result.now (c.args.place % 64) (omega arith))
    (λ other n. marked-other c.index_mut.result.now (c.args.place % 64) other (omega arith) n
    ∙ ap (λ (w : ℕ). mark_in w other) (get_or_read c.self.inside.words.items (c.args.place / 64) c.index_mut.result.now (omega arith) c.index_mut.ensures.value 0)))
