use Rattle.std.proofs.Common.{◌≡◌, ◌<◌, ◌*◌, ◌/◌, ◌%◌, ℕ, length, ◌∙◌, ap, sym, arith}
use Rattle.wb_sketch.specs.Packed.{counter_in, counters_in}
use Rattle.wb_sketch.proofs.Counters.{halved_from}
use Rattle.wb_sketch.proofs.Packing.{length-values_in, get_or-values_in}
use Rattle.wb_sketch.proofs.row.halve_each.Goals as goal

pub returns : goal.returns
returns c =
    let same : length c.loop-word.words ≡ length c.args.words.now = omega arith in
    let lengths : length (counters_in c.loop-word.words) ≡ length (counters_in c.args.words.now) =
    length-values_in counter_in 16 c.loop-word.words ∙ ap (λ (n : ℕ). 16 * n) same ∙ sym (length-values_in counter_in 16 c.args.words.now) in
    halved_from (counters_in c.args.words.now) (counters_in c.loop-word.words) lengths (λ k h.
    let within : k < 16 * length c.args.words.now = omega (arith, length-values_in counter_in 16 c.args.words.now) in
    let word_in : k / 16 < length c.args.words.now = omega arith in
    get_or-values_in counter_in 16 c.loop-word.words k 0 (omega arith)
    ∙ c.loop-word.invariant.halved (k / 16) (k % 16) (omega arith) (omega arith)
    ∙ ap (λ (n : ℕ). n / 2) (sym (get_or-values_in counter_in 16 c.args.words.now k 0 within)))
