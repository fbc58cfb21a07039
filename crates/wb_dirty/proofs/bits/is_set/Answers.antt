use Rattle.std.proofs.Common.{◌/◌, ◌%◌, ◌==◌, ℕ, get_or, refl, sym, ap, ◌∙◌}
use Rattle.std.proofs.lemmas.Nat.Bits.{shr_and_one}
use Rattle.wb_bits.proofs.Least.{is_member-at}
use Rattle.wb_dirty.proofs.bits.is_set.Goals as goal

pub returns : goal.returns
returns c =
    ap (λ (v : ℕ). v == 1) (shr_and_one (get_or c.args.words.now (c.args.k / 64) 0) (c.args.k % 64)) ∙ sym (is_member-at c.args.words.now c.args.k (c.args.k / 64) (c.args.k % 64) refl refl)
