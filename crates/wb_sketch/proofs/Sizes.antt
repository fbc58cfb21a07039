-- The bits of a place in a row, found one after the other, and the limit of the sample.
use Rattle.std.proofs.Common.{◌≡◌, inl, inr, ◌≤◌, ◌<◌, ◌+◌, ◌-◌, ◌*◌, ◌^◌, ◌%◌, ℕ, zero, suc, max, nat_le, true, false, refl, sym, ap, ◌∙◌, arith}
use Rattle.std.proofs.Math.Nat.{mod-eq_of_lt, one-mul}
use Rattle.std.proofs.Math.Pow.{pow_mono}
use Rattle.std.proofs.lemmas.Nat.{pow-add}
use Rattle.std.proofs.lemmas.Bool.{cases_lt}
use Rattle.std.proofs.lemmas.Bool.Decides.{nat_tests}
use Rattle.wb_sketch.specs.Sizes.{bits_from, row_bits, sample_limit}

pub row_bits-start : (blocks : ℕ) → bits_from 16 4 blocks ≡ row_bits blocks
unfolding row_bits
row_bits-start blocks = refl

found : (steps bits blocks : ℕ) → blocks ≤ 2 ^ bits → bits_from (suc steps) bits blocks ≡ bits
unfolding bits_from
found steps bits blocks h = let t : nat_le blocks (2 ^ bits) ≡ true = grind (arith, nat_tests) in rw t refl

further : (steps bits blocks : ℕ) → 2 ^ bits < blocks → bits_from (suc steps) bits blocks ≡ bits_from steps (bits + 1) blocks
unfolding bits_from
further steps bits blocks h = let t : nat_le blocks (2 ^ bits) ≡ false = grind (arith, nat_tests) in rw t refl

pub bits_from-found : (bits blocks : ℕ) → bits < 20 → blocks ≤ 2 ^ bits → bits_from (20 - bits) bits blocks ≡ bits
bits_from-found bits blocks l h =
    let e : 20 - bits ≡ suc (19 - bits) = omega arith in
    rw e (found (19 - bits) bits blocks h)

pub bits_from-next : (bits blocks : ℕ) → bits < 20 → 2 ^ bits < blocks → bits_from (20 - (bits + 1)) (bits + 1) blocks ≡ bits_from (20 - bits) bits blocks
bits_from-next bits blocks l h =
    let e : 20 - bits ≡ suc (20 - (bits + 1)) = omega arith in
    rw e (sym (further (20 - (bits + 1)) bits blocks h))

pub bits_from-end : (bits blocks : ℕ) → bits ≡ 20 → bits_from (20 - bits) bits blocks ≡ 20
unfolding bits_from
bits_from-end bits blocks e = rw e refl

pub sample_limit-from : (blocks : ℕ) → 64 ≤ sample_limit blocks
unfolding sample_limit
sample_limit-from blocks = omega arith

pub sample_limit-to : (blocks : ℕ) → blocks ≤ 1048575 → sample_limit blocks ≤ 8388600
unfolding sample_limit
sample_limit-to blocks h = omega arith

pub sample_limit-is : (blocks : ℕ) → max (8 * blocks) 64 ≡ sample_limit blocks
unfolding sample_limit
sample_limit-is blocks = omega arith

-- one, shifted to the left in a word of so many bits
pub one_shifted : (bits word : ℕ) → bits ≤ 23 → 32 ≤ word → 1 * 2 ^ bits % 2 ^ word ≡ 2 ^ bits
one_shifted bits word h w =
    let low : 2 ^ bits ≤ 2 ^ 23 = pow_mono h in
    let high : 2 ^ 32 ≤ 2 ^ word = pow_mono w in
    let below : 2 ^ bits < 2 ^ word = omega arith in
    rw one-mul (mod-eq_of_lt below)

-- words of 2 ^ per places each, as many as one shifted to the left
pub words_shifted : (per words bits : ℕ) → per + words ≡ bits → words ≤ 23 → 2 ^ per * (1 * 2 ^ words % 2 ^ 64) ≡ 2 ^ bits
words_shifted per words bits e h =
    ap (λ (n : ℕ). 2 ^ per * n) (one_shifted words 64 h (omega arith)) ∙ sym (pow-add 2 per words) ∙ ap (λ (n : ℕ). 2 ^ n) e

bits_from-to : (steps bits blocks : ℕ) → bits_from steps bits blocks ≤ bits + steps
unfolding bits_from
bits_from-to zero bits blocks = omega arith
bits_from-to (suc steps) bits blocks =
    elim (cases_lt (2 ^ bits) blocks) [
      | inl l ↦ rw (further steps bits blocks l) (omega (arith, bits_from-to steps (bits + 1) blocks))
      | inr l ↦ rw (found steps bits blocks l) (omega arith)
    ]

pub row_bits-to : (blocks : ℕ) → row_bits blocks ≤ 20
unfolding row_bits
row_bits-to blocks = bits_from-to 16 4 blocks
