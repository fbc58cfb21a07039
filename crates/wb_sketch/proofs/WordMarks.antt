-- The sixty-four marks of a word: read and set.
use Rattle.std.proofs.Common.{◌≡◌, ◌≢◌, ◌<◌, ◌*◌, ◌/◌, ◌%◌, ◌^◌, ◌==◌, ℕ, true, false, ap}
use Rattle.std.specs.Int.{w64}
use Rattle.std.specs.Int.RustNames.{bit_and, bit_or}
use Rattle.std.proofs.lemmas.Nat.Bits.{shr_and_one, bit_at-zero, bit_at_set_same, bit_at_set_other}
use Rattle.wb_sketch.specs.Packed.{mark_in}

pub mark_in-is : (word number : ℕ) → (bit_and (word / 2 ^ number) 1 == 1) ≡ mark_in word number
unfolding mark_in
mark_in-is word number = ap (λ (n : ℕ). n == 1) (shr_and_one word number)

pub mark_in-none : (number : ℕ) → mark_in 0 number ≡ false
unfolding mark_in
mark_in-none number = ap (λ (n : ℕ). n == 1) (bit_at-zero number)

pub marked-here : (word number : ℕ) → number < 64 → mark_in (bit_or word (1 * 2 ^ number % 2 ^ 64)) number ≡ true
unfolding mark_in
marked-here word number within = ap (λ (n : ℕ). n == 1) (bit_at_set_same w64 word number within)

pub marked-other : (word number other : ℕ) → number < 64 → other ≢ number → mark_in (bit_or word (1 * 2 ^ number % 2 ^ 64)) other ≡ mark_in word other
unfolding mark_in
marked-other word number other within n = ap (λ (n : ℕ). n == 1) (bit_at_set_other w64 word number within other n)
