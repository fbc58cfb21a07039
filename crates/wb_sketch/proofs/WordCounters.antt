-- The sixteen counters of a word: read, raised and halved.
use Rattle.std.proofs.Common.{◌≡◌, ◌≢◌, ◌<◌, ◌+◌, ◌*◌, ◌/◌, ◌%◌, ◌^◌, ℕ, zero, suc, refl, sym, ap, ◌∙◌, arith}
use Rattle.std.proofs.lemmas.Nat.{shr-shr, pow-add, and_mask, and_shr, and_mod}
use Rattle.std.specs.Int.RustNames.{bit_and}
use Rattle.std.proofs.Math.Nat.{zero-div}
use Rattle.wb_sketch.specs.Packed.{counter_in}

pub counter_in-is : (word number : ℕ) → counter_in word number ≡ word / 2 ^ (4 * number) % 16
unfolding counter_in
counter_in-is word number = refl

counter_in-first : (word : ℕ) → counter_in word 0 ≡ word % 16
unfolding counter_in
counter_in-first word = omega arith

-- the counters above the first are those of the word without it
counter_in-next : (word number : ℕ) → counter_in word (suc number) ≡ counter_in (word / 16) number
unfolding counter_in
counter_in-next word number =
    let e : 4 * suc number ≡ 4 + 4 * number = omega arith in
    rw e (ap (λ (n : ℕ). n % 16) (sym (shr-shr word 4 (4 * number))))

sixteen_times : (number : ℕ) → 2 ^ (4 * suc number) ≡ 16 * 2 ^ (4 * number)
sixteen_times number =
    let e : 4 * suc number ≡ 4 + 4 * number = omega arith in
    rw e (pow-add 2 4 (4 * number))

pub counter_in-none : (number : ℕ) → counter_in 0 number ≡ 0
unfolding counter_in
counter_in-none number = ap (λ (n : ℕ). n % 16) (zero-div (2 ^ (4 * number)))

-- a word with one more at a counter below 15, and what is left of it without its first counter
next_word : (word number : ℕ) → (word + 2 ^ (4 * suc number)) / 16 ≡ word / 16 + 2 ^ (4 * number)
next_word word number = omega (arith, sixteen_times number)

pub raised-here : (word number : ℕ) → counter_in word number < 15 → counter_in (word + 2 ^ (4 * number)) number ≡ counter_in word number + 1
raised-here word zero below =
    let first : word % 16 < 15 = rw counter_in-first at below in
    rw (counter_in-first word, counter_in-first (word + 1)) (omega arith)
raised-here word (suc number) below =
    let below' : counter_in (word / 16) number < 15 = rw counter_in-next at below in
    counter_in-next (word + 2 ^ (4 * suc number)) number
    ∙ ap (λ (w : ℕ). counter_in w number) (next_word word number)
    ∙ raised-here (word / 16) number below'
    ∙ ap (λ (n : ℕ). n + 1) (sym (counter_in-next word number))

pub raised-other : (word number other : ℕ) → counter_in word number < 15 → other ≢ number → counter_in (word + 2 ^ (4 * number)) other ≡ counter_in word other
raised-other word zero zero below n = absurd (n refl)
raised-other word zero (suc other) below n =
    let first : word % 16 < 15 = rw counter_in-first at below in
    let same : (word + 1) / 16 ≡ word / 16 = omega arith in
    counter_in-next (word + 1) other ∙ ap (λ (w : ℕ). counter_in w other) same ∙ sym (counter_in-next word other)
raised-other word (suc number) zero below n =
    counter_in-first (word + 2 ^ (4 * suc number)) ∙ omega (arith, sixteen_times number) ∙ sym (counter_in-first word)
raised-other word (suc number) (suc other) below n =
    let below' : counter_in (word / 16) number < 15 = rw counter_in-next at below in
    counter_in-next (word + 2 ^ (4 * suc number)) other
    ∙ ap (λ (w : ℕ). counter_in w other) (next_word word number)
    ∙ raised-other (word / 16) number other below' (λ e. n (ap suc e))
    ∙ sym (counter_in-next word other)

-- the raised word has no more counters than the word
pub raised-fits : (count word number : ℕ) → word < 2 ^ (4 * count) → number < count → counter_in word number < 15 → word + 2 ^ (4 * number) < 2 ^ (4 * count)
raised-fits zero word number small within below = absurd (omega arith)
raised-fits (suc count) word zero small within below =
    let first : word % 16 < 15 = rw counter_in-first at below in
    omega (arith, sixteen_times count)
raised-fits (suc count) word (suc number) small within below =
    let below' : counter_in (word / 16) number < 15 = rw counter_in-next at below in
    let small' : word / 16 < 2 ^ (4 * count) = omega (arith, sixteen_times count) in
    omega (arith, sixteen_times count, sixteen_times number, raised-fits count (word / 16) number small' (omega arith) below')

-- three ones for each of so many counters
abbrev pub low_three_bits : ℕ → ℕ
low_three_bits zero = 0
low_three_bits (suc count) = 16 * low_three_bits count + 7

-- a mask of three ones a counter keeps the low three bits of each
masked : (count word number : ℕ) → number < count → counter_in (bit_and word (low_three_bits count)) number ≡ counter_in word number % 8
masked zero word number within = absurd (omega arith)
masked (suc count) word zero within =
    let seven : (16 * low_three_bits count + 7) % 2 ^ 4 ≡ 7 = omega arith in
    let low : bit_and word (16 * low_three_bits count + 7) % 2 ^ 4 ≡ bit_and (word % 2 ^ 4) 7 =
    and_mod word (16 * low_three_bits count + 7) 4 ∙ ap (λ (m : ℕ). bit_and (word % 2 ^ 4) m) seven in
    counter_in-first _ ∙ low ∙ and_mask (word % 2 ^ 4) 3 ∙ ap (λ (n : ℕ). n % 8) (sym (counter_in-first word))
masked (suc count) word (suc number) within =
    let rest : (16 * low_three_bits count + 7) / 2 ^ 4 ≡ low_three_bits count = omega arith in
    counter_in-next _ number
    ∙ ap (λ (w : ℕ). counter_in w number) (and_shr word (16 * low_three_bits count + 7) 4 ∙ ap (λ (m : ℕ). bit_and (word / 2 ^ 4) m) rest)
    ∙ masked count (word / 16) number (omega arith)
    ∙ ap (λ (n : ℕ). n % 8) (sym (counter_in-next word number))

-- the counters of a word shifted by a bit have their own halves below
shifted : (word number : ℕ) → counter_in (word / 2) number % 8 ≡ counter_in word number / 2
unfolding counter_in
shifted word number =
    let turned : word / 2 / 2 ^ (4 * number) ≡ word / 2 ^ (4 * number) / 2 =
    shr-shr word 1 (4 * number) ∙ ap (λ (k : ℕ). word / 2 ^ k) (omega arith) ∙ sym (shr-shr word (4 * number) 1) in
    rw turned (omega arith)

pub halve-is : (word number : ℕ) → number < 16 → counter_in (bit_and (word / 2) 8608480567731124087) number ≡ counter_in word number / 2
halve-is word number within = masked 16 (word / 2) number within ∙ shifted word number
