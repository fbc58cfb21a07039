-- What a seal that is set tells: the place and the dirty bit of which it is made.
use Rattle.std.proofs.Common.{arith, cond, mul_comm, ◌≡◌, ◌<◌, ◌+◌, ◌*◌, ◌/◌, ◌%◌, ◌^◌, ◌∙◌, if◌then◌else◌, nat_lt, ℕ, zero, suc, Bool, true, false, Option, Some, None, refl, ap}
use Rattle.std.proofs.lemmas.Bool.{lt-ltb}
use Rattle.std.proofs.lemmas.Nat.{div-mul-add, mod-mul-add}
use Rattle.wb_types.specs.declared.number.CBlock.{CBlock}
use Rattle.wb_words.specs.SharedWords.{flag, place_in, dirty_in, place_number, cached_at, seal_word}

-- what is sealed dirty tells so
pub dirty_told : (place : Option CBlock) → dirty_in (seal_word place true) ≡ true
dirty_told place = ap flag (ap (λ v. (v + 1) % 2) (mul_comm 2 (place_number place)) ∙ mod-mul-add (place_number place) 2 1 (omega arith))

-- half of a seal of a cache block is its number, and one more
halved : (p : ℕ) (dirty : Bool) → (2 * (p + 1) + cond dirty 1 0) / 2 ≡ suc p
halved p true = ap (λ v. (v + 1) / 2) (mul_comm 2 (p + 1)) ∙ div-mul-add (p + 1) 2 1 (omega arith) ∙ omega arith
halved p false = ap (λ v. (v + 0) / 2) (mul_comm 2 (p + 1)) ∙ div-mul-add (p + 1) 2 0 (omega arith) ∙ omega arith

-- a seal of a cache block tells it
pub place_told : (k : ℕ) (dirty : Bool) → k < 2 ^ 32 → place_in (seal_word (Some (record { 0 = k })) dirty) ≡ Some (record { 0 = k })
place_told k dirty l = ap cached_at (halved k dirty) ∙ ap (λ (t : Bool). if t then Some (record { 0 = k }) else None) (lt-ltb k (2 ^ 32) l)

-- what is sealed anew tells the place that was seen
pub seal_tells : (seal : ℕ) (dirty : Bool) → place_in (seal_word (place_in seal) dirty) ≡ place_in seal
seal_tells seal dirty = by_half (seal / 2) dirty
  where
    by_fit : (p : ℕ) (t dirty : Bool) → nat_lt p (2 ^ 32) ≡ t → place_in (seal_word (if t then Some (record { 0 = p }) else None) dirty) ≡ (if t then Some (record { 0 = p }) else None)
    by_fit p false true e = refl
    by_fit p false false e = refl
    by_fit p true dirty e = ap cached_at (halved p dirty) ∙ ap (λ t. if t then Some (record { 0 = p }) else None) e

    by_half : (n : ℕ) (dirty : Bool) → place_in (seal_word (cached_at n) dirty) ≡ cached_at n
    by_half zero true = refl
    by_half zero false = refl
    by_half (suc p) dirty = by_fit p (nat_lt p (2 ^ 32)) dirty refl
