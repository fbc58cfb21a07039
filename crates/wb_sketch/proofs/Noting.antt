-- The exact frequencies, step by step.
use Rattle.std.proofs.Common.{◌≡◌, ◌≤◌, ◌<◌, ◌≢◌, ◌⊎◌, inl, inr, ◌+◌, ◌/◌, ℕ, min, true, false, ◌==◌, nat_lt, refl, arith}
use Rattle.std.proofs.lemmas.Bool.{cases_eq, cases_Bool, or_cases}
use Rattle.std.proofs.lemmas.Bool.Decides.{nat_tests}
use Rattle.wb_sketch.specs.Sizes.{sample_limit}
use Rattle.wb_sketch.specs.Exact.{Exact, noted, halved_all, counted_exactly}

same_test : (a : ℕ) → (a == a) ≡ true
same_test a = grind (arith, nat_tests)

other_test : (a b : ℕ) → a ≢ b → (a == b) ≡ false
other_test a b n = grind (arith, nat_tests)

test_same : (a b : ℕ) → (a == b) ≡ true → a ≡ b
test_same a b e = grind (arith, nat_tests)

pub noted-other : (e : Exact) (block other : ℕ) → other ≢ block → (noted e block).number other ≡ e.number other
unfolding noted
noted-other e block other n = let t : (other == block) ≡ false = other_test other block n in rw t refl

pub noted-known : (e : Exact) (block : ℕ) → e.member block ≡ true → (noted e block).number block ≡ min 15 (e.number block + 1)
unfolding noted
noted-known e block m = let t : (block == block) ≡ true = same_test block in rw (t, m) refl

pub noted-new : (e : Exact) (block other : ℕ) → e.member block ≡ false → (noted e block).number other ≡ e.number other
unfolding noted
noted-new e block other m =
    elim (cases_Bool (other == block)) [
      | inl t ↦ rw (t, m) refl
      | inr t ↦ rw t refl
    ]

-- a number only rises
pub noted-rises : (e : Exact) (block other : ℕ) → e.number other ≤ 15 → e.number other ≤ (noted e block).number other
noted-rises e block other h =
    elim (cases_Bool (e.member block)) [
      | inl m ↦ elim (cases_eq other block) [
        | inl s ↦
            let h' : e.number block ≤ 15 = rw (← s) h in
            rw (s, noted-known e block m) (omega arith)
        | inr n ↦ rw (noted-other e block other n) (omega arith)
      ]
      | inr m ↦ rw (noted-new e block other m) (omega arith)
    ]

-- as far as 15
pub noted-bounded : (e : Exact) (block other : ℕ) → e.number other ≤ 15 → (noted e block).number other ≤ 15
noted-bounded e block other h =
    elim (cases_Bool (e.member block)) [
      | inl m ↦ elim (cases_eq other block) [
        | inl s ↦ rw (s, noted-known e block m) (omega arith)
        | inr n ↦ rw (noted-other e block other n) h
      ]
      | inr m ↦ rw (noted-new e block other m) h
    ]

pub noted-self : (e : Exact) (block : ℕ) → (noted e block).member block ≡ true
unfolding noted
noted-self e block = let t : (block == block) ≡ true = same_test block in rw t refl

pub noted-members : (e : Exact) (block other : ℕ) → (noted e block).member other ≡ true → (other ≡ block) ⊎ (e.member other ≡ true)
unfolding noted
noted-members e block other m =
    elim (or_cases (other == block) (e.member other) m) [
      | inl t ↦ inl (test_same other block t)
      | inr k ↦ inr k
    ]

pub noted-member : (e : Exact) (block other : ℕ) → e.member other ≡ true → (noted e block).member other ≡ true
unfolding noted
noted-member e block other m =
    elim (cases_Bool (other == block)) [
      | inl t ↦ rw t refl
      | inr t ↦ rw (t, m) refl
    ]

pub noted-sample : (e : Exact) (block : ℕ) → (noted e block).sample ≡ e.sample
unfolding noted
noted-sample e block = refl

pub exact-more : (blocks : ℕ) (e : Exact) → e.sample + 1 < sample_limit blocks → counted_exactly blocks e ≡ record { number = e.number; member = e.member; sample = e.sample + 1 }
unfolding counted_exactly
exact-more blocks e h =
    let t : nat_lt (e.sample + 1) (sample_limit blocks) ≡ true = grind (arith, nat_tests) in
    rw t refl

pub exact-full : (blocks : ℕ) (e : Exact) → sample_limit blocks ≤ e.sample + 1 → counted_exactly blocks e ≡ record { number = λ block. e.number block / 2; member = λ _. false; sample = (e.sample + 1) / 2 }
unfolding counted_exactly halved_all
exact-full blocks e h =
    let t : nat_lt (e.sample + 1) (sample_limit blocks) ≡ false = grind (arith, nat_tests) in
    rw t refl
