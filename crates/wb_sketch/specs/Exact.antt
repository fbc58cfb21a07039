-- Frequencies counted exactly, with the halvings of a sketch and without its hashing.
use Rattle.std.specs.Prelude.{◌+◌, ◌/◌, ℕ, min, Bool, false, ◌||◌, ◌&&◌, ◌==◌, nat_lt, if◌then◌else◌, List, [], ◌∷◌}
use Rattle.wb_sketch.specs.Sizes.{sample_limit}

-- The exact frequencies, with no table and no hashing: for each block a number up to 15, and whether it is a
-- member. The sample tells when all is halved, as it does in a sketch.
pub record Exact : Type 0 where
  pub number : ℕ → ℕ
  pub member : ℕ → Bool
  pub sample : ℕ

-- before any access
unfoldable pub none : Exact
none = record { number = λ _. 0; member = λ _. false; sample = 0 }

-- an access to a member raises its number by one, up to 15; another block becomes a member
unfoldable pub noted : Exact → ℕ → Exact
noted e block = record {
  number = λ other. if (other == block) && e.member block then min 15 (e.number other + 1) else e.number other;
  member = λ other. (other == block) || e.member other;
  sample = e.sample;
}

-- all numbers and the sample are halved, and no block is a member
unfoldable pub halved_all : Exact → Exact
halved_all e = record { number = λ block. e.number block / 2; member = λ _. false; sample = e.sample / 2 }

-- one more access counts; at the limit all is halved
unfoldable pub counted_exactly : ℕ → Exact → Exact
counted_exactly cache_blocks e =
    let more : Exact = record { number = e.number; member = e.member; sample = e.sample + 1 } in
    if nat_lt more.sample (sample_limit cache_blocks) then more else halved_all more

-- after further accesses, in their order
unfoldable pub after_exactly : ℕ → Exact → List ℕ → Exact
after_exactly cache_blocks e [] = e
after_exactly cache_blocks e (block ∷ blocks) = after_exactly cache_blocks (counted_exactly cache_blocks (noted e block)) blocks

-- the exact frequency of a block after these accesses: its number, and one more for a member
unfoldable pub frequency_in : Exact → ℕ → ℕ
frequency_in e block = if e.member block then e.number block + 1 else e.number block

unfoldable pub exact_frequency : ℕ → List ℕ → ℕ → ℕ
exact_frequency cache_blocks blocks block = frequency_in (after_exactly cache_blocks none blocks) block
