-- Sectors of zeros, and pieces of them.
use Rattle.std.proofs.Common.{◌≡◌, ◌∙◌, ◌≤◌, ◌+◌, ℕ, List, [], ◌∷◌, ◌++◌, take, length, replicate, ap, sym}
use Rattle.std.proofs.lemmas.List.{take-replicate, length-replicate, replicate-append-replicate}
use Rattle.wb_nbd.specs.Performing.{zero_sectors}

-- they are as many as they are
pub as_many : (zeros : List (List ℕ)) (count : ℕ) → zeros ≡ zero_sectors count → zeros ≡ zero_sectors (length zeros)
as_many zeros count are = are ∙ ap zero_sectors (sym (ap length are ∙ length-replicate count (replicate 512 0)))

-- a piece of them
pub zero_piece : (zeros : List (List ℕ)) (count : ℕ) → zeros ≡ zero_sectors (length zeros) → count ≤ length zeros → take count zeros ≡ zero_sectors count
zero_piece zeros count are few = ap (take count) are ∙ take-replicate count (length zeros) (replicate 512 0) few

-- one more behind them
pub one_more : (zeros : List (List ℕ)) (count : ℕ) → zeros ≡ zero_sectors count → zeros ++ (replicate 512 0 ∷ []) ≡ zero_sectors (count + 1)
one_more zeros count are = ap (λ (before : List (List ℕ)). before ++ (replicate 512 0 ∷ [])) are ∙ replicate-append-replicate count 1 (replicate 512 0)
