-- Counters and bits that are raised, set, halved and cleared.
use Rattle.std.proofs.Common.{◌≡◌, ◌≤◌, ◌<◌, ◌+◌, ◌/◌, ◌≢◌, ℕ, zero, suc, List, [], ◌∷◌, length, map, get_or, set, refl, sym, ◌∙◌, arith}
use Rattle.std.proofs.lemmas.List.{length-map, ext_get_or}
use Rattle.std.proofs.lemmas.Bool.Decides.{nat_tests}
use Rattle.wb_sketch.specs.Frequencies.{halved, raised_at}

pub length-halved : (row : List ℕ) → length (halved row) ≡ length row
unfolding halved
length-halved row = length-map row _

map_half : (row : List ℕ) (k : ℕ) → get_or (map (λ counter. counter / 2) row) k 0 ≡ get_or row k 0 / 2
map_half [] k = refl
map_half (x ∷ xs) zero = refl
map_half (x ∷ xs) (suc k) = map_half xs k

pub get_or-halved : (row : List ℕ) (k : ℕ) → get_or (halved row) k 0 ≡ get_or row k 0 / 2
unfolding halved
get_or-halved row k = map_half row k

-- a list whose elements are the halves is the row halved
pub halved_from : (row halves : List ℕ) → length halves ≡ length row
    → ((k : ℕ) → k < length row → get_or halves k 0 ≡ get_or row k 0 / 2) → halves ≡ halved row
halved_from row halves same each =
    ext_get_or 0 halves (halved row) (same ∙ sym (length-halved row))
    (λ k h. let l : k < length row = omega arith in each k l ∙ sym (get_or-halved row k))

pub raised_at-yes : (least place : ℕ) (row : List ℕ) → get_or row place 0 ≡ least → least < 15 → raised_at least place row ≡ set row place (least + 1)
unfolding raised_at
raised_at-yes least place row e l = grind (arith, nat_tests)

pub raised_at-more : (least place : ℕ) (row : List ℕ) → get_or row place 0 ≢ least → raised_at least place row ≡ row
unfolding raised_at
raised_at-more least place row e = grind (arith, nat_tests)

pub raised_at-full : (least place : ℕ) (row : List ℕ) → 15 ≤ least → raised_at least place row ≡ row
unfolding raised_at
raised_at-full least place row e = grind (arith, nat_tests)
