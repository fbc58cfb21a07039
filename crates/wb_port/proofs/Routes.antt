-- Sectors that follow one another on the origin do so where their block stands, and what is read or written of them by pieces is the whole.
use Rattle.std.proofs.Common.{◌≡◌, ◌≤◌, ◌<◌, ◌+◌, ◌*◌, ◌/◌, ◌%◌, ℕ, suc, List, [], ◌∷◌, ◌++◌, Option, Some, None, length, take, drop, refl, sym, ap, ◌∙◌, subst, arith}
use Rattle.std.proofs.Math.Nat.{mod-add-div'}
use Rattle.std.proofs.Math.Seq.{take-add}
use Rattle.std.proofs.lemmas.Nat.{mod-mul-add}
use Rattle.std.proofs.lemmas.List.{length-take-le}
use Rattle.wb_types.specs.declared.number.CBlock.{CBlock}
use Rattle.wb_disk.specs.Device.{History, Content}
use Rattle.wb_disk.specs.Extents.{GivesEach, written_each}
use Rattle.wb_port.specs.Requests.{first_at}

-- sectors of one block stand one after the other wherever it stands
pub first_at-more : (block_sectors : ℕ) (place : Option CBlock) (first m : ℕ) → first % block_sectors + m < block_sectors → first_at block_sectors place (first + m) ≡ first_at block_sectors place first + m
first_at-more size None first m h = refl
first_at-more size (Some c) first m h =
    let parts : first % size + (first / size) * size ≡ first = mod-add-div' first size in
    let whole : first + m ≡ (first / size) * size + (first % size + m) = swapped (first % size) ((first / size) * size) first m parts in
    let rest : (first + m) % size ≡ first % size + m = ap (λ (n : ℕ). n % size) whole ∙ mod-mul-add (first / size) size (first % size + m) h in
    ap (λ (n : ℕ). c.0 * size + n) rest ∙ sym (added (c.0 * size) (first % size) m)
  where
    swapped : (a b n m : ℕ) → a + b ≡ n → n + m ≡ b + (a + m)
    swapped a b n m e = omega (arith, e)

    added : (a b m : ℕ) → (a + b) + m ≡ a + (b + m)
    added a b m = omega arith

GivesEach-append : (device : List History) (at : ℕ) (xs ys : List Content) → GivesEach device at xs → GivesEach device (at + length xs) ys → GivesEach device at (xs ++ ys)
GivesEach-append device at [] ys g h = let same : at + 0 ≡ at = omega arith in subst (λ (n : ℕ). GivesEach device n ys) same h
GivesEach-append device at (x ∷ xs) ys g h =
    let same : at + suc (length xs) ≡ suc at + length xs = omega arith in
    (g.0, GivesEach-append device (suc at) xs ys g.1 (subst (λ (n : ℕ). GivesEach device n ys) same h))

-- so many more were read
pub gives_more : (device : List History) (at m j : ℕ) (out : List Content) → m ≤ length out → GivesEach device at (take m out) → GivesEach device (at + m) (take j (drop m out)) → GivesEach device at (take (m + j) out)
gives_more device at m j out l g h =
    let many : length (take m out) ≡ m = length-take-le m out l in
    subst (GivesEach device at) (sym (take-add m j out))
    (GivesEach-append device at (take m out) (take j (drop m out)) g (subst (λ (n : ℕ). GivesEach device (at + n) (take j (drop m out))) (sym many) h))

written_each-append : (device : List History) (at : ℕ) (xs ys : List Content) → written_each (written_each device at xs) (at + length xs) ys ≡ written_each device at (xs ++ ys)
written_each-append device at [] ys = let same : at + 0 ≡ at = omega arith in ap (λ (n : ℕ). written_each device n ys) same
written_each-append device at (x ∷ xs) ys =
    let same : at + suc (length xs) ≡ suc at + length xs = omega arith in
    ap (λ (n : ℕ). written_each (written_each device at (x ∷ xs)) n ys) same ∙ written_each-append (Rattle.wb_disk.specs.Device.written device at x) (suc at) xs ys

-- so many more were written
pub written_more : (device : List History) (at m j : ℕ) (from : List Content) → m ≤ length from → written_each (written_each device at (take m from)) (at + m) (take j (drop m from)) ≡ written_each device at (take (m + j) from)
written_more device at m j from l =
    let many : length (take m from) ≡ m = length-take-le m from l in
    ap (λ (n : ℕ). written_each (written_each device at (take m from)) (at + n) (take j (drop m from))) (sym many)
    ∙ (written_each-append device at (take m from) (take j (drop m from)) ∙ ap (λ (cs : List Content). written_each device at cs) (sym (take-add m j from)))
