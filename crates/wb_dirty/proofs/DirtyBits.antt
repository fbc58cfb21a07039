-- Which blocks are dirty as far as a reading has come, and whether one lies below a node.
use Rattle.std.proofs.Common.{◌≡◌, ◌≤◌, ◌<◌, ◌+◌, ◌*◌, ◌^◌, ◌∙◌, sym, ap, subst, refl, ℕ, zero, suc, Bool, true, false, nat_lt, List, [], ◌∷◌, get_or, set, length, replicate, take, drop, arith, inl, inr}
use Rattle.std.specs.List.{list_any}
use Rattle.std.specs.Int.{div_ceil}
use Rattle.std.proofs.lemmas.Bool.{cases_lt, false≢true, false_from_ne_true, lt-ltb, le-ltb, le-leb, lt-leb}
use Rattle.std.proofs.Math.Nat.{one-le-pow, mul-le-mul_left}
use Rattle.wb_types.specs.Limits.{depth_of, dirty_depth_of}
use Rattle.wb_bits.specs.Leasts.{IsLeastFrom}
use Rattle.wb_dirty.specs.Planning.{has_dirty}

-- the dirty blocks before a number, and none from it on
pub dirty_to : ℕ → List Bool → List Bool
dirty_to count [] = []
dirty_to zero (bit ∷ bits) = false ∷ dirty_to zero bits
dirty_to (suc count) (bit ∷ bits) = bit ∷ dirty_to count bits

-- none of them
pub dirty_to-none : (dirty : List Bool) → replicate (length dirty) false ≡ dirty_to 0 dirty
unfolding dirty_to
dirty_to-none [] = refl
dirty_to-none (bit ∷ bits) = ap (λ (rest : List Bool). false ∷ rest) (dirty_to-none bits)

-- all of them
pub dirty_to-all : (count : ℕ) (dirty : List Bool) → length dirty ≤ count → dirty_to count dirty ≡ dirty
unfolding dirty_to
dirty_to-all count [] h = refl
dirty_to-all zero (bit ∷ bits) h = absurd (omega arith)
dirty_to-all (suc count) (bit ∷ bits) h = ap (λ (rest : List Bool). bit ∷ rest) (dirty_to-all count bits (omega arith))

-- one block more, which is dirty
pub dirty_to-set : (count : ℕ) (dirty : List Bool) → get_or dirty count false ≡ true → set (dirty_to count dirty) count true ≡ dirty_to (suc count) dirty
unfolding dirty_to
dirty_to-set count [] e = absurd cc
dirty_to-set zero (bit ∷ bits) e = ap (λ (one : Bool). one ∷ dirty_to zero bits) (sym e)
dirty_to-set (suc count) (bit ∷ bits) e = ap (λ (rest : List Bool). bit ∷ rest) (dirty_to-set count bits e)

-- one that is not
pub dirty_to-skip : (count : ℕ) (dirty : List Bool) → get_or dirty count false ≡ false → dirty_to count dirty ≡ dirty_to (suc count) dirty
unfolding dirty_to
dirty_to-skip count [] e = refl
dirty_to-skip zero (bit ∷ bits) e = ap (λ (one : Bool). one ∷ dirty_to zero bits) (sym e)
dirty_to-skip (suc count) (bit ∷ bits) e = ap (λ (rest : List Bool). bit ∷ rest) (dirty_to-skip count bits e)

-- many that are not
pub dirty_to-skip_many : (more count : ℕ) (dirty : List Bool) → ((block : ℕ) → count ≤ block → block < count + more → get_or dirty block false ≡ false) → dirty_to count dirty ≡ dirty_to (count + more) dirty
dirty_to-skip_many zero count dirty none = ap (λ n. dirty_to n dirty) (omega arith)
dirty_to-skip_many (suc more) count dirty none =
    dirty_to-skip_many more count dirty (λ block low high. none block low (omega arith))
    ∙ (dirty_to-skip (count + more) dirty (none (count + more) (omega arith) (omega arith)) ∙ ap (λ n. dirty_to n dirty) (omega arith))

-- ---- a dirty block below a node

any_bit : (bits : List Bool) (first count block : ℕ) → first ≤ block → block < first + count → get_or bits block false ≡ true → list_any (λ bit. bit) (take count (drop first bits)) ≡ true
any_bit [] first count block low high e = absurd cc
any_bit (bit ∷ bits) zero zero block low high e = absurd (omega arith)
any_bit (bit ∷ bits) zero (suc count) zero low high e = rw e refl
any_bit (true ∷ bits) zero (suc count) (suc block) low high e = refl
any_bit (false ∷ bits) zero (suc count) (suc block) low high e = any_bit bits zero count block (omega arith) (omega arith) e
any_bit (bit ∷ bits) (suc first) count zero low high e = absurd (omega arith)
any_bit (bit ∷ bits) (suc first) count (suc block) low high e = any_bit bits first count block (omega arith) (omega arith) e

-- a block of some that is dirty
pub record OneDirty (bits : List Bool) (first count : ℕ) : Type 0 where
  pub block : ℕ
  pub from : first ≤ block
  pub to : block < first + count
  pub inside : block < length bits
  pub is : get_or bits block false ≡ true

one_more : (bit : Bool) (bits : List Bool) (first count : ℕ) → OneDirty bits first count → OneDirty (bit ∷ bits) (suc first) count
one_more bit bits first count one = let a = one.from in let b = one.to in let d = one.inside in record { block = suc one.block; from = omega arith; to = omega arith; inside = omega arith; is = one.is }

one_wider : (bits : List Bool) (count : ℕ) → OneDirty bits 1 count → OneDirty bits 0 (suc count)
one_wider bits count one = let b = one.to in record { block = one.block; from = omega arith; to = omega arith; inside = one.inside; is = one.is }

one_bit : (bits : List Bool) (first count : ℕ) → list_any (λ bit. bit) (take count (drop first bits)) ≡ true → OneDirty bits first count
one_bit [] zero zero h = absurd (false≢true h)
one_bit [] zero (suc count) h = absurd (false≢true h)
one_bit [] (suc first) zero h = absurd (false≢true h)
one_bit [] (suc first) (suc count) h = absurd (false≢true h)
one_bit (bit ∷ bits) zero zero h = absurd (false≢true h)
one_bit (true ∷ bits) zero (suc count) h = record { block = 0; from = omega arith; to = omega arith; inside = omega arith; is = refl }
one_bit (false ∷ bits) zero (suc count) h = one_wider (false ∷ bits) count (one_more false bits 0 count (one_bit bits zero count h))
one_bit (bit ∷ bits) (suc first) count h = one_more bit bits first count (one_bit bits first count h)

-- a node with a dirty block below it has one
pub has_dirty-one : (dirty : List Bool) (level index : ℕ) → has_dirty dirty level index ≡ true → OneDirty dirty (64 * (index * 32 ^ level)) (64 * 32 ^ level)
unfolding has_dirty
has_dirty-one dirty level index h = one_bit dirty (64 * (index * 32 ^ level)) (64 * 32 ^ level) h

-- so it begins before the last block
pub has_dirty-begins : (dirty : List Bool) (level index : ℕ) → has_dirty dirty level index ≡ true → 64 * (index * 32 ^ level) < length dirty
has_dirty-begins dirty level index h = let one = has_dirty-one dirty level index h in omega (arith, one.from, one.inside)

-- and is one of the first
pub has_dirty-low : (dirty : List Bool) (level index : ℕ) → 1 ≤ level → length dirty ≤ 1048576 → has_dirty dirty level index ≡ true → index < 32768
has_dirty-low dirty level index from few h =
    let some : 1 ≤ 32 ^ level = one-le-pow level 32 (omega arith) in
    let more : index * 1 ≤ index * 32 ^ level = mul-le-mul_left index some in
    omega (arith, has_dirty-begins dirty level index h, more)

-- and one without has none
pub has_dirty-none : (dirty : List Bool) (level index block : ℕ) → has_dirty dirty level index ≡ false → 64 * (index * 32 ^ level) ≤ block → block < 64 * (index * 32 ^ level) + 64 * 32 ^ level → get_or dirty block false ≡ false
unfolding has_dirty
has_dirty-none dirty level index block h low high =
    false_from_ne_true (get_or dirty block false) (λ e. false≢true (sym h ∙ any_bit dirty (64 * (index * 32 ^ level)) (64 * 32 ^ level) block low high e))

has_dirty-some : (dirty : List Bool) (level index block : ℕ) → 64 * (index * 32 ^ level) ≤ block → block < 64 * (index * 32 ^ level) + 64 * 32 ^ level → get_or dirty block false ≡ true → has_dirty dirty level index ≡ true
unfolding has_dirty
has_dirty-some dirty level index block low high e = any_bit dirty (64 * (index * 32 ^ level)) (64 * 32 ^ level) block low high e

-- the least dirty block from the first on below a node lies below it, or none does
pub found-below : (dirty : List Bool) (level index span block : ℕ) → span ≡ 32 ^ level → IsLeastFrom (λ i. get_or dirty i false) (64 * (index * span)) block
    → nat_lt block (64 * (index * span) + 64 * span) ≡ has_dirty dirty level index
found-below dirty level index span block e least =
    let least' : IsLeastFrom (λ i. get_or dirty i false) (64 * (index * 32 ^ level)) block = subst (λ n. IsLeastFrom (λ i. get_or dirty i false) (64 * (index * n)) block) e least in
    ap (λ n. nat_lt block (64 * (index * n) + 64 * n)) e ∙ (elim (cases_lt block (64 * (index * 32 ^ level) + 64 * 32 ^ level)) [
      | inl inside ↦ lt-ltb block (64 * (index * 32 ^ level) + 64 * 32 ^ level) inside ∙ sym (has_dirty-some dirty level index block least'.onward inside least'.holds)
      | inr past ↦
          le-ltb block (64 * (index * 32 ^ level) + 64 * 32 ^ level) past
          ∙ sym (false_from_ne_true (has_dirty dirty level index) (λ h.
          let one = has_dirty-one dirty level index h in
          let before : one.block < block = omega (arith, one.to, past) in
          false≢true (sym (least'.least one.block one.from before) ∙ one.is)))
    ])

-- where no block from the first on is dirty none is below it
pub none-below : (dirty : List Bool) (level index span : ℕ) → span ≡ 32 ^ level → ((i : ℕ) → 64 * (index * span) ≤ i → get_or dirty i false ≡ false) → false ≡ has_dirty dirty level index
none-below dirty level index span e none =
    sym (false_from_ne_true (has_dirty dirty level index) (λ h.
    let one = has_dirty-one dirty level index h in
    let from : 64 * (index * span) ≤ one.block = subst (λ n. 64 * (index * n) ≤ one.block) (sym e) one.from in
    false≢true (sym (none one.block from) ∙ one.is)))

-- ---- the levels

words-few : (blocks most : ℕ) → blocks ≤ 64 * most → div_ceil blocks 64 ≤ most
words-few blocks most h = omega arith

words-many : (blocks most : ℕ) → 64 * most < blocks → most < div_ceil blocks 64
words-many blocks most h = omega arith

pub depth-one : (blocks : ℕ) → blocks ≤ 2048 → 1 ≡ dirty_depth_of blocks
unfolding dirty_depth_of depth_of
depth-one blocks few = rw (le-leb (div_ceil blocks 64) 32 (words-few blocks 32 few)) refl

pub depth-two : (blocks : ℕ) → 2048 < blocks → blocks ≤ 65536 → 2 ≡ dirty_depth_of blocks
unfolding dirty_depth_of depth_of
depth-two blocks many few = rw (lt-leb (div_ceil blocks 64) 32 (words-many blocks 32 many), le-leb (div_ceil blocks 64) 1024 (words-few blocks 1024 few)) refl

pub depth-three : (blocks : ℕ) → 65536 < blocks → blocks ≤ 1048576 → 3 ≡ dirty_depth_of blocks
unfolding dirty_depth_of depth_of
depth-three blocks many few =
    rw (lt-leb (div_ceil blocks 64) 32 (words-many blocks 32 (omega arith)), lt-leb (div_ceil blocks 64) 1024 (words-many blocks 1024 many), le-leb (div_ceil blocks 64) 32768 (words-few blocks 32768 (omega arith))) refl

-- all blocks lie below the top
pub depth-holds : (blocks : ℕ) → blocks ≤ 1048576 → blocks ≤ 64 * 32 ^ dirty_depth_of blocks
depth-holds blocks few = elim (cases_lt 2048 blocks) [
  | inr one ↦ subst (λ n. blocks ≤ 64 * 32 ^ n) (depth-one blocks one) one
  | inl many ↦ elim (cases_lt 65536 blocks) [
    | inr two ↦ subst (λ n. blocks ≤ 64 * 32 ^ n) (depth-two blocks many two) two
    | inl more ↦ subst (λ n. blocks ≤ 64 * 32 ^ n) (depth-three blocks more few) (let most : blocks ≤ 2097152 = omega arith in most)
  ]
]
