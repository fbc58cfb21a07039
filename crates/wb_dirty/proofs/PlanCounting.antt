-- How many nodes a set of dirty blocks needs.
use Rattle.std.proofs.Common.{◌≡◌, ◌≤◌, ◌<◌, ◌+◌, ◌-◌, ◌*◌, ◌^◌, ◌∙◌, sym, ap, refl, ℕ, zero, suc, Bool, true, List, [], ◌∷◌, ◌++◌, length, mul-le-mul_right, arith, inl, inr}
use Rattle.std.proofs.lemmas.Bool.{cases_Bool}
use Rattle.std.proofs.lemmas.List.{length-append}
use Rattle.std.proofs.Math.Nat.{one-le-pow, add-mul, pow-succ', pow-le-pow_right}
use Rattle.wb_types.specs.Limits.{dirty_depth_of, dirty_node_count, node_count, nodes_at, words_of_bits}
use Rattle.wb_tree.specs.Mapping.{NodeName, each_from}
use Rattle.wb_tree.proofs.Nodes.Listing.{each_from-more}
use Rattle.wb_tree.proofs.Nodes.Counting.{AreFew, before-most, index-counted, few_here, few_nowhere}
use Rattle.wb_dirty.specs.Planning.{has_dirty, dirty_below, dirty_names}
use Rattle.wb_dirty.proofs.DirtyBits.{has_dirty-begins}
use Rattle.wb_dirty.proofs.PlanSteps.{dirty_below-some, leaf_needs_none}

-- the nodes below the first so many children of a node, and the node
pub record IsCountedTo (dirty : List Bool) (level first j count : ℕ) : Type 0 where
  pub is : count ≡ 1 + length (each_from (dirty_below dirty level) j first)
  pub most : 31 * count + j ≤ 31 + j * 32 ^ level

pub counted-none : (dirty : List Bool) (level first : ℕ) → IsCountedTo dirty level first 0 1
unfolding each_from
counted-none dirty level first = record { is = refl; most = omega arith }

pub counted-more : (dirty : List Bool) (level first j count one : ℕ) → IsCountedTo dirty level first j count → one ≡ length (dirty_below dirty level (first + j)) → 31 * one < 32 ^ level → IsCountedTo dirty level first (j + 1) (count + one)
counted-more dirty level first j count one h same most =
    let all : length (each_from (dirty_below dirty level) (j + 1) first) ≡ length (each_from (dirty_below dirty level) j first) + length (dirty_below dirty level (first + j)) =
    ap length (each_from-more (dirty_below dirty level) j first) ∙ length-append (each_from (dirty_below dirty level) j first) (dirty_below dirty level (first + j)) in
    record { is = omega (arith, h.is, all, same); most = omega (arith, h.most, most, add-mul j 1 (32 ^ level)) }

-- a number that fits
pub counted-fits : (dirty : List Bool) (level first j count one : ℕ) → level ≤ 3 → j < 32 → IsCountedTo dirty level first j count → 31 * one < 32 ^ level → count + one < 2 ^ 32
counted-fits dirty level first j count one to less h most =
    let up : j * 32 ^ level ≤ 32 * 32 ^ level = mul-le-mul_right (32 ^ level) (omega arith) in
    let few : 32 ^ level ≤ 32768 = pow-le-pow_right (omega arith) to in
    omega (arith, h.most, up, few, most)

pub some_at : (level : ℕ) → 0 < 32 ^ level
some_at level = one-le-pow level 32 (omega arith)

-- a leaf
pub leaf-count : (dirty : List Bool) (level index : ℕ) → level ≡ 1 → has_dirty dirty level index ≡ true → 1 ≡ length (dirty_below dirty level index)
leaf-count dirty level index one some =
    let node : NodeName = record { level = level; index = index } in
    sym (ap length (dirty_below-some dirty level index (omega arith) some) ∙ ap (λ (ns : List NodeName). length (ns ++ node ∷ [])) (leaf_needs_none dirty level (32 * index) one))

pub leaf-most : (level : ℕ) → level ≡ 1 → 31 * 1 < 32 ^ level
leaf-most level e = let power : 32 ^ level ≡ 32 = ap (λ n. 32 ^ n) e in omega arith

-- a node above the leaves
pub node-count : (dirty : List Bool) (level index count : ℕ) → 1 ≤ level → has_dirty dirty level index ≡ true → IsCountedTo dirty (level - 1) (32 * index) 32 count → count ≡ length (dirty_below dirty level index)
node-count dirty level index count from some h =
    let node : NodeName = record { level = level; index = index } in
    let below : List NodeName = each_from (dirty_below dirty (level - 1)) 32 (32 * index) in
    let all : length (dirty_below dirty level index) ≡ length below + 1 = ap length (dirty_below-some dirty level index from some) ∙ length-append below (node ∷ []) in
    omega (arith, h.is, all)

pub node-most : (dirty : List Bool) (level index count : ℕ) → 1 ≤ level → IsCountedTo dirty (level - 1) (32 * index) 32 count → 31 * count < 32 ^ level
node-most dirty level index count from h =
    let power : 32 ^ level ≡ 32 * 32 ^ (level - 1) = (let e : level ≡ suc (level - 1) = omega arith in ap (λ k. 32 ^ k) e) ∙ pow-succ' 32 (level - 1) in
    omega (arith, h.most, power)

-- ---- at most

-- a node with a dirty block below it is one of those of its level
one-of_level : (dirty : List Bool) (level index : ℕ) → has_dirty dirty level index ≡ true → index < nodes_at level (words_of_bits (length dirty))
one-of_level dirty level index some = let begins = has_dirty-begins dirty level index some in index-counted level (words_of_bits (length dirty)) index (omega (arith, begins))

below-few : (dirty : List Bool) (level : ℕ) → AreFew (dirty_below dirty level) level (words_of_bits (length dirty))
unfolding dirty_below
below-few dirty zero index = few_nowhere zero (words_of_bits (length dirty)) index
below-few dirty (suc level) index = elim (cases_Bool (has_dirty dirty (suc level) index)) [
  | inl some ↦ rw some (few_here (dirty_below dirty level) level (words_of_bits (length dirty)) index _ (below-few dirty level) (one-of_level dirty (suc level) index some))
  | inr none ↦ rw none (few_nowhere (suc level) (words_of_bits (length dirty)) index)
]

-- no more than where each leaf has a bit
pub names-few : (dirty : List Bool) → length (dirty_names dirty) ≤ dirty_node_count (length dirty)
unfolding dirty_node_count node_count dirty_depth_of
names-few dirty =
    omega (arith, below-few dirty (dirty_depth_of (length dirty)) 0, before-most (dirty_depth_of (length dirty)) (words_of_bits (length dirty)) (0 + 1))
