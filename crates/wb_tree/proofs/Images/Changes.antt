-- How many nodes changed.
use Rattle.std.proofs.Common.{◌≡◌, ◌≤◌, ◌<◌, ◌+◌, ◌-◌, ◌*◌, ◌^◌, ◌∙◌, ◌++◌, sym, ap, refl, ℕ, zero, suc, true, false, List, [], ◌∷◌, Option, None, Some, length, is_some, arith}
use Rattle.std.proofs.lemmas.List.{length-append}
use Rattle.std.proofs.Math.Nat.{add-mul, mul-le-mul_right, pow-succ'}
use Rattle.wb_types.specs.Limits.{depth_of, node_count}
use Rattle.wb_types.specs.declared.number.Place.{Place}
use Rattle.wb_tree.specs.Mapping.{IsSound, Mapping, NodeName, each_from, exists, nodes_of, place_of, changed}
use Rattle.wb_tree.specs.Planning.{changed_below}
use Rattle.wb_tree.proofs.Nodes.Counting.{count-nodes}
use Rattle.wb_tree.proofs.Nodes.Listing.{each_from-more}
use Rattle.wb_tree.proofs.Images.PlanSteps.{changed_of-few, known_below_nothing, leaf_below, open_below, shut_below}

-- no more changed than there can be
pub few_changed : (m : Mapping) (cache_blocks : ℕ) → length m.entries ≡ cache_blocks → length (changed m (depth_of cache_blocks)) ≤ node_count cache_blocks
few_changed m cache_blocks size =
    let all = changed_of-few m (nodes_of m.entries (depth_of cache_blocks)) in
    let most = count-nodes m.entries cache_blocks (omega (arith, size)) in
    omega (arith, all, most)

-- the changed nodes below the first so many children of a node, and the node
pub record AreCounted (m : Mapping) (level first j count : ℕ) : Type 0 where
  pub is : count ≡ 1 + length (each_from (changed_below m level) j first)
  pub most : 31 * count + j ≤ 31 + j * 32 ^ level

pub none_counted : (m : Mapping) (level first : ℕ) → AreCounted m level first 0 1
unfolding each_from
none_counted m level first = record { is = refl; most = omega arith }

pub one_counted : (m : Mapping) (level first j count one : ℕ) → AreCounted m level first j count → one ≡ length (changed_below m level (first + j)) → 31 * one < 32 ^ level → AreCounted m level first (j + 1) (count + one)
one_counted m level first j count one are same most =
    let is = are.is in
    let so = are.most in
    let all : length (each_from (changed_below m level) (j + 1) first) ≡ length (each_from (changed_below m level) j first) + length (changed_below m level (first + j)) =
    ap length (each_from-more (changed_below m level) j first) ∙ length-append (each_from (changed_below m level) j first) (changed_below m level (first + j)) in
    record { is = omega (arith, is, all, same); most = omega (arith, so, most, add-mul j 1 (32 ^ level)) }

size_of : (level : ℕ) → level ≤ 3 → 32 ^ level ≤ 32768
size_of zero to = omega arith
size_of (suc zero) to = omega arith
size_of (suc (suc zero)) to = omega arith
size_of (suc (suc (suc zero))) to = omega arith
size_of (suc (suc (suc (suc n)))) to = absurd (omega arith)

-- a number that fits
pub counted_small : (m : Mapping) (level first j count one : ℕ) → level ≤ 3 → j < 32 → AreCounted m level first j count → 31 * one < 32 ^ level → count + one < 2 ^ 32
counted_small m level first j count one to less are most =
    let so = are.most in
    let up : j * 32 ^ level ≤ 32 * 32 ^ level = mul-le-mul_right (32 ^ level) (omega arith) in
    omega (arith, so, up, size_of level to, most)

-- a leaf that changed
pub leaf_changed : (m : Mapping) (level index : ℕ) → level ≡ 1 → exists m.entries level index ≡ true → place_of m level index ≡ None → length (changed_below m level index) ≡ 1
leaf_changed m level index one some none =
    let node : NodeName = record { level = level; index = index } in
    ap length (open_below m level index (omega arith) some none) ∙ ap (λ (ns : List NodeName). length (ns ++ node ∷ [])) (leaf_below m level (32 * index) one)

-- a node above the leaves that changed
pub node_changed : (m : Mapping) (level index count : ℕ) → 1 ≤ level → exists m.entries level index ≡ true → place_of m level index ≡ None → AreCounted m (level - 1) (32 * index) 32 count → count ≡ length (changed_below m level index)
node_changed m level index count from some none are =
    let node : NodeName = record { level = level; index = index } in
    let is = are.is in
    let below = each_from (changed_below m (level - 1)) 32 (32 * index) in
    let all : length (changed_below m level index) ≡ length below + 1 = ap length (open_below m level index from some none) ∙ length-append below (node ∷ []) in
    omega (arith, is, all)

pub node_most : (m : Mapping) (level index count : ℕ) → 1 ≤ level → AreCounted m (level - 1) (32 * index) 32 count → 31 * count < 32 ^ level
node_most m level index count from are =
    let so = are.most in
    let power : 32 ^ level ≡ 32 * 32 ^ (level - 1) = (let e : level ≡ suc (level - 1) = omega arith in ap (λ k. 32 ^ k) e) ∙ pow-succ' 32 (level - 1) in
    omega (arith, so, power)

-- nothing changed at and below a node that does not exist, or is known
pub none_shut : (m : Mapping) (level index : ℕ) → exists m.entries level index ≡ false → 0 ≡ length (changed_below m level index)
none_shut m level index none = ap length (sym (shut_below m level index none))

pub none_known : (m : Mapping) (level index : ℕ) (o : Option Place) → IsSound m → o ≡ place_of m level index → is_some o ≡ true → 0 ≡ length (changed_below m level index)
none_known m level index None sound e some = absurd cc
none_known m level index (Some place) sound e some = ap length (sym (known_below_nothing m sound level index place (sym e)))

pub is_none : (o : Option Place) → is_some o ≡ false → o ≡ None
is_none None h = refl
is_none (Some place) h = absurd cc

pub some_power : (level : ℕ) → 31 * 0 < 32 ^ level
some_power zero = omega arith
some_power (suc level) = omega (arith, pow-succ' 32 level, some_power level)
