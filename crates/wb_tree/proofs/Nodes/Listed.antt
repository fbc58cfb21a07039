-- A node that exists is one of the nodes of the tree, and one that is not known counts as changed.
use Rattle.std.proofs.Common.{◌≡◌, ◌≤◌, ◌<◌, ◌+◌, ◌-◌, ◌*◌, ◌/◌, ◌^◌, ◌&&◌, ◌==◌, ◌∙◌, sym, ap, subst, refl, ℕ, zero, suc, Bool, true, false, cond, List, [], ◌∷◌, Option, None, length, take, drop, get_or, is_some, arith, inl, inr, mul_assoc, mul_comm, mul-le-mul_right, one-mul, add-mul, pow-suc}
use Rattle.std.specs.List.{list_any}
use Rattle.std.proofs.lemmas.Bool.{or_cases, false≢true, true_from_ne_false, cases_lt, cond-true}
use Rattle.wb_types.specs.declared.entry.Entry.{Entry}
use Rattle.wb_types.specs.declared.number.Place.{Place}
use Rattle.wb_types.specs.Limits.{depth_of}
use Rattle.wb_tree.specs.Mapping.{Mapping, NodeName, place_of, exists, nodes_below, nodes_of, changed_of, changed}
use Rattle.wb_tree.proofs.Nodes.Fronts.{begins_inside, none_there}
use Rattle.wb_tree.proofs.Nodes.Names.{has, same_name, nodes_below-itself, nodes_below-closed}
use Rattle.wb_tree.proofs.Stored.Whole.{depth_enough, one_more}
use Rattle.wb_types.proofs.Truth.{or_true}

-- an entry lies in these cache blocks
record HasEntry (entries : List (Option Entry)) (first count : ℕ) : Type 0 where
  block : ℕ
  low : first ≤ block
  high : block < first + count
  there : is_some (get_or entries block None) ≡ true

entry_there : (entries : List (Option Entry)) (first count : ℕ) → list_any is_some (take count (drop first entries)) ≡ true → HasEntry entries first count
entry_there [] zero zero h = absurd (false≢true h)
entry_there [] zero (suc count) h = absurd (false≢true h)
entry_there [] (suc first) zero h = absurd (false≢true h)
entry_there [] (suc first) (suc count) h = absurd (false≢true h)
entry_there (entry ∷ entries) zero zero h = absurd (false≢true h)
entry_there (entry ∷ entries) zero (suc count) h = elim (or_cases (is_some entry) (list_any is_some (take count entries)) h) [
  | inl here ↦ record { block = 0; low = omega arith; high = omega arith; there = here }
  | inr later ↦
      let rest = entry_there entries 0 count later in
      let a = rest.high in
      record { block = suc rest.block; low = omega arith; high = omega arith; there = rest.there }
]
entry_there (entry ∷ entries) (suc first) count h =
    let rest = entry_there entries first count h in
    let a = rest.low in
    let b = rest.high in
    record { block = suc rest.block; low = omega arith; high = omega arith; there = rest.there }

-- with a node its parent exists
parent_exists : (entries : List (Option Entry)) (level index : ℕ) → exists entries level index ≡ true → exists entries (level + 1) (index / 32) ≡ true
unfolding exists
parent_exists entries level index h =
    let one = entry_there entries (index * 32 ^ level) (32 ^ level) h in
    true_from_ne_false _ (λ none.
    let power : 32 ^ (level + 1) ≡ 32 ^ level * 32 = ap (λ n. 32 ^ n) (let e : level + 1 ≡ suc level = omega arith in e) ∙ pow-suc 32 level in
    let start : index / 32 * 32 ^ (level + 1) ≡ index / 32 * 32 * 32 ^ level = ap (λ n. index / 32 * n) (power ∙ mul_comm (32 ^ level) 32) ∙ sym (mul_assoc (index / 32) 32 (32 ^ level)) in
    let low : index / 32 * 32 * 32 ^ level ≤ index * 32 ^ level = mul-le-mul_right (32 ^ level) (let e : index / 32 * 32 ≤ index = omega arith in e) in
    let high : (index + 1) * 32 ^ level ≤ (index / 32 * 32 + 32) * 32 ^ level = mul-le-mul_right (32 ^ level) (let e : index + 1 ≤ index / 32 * 32 + 32 = omega arith in e) in
    let a = one.low in
    let b = one.high in
    let next : index * 32 ^ level + 32 ^ level ≡ (index + 1) * 32 ^ level = one_more index (32 ^ level) in
    let all : index / 32 * 32 * 32 ^ level + 32 * 32 ^ level ≡ (index / 32 * 32 + 32) * 32 ^ level = sym (add-mul (index / 32 * 32) 32 (32 ^ level)) in
    let empty : get_or entries one.block None ≡ None = none_there entries (index / 32 * 32 ^ (level + 1)) (32 ^ (level + 1)) one.block none (omega arith) (omega arith) in
    false≢true (sym (ap (λ (o : Option Entry). is_some o) empty) ∙ one.there))

-- a node that exists is listed below its ancestor on the top
listed_up : (entries : List (Option Entry)) (depth : ℕ) → length entries ≤ 32 ^ depth → (up level index : ℕ) → 1 ≤ level → level + up ≡ depth → exists entries level index ≡ true → has (nodes_below entries depth 0) level index ≡ true
listed_up entries depth enough zero level index some e h =
    let same : level ≡ depth = omega arith in
    let inside = begins_inside entries level index h in
    let power : 32 ^ level ≡ 32 ^ depth = ap (λ n. 32 ^ n) same in
    let first : index ≡ 0 = elim (cases_lt 0 index) [
      | inl more ↦ absurd (let past : 1 * 32 ^ level ≤ index * 32 ^ level = mul-le-mul_right (32 ^ level) more in let one = one-mul (32 ^ level) in omega arith)
      | inr none ↦ omega arith
    ] in
    subst (λ l. has (nodes_below entries l 0) level index ≡ true) same
    (subst (λ i. has (nodes_below entries level i) level index ≡ true) first (nodes_below-itself entries level index some h))
listed_up entries depth enough (suc up) level index some e h =
    nodes_below-closed entries depth 0 level (index / 32) index some (listed_up entries depth enough up (level + 1) (index / 32) (omega arith) (omega arith) (parent_exists entries level index h)) refl h

-- a node that exists is one of the tree's
pub exists_listed : (entries : List (Option Entry)) (blocks level index : ℕ) → length entries ≡ blocks → blocks ≤ 1048576 → 1 ≤ level → level ≤ depth_of blocks → exists entries level index ≡ true → has (nodes_of entries (depth_of blocks)) level index ≡ true
exists_listed entries blocks level index size limit from to h =
    let enough = depth_enough blocks limit in
    listed_up entries (depth_of blocks) (omega arith) (depth_of blocks - level) level index from (omega arith) h

changed_had : (m : Mapping) (nodes : List NodeName) (level index : ℕ) → has nodes level index ≡ true → place_of m level index ≡ None → has (changed_of m nodes) level index ≡ true
changed_had m [] level index h none = h
changed_had m (node ∷ nodes) level index h none =
    by_name ((node.level == level) && (node.index == index)) refl h (λ t. changed_had m nodes level index t none)
  where
    later : (b : Bool) → has (changed_of m nodes) level index ≡ true → has (cond b (changed_of m nodes) (node ∷ changed_of m nodes)) level index ≡ true
    later true rest = rest
    later false rest = or_true ((node.level == level) && (node.index == index)) (has (changed_of m nodes) level index) rest

    here : (b : Bool) → is_some (place_of m node.level node.index) ≡ b → ((node.level == level) && (node.index == index)) ≡ true → has (cond b (changed_of m nodes) (node ∷ changed_of m nodes)) level index ≡ true
    here true e same =
        let name = same_name node level index same in
        absurd (false≢true (sym (ap (λ (o : Option Place). is_some o) none) ∙ (ap (λ (n : NodeName). is_some (place_of m n.level n.index)) (sym name) ∙ e)))
    here false e same = cond-true ((node.level == level) && (node.index == index)) true (has (changed_of m nodes) level index) same

    by_name : (b : Bool) → ((node.level == level) && (node.index == index)) ≡ b → cond b true (has nodes level index) ≡ true → (has nodes level index ≡ true → has (changed_of m nodes) level index ≡ true)
        → has (changed_of m (node ∷ nodes)) level index ≡ true
    by_name true e t rest = here (is_some (place_of m node.level node.index)) refl e
    by_name false e t rest = later (is_some (place_of m node.level node.index)) (rest t)

-- a node that exists and is not known counts as changed
pub unknown_changed : (m : Mapping) (blocks level index : ℕ) → length m.entries ≡ blocks → blocks ≤ 1048576 → 1 ≤ level → level ≤ depth_of blocks → exists m.entries level index ≡ true → place_of m level index ≡ None
    → has (changed m (depth_of blocks)) level index ≡ true
unknown_changed m blocks level index size limit from to h none =
    let enough = depth_enough blocks limit in
    changed_had m (nodes_of m.entries (depth_of blocks)) level index (listed_up m.entries (depth_of blocks) (omega arith) (depth_of blocks - level) level index from (omega arith) h) none
