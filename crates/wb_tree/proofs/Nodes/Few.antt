-- A tree has no more known nodes than one of its size can have.
use Rattle.std.proofs.Common.{◌≡◌, ◌≤◌, ◌+◌, ◌*◌, ◌^◌, ◌&&◌, ◌==◌, ◌∙◌, ap, refl, ℕ, zero, suc, Bool, true, false, cond, nat_le, List, [], ◌∷◌, Some, None, length, arith, inl, inr}
use Rattle.std.specs.Prelude.{if◌then◌else◌}
use Rattle.std.proofs.lemmas.Bool.{cases_Bool}
use Rattle.wb_types.specs.Limits.{depth_of, node_count, nodes_up_to}
use Rattle.wb_types.specs.declared.number.Place.{Place}
use Rattle.wb_types.proofs.Counting.{div_ceil-le}
use Rattle.wb_types.proofs.Truth.{yes}
use Rattle.wb_tree.specs.declared.placed.PlacedNode.{PlacedNode}
use Rattle.wb_tree.specs.Mapping.{Mapping, NodeName, IsSound, nodes_of, place_in}
use Rattle.wb_tree.specs.Fields.{AreApart}
use Rattle.wb_tree.proofs.Nodes.Counting.{count-nodes}
use Rattle.wb_tree.proofs.Nodes.Knowing.{known-behind, same_names, none_or_some}
use Rattle.wb_tree.proofs.Nodes.Listed.{exists_listed}
use Rattle.wb_tree.proofs.Nodes.Names.{has}

-- the names without the first of one name
without : List NodeName → ℕ → ℕ → List NodeName
without [] level index = []
without (node ∷ nodes) level index = if (node.level == level) && (node.index == index) then nodes else node ∷ without nodes level index

without-fewer : (nodes : List NodeName) (level index : ℕ) → has nodes level index ≡ true → length (without nodes level index) + 1 ≤ length nodes
unfolding without
without-fewer [] level index h = absurd cc
without-fewer (node ∷ nodes) level index h = elim (cases_Bool ((node.level == level) && (node.index == index))) [
  | inl same ↦ rw same (omega arith)
  | inr other ↦ rw other (omega (arith, without-fewer nodes level index (rw (← h) (rw other refl))))
]

without-has : (nodes : List NodeName) (level index l i : ℕ) → ((level == l) && (index == i)) ≡ false → has nodes l i ≡ true → has (without nodes level index) l i ≡ true
unfolding without
without-has [] level index l i off h = h
without-has (node ∷ nodes) level index l i off h = elim (cases_Bool ((node.level == level) && (node.index == index))) [
  | inl same ↦
      let e = same_names node.level level node.index index same in
      let other : ((node.level == l) && (node.index == i)) ≡ false = ap (λ n. (n == l) && (node.index == i)) e.0 ∙ (ap (λ n. (level == l) && (n == i)) e.1 ∙ off) in
      rw same (rw (← h) (rw other refl))
  | inr differs ↦ elim (cases_Bool ((node.level == l) && (node.index == i))) [
    | inl here ↦ rw differs (rw here refl)
    | inr later ↦ rw differs (rw later (without-has nodes level index l i off (rw (← h) (rw later refl))))
  ]
]

-- nodes of which none comes twice are no more than the names among which they are
few_known : (known : List PlacedNode) (nodes : List NodeName) → AreApart known → ((level index : ℕ) (place : Place) → place_in known level index ≡ Some place → has nodes level index ≡ true) → length known ≤ length nodes
few_known [] nodes apart among = omega arith
few_known (x ∷ known) nodes apart among =
    let here : place_in (x ∷ known) x.level x.index ≡ Some x.place = rw (yes x.level, yes x.index) refl in
    let fewer = without-fewer nodes x.level x.index (among x.level x.index x.place here) in
    let rest = few_known known (without nodes x.level x.index) apart.1 (λ level index place h.
    without-has nodes x.level x.index level index
    (differ x known level index place apart.0 h) (among level index place (known-behind x known level index place apart.0 h))) in
    omega (arith, fewer, rest)
  where
    differ : (x : PlacedNode) (known : List PlacedNode) (level index : ℕ) (place : Place) → place_in known x.level x.index ≡ None → place_in known level index ≡ Some place → ((x.level == level) && (x.index == index)) ≡ false
    differ x known level index place none h = elim (cases_Bool ((x.level == level) && (x.index == index))) [
      | inl same ↦
          let e = same_names x.level level x.index index same in
          absurd (none_or_some (place_in known x.level x.index) place none (ap (λ l. place_in known l x.index) e.0 ∙ (ap (λ i. place_in known level i) e.1 ∙ h)))
      | inr other ↦ other
    ]

-- no more nodes are known than a tree of its size can have
pub known-few : (m : Mapping) → IsSound m → AreApart m.known → length m.entries ≤ 1048576 → length m.known ≤ node_count (length m.entries)
known-few m sound once long =
    let among = few_known m.known (nodes_of m.entries (depth_of (length m.entries))) once (λ level index place h.
    let level_is = sound.known_level level index place h in
    exists_listed m.entries (length m.entries) level index refl long level_is.0 level_is.1 (sound.known_exist level index place h)) in
    omega (arith, among, count-nodes m.entries (length m.entries) (omega arith))

-- a tree has four levels at most
pub levels_four : (blocks : ℕ) → depth_of blocks ≤ 4
unfolding depth_of
levels_four blocks = by (nat_le blocks 32) (nat_le blocks 1024) (nat_le blocks 32768)
  where
    by : (a b c : Bool) → cond a 1 (cond b 2 (cond c 3 4)) ≤ 4
    by true b c = omega arith
    by false true c = omega arith
    by false false true = omega arith
    by false false false = omega arith

up_to_most : (level blocks : ℕ) → blocks ≤ 1048576 → nodes_up_to level blocks ≤ level * 1048577
unfolding nodes_up_to
up_to_most zero blocks few = omega arith
up_to_most (suc level) blocks few = omega (arith, up_to_most level blocks few, div_ceil-le blocks (32 ^ suc level))

-- and can have so many nodes
pub node_count-most : (blocks : ℕ) → blocks ≤ 1048576 → node_count blocks ≤ 4194308
unfolding node_count
node_count-most blocks few = omega (arith, up_to_most (depth_of blocks) blocks few, levels_four blocks)
