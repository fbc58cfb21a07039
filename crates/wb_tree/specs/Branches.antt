-- What a box of the tree holds: a node, and all nodes below it.
use Rattle.std.specs.Prelude.{◌≡◌, ◌≤◌, ◌+◌, ◌-◌, ◌*◌, ◌/◌, ◌^◌, ◌==◌, ℕ, true, Option, Some, None, is_some, if◌then◌else◌, Box, List, [], ◌∷◌, ◌++◌, length, replicate, slice_index_or, slice_set, take, drop}
use Rattle.std.specs.List.{list_any, flat_map, AllByRecursion}
use Rattle.wb_types.specs.declared.entry.Entry.{Entry}
use Rattle.wb_types.specs.declared.number.Place.{Place}
use Rattle.wb_tree.specs.declared.placed.PlacedNode.{PlacedNode}
use Rattle.wb_types.specs.Limits.{depth_of}
use Rattle.wb_tree.specs.Mapping.{Mapping, IsSound}
use Rattle.wb_tree.specs.Fields.{AreApart}

-- a node by its level and its index in that level, the entries of the 32 ^ level cache blocks below it, and the known
-- nodes at and below it
pub record Branch : Type 0 where
  pub level : ℕ
  pub index : ℕ
  pub entries : List (Option Entry)
  pub known : List PlacedNode

-- a node that is known, where it is
abbrev pub placed_here : Option Place → ℕ → ℕ → List PlacedNode
placed_here None level index = []
placed_here (Some place) level index = record { level = level; index = index; place = place } ∷ []

module _ {A : Type 0} where
  -- the entries below a word: none below one without a box
  abbrev pub entries_in : ℕ → Option (Box Branch A) → List (Option Entry)
  entries_in size None = replicate size None
  entries_in size (Some kid) = kid.value.entries

  -- the known nodes below a word
  abbrev pub known_in : Option (Box Branch A) → List PlacedNode
  known_in None = []
  known_in (Some kid) = kid.value.known

  -- the entries below all words of an inner node
  unfoldable pub entries_below : ℕ → List (Option (Box Branch A)) → List (Option Entry)
  entries_below size kids = flat_map (entries_in size) kids

  unfoldable pub known_below : List (Option (Box Branch A)) → List PlacedNode
  known_below kids = flat_map known_in kids

  -- what a node with these fields holds
  abbrev pub branch_of : ℕ → ℕ → Option Place → List (Option Entry) → List (Option (Box Branch A)) → Branch
  branch_of level index place words kids = record {
    level = level;
    index = index;
    entries = if level == 1 then words else entries_below (32 ^ (level - 1)) kids;
    known = placed_here place level index ++ known_below kids;
  }

-- a node has this one at or below it
pub record IsUnder (level index : ℕ) (node : PlacedNode) : Type 0 where
  pub to : node.level ≤ level
  pub up : node.index / 32 ^ (level - node.level) ≡ index

-- what holds of every branch
pub record IsBranch (b : Branch) : Type 0 where
  pub level_from : 1 ≤ b.level
  pub level_to : b.level ≤ 4
  pub index_to : (b.index + 1) * 32 ^ b.level ≤ 1048576
  pub size : length b.entries ≡ 32 ^ b.level
  pub under : AllByRecursion (IsUnder b.level b.index) b.known

-- a branch below a word of a node: it is the one of that word, and has an entry
pub record IsKid (level index : ℕ) (b : Branch) : Type 0 where
  pub level_is : b.level ≡ level
  pub index_is : b.index ≡ index
  pub branch : IsBranch b
  pub some : list_any is_some b.entries ≡ true

-- what stands at a word of a node above the leaves
abbrev pub IsSlot : {A : Type 0} → ℕ → ℕ → Option (Box Branch A) → Type 0
IsSlot level index None = Unit {0}
IsSlot level index (Some kid) = IsKid level index kid.value

-- what holds of the fields of every node
pub record IsNode {A : Type 0} (level index : ℕ) (words : List (Option Entry)) (kids : List (Option (Box Branch A))) : Type 0 where
  pub level_from : 1 ≤ level
  pub level_to : level ≤ 4
  pub index_to : (index + 1) * 32 ^ level ≤ 1048576
  pub leaf : level ≡ 1 → kids ≡ []
  pub inner : 2 ≤ level → length kids ≡ 32
  pub slots : (j : ℕ) → IsSlot (level - 1) (32 * index + j) (slice_index_or kids j None)

-- the known nodes that do not have a cache block below them
abbrev pub forget : ℕ → List PlacedNode → List PlacedNode
forget block [] = []
forget block (node ∷ nodes) = if block / 32 ^ node.level == node.index then forget block nodes else node ∷ forget block nodes

-- the branch with another entry at one of its cache blocks, of which the nodes above it are no longer known
abbrev pub rewritten : Branch → ℕ → Option Entry → Branch
rewritten b offset entry = record {
  level = b.level;
  index = b.index;
  entries = slice_set b.entries offset entry;
  known = forget (b.index * 32 ^ b.level + offset) b.known;
}

-- a branch of which one cache block alone has an entry, and no node is known
abbrev pub sole_branch : ℕ → ℕ → ℕ → Entry → Branch
sole_branch level index offset entry =
    record { level = level; index = index; entries = slice_set (replicate (32 ^ level) None) offset (Some entry); known = [] }

-- the entries and the known nodes of a tree of so many levels with this box on top, as far as it has cache blocks
abbrev pub boxes_of : {A : Type 0} → ℕ → ℕ → Option (Box Branch A) → Mapping
boxes_of cache_blocks depth root = record { entries = take cache_blocks (entries_in (32 ^ depth) root); known = known_in root }

-- what holds of the fields of a tree of boxes
pub record AreBoxes {A : Type 0} (cache_blocks depth : ℕ) (root : Option (Box Branch A)) : Type 0 where
  pub few : cache_blocks ≤ 1048576
  pub from : 1 ≤ depth
  pub to : depth ≤ 4
  pub levels : depth ≡ depth_of cache_blocks
  pub enough : cache_blocks ≤ 32 ^ depth
  pub top : IsSlot depth 0 root
  pub sound : IsSound (boxes_of cache_blocks depth root)
  pub once : AreApart (known_in root)
  -- no entry lies past the last cache block
  pub ends : drop cache_blocks (entries_in (32 ^ depth) root) ≡ replicate (32 ^ depth - cache_blocks) None

-- and of which so many nodes are known
pub record IsTree {A : Type 0} (cache_blocks depth known : ℕ) (root : Option (Box Branch A)) : Type 0 where
  pub boxes : AreBoxes cache_blocks depth root
  pub many : known ≡ length (known_in root)
