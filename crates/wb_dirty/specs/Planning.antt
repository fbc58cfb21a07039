-- The nodes that store which cache blocks are dirty: which they are, in which order, what they say, and where they stand.
use Rattle.std.specs.Prelude.{◌≡◌, ◌≢◌, ◌<◌, ◌+◌, ◌-◌, ◌*◌, ◌^◌, ℕ, zero, suc, Bool, true, false, if◌then◌else◌, Option, Some, None, List, [], ◌∷◌, ◌++◌, Contains, get_or, slice_index, length, map, take, drop}
use Rattle.std.specs.List.{list_any}
use Rattle.wb_types.specs.declared.number.Place.{Place}
use Rattle.wb_types.specs.Limits.{dirty_depth_of}
use Rattle.wb_bits.specs.BitWords.{is_member}
use Rattle.wb_format.specs.declared.node.Node.{Node}
use Rattle.wb_tree.specs.Mapping.{NodeName, each_from}
use Rattle.wb_tree.specs.Images.{place_word}
use Rattle.wb_tree.specs.Planning.{names}
use Rattle.wb_dirty.specs.declared.planning.DirtyPlan.{DirtyPlan}

-- the bit of a dirty block lies below a node, which has those of 64 * 32 ^ level blocks below it
unfoldable pub has_dirty : List Bool → ℕ → ℕ → Bool
has_dirty dirty level index = list_any (λ bit. bit) (take (64 * 32 ^ level) (drop (64 * (index * 32 ^ level)) dirty))

-- the nodes at and below a node that a set of dirty blocks needs, in the order of an image: children rising, each with all below
-- it before its parent, and none with no dirty block below it
unfoldable pub dirty_below : List Bool → ℕ → ℕ → List NodeName
dirty_below dirty zero index = []
dirty_below dirty (suc level) index =
    if has_dirty dirty (suc level) index
    then each_from (dirty_below dirty level) 32 (32 * index) ++ record { level = suc level; index = index } ∷ []
    else []

-- all that it needs
abbrev pub dirty_names : List Bool → List NodeName
dirty_names dirty = dirty_below dirty (dirty_depth_of (length dirty)) 0

-- the node of this level and index stands at a place
pub record StandsAt (nodes : List (Place × Node)) (level index : ℕ) (place : Place) : Type 0 where
  pub node : Node
  pub there : Contains nodes (place, node)
  pub level_is : node.level ≡ level
  pub index_is : node.index ≡ index

-- it stands here where a dirty block lies below it, else nowhere
abbrev pub IsPlaceIfNeeded : List Bool → List (Place × Node) → ℕ → ℕ → Option Place → Type 0
IsPlaceIfNeeded dirty nodes level index None = has_dirty dirty level index ≡ false
IsPlaceIfNeeded dirty nodes level index (Some place) = (has_dirty dirty level index ≡ true) × StandsAt nodes level index place

-- a word names it: the word is its place, or 0 where it has none
pub record IsNamedBy (dirty : List Bool) (nodes : List (Place × Node)) (level index word : ℕ) : Type 0 where
  pub place : Option Place
  pub placed : IsPlaceIfNeeded dirty nodes level index place
  pub spelled : word ≡ place_word place

-- The words that a node of the plan has: bit k of a leaf is that of cache block 2048 i + k, and word j of a node above the leaves
-- names the node of the level below of index 32 i + j.
pub record HasDirtyWords (dirty : List Bool) (nodes : List (Place × Node)) (node : Node) : Type 0 where
  pub leaf : node.level ≡ 1 → (k : ℕ) → k < 2048 → is_member node.words k ≡ get_or dirty (2048 * node.index + k) false
  pub inner : node.level ≢ 1 → (j : ℕ) → j < 32 → IsNamedBy dirty nodes (node.level - 1) (32 * node.index + j) (slice_index node.words j)

-- a node of a plan is one of dirty bits, of this generation, and has its words
pub record IsPlanned (dirty : List Bool) (generation : ℕ) (nodes : List (Place × Node)) (node : Node) : Type 0 where
  pub of_bits : node.dirty ≡ true
  pub written_in : node.generation ≡ generation
  pub words : HasDirtyWords dirty nodes node

-- nodes that stand at the first of the free places
pub record ArePlanned (dirty : List Bool) (generation : ℕ) (free : List Place) (nodes : List (Place × Node)) : Type 0 where
  pub places : map (λ node. node.0) nodes ≡ take (length nodes) free
  pub each : (node : Place × Node) → Contains nodes node → IsPlanned dirty generation nodes node.1

-- nodes with others behind them
pub record Continues (old new : List (Place × Node)) : Type 0 where
  pub more : List (Place × Node)
  pub is : new ≡ old ++ more

-- The plan of a set of dirty blocks: the nodes that it needs, and no others, in the order of an image, each with its words, node
-- number n at the n-th of the free places; and the place of the top, or none where no block is dirty.
pub record IsDirtyPlan (dirty : List Bool) (generation : ℕ) (free : List Place) (plan : DirtyPlan) : Type 0 where
  pub nodes_are : names plan.nodes.items ≡ dirty_names dirty
  pub planned : ArePlanned dirty generation free plan.nodes.items
  pub top : IsPlaceIfNeeded dirty plan.nodes.items (dirty_depth_of (length dirty)) 0 plan.top
