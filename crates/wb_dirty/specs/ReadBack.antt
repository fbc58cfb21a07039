-- That the nodes of a plan, stored at their places, are read as the set of dirty blocks of which they were made.
use Rattle.std.specs.Prelude.{◌≡◌, ◌≤◌, ℕ, Bool, true, false, Some, Ok, List, ◌++◌, Contains, get_or, slice_get, length, map}
use Rattle.wb_types.specs.declared.number.Place.{Place}
use Rattle.wb_format.specs.declared.node.Node.{Node}
use Rattle.wb_format.specs.declared.root.Root.{Root}
use Rattle.wb_tree.specs.Reading.{Nodes}
use Rattle.wb_dirty.specs.declared.planning.DirtyPlan.{DirtyPlan}
use Rattle.wb_dirty.specs.Reading.{dirty_read, is_among}
use Rattle.wb_dirty.specs.Loading.{MayReach}
use Rattle.wb_dirty.specs.Planning.{IsDirtyPlan}

-- places from which nodes may be read: none comes twice, and each may be reached behind those that were
pub record MayBeRead (root : Root) (reached places : List Place) : Type 0 where
  pub apart : (i j : ℕ) (place : Place) → slice_get places i ≡ Some place → slice_get places j ≡ Some place → i ≡ j
  pub each : (i : ℕ) (place : Place) → slice_get places i ≡ Some place → MayReach root reached place

-- the places that a plan takes
abbrev pub taken_places : DirtyPlan → List Place
taken_places plan = map (λ node. node.0) plan.nodes.items

-- A plan of these dirty blocks was stored: the root is not older, and has so many cache blocks and the plan's top; each node is read at
-- its place, which may be reached; and each dirty block has an entry.
pub record IsStoredPlan (root : Root) (nodes : Nodes) (reached : List Place) (mapped dirty : List Bool) (generation : ℕ) (plan : DirtyPlan) : Type 0 where
  pub blocks : length dirty ≡ root.geometry.cache_blocks
  pub has_top : root.top_dirty ≡ plan.top
  pub not_newer : generation ≤ root.generation
  pub stored : (node : Place × Node) → Contains plan.nodes.items node → nodes node.0.0 ≡ Some node.1
  pub may : MayBeRead root reached (taken_places plan)
  pub size : length mapped ≡ length dirty
  pub entries : (block : ℕ) → get_or dirty block false ≡ true → get_or mapped block false ≡ true

-- The dirty blocks are read, and no others; and beside the places that were reached just those of the plan's nodes are.
pub record IsReadBack (root : Root) (nodes : Nodes) (reached : List Place) (mapped dirty : List Bool) (plan : DirtyPlan) : Type 0 where
  pub places : List Place
  pub read : dirty_read (record { root = root; mapped = mapped }) nodes reached ≡ Ok (record { reached = reached ++ places; dirty = dirty })
  pub same : (number : ℕ) → is_among number places ≡ is_among number (taken_places plan)
  pub many : length places ≡ length plan.nodes.items

-- a plan that was stored is read back
abbrev pub PlanIsReadBack : Type 0
PlanIsReadBack = (root : Root) (nodes : Nodes) (reached : List Place) (mapped dirty : List Bool) (generation : ℕ) (free : List Place) (plan : DirtyPlan)
    → IsDirtyPlan dirty generation free plan → IsStoredPlan root nodes reached mapped dirty generation plan → IsReadBack root nodes reached mapped dirty plan

-- of free places that may be read a plan takes some that may
abbrev pub TakenPlacesMayBeRead : Type 0
TakenPlacesMayBeRead = (root : Root) (reached : List Place) (dirty : List Bool) (generation : ℕ) (free : List Place) (plan : DirtyPlan) → IsDirtyPlan dirty generation free plan → MayBeRead root reached free
    → MayBeRead root reached (taken_places plan)
