-- A reading of dirty bits that has come to some node, and what is left of it.
use Rattle.std.specs.Prelude.{◌≡◌, ◌≤◌, ◌<◌, ℕ, true, false, Option, Some, None, IsSome, List, [], ◌∷◌, ◌++◌, All, length, reverse}
use Rattle.wb_types.specs.declared.number.Place.{Place}
use Rattle.wb_types.specs.declared.refusal.Refusal.{Refusal}
use Rattle.wb_format.specs.declared.node.Node.{Node}
use Rattle.wb_format.specs.declared.root.Root.{Root}
use Rattle.wb_tree.specs.Reading.{Nodes, ◌then◌}
use Rattle.wb_tree.specs.Loading.{FailsBy}
use Rattle.wb_tree.specs.declared.placed.PlacedNode.{PlacedNode}
use Rattle.wb_dirty.specs.declared.children.Child.{Child}
use Rattle.wb_dirty.specs.Reading.{Asked, Marks, MarksOutcome, each, dirty_child_read, node_read, is_among}

-- a reading so far: what was read, the words whose children are still to be read, the next of them last, and the node that is
-- to be read first
pub record DirtyLoading : Type 0 where
  pub asked : Asked
  pub marks : Marks
  pub left : List Child
  pub wanted : Option PlacedNode

-- the levels of nodes that words may name
pub record IsLevelOfChild (child : Child) : Type 0 where
  pub from : 1 ≤ child.level
  pub to : child.level ≤ 2

-- a child that is still to be read
abbrev pub left_read : Asked → Nodes → Child → Marks → MarksOutcome
left_read asked nodes child marks = dirty_child_read asked.root (node_read asked nodes child.level) child marks

-- all that are, one after the other
abbrev pub rest_read : Asked → Nodes → List Child → Marks → MarksOutcome
rest_read asked nodes left marks = each (left_read asked nodes) (reverse left) marks

-- a node, and then what is left
abbrev pub wanted_read : Asked → Nodes → List Child → Option PlacedNode → Marks → MarksOutcome
wanted_read asked nodes left None marks = rest_read asked nodes left marks
wanted_read asked nodes left (Some node) marks = node_read asked nodes node.level node.index node.place marks then rest_read asked nodes left

-- what the whole reading gives, over sectors that read as these nodes
abbrev pub outcome_of : DirtyLoading → Nodes → MarksOutcome
outcome_of l nodes = wanted_read l.asked nodes l.left l.wanted l.marks

-- a place that may be read: behind the slots, on the device, and not read before
pub record MayReach (root : Root) (reached : List Place) (place : Place) : Type 0 where
  pub behind : 2 ≤ place.0
  pub inside : place.0 < root.geometry.meta_sectors
  pub unread : is_among place.0 reached ≡ false

-- the same is read at the places that were reached
abbrev pub AgreeOn : List Place → Nodes → Nodes → Type 0
AgreeOn reached nodes others = (place : ℕ) → is_among place reached ≡ true → nodes place ≡ others place

-- Told what the sector of the wanted node reads as, a reading goes on so: what is left gives what it gave before, and the place of
-- the node was reached. Where none is wanted it stays as it is.
pub record IsTold (l : DirtyLoading) (node : Option Node) (after : DirtyLoading) : Type 0 where
  pub goes_on : (wanted : PlacedNode) (nodes : Nodes) → l.wanted ≡ Some wanted → nodes wanted.place.0 ≡ node → outcome_of after nodes ≡ outcome_of l nodes
  pub reached : (wanted : PlacedNode) → l.wanted ≡ Some wanted → after.marks.reached ≡ l.marks.reached ++ wanted.place ∷ []
  pub asked : after.asked ≡ l.asked
  pub idle : l.wanted ≡ None → after ≡ l

-- or it fails so, where a node is wanted
abbrev pub FailsOnceTold : DirtyLoading → Option Node → Refusal → Type 0
FailsOnceTold l node refusal = IsSome l.wanted × ((wanted : PlacedNode) (nodes : Nodes) → l.wanted ≡ Some wanted → nodes wanted.place.0 ≡ node → FailsBy refusal (outcome_of l nodes))

-- What holds of every reading: it has ended where no node is wanted, it has a mark for each cache block, a node that is wanted has
-- a level of the tree and a place that may be read.
pub record IsDirtyLoading (l : DirtyLoading) : Type 0 where
  pub ended : l.wanted ≡ None → l.left ≡ []
  pub levels : All IsLevelOfChild l.left
  pub mapped : length l.asked.mapped ≡ l.asked.root.geometry.cache_blocks
  pub dirty : length l.marks.dirty ≡ l.asked.root.geometry.cache_blocks
  pub level_from : (node : PlacedNode) → l.wanted ≡ Some node → 1 ≤ node.level
  pub level_to : (node : PlacedNode) → l.wanted ≡ Some node → node.level ≤ 3
  pub fresh : (node : PlacedNode) → l.wanted ≡ Some node → MayReach l.asked.root l.marks.reached node.place
