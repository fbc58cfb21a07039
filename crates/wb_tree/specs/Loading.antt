-- A reading that has come to some node, and what is left of it.
use Rattle.std.specs.Prelude.{◌≡◌, ◌≤◌, ◌<◌, ◌+◌, ◌-◌, ◌*◌, ℕ, Bool, true, false, Option, Some, None, IsSome, Result, Ok, Err, List, [], ◌∷◌, ◌++◌, length, slice_index, reverse}
use Rattle.wb_types.specs.Limits.{depth_of}
use Rattle.wb_types.specs.declared.entry.Entry.{Entry}
use Rattle.wb_types.specs.declared.number.Place.{Place}
use Rattle.wb_types.specs.declared.refusal.Refusal.{Refusal}
use Rattle.wb_types.specs.declared.refusal.Refusal.TheVariants.{Memory, Damaged}
use Rattle.wb_format.specs.declared.node.Node.{Node}
use Rattle.wb_format.specs.declared.root.Root.{Root}
use Rattle.wb_tree.specs.declared.placed.PlacedNode.{PlacedNode}
use Rattle.wb_tree.specs.declared.frame.Frame.{Frame}
use Rattle.wb_tree.specs.Reading.{Found, ReadOutcome, Nodes, ◌then◌, each_step, child_read, entry_read, entry_in, node_read, tree_read, is_reached}

-- a reading so far: what was found, the nodes above the leaves whose words are being read, from the top down, and the
-- node that is to be read next
pub record Loading : Type 0 where
  pub root : Root
  pub found : Found
  pub frames : List Frame
  pub wanted : Option PlacedNode

abbrev pub found_with : List PlacedNode → List (Option Entry) → List Bool → Found
found_with reached entries mapped = record { reached = reached; entries = entries; mapped = mapped }

abbrev pub loading_of : Root → List PlacedNode → List (Option Entry) → List Bool → List Frame → Option PlacedNode → Loading
loading_of root reached entries mapped frames wanted =
    record { root = root; found = found_with reached entries mapped; frames = frames; wanted = wanted }

-- the place of a node that is wanted
abbrev pub wanted_place : Option PlacedNode → Option Place
wanted_place None = None
wanted_place (Some node) = Some node.place

-- the top node of a root's tree
abbrev pub node_on_top : Root → Option Place → Option PlacedNode
node_on_top root None = None
node_on_top root (Some place) = Some (record { level = depth_of root.geometry.cache_blocks; index = 0; place = place })

abbrev pub top_node : Root → Option PlacedNode
top_node root = node_on_top root root.top

-- word j of such a node
abbrev pub frame_step : Root → Nodes → Frame → ℕ → Found → ReadOutcome
frame_step root nodes frame j =
    child_read root frame.node.place (frame.node.level - 1) (32 * frame.node.index + j) (node_read root nodes (frame.node.level - 1)) (slice_index frame.words j)

-- the words that are left of it
abbrev pub frame_rest : Root → Nodes → Frame → Found → ReadOutcome
frame_rest root nodes frame found = each_step (frame_step root nodes frame) (32 - frame.next) frame.next found

-- all words of a leaf
abbrev pub leaf_read : Root → PlacedNode → List ℕ → Found → ReadOutcome
leaf_read root leaf words found = each_step (λ j. entry_read root leaf.place (32 * leaf.index + j) (entry_in (slice_index words j))) 32 0 found

-- what is left of these nodes, the lowest first
abbrev pub frames_rest : Root → Nodes → List Frame → Found → ReadOutcome
frames_rest root nodes [] found = Ok found
frames_rest root nodes (frame ∷ frames) found = frame_rest root nodes frame found then frames_rest root nodes frames

-- a node, and then what is left
abbrev pub wanted_rest : Root → Nodes → List Frame → Option PlacedNode → Found → ReadOutcome
wanted_rest root nodes frames None found = frames_rest root nodes frames found
wanted_rest root nodes frames (Some node) found = node_read root nodes node.level node.index node.place found then frames_rest root nodes frames

-- what the whole reading gives, over sectors that read as these nodes
abbrev pub outcome : Loading → Nodes → ReadOutcome
outcome l nodes = wanted_rest l.root nodes (reverse l.frames) l.wanted l.found

-- a place that may be read: behind the slots, on the device, and not read before
pub record IsFresh (root : Root) (reached : List PlacedNode) (place : Place) : Type 0 where
  pub behind : 2 ≤ place.0
  pub inside : place.0 < root.geometry.meta_sectors
  pub unread : is_reached place.0 reached ≡ false

-- a refusal of want of memory says nothing of a reading, one of damage names its first fault, and no other comes
abbrev pub FailsBy : {X : Type 0} → Refusal → Result X Place → Type 0
FailsBy Memory reading = Unit {0}
FailsBy (Damaged place) reading = reading ≡ Err place
FailsBy _ reading = ⊥

-- told what the sector of the wanted node reads as, a reading goes on so: what is left gives what it gave before
abbrev pub LoadingGoesOn : Loading → Option Node → Loading → Type 0
LoadingGoesOn l node next = (wanted : PlacedNode) (nodes : Nodes) → l.wanted ≡ Some wanted → nodes wanted.place.0 ≡ node
    → outcome next nodes ≡ outcome l nodes

-- and the node was reached
abbrev pub HasReached : Loading → Loading → Type 0
HasReached l next = (wanted : PlacedNode) → l.wanted ≡ Some wanted → next.found.reached ≡ l.found.reached ++ wanted ∷ []

-- or it fails so, where a node is wanted
abbrev pub FailsAt : Loading → Option Node → Refusal → Type 0
FailsAt l node refusal = IsSome l.wanted × ((wanted : PlacedNode) (nodes : Nodes) → l.wanted ≡ Some wanted → nodes wanted.place.0 ≡ node → FailsBy refusal (outcome l nodes))

-- the same is read at the places that were reached
abbrev pub AgreeAt : List PlacedNode → Nodes → Nodes → Type 0
AgreeAt reached nodes others = (place : ℕ) → is_reached place reached ≡ true → nodes place ≡ others place

-- What holds of every reading: it has ended where no node is wanted, what was found has the sizes of the root, a node that
-- is wanted has a level of the tree, and what was told so far is what the tree is read from.
pub record IsLoading (l : Loading) : Type 0 where
  pub ended : l.wanted ≡ None → l.frames ≡ []
  pub entries : length l.found.entries ≡ l.root.geometry.cache_blocks
  pub mapped : length l.found.mapped ≡ l.root.geometry.origin_blocks
  pub level_from : (node : PlacedNode) → l.wanted ≡ Some node → 1 ≤ node.level
  pub level_to : (node : PlacedNode) → l.wanted ≡ Some node → node.level ≤ 4
  pub fresh : (node : PlacedNode) → l.wanted ≡ Some node → IsFresh l.root l.found.reached node.place
  pub told : Nodes
  pub goes_on : (nodes : Nodes) → AgreeAt l.found.reached told nodes → outcome l nodes ≡ tree_read l.root nodes
