-- What is read of metadata sectors, in reading order, with the first fault.
--
-- A tree is read from the top: of a node its text, level, index and generation first, then its words in rising
-- order, with the whole child of a word before the next word.
use Rattle.std.specs.Prelude.{◌≡◌, ◌<◌, ◌+◌, ◌*◌, ◌/◌, ◌%◌, ◌^◌, ◌&&◌, ◌==◌, ◌≢◌, ℕ, zero, suc, Bool, true, false, not, nat_lt, nat_le, if◌then◌else◌, Option, Some, None, Result, Ok, Err, List, [], ◌∷◌, ◌++◌, replicate, slice_get, slice_index, slice_index_or, slice_set}
use Rattle.wb_types.specs.declared.entry.Entry.{Entry}
use Rattle.wb_types.specs.declared.number.Place.{Place}
use Rattle.wb_types.specs.Limits.{depth_of}
use Rattle.wb_types.specs.declared.version.Version.{Version}
use Rattle.wb_format.specs.declared.node.Node.{Node}
use Rattle.wb_format.specs.declared.root.Root.{Root}
use Rattle.wb_format.specs.Layout.{SpellsNodeOf, IsValidIn}
use Rattle.wb_tree.specs.declared.placed.PlacedNode.{PlacedNode}

-- what the sectors of a device read as: at each place the node of its version that is spelled there, if one is
abbrev pub Nodes : Type 0
Nodes = ℕ → Option Node

-- a sector reads so in metadata of this version
abbrev pub ReadsAs : Version → List ℕ → Option Node → Type 0
ReadsAs version sector None = (node : Node) → ¬ SpellsNodeOf version sector node
ReadsAs version sector (Some node) = SpellsNodeOf version sector node

-- the sectors read so
abbrev pub AreNodes : Version → List (List ℕ) → Nodes → Type 0
AreNodes version sectors nodes = (place : ℕ) (sector : List ℕ) → slice_get sectors place ≡ Some sector → ReadsAs version sector (nodes place)

-- what has been read: the nodes in the order in which they were reached, the entries, and of each origin block
-- whether it stands in one of them
pub record Found : Type 0 where
  pub reached : List PlacedNode
  pub entries : List (Option Entry)
  pub mapped : List Bool

-- what is read, or the place that the first fault names
abbrev pub ReadOutcome : Type 0
ReadOutcome = Result Found Place

-- goes on where there was no fault
infixl 10 ◌then◌
abbrev pub ◌then◌ : {X : Type 0} → Result X Place → (X → Result X Place) → Result X Place
(Ok x) then next = next x
(Err place) then next = Err place

-- so many steps one after the other, with the numbers from one on
unfoldable pub each_step : (ℕ → Found → ReadOutcome) → ℕ → ℕ → Found → ReadOutcome
each_step step zero first found = Ok found
each_step step (suc count) first found = step first found then each_step step count (suc first)

-- the entry that the word of a leaf spells, bit by bit
abbrev pub entry_in : ℕ → Option Entry
entry_in zero = None
entry_in (suc n) = Some (record { origin = record { 0 = suc n / 2 ^ 16 }; dirty = suc n / 2 % 2 == 1; hint = suc n / 2 ^ 4 % 2 ^ 5 })

-- one of these, of which each is at a place, is at this one
abbrev pub is_one_at : {X : Type 0} → (X → Place) → ℕ → List X → Bool
is_one_at at place [] = false
is_one_at at place (x ∷ xs) = if (at x).0 == place then true else is_one_at at place xs

-- one of these nodes stands at this place
abbrev pub is_reached : ℕ → List PlacedNode → Bool
is_reached place nodes = is_one_at (λ node. node.place) place nodes

-- a cache block may have an entry: both blocks are there, and the origin block stands in no entry before
abbrev pub may_map : Root → List Bool → ℕ → Entry → Bool
may_map root mapped block entry =
    nat_lt block root.geometry.cache_blocks && nat_lt entry.origin.0 root.geometry.origin_blocks && not (slice_index_or mapped entry.origin.0 false)

-- an entry in the leaf that stands here
abbrev pub entry_read : Root → Place → ℕ → Option Entry → Found → ReadOutcome
entry_read root here block None found = Ok found
entry_read root here block (Some entry) found =
    if may_map root found.mapped block entry
    then Ok (record { reached = found.reached; entries = slice_set found.entries block (Some entry); mapped = slice_set found.mapped entry.origin.0 true })
    else Err here

-- A word names a node with this cache block below it: its place is behind the slots, on the device and was not reached before, and
-- the block is there.
abbrev pub names_with : Root → Bool → ℕ → ℕ → Bool
names_with root was_reached word block = nat_le 2 word && nat_lt word root.geometry.meta_sectors && not was_reached && nat_lt block root.geometry.cache_blocks

-- a word names a child of this level and index
abbrev pub names_child : Root → List PlacedNode → ℕ → ℕ → ℕ → Bool
names_child root reached level index word = names_with root (is_reached word reached) word (index * 32 ^ level)

-- a word of the node here that is no leaf, with the child that it names
abbrev pub child_read : Root → Place → ℕ → ℕ → (ℕ → Place → Found → ReadOutcome) → ℕ → Found → ReadOutcome
child_read root here level index read word found =
    if word == 0 then Ok found
    else (if names_child root found.reached level index word then read index (record { 0 = word }) found else Err here)

-- a node, of which it is said whether it is one of the tree that is read, has this level and index and is not newer than the root
abbrev pub is_wanted : Bool → Root → ℕ → ℕ → Node → Bool
is_wanted of_tree root level index node = of_tree && (node.level == level) && (node.index == index) && nat_le node.generation root.generation

-- a node is one of dirty bits, or one of the mapping
abbrev pub is_kind : Bool → Node → Bool
is_kind true node = node.dirty
is_kind false node = not node.dirty

-- a node is one that the mapping has here: none of dirty bits
abbrev pub is_node_of : Root → ℕ → ℕ → Node → Bool
is_node_of root level index node = is_wanted (not node.dirty) root level index node

-- one node more was reached
abbrev pub reached_at : ℕ → ℕ → Place → Found → Found
reached_at level index place found = record found { reached = found.reached ++ record { level = level; index = index; place = place } ∷ [] }

-- the words of what is spelled here, where that is the node that the tree has here
abbrev pub words_read : Root → ℕ → ℕ → Place → (Node → Found → ReadOutcome) → Option Node → Found → ReadOutcome
words_read root level index here read None found = Err here
words_read root level index here read (Some node) found =
    if is_node_of root level index node then read node (reached_at level index here found) else Err here

-- the node that stands at a place, and all below it
unfoldable pub node_read : Root → Nodes → ℕ → ℕ → Place → Found → ReadOutcome
node_read root nodes zero index here found = Err here
node_read root nodes (suc zero) index here found =
    words_read root 1 index here (λ node. each_step (λ j. entry_read root here (32 * index + j) (entry_in (slice_index node.words j))) 32 0) (nodes here.0) found
node_read root nodes (suc (suc level)) index here found =
    words_read root (suc (suc level)) index here
    (λ node. each_step (λ j. child_read root here (suc level) (32 * index + j) (node_read root nodes (suc level)) (slice_index node.words j)) 32 0) (nodes here.0) found

-- before anything was read
abbrev pub nothing_found : Root → Found
nothing_found root = record { reached = []; entries = replicate root.geometry.cache_blocks None; mapped = replicate root.geometry.origin_blocks false }

-- the tree of a root, from its top
abbrev pub top_read : Root → Nodes → Option Place → ReadOutcome
top_read root nodes None = Ok (nothing_found root)
top_read root nodes (Some top) = node_read root nodes (depth_of root.geometry.cache_blocks) 0 top (nothing_found root)

abbrev pub tree_read : Root → Nodes → ReadOutcome
tree_read root nodes = top_read root nodes root.top

-- The valid root of higher generation: it stands in its slot, and where the other slot has a valid root, that one's
-- generation is lower.
pub record IsNewestRoot (sectors : List (List ℕ)) (root : Root) : Type 0 where
  pub slot : ℕ
  pub sector : List ℕ
  pub there : slice_get sectors slot ≡ Some sector
  pub valid : IsValidIn slot sector root
  pub newest : (other : ℕ) (another : List ℕ) (older : Root) → other ≢ slot → slice_get sectors other ≡ Some another → IsValidIn other another older
      → older.generation < root.generation
