-- Which blocks a sample may have, and what it compares of them.
use Rattle.std.specs.Prelude.{IsSomeAnd, ◌≡◌, ◌⊎◌, ◌≤◌, ◌+◌, ◌*◌, ◌/◌, ◌%◌, ◌^◌, ℕ, suc, Bool, true, false, Option, Some, None, List, [], ◌∷◌, ◌++◌, map, take, drop, slice_get, slice_index, slice_index_or, slice_set}
use Rattle.wb_types.specs.declared.entry.Entry.{Entry}
use Rattle.wb_types.specs.declared.number.CBlock.{CBlock}
use Rattle.wb_types.specs.declared.number.Place.{Place}
use Rattle.wb_types.specs.Limits.{depth_of}
use Rattle.wb_disk.specs.Device.{Content, History, newest}
use Rattle.wb_format.specs.declared.root.Root.{Root}
use Rattle.wb_format.specs.declared.node.Node.{Node}
use Rattle.wb_format.specs.Layout.{SpellsNodeOf}
use Rattle.wb_format.specs.NodeWords.{SpellsEntry}
use Rattle.wb_tree.specs.Mapping.{Mapping}
use Rattle.wb_tree.specs.Reading.{IsNewestRoot, is_node_of}
use Rattle.wb_dirty.specs.ImageReading.{with_bits}
use Rattle.wb_meta.specs.States.{RepresentsState}
use Rattle.wb_devices.specs.declared.devices.Devices.{Devices}
use Rattle.wb_checks.specs.declared.drawn.CleanBlock.{CleanBlock}

-- the node of this level and index that a root's mapping may have stands at a place
pub record IsNodeAt (root : Root) (sectors : List Content) (level index place : ℕ) (node : Node) : Type 0 where
  pub sector : Content
  pub there : slice_get sectors place ≡ Some sector
  pub spelled : SpellsNodeOf root.version sector node
  pub right : is_node_of root level index node ≡ true

-- Nodes lead from a place down to the entry of a cache block: a leaf by the block's word, and a node above by the word that names the
-- place of the next.
pub data Leads (root : Root) (sectors : List Content) (block : ℕ) (entry : Entry) : ℕ → ℕ → Type 0 where
  LeafHas : (place : ℕ) (node : Node) → IsNodeAt root sectors 1 (block / 32 ^ 1) place node → SpellsEntry (slice_index node.words (block / 32 ^ 0 % 32)) (Some entry)
      → Leads root sectors block entry 1 place
  NodeNames : (level place : ℕ) (node : Node) → IsNodeAt root sectors (suc level) (block / 32 ^ suc level) place node
      → Leads root sectors block entry level (slice_index node.words (block / 32 ^ level % 32)) → Leads root sectors block entry (suc level) place

-- an entry maps to this origin block, and is clean
abbrev pub MapsClean : Entry → CleanBlock → Type 0
MapsClean entry block = (entry.origin ≡ block.origin) × (entry.dirty ≡ false)

-- The newest root has the clean flag and names no dirty bits, and the nodes below its top lead to a clean entry of this block.
pub record IsFoundClean (sectors : List Content) (block : CleanBlock) : Type 0 where
  pub root : Root
  pub newest : IsNewestRoot sectors root
  pub clean : root.clean ≡ true
  pub no_bits : root.top_dirty ≡ None
  pub top : Place
  pub top_is : root.top ≡ Some top
  pub entry : Entry
  pub leads : Leads root sectors block.cache.0 entry (depth_of root.geometry.cache_blocks) top.0
  pub maps : MapsClean entry block

-- these entries have a clean one of this block
pub record IsCleanIn (entries : List (Option Entry)) (block : CleanBlock) : Type 0 where
  pub entry : Entry
  pub there : slice_index_or entries block.cache.0 None ≡ Some entry
  pub maps : MapsClean entry block

-- The sectors represent a state with the clean flag, in which the entry of this block is clean.
pub record IsReadClean (sectors : List Content) (block : CleanBlock) : Type 0 where
  pub root : Root
  pub tree : Mapping
  pub dirty : Option (List Bool)
  pub used : List Place
  pub represents : RepresentsState sectors root tree dirty used
  pub clean : root.clean ≡ true
  pub maps : IsCleanIn (with_bits dirty tree.entries) block

-- the cache was left clean, and maps this block, clean
abbrev pub IsMappedClean : List Content → CleanBlock → Type 0
IsMappedClean sectors block = IsFoundClean sectors block ⊎ IsReadClean sectors block

-- A block was put behind those that were drawn, or in the place of one of them, or was not kept.
abbrev pub HasDrawn : CleanBlock → List CleanBlock → List CleanBlock → Type 0
HasDrawn block old new = (new ≡ old ++ block ∷ []) ⊎ ((place : ℕ) × (new ≡ slice_set old place block)) ⊎ (new ≡ old)

-- what so many sectors of a device from one on hold
abbrev pub held_from : List History → ℕ → ℕ → List Content
held_from device first count = take count (drop first (map newest device))

-- so many sectors from these on, of the cache and of the origin, hold the same
abbrev pub AreSame : List History → List History → ℕ → ℕ → ℕ → Type 0
AreSame cache origin c o count = held_from cache c count ≡ held_from origin o count

-- all sectors of a block of this size hold the same
abbrev pub IsSameOnBoth : List History → List History → ℕ → CleanBlock → Type 0
IsSameOnBoth cache origin size block = AreSame cache origin (block.cache.0 * size) (block.origin.0 * size) size

-- some of them do not
pub record Differs (cache origin : List History) (size : ℕ) (block : CleanBlock) : Type 0 where
  pub from : ℕ
  pub count : ℕ
  pub inside : from + count ≤ size
  pub differ : ¬ AreSame cache origin (block.cache.0 * size + from) (block.origin.0 * size + from) count

-- the devices hold what they held
pub record AreAsBefore {D : Type 0} (contents : D → List History) (old new : Devices D) : Type 0 where
  pub metadata : contents new.metadata ≡ contents old.metadata
  pub cache : contents new.cache ≡ contents old.cache
  pub origin : contents new.origin ≡ contents old.origin

-- and have their sizes
pub record HaveSizes {D : Type 0} (size : D → ℕ) (old new : Devices D) : Type 0 where
  pub metadata : size new.metadata ≡ size old.metadata
  pub cache : size new.cache ≡ size old.cache
  pub origin : size new.origin ≡ size old.origin

-- A block that is clean by the metadata, of which the cache and the origin hold other contents.
pub record IsStale {D : Type 0} (contents : D → List History) (devices : Devices D) (size : ℕ) (block : CleanBlock) : Type 0 where
  pub mapped : IsMappedClean (map newest (contents devices.metadata)) block
  pub differs : Differs (contents devices.cache) (contents devices.origin) size block

-- Nothing was taken in, or this cache block behind the others, whose entry was found and is clean.
abbrev pub TakesIn : CBlock → Option Entry → List CleanBlock → List CleanBlock → Type 0
TakesIn cache found old new = (new ≡ old) ⊎ ((block : CleanBlock) × (new ≡ old ++ block ∷ []) × (block.cache ≡ cache) × IsSomeAnd found (λ entry. MapsClean entry block))

-- Nothing was drawn, or this cache block was, whose entry was found and is clean.
abbrev pub MayDraw : CBlock → Option Entry → List CleanBlock → List CleanBlock → Type 0
MayDraw cache found old new = (new ≡ old) ⊎ ((block : CleanBlock) × HasDrawn block old new × (block.cache ≡ cache) × IsSomeAnd found (λ entry. MapsClean entry block))
