-- What is read of a tree of dirty bits, in reading order, with the first fault.
--
-- It is read behind the mapping, and as a mapping is: of a node its text, level, index and generation first, then its words in
-- rising order, with the whole child of a word before the next word. No place is reached twice over both trees.
use Rattle.std.specs.Prelude.{◌+◌, ◌*◌, ◌%◌, ◌^◌, ◌==◌, ℕ, zero, suc, Bool, true, false, if◌then◌else◌, Option, Some, None, Result, Ok, Err, List, [], ◌∷◌, ◌++◌, get_or, slice_index, slice_set, length, replicate}
use Rattle.std.specs.List.{range_with_len}
use Rattle.wb_types.specs.declared.number.Place.{Place}
use Rattle.wb_types.specs.Limits.{dirty_depth_of}
use Rattle.wb_bits.specs.BitWords.{is_member}
use Rattle.wb_format.specs.declared.node.Node.{Node}
use Rattle.wb_format.specs.declared.root.Root.{Root}
use Rattle.wb_tree.specs.Reading.{Nodes, ◌then◌, is_one_at, names_with, is_wanted}
use Rattle.wb_dirty.specs.declared.children.Child.{Child}

-- what a reading goes by: a root, and of each cache block whether the mapping has an entry of it
pub record Asked : Type 0 where
  pub root : Root
  pub mapped : List Bool

-- what has been read: the places that were reached, those of the mapping's nodes first, and of each cache block whether it is dirty
pub record Marks : Type 0 where
  pub reached : List Place
  pub dirty : List Bool

-- what is read, or the place that the first fault names
abbrev pub MarksOutcome : Type 0
MarksOutcome = Result Marks Place

-- a step for each of these, one after the other
unfoldable pub each : {X : Type 0} → (X → Marks → MarksOutcome) → List X → Marks → MarksOutcome
each step [] marks = Ok marks
each step (x ∷ xs) marks = step x marks then each step xs

-- one of these places has this number
abbrev pub is_among : ℕ → List Place → Bool
is_among number places = is_one_at (λ place. place) number places

-- bit k of the leaf that stands here, which is that of a cache block: where it is set the block has to have an entry
abbrev pub bit_read : Asked → Place → ℕ → Bool → Marks → MarksOutcome
bit_read asked here block false marks = Ok marks
bit_read asked here block true marks =
    if get_or asked.mapped block false then Ok (record { reached = marks.reached; dirty = slice_set marks.dirty block true }) else Err here

-- all bits of a leaf, those of 2,048 cache blocks
abbrev pub bits_read : Asked → Place → ℕ → List ℕ → Marks → MarksOutcome
bits_read asked here index words marks = each (λ k. bit_read asked here (2048 * index + k) (is_member words k)) (range_with_len 0 2048) marks

-- The words of a node that is no leaf that name a child, from the first of so many on: word j names the node of index 32 i + j.
unfoldable pub children_from : ℕ → ℕ → ℕ → Place → List ℕ → ℕ → List Child
children_from zero level index here words j = []
children_from (suc count) level index here words j =
    if slice_index words j == 0 then children_from count level index here words (j + 1)
    else record { level = level; index = 32 * index + j; word = slice_index words j; from = here } ∷ children_from count level index here words (j + 1)

-- a word names a child, below which lies the bit of some cache block
abbrev pub names_node : Root → List Place → Child → Bool
names_node root reached child = names_with root (is_among child.word reached) child.word (64 * (child.index * 32 ^ child.level))

-- a child, by what reads a node of its level
abbrev pub dirty_child_read : Root → (ℕ → Place → Marks → MarksOutcome) → Child → Marks → MarksOutcome
dirty_child_read root read child marks = if names_node root marks.reached child then read child.index (record { 0 = child.word }) marks else Err child.from

-- a node is one of dirty bits that the tree has here
abbrev pub is_dirty_node : Root → ℕ → ℕ → Node → Bool
is_dirty_node root level index node = is_wanted node.dirty root level index node

-- one place more was reached
abbrev pub reached_also : Place → Marks → Marks
reached_also place marks = record marks { reached = marks.reached ++ place ∷ [] }

-- the words of what is spelled here, where that is the node that the tree has here
abbrev pub dirty_words_read : Root → ℕ → ℕ → Place → (Node → Marks → MarksOutcome) → Option Node → Marks → MarksOutcome
dirty_words_read root level index here read None marks = Err here
dirty_words_read root level index here read (Some node) marks = if is_dirty_node root level index node then read node (reached_also here marks) else Err here

-- the node that stands at a place, and all below it
unfoldable pub node_read : Asked → Nodes → ℕ → ℕ → Place → Marks → MarksOutcome
node_read asked nodes zero index here marks = Err here
node_read asked nodes (suc zero) index here marks = dirty_words_read asked.root 1 index here (λ node. bits_read asked here index node.words) (nodes here.0) marks
node_read asked nodes (suc (suc level)) index here marks =
    dirty_words_read asked.root (suc (suc level)) index here
    (λ node. each (dirty_child_read asked.root (node_read asked nodes (suc level))) (children_from 32 (suc level) index here node.words 0)) (nodes here.0) marks

-- the slot of a root, which has the word that names the top
abbrev pub slot_of_root : Root → Place
slot_of_root root = record { 0 = root.generation % 2 }

-- the tree of these levels from its top, where a root names one
abbrev pub dirty_top_read : Asked → Nodes → ℕ → Option Place → Marks → MarksOutcome
dirty_top_read asked nodes depth None marks = Ok marks
dirty_top_read asked nodes depth (Some top) marks = if is_among top.0 marks.reached then Err (slot_of_root asked.root) else node_read asked nodes depth 0 top marks

-- before any of it was read: no block is dirty, and the places of the mapping's nodes were reached
abbrev pub none_dirty : Asked → List Place → Marks
none_dirty asked reached = record { reached = reached; dirty = replicate (length asked.mapped) false }

-- the dirty bits of a root, behind a mapping whose nodes stand at these places
abbrev pub dirty_read : Asked → Nodes → List Place → MarksOutcome
dirty_read asked nodes reached = dirty_top_read asked nodes (dirty_depth_of asked.root.geometry.cache_blocks) asked.root.top_dirty (none_dirty asked reached)
