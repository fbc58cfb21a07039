-- What a box holds that is made of a list of entries.
use Rattle.std.specs.Prelude.{◌≡◌, ◌<◌, ◌+◌, ◌*◌, ◌^◌, ℕ, Option, None, Box, List, [], slice_index_or}
use Rattle.wb_types.specs.declared.entry.Entry.{Entry}
use Rattle.wb_tree.specs.Branches.{Branch, IsSlot, entries_in, known_in}

-- The box of the node of this level and index, or none, has those of the entries that lie below it, where a list that is
-- too short has none, and no node of it is known.
pub record IsFilled {A : Type 0} (entries : List (Option Entry)) (level index : ℕ) (node : Option (Box Branch A)) : Type 0 where
  pub slot : IsSlot level index node
  pub same : (offset : ℕ) → offset < 32 ^ level
      → slice_index_or (entries_in (32 ^ level) node) offset None ≡ slice_index_or entries (index * 32 ^ level + offset) None
  pub unknown : known_in node ≡ []
