-- Dirty bits and hints that are stored with the entries, and the images that store them.
use Rattle.std.specs.Prelude.{◌≡◌, ◌&&◌, ℕ, Bool, false, List, [], ◌∷◌, Option, Some, None, is_some}
use Rattle.wb_types.specs.declared.entry.Entry.{Entry}
use Rattle.wb_types.specs.declared.version.Version.{Version}
use Rattle.wb_types.specs.declared.version.Version.TheVariants.{One, Two}
use Rattle.wb_tree.specs.Mapping.{Mapping, IsOnPath, IsSound, changed, entry_at, place_of}
use Rattle.wb_tree.specs.Edits.{IsEdited}

-- an entry with this dirty bit, and with the hint of its origin block
abbrev pub marked_entry : (ℕ → ℕ) → Bool → Option Entry → Option Entry
marked_entry hint dirty None = None
marked_entry hint dirty (Some e) = Some (record { origin = e.origin; dirty = dirty; hint = hint e.origin.0 })

-- each entry with the bit of its cache block
abbrev pub marked_entries : (ℕ → ℕ) → List Bool → List (Option Entry) → List (Option Entry)
marked_entries hint dirty [] = []
marked_entries hint [] (e ∷ es) = marked_entry hint false e ∷ marked_entries hint [] es
marked_entries hint (bit ∷ dirty) (e ∷ es) = marked_entry hint bit e ∷ marked_entries hint dirty es

-- the dirty bits that the words of the tree have: in metadata of the second version none is set
abbrev pub bits_in_tree : Version → List Bool → List Bool
bits_in_tree One dirty = dirty
bits_in_tree Two dirty = []

-- those of cache blocks with an entry
abbrev pub bits_of_mapped : List Bool → List (Option Entry) → List Bool
bits_of_mapped dirty [] = []
bits_of_mapped [] (e ∷ es) = false ∷ bits_of_mapped [] es
bits_of_mapped (bit ∷ dirty) (e ∷ es) = (bit && is_some e) ∷ bits_of_mapped dirty es

-- the dirty bits that an image has beside the tree: in the second version, where it is clean, those of the mapped blocks
abbrev pub bits_beside : Version → Option (List Bool) → List (Option Entry) → Option (List Bool)
bits_beside One clean entries = None
bits_beside Two None entries = None
bits_beside Two (Some dirty) entries = Some (bits_of_mapped dirty entries)

-- what an image says of the entries, wherever it has their bits: as they are, or marked
abbrev pub entries_shown : (ℕ → ℕ) → Option (List Bool) → List (Option Entry) → List (Option Entry)
entries_shown hint None entries = entries
entries_shown hint (Some dirty) entries = marked_entries hint dirty entries

-- Below a node no entry differs between the trees.
abbrev pub AreSameBelow : (old new : Mapping) (level index : ℕ) → Type 0
AreSameBelow old new level index = (c : ℕ) → IsOnPath c level index → entry_at new c ≡ entry_at old c

-- The entries were marked, by edits of the tree. A node below which no entry differs by that is known where it was, or unknown
-- as it was: it is not written for the marks.
pub record AreMarked (hint : ℕ → ℕ) (dirty : List Bool) (old new : Mapping) : Type 0 where
  pub entries : new.entries ≡ marked_entries hint dirty old.entries
  pub edited : IsEdited old new
  pub stays : (level index : ℕ) → AreSameBelow old new level index → place_of new level index ≡ place_of old level index
  pub sound : IsSound new

-- Something is so of the tree that an image is made of: the tree as it is, or for a clean image, where the dirty bits that were
-- seen are given, the tree marked with hints, and with those bits where its words have them.
abbrev pub OfImaged : Version → (ℕ → ℕ) → Option (List Bool) → Mapping → (Mapping → Type 0) → Type 0
OfImaged version hint None old so = so old
OfImaged version hint (Some dirty) old so = (imaged : Mapping) × AreMarked hint (bits_in_tree version dirty) old imaged × so imaged

-- Marks that no entry differs by leave the nodes that count as changed.
abbrev pub SameMarksChangeNoNode : Type 0
SameMarksChangeNoNode = (hint : ℕ → ℕ) (dirty : List Bool) (old new : Mapping) (depth : ℕ) → AreMarked hint dirty old new → new.entries ≡ old.entries
    → changed new depth ≡ changed old depth
