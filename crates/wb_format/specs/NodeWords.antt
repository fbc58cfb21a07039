-- The words of a node.
use Rattle.std.specs.Prelude.{◌≡◌, ◌≢◌, ◌≤◌, ◌<◌, ◌+◌, ◌*◌, ◌/◌, ◌%◌, ◌^◌, ℕ, Bool, true, false, cond, Option, Some, None}
use Rattle.wb_types.specs.declared.entry.Entry.{Entry}
use Rattle.wb_types.specs.declared.version.Version.{Version}
use Rattle.wb_types.specs.declared.version.Version.TheVariants.{One, Two}

-- what an entry keeps that a word can spell
pub record IsEntry (entry : Entry) : Type 0 where
  pub origin : entry.origin.0 < 2 ^ 20
  pub hint : entry.hint ≤ 16

-- The word of a leaf for what the mapping has: 0 for nothing; else bit 0 is set, bit 1 is the dirty bit, bits 4 to 8
-- are the hint, bits 16 to 35 the origin block, and no other bit is set.
abbrev pub entry_word : Option Entry → ℕ
entry_word None = 0
entry_word (Some entry) = 1 + 2 * cond entry.dirty 1 0 + 2 ^ 4 * entry.hint + 2 ^ 16 * entry.origin.0

-- a word of a leaf spells an entry, or that there is none
abbrev pub SpellsEntry : ℕ → Option Entry → Type 0
SpellsEntry word None = word ≡ entry_word None
SpellsEntry word (Some entry) = IsEntry entry × (word ≡ entry_word (Some entry))

-- what the words of a version keep of an entry: all of it in the first; in the second all but the dirty bit
abbrev pub kept : Version → Option Entry → Option Entry
kept One entry = entry
kept Two None = None
kept Two (Some entry) = Some (record entry { dirty = false })

-- The words that a leaf may have, bit by bit. The word 0 has no entry; in any other bit 0 is set.
pub record IsLeafWord (word : ℕ) : Type 0 where
  pub present : word ≢ 0 → word % 2 ≡ 1
  pub bits_2_and_3 : word / 2 ^ 2 % 2 ^ 2 ≡ 0
  pub hint : word / 2 ^ 4 % 2 ^ 5 ≤ 16
  pub bits_9_to_15 : word / 2 ^ 9 % 2 ^ 7 ≡ 0
  pub bits_from_36 : word / 2 ^ 36 ≡ 0

-- the words that a leaf of metadata of this version may have: in the second version none has a dirty bit
pub record IsLeafWordOf (version : Version) (word : ℕ) : Type 0 where
  pub leaf : IsLeafWord word
  pub no_dirty_bit : version ≡ Two → word / 2 % 2 ≡ 0

-- the words that a node above the leaves may have: 0, or the place of a child, which is no root slot
pub record IsInnerWord (word : ℕ) : Type 0 where
  pub no_slot : word ≢ 1
  pub place : word ≤ 4294967295

-- The words that a node of a level may have; 1 is the level of the leaves. A leaf of dirty bits has one for each of 64 cache
-- blocks in a word, and any of them may be set.
pub record IsNodeWord (dirty : Bool) (level word : ℕ) : Type 0 where
  pub leaf : dirty ≡ false → level ≡ 1 → IsLeafWord word
  pub inner : level ≢ 1 → IsInnerWord word

-- and one of metadata of this version
pub record IsNodeWordOf (version : Version) (dirty : Bool) (level word : ℕ) : Type 0 where
  pub any : IsNodeWord dirty level word
  pub leaf : dirty ≡ false → level ≡ 1 → IsLeafWordOf version word

-- the levels of the nodes that metadata of a version may have: a tree of dirty bits, in the second version alone, has 3 at most
pub record IsLevelOf (version : Version) (dirty : Bool) (level : ℕ) : Type 0 where
  pub from : 1 ≤ level
  pub to : level ≤ 4
  pub dirty_to : dirty ≡ true → level ≤ 3
  pub second : dirty ≡ true → version ≡ Two
