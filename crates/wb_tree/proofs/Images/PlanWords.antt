-- The words of the nodes that are planned.
use Rattle.std.proofs.Common.{◌≡◌, ◌<◌, ℕ, Option, Some, None, List, length, slice_index, refl, sym, subst, arith, inl, inr}
use Rattle.std.specs.Prelude.{IfSome}
use Rattle.std.proofs.lemmas.Bool.{cases_lt}
use Rattle.std.proofs.lemmas.List.{get_or_past}
use Rattle.wb_types.specs.declared.entry.Entry.{Entry}
use Rattle.wb_format.specs.NodeWords.{IsEntry, SpellsEntry, IsLeafWord, IsInnerWord, entry_word}

-- what holds of each word, and of 0, holds past the last word too
pub words_everywhere : (P : ℕ → Type 0) (words : List ℕ) → ((k : ℕ) → k < length words → P (slice_index words k)) → P 0 → (k : ℕ) → P (slice_index words k)
words_everywhere P words each none k = elim (cases_lt k (length words)) [
  | inl inside ↦ each k inside
  | inr past ↦ subst P (sym (get_or_past words k 0 past)) none
]

-- a leaf may have the word 0
pub IsLeafWord-zero : IsLeafWord 0
IsLeafWord-zero = record { present = λ some. absurd (some refl); bits_2_and_3 = refl; hint = omega arith; bits_9_to_15 = refl; bits_from_36 = refl }

-- and so may a node above the leaves
pub IsInnerWord-zero : IsInnerWord 0
IsInnerWord-zero = record { no_slot = λ same. absurd (omega arith); place = omega arith }

-- a word that spells an entry is its word
pub spelled-entry_word : (word : ℕ) (entry : Option Entry) → SpellsEntry word entry → word ≡ entry_word entry
spelled-entry_word word None h = h
spelled-entry_word word (Some entry) h = h.1

-- a word can spell an entry that is one of those it can spell
pub may_spell : (entry : Option Entry) → ((some : Entry) → entry ≡ Some some → IsEntry some) → IfSome entry IsEntry
may_spell None h = tt
may_spell (Some entry) h = h entry refl
