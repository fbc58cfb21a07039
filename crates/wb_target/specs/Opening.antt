-- The mapping that an opening goes by, and the seals that it stores.
use Rattle.std.specs.Prelude.{ℕ, suc, Bool, true, false, List, [], ◌∷◌, Option, Some, None, map}
use Rattle.wb_types.specs.declared.entry.Entry.{Entry}
use Rattle.wb_types.specs.declared.number.OBlock.{OBlock}
use Rattle.wb_words.specs.Cards.{with_seal}
use Rattle.wb_words.specs.SharedWords.{seal_word}

-- an entry as it is opened: without the clean flag it counts as dirty, and has no hint
abbrev pub opened_entry : Bool → Option Entry → Option Entry
opened_entry clean None = None
opened_entry true (Some entry) = Some entry
opened_entry false (Some entry) = Some (record { origin = entry.origin; dirty = true; hint = 0 })

abbrev pub opened_mapping : Bool → List (Option Entry) → List (Option Entry)
opened_mapping clean entries = map (opened_entry clean) entries

-- What has been stored of seals, the latest first, once each block that is mapped by these entries, of which the first is of this cache block, was
-- sealed at its place, dirty as its entry says.
abbrev pub seals_stored : ℕ → List (Option Entry) → List (List (OBlock × ℕ)) → List (List (OBlock × ℕ))
seals_stored c [] stored = stored
seals_stored c (None ∷ entries) stored = seals_stored (suc c) entries stored
seals_stored c (Some entry ∷ entries) stored = seals_stored (suc c) entries (with_seal entry.origin (seal_word (Some (record { 0 = c })) entry.dirty) stored)
