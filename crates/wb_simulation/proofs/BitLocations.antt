-- Entries with dirty bits beside them have each block where the entries alone have it, and are a mapping where those are one.
use Rattle.std.proofs.Common.{◌≡◌, ◌∙◌, ◌==◌, ℕ, suc, Bool, List, [], ◌∷◌, Option, Some, None, Ok, Err, refl, sym, ap, subst, if◌then◌else◌}
use Rattle.wb_types.specs.declared.entry.Entry.{Entry}
use Rattle.wb_types.specs.declared.number.Place.{Place}
use Rattle.wb_format.specs.declared.root.Root.{Root}
use Rattle.wb_tree.specs.Mapping.{IsMapping}
use Rattle.wb_tree.specs.Reading.{Found, ReadOutcome, Nodes, ◌then◌, tree_read}
use Rattle.wb_tree.proofs.Reading.MappingRead.{mapping_read}
use Rattle.wb_dirty.specs.Reading.{MarksOutcome, dirty_read}
use Rattle.wb_dirty.specs.ImageReading.{asked_behind, bits_behind, entries_with, image_read, outcome_with, places_reached, with_bits}
use Rattle.wb_devices.proofs.BitEntries.{mapping-with_bits}
use Rattle.wb_promise.specs.Headline.{cached_from}
use Rattle.wb_simulation.specs.Opened.{located}

-- ---- where blocks stand

cached-bits : (bits : List Bool) (entries : List (Option Entry)) (c block : ℕ) → cached_from block c (entries_with bits entries) ≡ cached_from block c entries
unfolding entries_with
cached-bits bits [] c block = refl
cached-bits [] (None ∷ entries) c block = cached-bits [] entries (suc c) block
cached-bits [] (Some entry ∷ entries) c block = ap (λ (o : Option ℕ). if entry.origin.0 == block then Some c else o) (cached-bits [] entries (suc c) block)
cached-bits (bit ∷ bits) (None ∷ entries) c block = cached-bits bits entries (suc c) block
cached-bits (bit ∷ bits) (Some entry ∷ entries) c block = ap (λ (o : Option ℕ). if entry.origin.0 == block then Some c else o) (cached-bits bits entries (suc c) block)

pub located-with_bits : (bits : Option (List Bool)) (entries : List (Option Entry)) → located (with_bits bits entries) ≡ located entries
located-with_bits None entries = refl
located-with_bits (Some bits) entries = λ i block. cached-bits bits entries 0 block i

-- ---- what is read of an image

-- the entries that were read are those of the mapping, with bits or as they are
abbrev ReadWithBits : Found → Found → Type 0
ReadWithBits mapping found = (bits : Option (List Bool)) × (with_bits bits mapping.entries ≡ found.entries)

with_marks : (mapping found : Found) (o : MarksOutcome) → outcome_with mapping o ≡ Ok found → ReadWithBits mapping found
with_marks mapping found (Ok marks) e = (Some marks.dirty, ap (λ (r : ReadOutcome). entries_in r) e)
  where
    entries_in : ReadOutcome → List (Option Entry)
    entries_in (Ok f) = f.entries
    entries_in (Err place) = []
with_marks mapping found (Err place) e = absurd cc

behind_with : (root : Root) (nodes : Nodes) (top : Option Place) (mapping found : Found) → bits_behind root nodes top mapping ≡ Ok found → ReadWithBits mapping found
behind_with root nodes None mapping found e = (None, (let same : mapping ≡ found = cc in ap (λ (f : Found). f.entries) same))
behind_with root nodes (Some top) mapping found e = with_marks mapping found (dirty_read (asked_behind root mapping) nodes (places_reached mapping)) e

-- what is read of an image is a mapping
pub image_mapping : (root : Root) (nodes : Nodes) (mapping found : Found) → image_read root nodes ≡ Ok found → tree_read root nodes ≡ Ok mapping
    → IsMapping root.geometry.cache_blocks root.geometry.origin_blocks found.entries
image_mapping root nodes mapping found reads first =
    let behind = behind_with root nodes root.top_dirty mapping found (sym (ap (λ (reading : ReadOutcome). reading then bits_behind root nodes root.top_dirty) first) ∙ reads) in
    subst (λ (es : List (Option Entry)). IsMapping root.geometry.cache_blocks root.geometry.origin_blocks es) behind.1
    (mapping-with_bits behind.0 root.geometry.cache_blocks root.geometry.origin_blocks mapping.entries (mapping_read root nodes mapping first))
