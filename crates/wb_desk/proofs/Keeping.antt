-- Trees of whose entries the words of a version say all.
use Rattle.std.proofs.Common.{◌≡◌, ℕ, Bool, false, List, Option, Some, map, set, refl, sym, ap, ◌∙◌}
use Rattle.std.proofs.lemmas.List.{map-set}
use Rattle.wb_types.specs.declared.entry.Entry.{Entry}
use Rattle.wb_types.specs.declared.version.Version.{Version}
use Rattle.wb_types.specs.declared.version.Version.TheVariants.{One, Two}
use Rattle.wb_format.specs.NodeWords.{kept}
use Rattle.wb_tree.specs.Images.{kept_tree}
use Rattle.wb_tree.specs.Mapping.{Mapping}

pub keeps_entries : (version : Version) (m : Mapping) → kept_tree version m ≡ m → map (kept version) m.entries ≡ m.entries
keeps_entries version m e = ap (λ (k : Mapping). k.entries) e

pub keeps_tree : (version : Version) (m : Mapping) → map (kept version) m.entries ≡ m.entries → kept_tree version m ≡ m
keeps_tree version m e = ap (λ (es : List (Option Entry)). record { entries = es; known = m.known }) e

-- one entry changed
pub set_keeps : (version : Version) (old new : Mapping) (c : ℕ) (entry : Option Entry) → kept version entry ≡ entry → new.entries ≡ set old.entries c entry → kept_tree version old ≡ old
    → kept_tree version new ≡ new
set_keeps version old new c entry clean is keeps = keeps_tree version new
    (ap (λ (es : List (Option Entry)). map (kept version) es) is
    ∙ map-set (kept version) old.entries c entry
    ∙ ap (λ (e : Option Entry). set (map (kept version) old.entries) c e) clean
    ∙ ap (λ (es : List (Option Entry)). set es c entry) (keeps_entries version old keeps)
    ∙ sym is)

pub clean_kept : (version : Version) (entry : Entry) → entry.dirty ≡ false → kept version (Some entry) ≡ Some entry
clean_kept One entry clean = refl
clean_kept Two entry clean = ap (λ (bit : Bool). Some (record entry { dirty = bit })) (sym clean)
