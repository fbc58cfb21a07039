-- Trees in which each cache block has the origin block of its own number, and places one after the other.
use Rattle.std.proofs.Common.{◌≡◌, ◌≤◌, ◌<◌, ◌+◌, ◌∙◌, sym, ap, subst, ℕ, List, Option, Some, None, map, length, arith}
use Rattle.std.specs.Prelude.{All, slice_index_or}
use Rattle.std.specs.List.{range_with_len}
use Rattle.std.proofs.lemmas.List.Elements.{All-contains}
use Rattle.std.proofs.lemmas.List.FromFn.{length-map-range_with_len}
use Rattle.wb_types.specs.declared.entry.Entry.{Entry}
use Rattle.wb_types.specs.declared.geometry.Geometry.{Geometry}
use Rattle.wb_types.specs.declared.number.Place.{Place}
use Rattle.wb_tree.specs.Mapping.{IsMapping}
use Rattle.wb_meta.specs.Imaging.{HasUnused}
use Rattle.wb_trial.proofs.OwnTrees.{some_inside, places-numbers}

-- ---- mappings

-- each entry before a cache block is for the origin block of its own number
abbrev pub AreOwnBefore : ℕ → List (Option Entry) → Type 0
AreOwnBefore end entries = (block : ℕ) (entry : Entry) → block < end → slice_index_or entries block None ≡ Some entry → (entry.origin.0 ≡ block) × (entry.hint ≤ 16)

pub own-mapping : (cache_blocks origin_blocks : ℕ) (entries : List (Option Entry)) → length entries ≡ cache_blocks → cache_blocks ≤ origin_blocks → AreOwnBefore cache_blocks entries → IsMapping cache_blocks origin_blocks entries
own-mapping cache_blocks origin_blocks entries size few own = record {
  size = size;
  within = λ block entry e.
      let inside = some_inside entries block entry e in
      let a = own block entry (omega arith) e in
      (omega (arith, a.0), a.1);
  once = λ block other entry same e f o.
      let inside = some_inside entries block entry e in
      let inside' = some_inside entries other same f in
      let a = own block entry (omega arith) e in
      let b = own other same (omega arith) f in
      sym a.0 ∙ (ap (λ x. x.0) o ∙ b.0);
}

-- ---- places

pub places-unused : (geometry : Geometry) (many first count : ℕ) (free : List Place) → free ≡ map (λ number. record { 0 = number }) (range_with_len first count)
    → (used : List Place) → All (λ place. first ≤ place.0 → first + count ≤ place.0) used → 2 ≤ first → many ≤ count → first + count ≤ geometry.meta_sectors → HasUnused many geometry used free
places-unused geometry many first count free e used outside from enough to =
    let made : ℕ → Place = λ number. record { 0 = number } in
    let size : length (map made (range_with_len first count)) ≡ count = length-map-range_with_len made first count in
    subst (HasUnused many geometry used) (sym e) (record {
      enough = omega arith;
      behind = λ i place h. let n = places-numbers first count i place h in omega (arith, n.0);
      inside = λ i place h. let n = places-numbers first count i place h in omega (arith, n.0, n.1);
      apart = λ i j place h k.
          let n = places-numbers first count i place h in
          let o = places-numbers first count j place k in
          omega (arith, n.0, o.0);
      unused = λ i place h has.
          let n = places-numbers first count i place h in
          let k = All-contains (λ (place : Place). first ≤ place.0 → first + count ≤ place.0) used place outside has (omega (arith, n.0)) in
          absurd (omega (arith, n.0, n.1, k));
    })
