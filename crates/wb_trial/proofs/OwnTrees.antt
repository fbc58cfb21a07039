-- Trees in which each cache block has the origin block of its own number, and places one after the other.
use Rattle.std.proofs.Common.{◌≡◌, ◌≤◌, ◌<◌, ◌+◌, ◌∙◌, sym, ap, subst, ℕ, zero, suc, List, [], Option, Some, None, map, length, replicate, arith, inl, inr}
use Rattle.std.specs.Prelude.{slice_get, slice_index_or}
use Rattle.std.specs.List.{range_with_len}
use Rattle.std.proofs.lemmas.Bool.{cases_lt}
use Rattle.std.proofs.lemmas.List.{get_or_past}
use Rattle.std.proofs.lemmas.List.FromFn.{length-map-range_with_len}
use Rattle.wb_types.specs.Limits.{depth_of}
use Rattle.wb_types.specs.declared.entry.Entry.{Entry}
use Rattle.wb_types.specs.declared.geometry.Geometry.{Geometry}
use Rattle.wb_types.specs.declared.number.Place.{Place}
use Rattle.wb_tree.specs.declared.placed.PlacedNode.{PlacedNode}
use Rattle.wb_tree.specs.Mapping.{Mapping, IsMapping, IsPlaceOf, changed, place_in}
use Rattle.wb_tree.specs.Images.{AreFree}
use Rattle.wb_trial.specs.Own.{AreOwn}

pub some_inside : (entries : List (Option Entry)) (block : ℕ) (entry : Entry) → slice_index_or entries block None ≡ Some entry → block < length entries
some_inside entries block entry e = elim (cases_lt block (length entries)) [
  | inl inside ↦ inside
  | inr past ↦ let none = get_or_past entries block None past in absurd cc
]

-- such entries are a mapping
pub own-mapping : (cache_blocks origin_blocks : ℕ) (entries : List (Option Entry)) → length entries ≡ cache_blocks → cache_blocks ≤ origin_blocks → AreOwn entries → IsMapping cache_blocks origin_blocks entries
own-mapping cache_blocks origin_blocks entries size few own = record {
  size = size;
  within = λ block entry e.
      let a = own block entry e in
      let inside = some_inside entries block entry e in
      (omega (arith, a.0), a.1);
  once = λ block other entry same e f o.
      let a = own block entry e in
      let b = own other same f in
      sym a.0 ∙ (ap (λ x. x.0) o ∙ b.0);
}

numbered : ℕ → Place
numbered number = record { 0 = number }

pub places-numbers : (first count i : ℕ) (place : Place) → slice_get (map (λ number. record { 0 = number }) (range_with_len first count)) i ≡ Some place → (place.0 ≡ first + i) × (i < count)
unfolding numbered
places-numbers first zero i place h = absurd cc
places-numbers first (suc count) zero place h =
    let e : numbered first ≡ place = cc in
    let n : first ≡ place.0 = ap (λ (p : Place). p.0) e in
    (omega arith, omega arith)
places-numbers first (suc count) (suc i) place h =
    let rest = places-numbers (first + 1) count i place h in
    (omega (arith, rest.0), omega (arith, rest.1))

-- such places are free
pub places-free : (m : Mapping) (geometry : Geometry) (first count : ℕ) (free : List Place) → free ≡ map (λ number. record { 0 = number }) (range_with_len first count)
    → ((place : Place) → IsPlaceOf m place → first ≤ place.0 → first + count ≤ place.0) → 2 ≤ first → length (changed m (depth_of geometry.cache_blocks)) ≤ count → first + count ≤ geometry.meta_sectors → AreFree m geometry free
places-free m geometry first count free e known from enough to =
    let made : ℕ → Place = λ number. record { 0 = number } in
    let size : length (map made (range_with_len first count)) ≡ count = length-map-range_with_len made first count in
    subst (AreFree m geometry) (sym e) (record {
      enough = omega arith;
      behind = λ i place h. let n = places-numbers first count i place h in omega (arith, n.0);
      inside = λ i place h. let n = places-numbers first count i place h in omega (arith, n.0, n.1);
      apart = λ i j place h k.
          let n = places-numbers first count i place h in
          let o = places-numbers first count j place k in
          omega (arith, n.0, o.0);
      unused = λ i place h is.
          let n = places-numbers first count i place h in
          let k = known place is in
          absurd (omega (arith, n.0, n.1, k (omega (arith, n.0))));
    })

-- a tree of which no node is known has no place
pub none-known : (m : Mapping) (place : Place) → m.known ≡ [] → IsPlaceOf m place → ⊥
none-known m place none is =
    let h = is.known in
    let e : place_in m.known is.level is.index ≡ None = ap (λ (ks : List PlacedNode). place_in ks is.level is.index) none in
    absurd cc

nothing_there : (count block : ℕ) (entry : Entry) → slice_index_or (replicate {A = Option Entry} count None) block None ≡ Some entry → ⊥
nothing_there zero block entry h = absurd cc
nothing_there (suc count) zero entry h = absurd cc
nothing_there (suc count) (suc block) entry h = nothing_there count block entry h

-- where no cache block is mapped none has another origin block
pub none-own : (count : ℕ) → AreOwn (replicate count None)
none-own count block entry h = absurd (nothing_there count block entry h)
