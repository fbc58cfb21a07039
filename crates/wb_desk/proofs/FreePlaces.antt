-- The free places that an image is given are enough, and used by no image.
use Rattle.std.proofs.Common.{◌≡◌, ◌≤◌, ◌<◌, ◌+◌, ◌-◌, ◌*◌, ◌&&◌, ℕ, zero, suc, Bool, true, false, not, cond, List, [], ◌∷◌, Some, length, map, take, get_or, refl, sym, ap, subst, ◌∙◌, arith, slice_get}
use Rattle.std.specs.Prelude.{filter, if◌then◌else◌}
use Rattle.std.specs.List.{range_with_len}
use Rattle.std.proofs.lemmas.List.{length-map, length-take-le}
use Rattle.wb_types.specs.Limits.{HasRoom, depth_of, dirty_nodes, node_count}
use Rattle.wb_types.specs.declared.geometry.Geometry.{Geometry}
use Rattle.wb_types.specs.declared.number.Place.{Place}
use Rattle.wb_tree.specs.Mapping.{Mapping, changed}
use Rattle.wb_tree.proofs.Images.Changes.{few_changed}
use Rattle.wb_space.specs.Places.{PlacesInUse, noted, unused, place_count, is_free_place, free_places, place}
use Rattle.wb_space.proofs.FreeListed.{chosen_apart, free_at, yes_and_no}
use Rattle.wb_space.proofs.Noted.{flagged, length-noted_alone}
use Rattle.wb_space.proofs.Suffices.{places_suffice}
use Rattle.wb_meta.specs.Imaging.{AreUnusedFor, HasUnused}
use Rattle.wb_meta.proofs.Round.{fewer_unused}
use Rattle.wb_desk.specs.InUse.{AreFlagged, places_for, places_wanted}

-- ---- how many there are

many_left : (clean : Bool) (n bits changes nodes free : ℕ) → 2 * n + bits ≤ free + nodes + 0 → nodes ≤ n + bits → (clean ≡ true → nodes ≤ n) → changes ≤ n → changes + (if clean then bits else 0) ≤ free
many_left true n bits changes nodes free enough most few less = omega (arith, enough, few refl, less)
many_left false n bits changes nodes free enough most few less = omega (arith, enough, most, less)

-- Outside a commit there is a free place for each node of a tree that changed and, for a clean image behind one of a mapping alone, for
-- each node that dirty bits can have.
pub many_places : (m : Mapping) (geometry : Geometry) (clean : Bool) (places : PlacesInUse) (nodes : ℕ) → length m.entries ≡ geometry.cache_blocks → AreFlagged geometry nodes places.committed
    → places.running ≡ unused (place_count geometry) → (clean ≡ true → nodes ≤ node_count geometry.cache_blocks)
    → places_wanted m geometry clean ≤ length (free_places places)
many_places m geometry clean places nodes sized flags idle few =
    many_left clean n bits (length (changed m (depth_of geometry.cache_blocks))) nodes (length (free_places places)) (subst (λ (k : ℕ). 2 * n + bits ≤ length (free_places places) + k + 0) flags.many enough) flags.few few
    (few_changed m geometry.cache_blocks sized)
  where
    n : ℕ
    n = node_count geometry.cache_blocks

    bits : ℕ
    bits = dirty_nodes geometry.version geometry.cache_blocks

    none : List Bool
    none = unused (place_count geometry)

    enough : 2 * n + bits ≤ length (free_places places) + length flags.used + 0
    enough =
        let as_committed = subst (λ (xs : List Bool). 2 * n + bits ≤ length (free_places (record { committed = xs; running = none })) + length flags.used + 0) (sym flags.are) (places_suffice n bits flags.used []) in
        subst (λ (xs : List Bool). 2 * n + bits ≤ length (free_places (record { committed = places.committed; running = xs })) + length flags.used + 0) (sym idle) as_committed

-- where there are so many, just so many are listed
pub places_length : (m : Mapping) (geometry : Geometry) (clean : Bool) (places : PlacesInUse) → places_wanted m geometry clean ≤ length (free_places places)
    → length (places_for m geometry clean places) ≡ places_wanted m geometry clean
places_length m geometry clean places many =
    length-map (take (places_wanted m geometry clean) (free_places places)) place ∙ length-take-le (places_wanted m geometry clean) (free_places places) many

-- the listed ones are enough then, and the committed image uses none of them
pub unused_places : (m : Mapping) (geometry : Geometry) (clean : Bool) (places : PlacesInUse) (nodes : ℕ) (used : List Place) → length m.entries ≡ geometry.cache_blocks → AreFlagged geometry nodes places.committed
    → places.running ≡ unused (place_count geometry) → HasRoom geometry.version geometry.cache_blocks geometry.meta_sectors → (clean ≡ true → nodes ≤ node_count geometry.cache_blocks)
    → places.committed ≡ noted used (unused (place_count geometry))
    → HasUnused (places_wanted m geometry clean) geometry used (places_for m geometry clean places)
unused_places m geometry clean places nodes used sized flags idle room few are = record {
  enough = omega (arith, places_length m geometry clean places (many_places m geometry clean places nodes sized flags idle few));
  behind = λ i p e. (free_at places count i p e).from;
  inside = λ i p e. inside i p e;
  apart = λ i j p e f. chosen_apart (is_free_place places) 2 (length places.committed - 2) i j p.0 (free_at places count i p e).there (free_at places count j p f).there;
  unused = λ i p e has. yes_and_no (get_or places.committed p.0 false)
      (ap (λ (xs : List Bool). get_or xs p.0 false) are ∙ flagged used none p has (omega (arith, (free_at places count i p e).to, size, length-noted_alone [] total)))
      (free_at places count i p e).free;
}
  where
    count : ℕ
    count = places_wanted m geometry clean

    total : ℕ
    total = place_count geometry

    none : List Bool
    none = unused total

    size : length places.committed ≡ total
    size = ap (λ (xs : List Bool). length xs) are ∙ length-noted_alone used total

    inside : (i : ℕ) (p : Place) → slice_get (places_for m geometry clean places) i ≡ Some p → p.0 < geometry.meta_sectors
    inside i p e = let fits : total ≤ geometry.meta_sectors = room in omega (arith, (free_at places count i p e).to, size, fits)

-- they are enough for what changed
pub unused_changed : (m : Mapping) (geometry : Geometry) (clean : Bool) (places : PlacesInUse) (nodes : ℕ) (used : List Place) → length m.entries ≡ geometry.cache_blocks → AreFlagged geometry nodes places.committed
    → places.running ≡ unused (place_count geometry) → HasRoom geometry.version geometry.cache_blocks geometry.meta_sectors → (clean ≡ true → nodes ≤ node_count geometry.cache_blocks)
    → places.committed ≡ noted used (unused (place_count geometry))
    → AreUnusedFor m geometry used (places_for m geometry clean places)
unused_changed m geometry clean places nodes used sized flags idle room few are = fewer_unused (places_wanted m geometry clean) changes geometry used (places_for m geometry clean places)
    (omega arith) (unused_places m geometry clean places nodes used sized flags idle room few are)
  where
    changes : ℕ
    changes = length (changed m (depth_of geometry.cache_blocks))
