-- A mapping that is written anew without its dirty bits, and the places that it takes.
use Rattle.std.proofs.Common.{◌≡◌, ◌∙◌, ◌≤◌, ◌<◌, ◌+◌, ◌-◌, ◌*◌, ◌==◌, sym, ap, refl, ℕ, zero, suc, Bool, false, List, [], ◌∷◌, Option, Some, None, replicate, length, map, take, set, get_or, get_or-set_same, get_or-set_other, slice_get, arith, inl, inr}
use Rattle.std.specs.List.{AllByRecursion, IsDistinct}
use Rattle.std.proofs.lemmas.Bool.{cases_eq, eqb-true, false_from_ne_true}
use Rattle.std.proofs.lemmas.List.{ext_get_or, length-map, length-replicate, length-set, length-take-le}
use Rattle.std.proofs.Math.ListN.{get_or-map}
use Rattle.wb_types.specs.Limits.{dirty_nodes, node_count}
use Rattle.wb_types.specs.declared.entry.Entry.{Entry}
use Rattle.wb_types.specs.declared.geometry.Geometry.{Geometry}
use Rattle.wb_types.specs.declared.number.Place.{Place}
use Rattle.wb_types.specs.declared.version.Version.TheVariants.{Two}
use Rattle.wb_types.proofs.Truth.{yes}
use Rattle.wb_format.specs.NodeWords.{kept}
use Rattle.wb_tree.specs.declared.placed.PlacedNode.{PlacedNode}
use Rattle.wb_tree.specs.Edits.{IsEdited}
use Rattle.wb_tree.specs.Images.{AreUsed}
use Rattle.wb_tree.specs.Mapping.{Mapping, AreInside, place_in, used_places}
use Rattle.wb_space.specs.Places.{PlacesInUse, free_places, is_free_place, noted, place, place_count, unused}
use Rattle.wb_space.proofs.FreeListed.{chosen_apart, free_at, yes_and_no}
use Rattle.wb_space.proofs.Noted.{flagged, length-noted_alone}
use Rattle.wb_space.proofs.Suffices.{places_suffice}
use Rattle.wb_meta.specs.Conversions.{dirty_bits_of, is_mapped_dirty, written_anew}
use Rattle.wb_meta.specs.Imaging.{HasUnused}
use Rattle.wb_meta.specs.Reads.{AreApartPlaces}
use Rattle.wb_meta.proofs.CleanImaging.{there_contained}
use Rattle.wb_meta.proofs.Storing.{same_place}
use Rattle.wb_devices.specs.Converting.{least_unused}

-- ---- the dirty bits

-- the bits of the first so many blocks
pub record AreBitsTo (entries : List (Option Entry)) (c : ℕ) (bits : List Bool) : Type 0 where
  pub size : length bits ≡ length entries
  pub before : (k : ℕ) → k < c → get_or bits k false ≡ is_mapped_dirty (get_or entries k None)

pub one_bit : (entries : List (Option Entry)) (c : ℕ) (bits : List Bool) (bit : Bool) → c < length entries → AreBitsTo entries c bits → bit ≡ is_mapped_dirty (get_or entries c None) → AreBitsTo entries (c + 1) (set bits c bit)
one_bit entries c bits bit within are is = record {
  size = length-set bits c bit ∙ are.size;
  before = λ k l. elim (cases_eq k c) [
    | inl q ↦ ap (λ (i : ℕ). get_or (set bits c bit) i false) q ∙ get_or-set_same bits c bit false (omega (arith, within, are.size)) ∙ is
        ∙ ap (λ (i : ℕ). is_mapped_dirty (get_or entries i None)) (sym q)
    | inr p ↦ get_or-set_other bits c k bit false p ∙ are.before k (omega (arith, l, p))
  ];
}

pub all_bits : (entries : List (Option Entry)) (c : ℕ) (bits : List Bool) → length entries ≤ c → AreBitsTo entries c bits → bits ≡ dirty_bits_of entries
all_bits entries c bits past are = ext_get_or false bits (dirty_bits_of entries) (are.size ∙ sym (length-map entries is_mapped_dirty))
    (λ k l. are.before k (omega (arith, l, are.size, past)) ∙ sym (get_or-map is_mapped_dirty entries k None))

-- ---- the tree

-- the entries of the first so many blocks came in, without their dirty bits, and no node is known
pub record IsAnewTo (tree : Mapping) (c : ℕ) (anew : Mapping) : Type 0 where
  pub size : length anew.entries ≡ length tree.entries
  pub known : anew.known ≡ []
  pub before : (k : ℕ) → k < c → get_or anew.entries k None ≡ kept Two (get_or tree.entries k None)
  pub behind : (k : ℕ) → c ≤ k → get_or anew.entries k None ≡ None

-- of a tree of which no place is told no node is known
none_known : (known : List PlacedNode) → ((level index : ℕ) (p : Place) → place_in known level index ≡ Some p → ⊥) → known ≡ []
none_known [] none = refl
none_known (node ∷ known) none = absurd (none node.level node.index node.place (rw (yes node.level, yes node.index) refl))

-- an edit of one brings none in
pub still_none : (old new : Mapping) → IsEdited old new → old.known ≡ [] → new.known ≡ []
still_none old new edited none = none_known new.known (λ level index p e. nothing (ap (λ (known : List PlacedNode). place_in known level index) (sym none) ∙ edited.stays level index p e))
  where
    nothing : {p : Place} → None ≡ Some p → ⊥
    nothing e = cc

none_there : (count k : ℕ) → get_or {A = Option Entry} (replicate count None) k None ≡ None
none_there zero k = refl
none_there (suc count) zero = refl
none_there (suc count) (suc k) = none_there count k

pub anew_begun : (tree anew : Mapping) (count : ℕ) → length tree.entries ≡ count → anew.entries ≡ replicate count None → anew.known ≡ [] → IsAnewTo tree 0 anew
anew_begun tree anew count size entries known = record {
  size = ap (λ (es : List (Option Entry)). length es) entries ∙ length-replicate {A = Option Entry} count None ∙ sym size;
  known = known;
  before = λ k l. absurd (omega (arith, l));
  behind = λ k l. ap (λ (es : List (Option Entry)). get_or es k None) entries ∙ none_there count k;
}

-- a block that has an entry
pub anew_set : (tree anew new : Mapping) (c : ℕ) (entry clean : Entry) → c < length tree.entries → IsAnewTo tree c anew → get_or tree.entries c None ≡ Some entry → kept Two (Some entry) ≡ Some clean
    → new.entries ≡ set anew.entries c (Some clean) → IsEdited anew new → IsAnewTo tree (c + 1) new
anew_set tree anew new c entry clean within is there same entries edited = record {
  size = ap (λ (es : List (Option Entry)). length es) entries ∙ length-set anew.entries c (Some clean) ∙ is.size;
  known = still_none anew new edited is.known;
  before = λ k l. ap (λ (es : List (Option Entry)). get_or es k None) entries ∙ elim (cases_eq k c) [
    | inl q ↦ ap (λ (i : ℕ). get_or (set anew.entries c (Some clean)) i None) q ∙ get_or-set_same anew.entries c (Some clean) None (omega (arith, within, is.size))
        ∙ sym same ∙ ap (kept Two) (sym there) ∙ ap (λ (i : ℕ). kept Two (get_or tree.entries i None)) (sym q)
    | inr p ↦ get_or-set_other anew.entries c k (Some clean) None p ∙ is.before k (omega (arith, l, p))
  ];
  behind = λ k l. ap (λ (es : List (Option Entry)). get_or es k None) entries ∙ get_or-set_other anew.entries c k (Some clean) None (λ e. omega (arith, l, e)) ∙ is.behind k (omega (arith, l));
}

-- and one that has none
pub anew_passed : (tree anew : Mapping) (c : ℕ) → IsAnewTo tree c anew → get_or tree.entries c None ≡ None → IsAnewTo tree (c + 1) anew
anew_passed tree anew c is there = record {
  size = is.size;
  known = is.known;
  before = λ k l. elim (cases_eq k c) [
    | inl q ↦ ap (λ (i : ℕ). get_or anew.entries i None) q ∙ is.behind c (omega arith) ∙ ap (kept Two) (sym there) ∙ ap (λ (i : ℕ). kept Two (get_or tree.entries i None)) (sym q)
    | inr p ↦ is.before k (omega (arith, l, p))
  ];
  behind = λ k l. is.behind k (omega (arith, l));
}

pub anew_done : (tree anew : Mapping) (c : ℕ) → length tree.entries ≤ c → IsAnewTo tree c anew → anew ≡ written_anew tree
anew_done tree anew c past is =
    let entries : anew.entries ≡ map (kept Two) tree.entries = ext_get_or None anew.entries (map (kept Two) tree.entries) (is.size ∙ sym (length-map tree.entries (kept Two)))
    (λ k l. is.before k (omega (arith, l, is.size, past)) ∙ sym (get_or-map (kept Two) tree.entries k None)) in
    let known = is.known in
    let made : List (Option Entry) → List PlacedNode → Mapping = λ es ns. record { entries = es; known = ns } in
    ap (λ (es : List (Option Entry)). made es anew.known) entries ∙ ap (made (map (kept Two) tree.entries)) known

-- ---- the places

-- the least ones that are not used are enough, and are none of the used
pub least_are_unused : (geometry : Geometry) (used : List Place) (count : ℕ) → length used ≤ node_count geometry.cache_blocks → count ≤ node_count geometry.cache_blocks → HasUnused count geometry used (least_unused geometry used count)
least_are_unused geometry used count few wanted = record {
  enough = omega (arith, length-map (take count (free_places places)) place ∙ length-take-le count (free_places places) many);
  behind = λ i p e. (free_at places count i p e).from;
  inside = λ i p e. let fits : total ≤ geometry.meta_sectors = geometry.room in omega (arith, (free_at places count i p e).to, size, fits);
  apart = λ i j p e f. chosen_apart (is_free_place places) 2 (length places.committed - 2) i j p.0 (free_at places count i p e).there (free_at places count j p f).there;
  unused = λ i p e has. yes_and_no (get_or places.committed p.0 false)
      (flagged used none p has (omega (arith, (free_at places count i p e).to, size, length-noted_alone [] total)))
      (free_at places count i p e).free;
}
  where
    n : ℕ
    n = node_count geometry.cache_blocks

    bits : ℕ
    bits = dirty_nodes geometry.version geometry.cache_blocks

    total : ℕ
    total = place_count geometry

    none : List Bool
    none = unused total

    places : PlacesInUse
    places = record { committed = noted used none; running = none }

    size : length places.committed ≡ total
    size = length-noted_alone used total

    many : count ≤ length (free_places places)
    many = let enough : 2 * n + bits ≤ length (free_places places) + length used + 0 = places_suffice n bits used [] in omega (arith, enough, few, wanted)

-- ---- places apart

all_by : {X : Type 0} (P : X → Type 0) (xs : List X) → ((i : ℕ) (x : X) → slice_get xs i ≡ Some x → P x) → AllByRecursion P xs
all_by P [] h = tt
all_by P (x ∷ xs) h = (h 0 x refl, all_by P xs (λ i y e. h (suc i) y e))

pub distinct_by : (places : List Place) → ((i j : ℕ) (p : Place) → slice_get places i ≡ Some p → slice_get places j ≡ Some p → i ≡ j) → IsDistinct (λ (a b : Place). a.0 == b.0) places
unfolding IsDistinct
distinct_by [] once = tt
distinct_by (p ∷ places) once = (
  all_by (λ (other : Place). (p.0 == other.0) ≡ false) places (λ i other e. false_from_ne_true (p.0 == other.0) (λ t.
      let same : Some other ≡ Some p = ap Some (same_place other p (sym (eqb-true p.0 other.0 t))) in
      let at : 0 ≡ suc i = once 0 (suc i) p refl (e ∙ same) in
      omega (arith, at))),
  distinct_by places (λ i j q e f. let at : suc i ≡ suc j = once (suc i) (suc j) q e f in omega (arith, at)),
)

-- the used places of a tree on the device are apart
pub used_apart : (sectors cache_blocks : ℕ) (tree : Mapping) → AreUsed cache_blocks tree → AreInside sectors tree → AreApartPlaces sectors (used_places tree)
used_apart sectors cache_blocks tree used inside = record {
  from = all_by (λ (p : Place). 2 ≤ p.0) (used_places tree) (λ i p e. (there i p e).0);
  to = all_by (λ (p : Place). p.0 < sectors) (used_places tree) (λ i p e. (there i p e).1);
  apart = distinct_by (used_places tree) used.once;
}
  where
    there : (i : ℕ) (p : Place) → slice_get (used_places tree) i ≡ Some p → (2 ≤ p.0) × (p.0 < sectors)
    there i p e = inside p ((used.are p).0 (there_contained (used_places tree) i p e))
