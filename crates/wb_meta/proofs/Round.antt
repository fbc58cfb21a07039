-- What a device stores that was formatted, or read, or edited, or committed to; and how an image follows on another.
use Rattle.std.proofs.Common.{◌≡◌, ◌≤◌, ◌<◌, ◌∙◌, sym, ap, subst, refl, ℕ, zero, suc, Bool, true, false, List, [], ◌∷◌, Option, Some, None, cond, nat_eq, length, map, replicate, arith}
use Rattle.std.specs.Prelude.{Contains}
use Rattle.std.proofs.lemmas.Bool.{eqb-true, false_from_ne_true}
use Rattle.wb_types.specs.Limits.{depth_of}
use Rattle.wb_types.specs.declared.geometry.Geometry.{Geometry}
use Rattle.wb_types.specs.declared.number.Place.{Place}
use Rattle.wb_disk.specs.Device.{Content, History, newest}
use Rattle.wb_format.specs.declared.root.Root.{Root}
use Rattle.wb_tree.specs.declared.placed.PlacedNode.{PlacedNode}
use Rattle.wb_tree.specs.Mapping.{Mapping, IsSound, IsPlaceOf, AreInside, empty_mapping, used_places}
use Rattle.wb_tree.specs.Images.{AreFree, ImagePlan, IsImage, Stores}
use Rattle.wb_tree.specs.declared.image.Image.{Image}
use Rattle.wb_tree.specs.Reading.{Found, is_reached, nothing_found}
use Rattle.wb_tree.proofs.Stored.Edited.{stored-edited, inside-edited, places-edited}
use Rattle.wb_tree.proofs.Stored.Whole.{reached_below-known}
use Rattle.wb_tree.specs.Whole.{found_of, marked, reached_below}
use Rattle.wb_disk.specs.Crashes.{MayLeave, AfterEveryCrash}
use Rattle.wb_meta.specs.Formats.{IsFormatted}
use Rattle.wb_meta.specs.Representing.{Represents, RepresentsAndStores, RepresentsTree, Stored, Whole, alone}
use Rattle.wb_tree.specs.Edits.{IsEdited}
use Rattle.wb_meta.specs.Imaging.{DeviceStores, AreUnusedFor, HasUnused, IsNextImage, IsPlanned, Follows}
use Rattle.wb_meta.specs.Laws.{of_first}
use Rattle.wb_meta.specs.Reads.{AreApartPlaces, FitsDevice}
use Rattle.wb_meta.proofs.Counting.{all_contained}
use Rattle.wb_meta.specs.States.{RepresentsState, places_of}
use Rattle.wb_meta.proofs.Storing.{same_place}
use Rattle.wb_types.proofs.Lists.{Contains-first, Contains-behind}

-- ---- formatted

none_marked : (count : ℕ) (marks : List Bool) → marked (replicate count None) marks ≡ marks
unfolding marked
none_marked zero marks = refl
none_marked (suc count) marks = none_marked count marks

none_reached : (count level index : ℕ) → reached_below (empty_mapping count) level index ≡ []
unfolding reached_below
none_reached count zero index = refl
none_reached count (suc level) index = refl

-- what is read of the empty mapping is nothing
pub found_of-empty : (root : Root) → found_of root (empty_mapping root.geometry.cache_blocks) ≡ nothing_found root
found_of-empty root =
    let blocks = root.geometry.cache_blocks in
    let marks : List Bool = replicate root.geometry.origin_blocks false in
    let made : List PlacedNode → List Bool → Found = λ reached mapped. record { reached = reached; entries = replicate blocks None; mapped = mapped } in
    ap (λ reached. made reached (marked (replicate blocks None) marks)) (none_reached blocks (depth_of blocks) 0) ∙ ap (made []) (none_marked blocks marks)

empty_tree : (sectors : List Content) (root : Root) → Represents sectors root (alone (nothing_found root)) → RepresentsTree sectors root (empty_mapping root.geometry.cache_blocks)
empty_tree sectors root represents = record {
  represents = subst (λ (f : Found). Represents sectors root (alone f)) (sym (found_of-empty root)) represents;
  stores = λ level index place known. absurd cc;
}

pub formatted_tree : (geometry : Geometry) (device : List History) (formatted : IsFormatted geometry device) → AfterEveryCrash (λ sectors. RepresentsTree sectors formatted.root (empty_mapping geometry.cache_blocks)) device
formatted_tree geometry device formatted sectors left =
    subst (λ (g : Geometry). RepresentsTree sectors formatted.root (empty_mapping g.cache_blocks)) formatted.first.geometry_is (empty_tree sectors formatted.root (formatted.represents sectors left))

-- ---- places

-- a place that was reached is one of the places
pub reached-listed : (reached : List PlacedNode) (place : Place) → is_reached place.0 reached ≡ true → Contains (places_of reached) place
reached-listed [] place h = absurd cc
reached-listed (node ∷ reached) place h = by_place (nat_eq node.place.0 place.0) refl h (λ rest. reached-listed reached place rest)
  where
    by_place : (b : Bool) → nat_eq node.place.0 place.0 ≡ b → cond b true (is_reached place.0 reached) ≡ true → (is_reached place.0 reached ≡ true → Contains (places_of reached) place) → Contains (node.place ∷ places_of reached) place
    by_place true e h rest = subst (λ p. Contains (node.place ∷ places_of reached) p) (same_place node.place place (eqb-true node.place.0 place.0 e)) (Contains-first node.place (places_of reached))
    by_place false e h rest = Contains-behind node.place (places_of reached) place (rest h)

-- a place that is reached where a tree stands is one of the tree's
pub place_of-reached : (root : Root) (tree : Mapping) (place : Place) → is_reached place.0 (found_of root tree).reached ≡ true → IsPlaceOf tree place
place_of-reached root tree place h =
    let k = reached_below-known tree (depth_of root.geometry.cache_blocks) 0 place.0 h in
    record { level = k.level; index = k.index; known = k.known ∙ ap Some (same_place k.where_it_is place k.here) }

-- ---- round and round

pub stored_formatted : (geometry : Geometry) (device : List History) (formatted : IsFormatted geometry device) → length device ≡ geometry.meta_sectors → DeviceStores (empty_mapping geometry.cache_blocks) device (of_first formatted.root) []
stored_formatted geometry device formatted size = record {
  sound = record {
    known_level = λ level index place e. absurd cc;
    known_exist = λ level index place e. absurd cc;
    known_below = λ level index child place some e. absurd cc;
    apart = λ level index level' index' place e. absurd cc;
  };
  inside = λ place known. let e = known.known in absurd cc;
  size = size ∙ ap (λ (g : Geometry). g.meta_sectors) (sym formatted.first.geometry_is);
  represents = formatted.represents;
  stores = λ sectors left level index place e. absurd cc;
  reached_used = λ place h. absurd cc;
  known_used = λ place known. let e = known.known in absurd cc;
  used_inside = λ place has. absurd (none_contained place has);
}
  where
    none_contained : (place : Place) → Contains [] place → ⊥
    none_contained place has = omega (arith, has.1)

apart_inside : (sectors : ℕ) (used : List Place) (place : Place) → AreApartPlaces sectors used → Contains used place → (2 ≤ place.0) × (place.0 < sectors)
apart_inside sectors used place apart has =
    (all_contained (λ (p : Place). 2 ≤ p.0) used place apart.from has, all_contained (λ (p : Place). p.0 < sectors) used place apart.to has)

pub stored_read : (device : List History) (root : Root) (tree : Mapping) (dirty : Option (List Bool)) (used : List Place) → ((sectors : List Content) → MayLeave device sectors → sectors ≡ map newest device) → FitsDevice (length device) root tree used
    → (state : RepresentsState (map newest device) root tree dirty used) → DeviceStores tree device (record { root = root; found = state.found }) used
stored_read device root tree dirty used one fits state = record {
  sound = fits.sound;
  inside = subst (λ n. AreInside n tree) (sym fits.size) fits.inside;
  size = sym fits.size;
  represents = λ sectors left. subst (λ (s : List Content). Represents s root state.found) (sym (one sectors left)) state.represents;
  stores = λ sectors left. subst (λ (s : List Content). Stores s tree root.generation) (sym (one sectors left)) state.stores;
  reached_used = λ place h. subst (λ (ps : List Place). Contains ps place) (sym state.used_are) (reached-listed state.found.mapping.reached place h);
  known_used = fits.known_used;
  used_inside = λ place has. subst (λ n. (2 ≤ place.0) × (place.0 < n)) (sym fits.size) (apart_inside (length device) used place fits.used_are has);
}

pub stored_edited : (m n : Mapping) (device : List History) (old : Stored) (used : List Place) → DeviceStores m device old used → IsEdited m n → IsSound n → DeviceStores n device old used
stored_edited m n device old used stores edited sound = record {
  sound = sound;
  inside = inside-edited m n old.root.geometry.meta_sectors edited stores.inside;
  size = stores.size;
  represents = stores.represents;
  stores = λ sectors left. stored-edited m n sectors old.root.generation edited (stores.stores sectors left);
  reached_used = stores.reached_used;
  known_used = λ place known. stores.known_used place (places-edited m n place edited known);
  used_inside = stores.used_inside;
}

-- more than enough are enough
pub fewer_unused : (count fewer : ℕ) (geometry : Geometry) (used free : List Place) → fewer ≤ count → HasUnused count geometry used free → HasUnused fewer geometry used free
fewer_unused count fewer geometry used free less has = record {
  enough = omega (arith, less, has.enough);
  behind = has.behind;
  inside = has.inside;
  apart = has.apart;
  unused = has.unused;
}

-- places that are not used are free for a tree whose places are
pub free_of_unused : (m : Mapping) (geometry : Geometry) (used free : List Place) → ((place : Place) → IsPlaceOf m place → Contains used place) → AreUnusedFor m geometry used free → AreFree m geometry free
free_of_unused m geometry used free known unused = record {
  enough = unused.enough;
  behind = unused.behind;
  inside = unused.inside;
  apart = unused.apart;
  unused = λ i place h is. unused.unused i place h (known place is);
}

pub unused_free : (m : Mapping) (device : List History) (old : Stored) (used free : List Place) → DeviceStores m device old used → AreUnusedFor m old.root.geometry used free → AreFree m old.root.geometry free
unused_free m device old used free stores unused = free_of_unused m old.root.geometry used free stores.known_used unused

-- an image of the tree as that of a plan has it, alone or with dirty bits beside it, is the next
pub next_by : (bits : Option (List Bool)) (m n : Mapping) (plan : ImagePlan) (image tree : Image) (device : List History) (old : Stored) (used : List Place) → DeviceStores m device old used → IsPlanned bits m n plan image used
    → IsImage m n plan tree → Follows plan old used → IsNextImage m n plan tree device old
next_by bits m n plan image tree device old used stores planned is follows = record {
  mapping = planned.mapping;
  old_sound = stores.sound;
  new_sound = planned.sound;
  inside = planned.inside;
  free_are = free_of_unused m plan.geometry used plan.free stores.known_used planned.free_are;
  image_is = is;
  keeps = planned.keeps;
  size = stores.size ∙ follows.sizes.meta_sectors;
  sizes = follows.sizes;
  next = follows.next;
  represents = stores.represents;
  stores = stores.stores;
  outside = λ i place h. false_from_ne_true (is_reached place.0 old.found.reached) (λ r. planned.free_are.unused i place h (follows.all_used place r));
}

pub next_planned : (m n : Mapping) (plan : ImagePlan) (image : Image) (device : List History) (old : Stored) (used : List Place) → DeviceStores m device old used → IsPlanned None m n plan image used → Follows plan old used → IsNextImage m n plan image device old
next_planned m n plan image device old used stores planned follows = next_by None m n plan image image device old used stores planned planned.image_is follows

-- a device stores the new tree where an image of it, alone or with dirty bits beside it, is there after every crash
-- and the tree's places are used, with others perhaps
pub stored_by : (m n : Mapping) (plan : ImagePlan) (tree image : Image) (found : Whole) (used : List Place) (before now : List History) (old : Stored) → IsNextImage m n plan tree before old
    → image.root.geometry ≡ plan.geometry → found.mapping ≡ found_of image.root n
    → ((place : Place) → IsPlaceOf n place → Contains used place) → ((place : Place) → Contains used place → (2 ≤ place.0) × (place.0 < plan.geometry.meta_sectors))
    → length now ≡ length before → AfterEveryCrash (λ sectors. RepresentsAndStores sectors image.root found n) now → DeviceStores n now (record { root = image.root; found = found }) used
stored_by m n plan tree image found used before now old next geometry mapping known within same stands =
    let inside : AreInside image.root.geometry.meta_sectors n = subst (λ (g : Geometry). AreInside g.meta_sectors n) (sym geometry) next.inside in
    record {
      sound = next.new_sound;
      inside = inside;
      size = same ∙ (next.size ∙ ap (λ (g : Geometry). g.meta_sectors) (sym geometry));
      represents = λ sectors left. (stands sectors left).represents;
      stores = λ sectors left. (stands sectors left).stores;
      reached_used = λ place h. known place (place_of-reached image.root n place (ap (λ (f : Found). is_reached place.0 f.reached) (sym mapping) ∙ h));
      known_used = known;
      used_inside = λ place has. subst (λ (g : Geometry). (2 ≤ place.0) × (place.0 < g.meta_sectors)) (sym geometry) (within place has);
    }

pub stored_committed : (m n : Mapping) (plan : ImagePlan) (image : Image) (before now : List History) (old : Stored) → IsNextImage m n plan image before old → length now ≡ length before
    → AfterEveryCrash (λ sectors. RepresentsTree sectors image.root n) now → DeviceStores n now (record { root = image.root; found = alone (found_of image.root n) }) (used_places n)
stored_committed m n plan image before now old next = stored_by m n plan image image (alone (found_of image.root n)) (used_places n) before now old next next.image_is.root_geometry refl
    (λ place. (next.image_is.used.are place).1) (λ place has. next.inside place ((next.image_is.used.are place).0 has))
