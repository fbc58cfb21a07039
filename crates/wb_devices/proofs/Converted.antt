-- What a conversion leads to.
use Rattle.std.proofs.Common.{◌≡◌, ◌∙◌, ◌≤◌, ◌<◌, ◌+◌, ◌^◌, sym, ap, subst, refl, ℕ, Bool, false, List, [], ◌∷◌, Option, Some, None, length, map, arith}
use Rattle.wb_types.specs.Limits.{depth_of, node_count}
use Rattle.wb_types.specs.declared.entry.Entry.{Entry}
use Rattle.wb_types.specs.declared.geometry.Geometry.{Geometry}
use Rattle.wb_types.specs.declared.number.Place.{Place}
use Rattle.wb_types.specs.declared.version.Version.{Version}
use Rattle.wb_types.specs.declared.version.Version.TheVariants.{Two}
use Rattle.wb_format.specs.NodeWords.{kept}
use Rattle.wb_format.specs.declared.root.Root.{Root}
use Rattle.wb_tree.specs.declared.image.Image.{Image}
use Rattle.wb_tree.specs.Images.{AreFree, ImagePlan, IsImage, kept_tree}
use Rattle.wb_tree.specs.declared.placed.PlacedNode.{PlacedNode}
use Rattle.wb_tree.specs.Mapping.{Mapping, AreInside, IsMapping, IsSound, changed, place_in, used_places}
use Rattle.wb_tree.proofs.Images.Changes.{few_changed}
use Rattle.wb_dirty.specs.ImageReading.{with_bits}
use Rattle.wb_meta.specs.Conversions.{dirty_bits_of, written_anew}
use Rattle.wb_meta.specs.Imaging.{AreUnusedFor, HasUnused}
use Rattle.wb_meta.specs.Openings.{reopened}
use Rattle.wb_meta.specs.Reads.{FitsDevice}
use Rattle.wb_meta.specs.Sizes.{AreSameSizes}
use Rattle.wb_meta.specs.declared.read_steps.State.{State}
use Rattle.wb_meta.proofs.Converting.{anew_is_mapping, bits_come_back}
use Rattle.wb_meta.proofs.Imaging.{have_places}
use Rattle.wb_meta.proofs.Round.{free_of_unused}
use Rattle.wb_devices.specs.Converting.{IsConverted, IsConvertedRoot, conversion_plan, places_anew}
use Rattle.wb_devices.proofs.Anew.{used_apart}

-- a mapping that is written anew is one of the geometry that is asked for
pub mapping_anew : (found asked : Geometry) (old tree : Mapping) → AreSameSizes found asked → IsMapping found.cache_blocks found.origin_blocks old.entries → tree ≡ written_anew old → IsMapping asked.cache_blocks asked.origin_blocks tree.entries
mapping_anew found asked old tree sizes mapping is =
    let there : IsMapping asked.cache_blocks found.origin_blocks old.entries = subst (λ (n : ℕ). IsMapping n found.origin_blocks old.entries) sizes.cache_blocks mapping in
    let here : IsMapping asked.cache_blocks asked.origin_blocks old.entries = subst (λ (n : ℕ). IsMapping asked.cache_blocks n old.entries) sizes.origin_blocks there in
    subst (λ (t : Mapping). IsMapping asked.cache_blocks asked.origin_blocks t.entries) (sym is) (anew_is_mapping asked.cache_blocks asked.origin_blocks old here)

-- how many nodes it has
pub nodes_anew : (asked : Geometry) (tree : Mapping) → IsMapping asked.cache_blocks asked.origin_blocks tree.entries → length (changed tree (depth_of (length tree.entries))) ≡ length (changed tree (depth_of asked.cache_blocks))
nodes_anew asked tree mapping = ap (λ (blocks : ℕ). length (changed tree (depth_of blocks))) mapping.size

pub few_anew : (asked : Geometry) (tree : Mapping) → IsMapping asked.cache_blocks asked.origin_blocks tree.entries → length (changed tree (depth_of (length tree.entries))) ≤ node_count asked.cache_blocks
few_anew asked tree mapping = let few = few_changed tree asked.cache_blocks mapping.size in omega (arith, few, nodes_anew asked tree mapping)

-- so many of the places that are not used are enough
pub unused_anew : (asked : Geometry) (tree : Mapping) (used free places : List Place) (count : ℕ) → IsMapping asked.cache_blocks asked.origin_blocks tree.entries → count ≡ length (changed tree (depth_of (length tree.entries)))
    → places ≡ free → HasUnused count asked used free → AreUnusedFor tree asked used places
unused_anew asked tree used free places count mapping is same has =
    let many : HasUnused (length (changed tree (depth_of asked.cache_blocks))) asked used free = subst (λ (n : ℕ). HasUnused n asked used free) (is ∙ nodes_anew asked tree mapping) has in
    subst (λ (ps : List Place). AreUnusedFor tree asked used ps) (sym same) many

-- none of its nodes stands anywhere
pub free_anew : (asked : Geometry) (tree : Mapping) (used free : List Place) → tree.known ≡ [] → AreUnusedFor tree asked used free → AreFree tree asked free
free_anew asked tree used free none are =
    free_of_unused tree asked used free (λ place is. let known = is.known in absurd (nowhere tree.known none is.level is.index place known)) are
  where
    nowhere : (known : List PlacedNode) → known ≡ [] → (level index : ℕ) (place : Place) → place_in known level index ≡ Some place → ⊥
    nowhere [] e level index place there = cc
    nowhere (node ∷ known) e level index place there = cc

kept_twice : (entries : List (Option Entry)) → map (kept Two) (map (kept Two) entries) ≡ map (kept Two) entries
kept_twice [] = refl
kept_twice (None ∷ entries) = ap (λ (es : List (Option Entry)). None ∷ es) (kept_twice entries)
kept_twice (Some entry ∷ entries) = ap (λ (es : List (Option Entry)). Some (record entry { dirty = false }) ∷ es) (kept_twice entries)

-- the words of the second version say all of its entries
keeps_anew : (asked : Geometry) (old new : Mapping) → asked.version ≡ Two → new.entries ≡ map (kept Two) old.entries → kept_tree asked.version new ≡ new
keeps_anew asked old new two same =
    let clean : map (kept Two) new.entries ≡ new.entries = ap (λ (es : List (Option Entry)). map (kept Two) es) same ∙ kept_twice old.entries ∙ sym same in
    ap (λ (v : Version). kept_tree v new) two ∙ ap (λ (es : List (Option Entry)). record { entries = es; known = new.known }) clean

-- what was made of a state: the tree of its image, and a root over it
pub record WasMade {A : Type 0} (asked : Geometry) (old new : State A) (image : Image) : Type 0 where
  pub tree : Mapping
  pub free : List Place
  pub tree_is : tree ≡ written_anew old.tree
  pub free_is : free ≡ places_anew asked (written_anew old.tree) old.used.items
  pub unused : AreUnusedFor tree asked old.used.items free
  pub image_is : IsImage tree new.tree (record { geometry = asked; generation = old.root.generation + 1; clean = false; free = free }) image
  pub sound : IsSound new.tree
  pub inside : AreInside asked.meta_sectors new.tree
  pub opens : image.root ≡ reopened new.root
  pub generation_is : new.root.generation ≡ old.root.generation
  pub clean_is : new.root.clean ≡ old.root.clean
  pub geometry_is : new.root.geometry ≡ asked
  pub no_bits : new.root.top_dirty ≡ None
  pub dirty_is : new.dirty ≡ Some (dirty_bits_of old.tree.entries)
  pub used_are : new.used.items ≡ used_places new.tree
  pub nodes_are : new.nodes ≡ length image.nodes.items

module _ {A : Type 0} (asked : Geometry) (old new : State A) (image : Image) (fits : FitsDevice asked.meta_sectors old.root old.tree old.used.items) (two : asked.version ≡ Two) (sizes : AreSameSizes old.root.geometry asked) (made : WasMade asked old new image) where
  abbrev plan : ImagePlan
  plan = conversion_plan asked old

  mapping : IsMapping asked.cache_blocks asked.origin_blocks (written_anew old.tree).entries
  mapping = mapping_anew old.root.geometry asked old.tree (written_anew old.tree) sizes fits.mapping refl

  image_is : IsImage (written_anew old.tree) new.tree plan image
  image_is =
      let by_tree : IsImage (written_anew old.tree) new.tree (record { geometry = asked; generation = old.root.generation + 1; clean = false; free = made.free }) image = subst (λ (t : Mapping). IsImage t new.tree (record { geometry = asked; generation = old.root.generation + 1; clean = false; free = made.free }) image) made.tree_is made.image_is in
      subst (λ (free : List Place). IsImage (written_anew old.tree) new.tree (record { geometry = asked; generation = old.root.generation + 1; clean = false; free = free }) image) made.free_is by_tree

  least : AreUnusedFor (written_anew old.tree) asked old.used.items plan.free
  least = subst (AreUnusedFor (written_anew old.tree) asked old.used.items) made.free_is (subst (λ (t : Mapping). AreUnusedFor t asked old.used.items made.free) made.tree_is made.unused)

  keeps : kept_tree asked.version new.tree ≡ new.tree
  keeps = keeps_anew asked old.tree new.tree two image_is.same_entries

  new_mapping : IsMapping asked.cache_blocks asked.origin_blocks new.tree.entries
  new_mapping = subst (IsMapping asked.cache_blocks asked.origin_blocks) (sym image_is.same_entries) mapping

  fits_new : FitsDevice asked.meta_sectors new.root new.tree new.used.items
  fits_new =
      subst (λ (used : List Place). FitsDevice asked.meta_sectors new.root new.tree used) (sym made.used_are) (record {
        size = ap (λ (g : Geometry). g.meta_sectors) made.geometry_is;
        mapping = subst (λ (g : Geometry). IsMapping g.cache_blocks g.origin_blocks new.tree.entries) (sym made.geometry_is) new_mapping;
        sound = made.sound;
        inside = made.inside;
        known_used = λ place is. (image_is.used.are place).1 is;
        used_are = used_apart asked.meta_sectors asked.cache_blocks new.tree image_is.used made.inside;
        used_few = subst (λ (g : Geometry). length (used_places new.tree) ≤ node_count g.cache_blocks) (sym made.geometry_is) image_is.used.few;
        keeps = subst (λ (g : Geometry). kept_tree g.version new.tree ≡ new.tree) (sym made.geometry_is) keeps;
      })

  root_is : IsConvertedRoot asked image old.root new.root
  root_is = record {
    generation = made.generation_is;
    clean = made.clean_is;
    geometry = made.geometry_is;
    top = ap (λ (r : Root). r.top) (sym made.opens);
    no_bits = made.no_bits;
    next = made.opens;
  }

  pub converted : old.dirty ≡ None → old.root.generation + 1 < 2 ^ 64 → IsConverted asked old image new
  converted in_tree below = record {
    in_tree = in_tree;
    planned = record {
      mapping = mapping;
      free_are = least;
      image_is = image_is;
      sound = made.sound;
      inside = made.inside;
      keeps = keeps;
    };
    root = root_is;
    dirty = made.dirty_is;
    entries = ap (λ (bits : Option (List Bool)). with_bits bits new.tree.entries) made.dirty_is ∙ (ap (λ (es : List (Option Entry)). with_bits (Some (dirty_bits_of old.tree.entries)) es) image_is.same_entries ∙ bits_come_back old.tree.entries);
    used = made.used_are;
    fits = fits_new;
    placed = have_places (written_anew old.tree) new.tree plan image (free_anew asked (written_anew old.tree) old.used.items plan.free refl least) image_is;
    nodes = made.nodes_are;
    few = let more = image_is.used_more in let few = image_is.used.few in omega (arith, more, few);
    spelled = let same = image_is.root_generation in omega (arith, same, below);
  }
