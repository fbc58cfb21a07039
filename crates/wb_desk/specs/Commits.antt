-- What a commit makes of a desk, and when it is refused.
use Rattle.std.specs.Prelude.{◌≡◌, ◌<◌, ◌≤◌, ◌+◌, ◌++◌, ◌^◌, ℕ, Bool, true, false, List, Option, is_some, map, length}
use Rattle.wb_types.specs.Limits.{most_nodes}
use Rattle.wb_types.specs.declared.number.Place.{Place}
use Rattle.wb_types.specs.declared.refusal.Refusal.{Refusal}
use Rattle.wb_types.specs.declared.refusal.Refusal.TheVariants.{Busy, Memory, GenerationEnd}
use Rattle.wb_tree.specs.Mapping.{Mapping, used_places}
use Rattle.wb_tree.specs.Images.{ImagePlan}
use Rattle.wb_tree.specs.declared.image.Image.{Image}
use Rattle.wb_space.specs.Blocks.{commit_begun as block_begun, commit_ended as block_ended}
use Rattle.wb_space.specs.Spaces.{Spaces}
use Rattle.wb_space.specs.Places.{noted, unused, place_count}
use Rattle.wb_dirty.specs.ImageReading.{with_bits}
use Rattle.wb_meta.specs.CleanImages.{IsImageOf, places_of_bits}
use Rattle.wb_meta.specs.Imaging.{IsPlanned}
use Rattle.wb_meta.specs.Placing.{HavePlaces}
use Rattle.wb_desk.specs.Desks.{DeskState}
use Rattle.wb_desk.specs.InUse.{places_for}
use Rattle.wb_desk.specs.Marks.{OfImaged, bits_beside, entries_shown}

-- A commit may begin: none runs, and there is a next generation.
pub record MayBegin {P : Type 0} (d : DeskState P) : Type 0 where
  pub idle : d.space.committing ≡ false
  pub next : d.generation + 1 < 2 ^ 64

-- why none begins: one runs, the generations are used up, or there is no memory for one that may begin
abbrev pub IsBeginRefused : {P : Type 0} → DeskState P → Refusal → Type 0
IsBeginRefused d Busy = d.space.committing ≡ true
IsBeginRefused d GenerationEnd = (d.space.committing ≡ false) × (d.generation + 1 ≡ 2 ^ 64)
IsBeginRefused d Memory = MayBegin d
IsBeginRefused d _ = ⊥

-- what the next image of a tree is planned with: the next generation, whether it is clean, and the least free places
abbrev pub next_plan : {P : Type 0} → DeskState P → Mapping → Bool → ImagePlan
next_plan d imaged clean = record {
  geometry = d.geometry;
  generation = d.generation + 1;
  clean = clean;
  free = places_for imaged d.geometry clean d.space.places;
}

-- a commit begins, whose image uses these places: what is quarantined was removed before
abbrev pub space_begun : Spaces → List Bool → Spaces
space_begun space running = record {
  blocks = map block_begun space.blocks;
  places = record space.places { running = running };
  committing = true;
}

-- the places that an image uses which leads to this tree: those of the tree, and those of the dirty bits beside it
abbrev pub places_with : Mapping → Image → List Place
places_with tree image = used_places tree ++ places_of_bits image

-- A commit begins, whose image leads to this tree and uses its places, and those of the dirty bits that it has beside it.
abbrev pub commit_begun : {P : Type 0} → DeskState P → Mapping → Image → DeskState P
commit_begun d tree image = record d {
  tree = tree;
  space = space_begun d.space (noted (places_with tree image) (unused (place_count d.geometry)));
  coming = length (places_with tree image);
}

-- The image leads from the one tree to the other on places that the committed image does not use, whatever list of its
-- places was noted, and has these dirty bits beside it.
abbrev pub IsOnUnused : {P : Type 0} → DeskState P → Option (List Bool) → Mapping → Mapping → Bool → Image → Type 0
IsOnUnused d beside imaged tree clean image = (used : List Place) → d.space.places.committed ≡ noted used (unused (place_count d.geometry))
    → IsPlanned beside imaged tree (next_plan d imaged clean) image used

-- the dirty bits that the next image has beside its tree
abbrev pub beside : {P : Type 0} → DeskState P → Option (List Bool) → Option (List Bool)
beside d clean = bits_beside d.geometry.version clean d.tree.entries

-- A commit of this image began: of the entries as they are, or, where dirty bits are given, a clean one that says these bits of its entries, by
-- cache block, in the words of the tree or beside it, as the metadata's version has it, and the policy's hints.
pub record HasBegun {P : Type 0} (hint_of : P → ℕ → ℕ) (clean : Option (List Bool)) (d : DeskState P) (image : Image) (new : DeskState P) : Type 0 where
  pub may : MayBegin d
  pub state : new ≡ commit_begun d new.tree image
  pub image_is : OfImaged d.geometry.version (hint_of d.policy) clean d.tree (λ imaged. IsImageOf (beside d clean) imaged new.tree (next_plan d imaged (is_some clean)) image)
  pub unused : OfImaged d.geometry.version (hint_of d.policy) clean d.tree (λ imaged. IsOnUnused d (beside d clean) imaged new.tree (is_some clean) image)
  -- what is read of it: the entries as they are, or marked
  pub shown : with_bits (beside d clean) new.tree.entries ≡ entries_shown (hint_of d.policy) clean d.tree.entries
  pub few : length image.nodes.items ≤ most_nodes d.geometry.version (is_some clean) d.geometry.cache_blocks
  pub places : HavePlaces image.nodes.items d.geometry.meta_sectors

-- The running commit ends: its image is the committed one, by the next generation, and what was removed before it began is
-- free, or reserved where it is claimed.
abbrev pub commit_ended : {P : Type 0} → DeskState P → DeskState P
commit_ended d = record d {
  space = record {
    blocks = map block_ended d.space.blocks;
    places = record { committed = d.space.places.running; running = unused (place_count d.geometry) };
    committing = false;
  };
  generation = d.generation + 1;
  nodes = d.coming;
  coming = 0;
  ended = d.ended + 1;
}

-- No commit covers a flush any more but those that ended.
abbrev pub commit_broken : {P : Type 0} → DeskState P → DeskState P
commit_broken d = record d { broken = true }
