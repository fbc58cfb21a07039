-- Commits that can be made: how they begin, go on, fail and end.
use Rattle.std.proofs.Common.{◌≡◌, ◌≤◌, ◌<◌, ◌∙◌, ◌++◌, sym, ap, subst, refl, ℕ, Bool, true, false, List, Option, Some, None, length, map, arith, inl, inr}
use Rattle.std.specs.Prelude.{Contains}
use Rattle.std.proofs.lemmas.List.Elements.{Contains-append_cases, Contains-append_left, Contains-append_right}
use Rattle.wb_types.specs.declared.number.Place.{Place}
use Rattle.wb_disk.specs.Device.{Content, History}
use Rattle.wb_disk.specs.Crashes.{AfterEveryCrash}
use Rattle.wb_format.specs.declared.root.Root.{Root}
use Rattle.wb_tree.specs.declared.image.Image.{Image}
use Rattle.wb_tree.specs.Mapping.{Mapping, IsPlaceOf, used_places}
use Rattle.wb_tree.specs.Reading.{Found, is_reached}
use Rattle.wb_tree.specs.Whole.{found_of}
use Rattle.wb_tree.specs.Images.{ImagePlan}
use Rattle.wb_meta.specs.declared.commit_steps.CommitSteps.{CommitSteps}
use Rattle.wb_meta.specs.declared.commit_steps.CommitSteps.TheVariants.{NodesWritten, NodesSynced, RootWritten, Done}
use Rattle.wb_meta.specs.Representing.{Represents, RepresentsOr, Stored}
use Rattle.wb_meta.specs.Placing.{HavePlaces, IsNodeHere, FitsNodes}
use Rattle.wb_meta.specs.Commits.{Newest, CommitHasCome, HasFailed, IsBeforeRoot}
use Rattle.wb_dirty.specs.ImageReading.{dirty_node}
use Rattle.wb_meta.specs.Imaging.{DeviceStores, Follows, IsAllUsed, IsNextImage, IsPlanned}
use Rattle.wb_meta.specs.Laws.{Wanted}
use Rattle.wb_meta.specs.Openings.{IsOpening}
use Rattle.wb_meta.proofs.Sizes.{own_sizes, alike_sizes, following_sizes}
use Rattle.wb_meta.proofs.Histories.{Grew-none}
use Rattle.wb_meta.proofs.Crashing.{come_crash, early_crash, failed_crash, done_crash, nodes_crash}
use Rattle.wb_meta.proofs.Imaging.{may_commit}
use Rattle.wb_meta.proofs.Reopening.{opening_places, opening_may, opening_stores, no_node}
use Rattle.wb_meta.proofs.BitsPlaces.{bits_stand}
use Rattle.wb_meta.proofs.ImageFraming.{dirty_reached, reached_later}
use Rattle.wb_meta.proofs.Round.{next_by, next_planned, place_of-reached, stored_by}
use Rattle.wb_meta.proofs.CleanImaging.{bits_among, image_places, may_commit_bits}
use Rattle.wb_meta.specs.CleanImages.{IsImageWithBits, bits_places, found_of_image, places_of_bits}
use Rattle.wb_meta.specs.Roots.{AreOneOf, MayBeReadAs, Commit, CanBeMade, commit_of, opening_of}

-- no node is wanted yet
none_wanted : (image : Image) (device : List History) → Newest (FitsNodes image.nodes.items 0) device
none_wanted image device at h e i node less listed here = absurd (omega (arith, less))

-- nothing was done yet
pub begun : (image : Image) (device : List History) → CommitHasCome image device (NodesWritten 0) device
begun image device = record { grew = Grew-none (IsNodeHere image.nodes.items) device; nodes = none_wanted image device }

-- what the image's places are of the tree and of its bits
module _ (m n : Mapping) (plan : ImagePlan) (tree image : Image) (device : List History) (old : Stored) (next : IsNextImage m n plan tree device old) where
  tree_used : (place : Place) → IsPlaceOf n place → Contains (used_places n ++ places_of_bits image) place
  tree_used place known = Contains-append_left (used_places n) (places_of_bits image) place ((next.image_is.used.are place).1 known)

  all_inside : HavePlaces image.nodes.items plan.geometry.meta_sectors → (place : Place) → Contains (used_places n ++ places_of_bits image) place → (2 ≤ place.0) × (place.0 < plan.geometry.meta_sectors)
  all_inside places place has = elim (Contains-append_cases (used_places n) (places_of_bits image) place has) [
    | inl known ↦ next.inside place ((next.image_is.used.are place).0 known)
    | inr bits ↦
        let at = bits_stand image.nodes.items place bits in
        subst (λ (p : Place). (2 ≤ p.0) × (p.0 < plan.geometry.meta_sectors)) at.here (places.from at.number at.node at.there, places.to at.number at.node at.there)
  ]

  tree_reached : (place : Place) → is_reached place.0 (found_of image.root n).reached ≡ true → Contains (used_places n ++ places_of_bits image) place
  tree_reached place r = tree_used place (place_of-reached image.root n place r)

-- all that is read of an image with bits beside it stands on places of the tree or of the bits
all_with_bits : (bits : List Bool) (m n : Mapping) (plan : ImagePlan) (image : Image) (device : List History) (old : Stored) (marked : IsImageWithBits bits m n plan image) → IsNextImage m n plan marked.tree device old
    → IsAllUsed (record { root = image.root; found = found_of_image (Some bits) image n }) (used_places n ++ places_of_bits image)
all_with_bits bits m n plan image device old marked next place r = by (is_reached place.0 (found_of image.root n).reached) refl
  where
    mapping : Found
    mapping = found_of image.root n

    by : (b : Bool) → is_reached place.0 mapping.reached ≡ b → Contains (used_places n ++ places_of_bits image) place
    by true e = tree_reached m n plan marked.tree image device old next place e
    by false e =
        let behind = reached_later place.0 mapping.reached (map dirty_node (bits_places image mapping)) r e in
        Contains-append_right (used_places n) (places_of_bits image) place (bits_among bits m n plan image device old marked next place (sym (dirty_reached place.0 (bits_places image mapping)) ∙ behind))

pub commit_begins : (bits : Option (List Bool)) (m n : Mapping) (plan : ImagePlan) (image : Image) (device : List History) (old : Stored) (used : List Place) → DeviceStores m device old used
    → IsPlanned bits m n plan image used → Follows plan old used → CanBeMade (commit_of bits image n old device) × CommitHasCome image device (NodesWritten 0) device
commit_begins None m n plan image device old used stores planned follows =
    let next = next_planned m n plan image device old used stores planned follows in
    let places = image_places None m n plan image next.free_are planned.image_is in (
      record {
        root_is = refl;
        sizes = following_sizes old.root.geometry plan.geometry image.root.geometry follows.sizes planned.image_is.root_geometry;
        size = stores.size;
        places = subst (HavePlaces image.nodes.items) (sym follows.sizes.meta_sectors) places;
        may = may_commit m n plan image device old next;
        stores = λ now size wanted. stored_by m n plan image image (found_of_image None image n) (used_places n ++ places_of_bits image) device now old next planned.image_is.root_geometry refl
            (tree_used m n plan image image device old next) (all_inside m n plan image image device old next places) size wanted;
        all_used = tree_reached m n plan image image device old next;
      },
      begun image device,
    )
commit_begins (Some bits) m n plan image device old used stores planned follows =
    let marked = planned.image_is in
    let next = next_by (Some bits) m n plan image marked.tree device old used stores planned marked.tree_is follows in
    let places = image_places (Some bits) m n plan image next.free_are marked in (
      record {
        root_is = refl;
        sizes = following_sizes old.root.geometry plan.geometry image.root.geometry follows.sizes marked.root_geometry;
        size = stores.size;
        places = subst (HavePlaces image.nodes.items) (sym follows.sizes.meta_sectors) places;
        may = may_commit_bits bits m n plan image device old marked next;
        stores = λ now size wanted. stored_by m n plan marked.tree image (found_of_image (Some bits) image n) (used_places n ++ places_of_bits image) device now old next marked.root_geometry refl
            (tree_used m n plan marked.tree image device old next) (all_inside m n plan marked.tree image device old next places) size wanted;
        all_used = all_with_bits bits m n plan image device old marked next;
      },
      begun image device,
    )

pub opening_begins : (tree : Mapping) (image : Image) (device : List History) (old : Stored) (used : List Place) → DeviceStores tree device old used
    → IsOpening image old.root → CanBeMade (opening_of image tree used old device) × CommitHasCome image device NodesSynced device
opening_begins tree image device old used stores opening = (
  record {
    root_is = refl;
    sizes = alike_sizes image.root.geometry old.root.geometry (ap (λ (r : Root). r.geometry) opening.root_is);
    size = stores.size;
    places = opening_places image old.root opening;
    may = opening_may tree image device old used stores opening;
    stores = λ now size wanted. opening_stores tree image device now old used stores opening size wanted;
    all_used = stores.reached_used;
  },
  record {
    grew = Grew-none (IsNodeHere image.nodes.items) device;
    nodes = λ at h content e has i node less listed. absurd (no_node image old.root opening i node listed);
  },
)

-- the device has its size
come_size : (image : Image) (before now : List History) (steps : CommitSteps) → CommitHasCome image before steps now → length now ≡ length before
come_size image before now (NodesWritten count) come = come.grew.size
come_size image before now NodesSynced come = come.grew.size
come_size image before now RootWritten come = come.safe.grew.size
come_size image before now Done come = come.safe.grew.size

failed_size : (image : Image) (before now : List History) (steps : CommitSteps) → HasFailed image before steps now → length now ≡ length before
failed_size image before now (NodesWritten count) failed = failed.size
failed_size image before now NodesSynced failed = failed.grew.size
failed_size image before now RootWritten failed = failed.grew.size
failed_size image before now Done failed = absurd failed

module _ (c : Commit) (can : CanBeMade c) where
  one_of_two : (sectors : List Content) → RepresentsOr c.old (Wanted c.image c.new.found c.tree) sectors → AreOneOf c.old (Some c.new) sectors
  one_of_two sectors (inl old) = inl old
  one_of_two sectors (inr new) = inr (subst (λ (r : Root). Represents sectors r c.new.found) (sym can.root_is) new.represents)

  two : (now : List History) → length now ≡ length c.before → AfterEveryCrash (RepresentsOr c.old (Wanted c.image c.new.found c.tree)) now → MayBeReadAs c.old.root.geometry c.old (Some c.new) now
  two now size after = record {
    size = size ∙ can.size;
    sizes = own_sizes c.old.root.geometry;
    later_sizes = can.sizes;
    represents = λ sectors left. one_of_two sectors (after sectors left);
  }

  one : (now : List History) → length now ≡ length c.before → AfterEveryCrash (λ sectors. Represents sectors c.old.root c.old.found) now → MayBeReadAs c.old.root.geometry c.old None now
  one now size after = record { size = size ∙ can.size; sizes = own_sizes c.old.root.geometry; later_sizes = tt; represents = after }

  pub during : (steps : CommitSteps) (now : List History) → CommitHasCome c.image c.before steps now → MayBeReadAs c.old.root.geometry c.old (Some c.new) now
  during steps now come = two now (come_size c.image c.before now steps come)
      (come_crash c.image c.old.root.geometry.meta_sectors c.before now steps c.old (Wanted c.image c.new.found c.tree) can.places can.may come)

  pub early : (steps : CommitSteps) (now : List History) → IsBeforeRoot steps → CommitHasCome c.image c.before steps now → MayBeReadAs c.old.root.geometry c.old None now
  early steps now before come = one now (come_size c.image c.before now steps come)
      (early_crash c.image c.old.root.geometry.meta_sectors c.before now steps c.old (Wanted c.image c.new.found c.tree) can.places can.may before come)

  pub after_failure : (steps : CommitSteps) (now : List History) → HasFailed c.image c.before steps now → MayBeReadAs c.old.root.geometry c.old (Some c.new) now
  after_failure steps now failed = two now (failed_size c.image c.before now steps failed)
      (failed_crash c.image c.old.root.geometry.meta_sectors c.before now steps c.old (Wanted c.image c.new.found c.tree) can.places can.may failed)

  pub after_failed_node : (count : ℕ) (now : List History) → HasFailed c.image c.before (NodesWritten count) now → MayBeReadAs c.old.root.geometry c.old None now
  after_failed_node count now failed = one now failed.size
      (nodes_crash c.image c.old.root.geometry.meta_sectors c.before now c.old (Wanted c.image c.new.found c.tree) can.places can.may failed)

  pub when_done : (now : List History) → CommitHasCome c.image c.before Done now → DeviceStores c.tree now c.new c.used
  when_done now come = can.stores now (come_size c.image c.before now Done come)
      (done_crash c.image c.before now c.old (Wanted c.image c.new.found c.tree) can.may come)
