-- Of an image with dirty bits beside its tree, or none: the image of the tree alone, and what is read of it; and of one that a commit began with.
use Rattle.std.proofs.Common.{◌≡◌, ◌∙◌, ◌+◌, ℕ, Bool, true, false, List, Option, Some, None, is_some, if◌then◌else◌, map, refl, sym, ap, subst}
use Rattle.std.specs.Prelude.{Contains}
use Rattle.std.specs.Option.{option_map}
use Rattle.wb_types.specs.declared.number.Place.{Place}
use Rattle.wb_format.specs.NodeWords.{kept}
use Rattle.wb_types.specs.declared.entry.Entry.{Entry}
use Rattle.wb_tree.specs.declared.image.Image.{Image}
use Rattle.wb_tree.specs.Edits.{IsEdited}
use Rattle.wb_tree.specs.Mapping.{Mapping, IsMapping, IsPlaceOf}
use Rattle.wb_tree.specs.Images.{ImagePlan, IsImage}
use Rattle.wb_tree.proofs.Stored.Edited.{edited-none, places-edited}
use Rattle.wb_dirty.specs.ImageReading.{with_bits}
use Rattle.wb_meta.specs.CleanImages.{IsImageOf, found_of_image}
use Rattle.wb_meta.proofs.Round.{free_of_unused}
use Rattle.wb_policy.specs.Law.{Holdings, origins}
use Rattle.wb_desk.specs.Desks.{DeskState, DeskInvariant}
use Rattle.wb_desk.specs.Commits.{HasBegun, IsOnUnused, beside, commit_begun, next_plan}
use Rattle.wb_desk.specs.Marks.{bits_in_tree, entries_shown}
use Rattle.wb_desk.proofs.Beside.{facts_of, marked_kept}
use Rattle.wb_desk.proofs.Committing.{begun_kept}
use Rattle.wb_desk.proofs.Marking.{origins-marked}

pub tree_image : (bits : Option (List Bool)) (m n : Mapping) (plan : ImagePlan) (image : Image) → IsImageOf bits m n plan image → (tree : Image) × IsImage m n plan tree
tree_image None m n plan image is = (image, is)
tree_image (Some bits) m n plan image is = (is.tree, is.tree_is)

-- what its root says, by its plan
abbrev pub IsRootOf : ImagePlan → Image → Type 0
IsRootOf plan image = (image.root.generation ≡ plan.generation) × (image.root.clean ≡ plan.clean)

pub root_of_image : (bits : Option (List Bool)) (m n : Mapping) (plan : ImagePlan) (image : Image) → IsImageOf bits m n plan image → IsRootOf plan image
root_of_image None m n plan image is = (is.root_generation, is.root_clean)
root_of_image (Some bits) m n plan image is = (is.root_generation, is.root_clean)

pub geometry_of_image : (bits : Option (List Bool)) (m n : Mapping) (plan : ImagePlan) (image : Image) → IsImageOf bits m n plan image → image.root.geometry ≡ plan.geometry
geometry_of_image None m n plan image is = is.root_geometry
geometry_of_image (Some bits) m n plan image is = is.root_geometry

pub entries_read : (bits : Option (List Bool)) (image : Image) (n : Mapping) → (found_of_image bits image n).entries ≡ with_bits bits n.entries
entries_read None image n = refl
entries_read (Some bits) image n = refl

module _ {P : Type 0} (hint_of : P → ℕ → ℕ) (seen : Option (List Bool)) (desk : DeskState P) (tree : Mapping) (image : Image) where
  -- it is of the next generation, and clean where dirty bits were seen
  pub begun_root : HasBegun hint_of seen desk image (commit_begun desk tree image) → (image.root.generation ≡ desk.generation + 1) × (image.root.clean ≡ is_some seen)
  begun_root begun = by seen begun
    where
      by : (o : Option (List Bool)) → HasBegun hint_of o desk image (commit_begun desk tree image) → (image.root.generation ≡ desk.generation + 1) × (image.root.clean ≡ is_some o)
      by None b = root_of_image (beside desk None) desk.tree tree (next_plan desk desk.tree false) image b.image_is
      by (Some dirty) b = let i = b.image_is in root_of_image (beside desk (Some dirty)) i.0 tree (next_plan desk i.0 true) image i.2

  -- its tree has the entries of the desk's, marked with the bits that the words of its version have
  pub begun_entries : HasBegun hint_of seen desk image (commit_begun desk tree image) → tree.entries ≡ entries_shown (hint_of desk.policy) (option_map (bits_in_tree desk.geometry.version) seen) desk.tree.entries
  begun_entries begun = by seen begun
    where
      by : (o : Option (List Bool)) → HasBegun hint_of o desk image (commit_begun desk tree image) → tree.entries ≡ entries_shown (hint_of desk.policy) (option_map (bits_in_tree desk.geometry.version) o) desk.tree.entries
      by None b = (tree_image (beside desk None) desk.tree tree (next_plan desk desk.tree false) image b.image_is).1.same_entries
      by (Some dirty) b = let i = b.image_is in (tree_image (beside desk (Some dirty)) i.0 tree (next_plan desk i.0 true) image i.2).1.same_entries ∙ i.1.entries

  -- and what holds of every desk holds of the one that it leaves
  pub begun_desk : (knows : P → Holdings → Type 0) → DeskInvariant knows desk → HasBegun hint_of seen desk image (commit_begun desk tree image) → DeskInvariant knows (commit_begun desk tree image)
  begun_desk knows d begun = by seen begun
    where
      KeptBy : Mapping → Type 0
      KeptBy m = map (kept desk.geometry.version) m.entries ≡ m.entries

      from : (clean : Option (List Bool)) (m : Mapping) → IsEdited desk.tree m → origins m.entries ≡ origins desk.tree.entries → (KeptBy desk.tree → KeptBy m) → IsOnUnused desk (beside desk clean) m tree (is_some clean) image → DeskInvariant knows (commit_begun desk tree image)
      from clean m edited same keeps unused =
          let plan = next_plan desk m (is_some clean) in
          let used = d.places.committed.used in
          let planned = unused used d.places.committed.are in
          let alone = (tree_image (beside desk clean) m tree plan image planned.image_is).1 in
          let known : (place : Place) → IsPlaceOf m place → Contains used place = λ place at. subst (λ (b : Bool). Contains (if b then d.places.running.used else used) place) begun.may.idle (d.places.known place (places-edited desk.tree m place edited at)) in
          let free = free_of_unused m desk.geometry used plan.free known planned.free_are in
          begun_kept knows desk tree image d begun.may
          (facts_of desk.geometry.version clean desk.tree.entries desk.tree m tree desk.geometry.cache_blocks plan image refl free planned.mapping.size same keeps planned.image_is)
          (subst (λ (es : List (Option Entry)). IsMapping desk.geometry.cache_blocks desk.geometry.origin_blocks es) (sym alone.same_entries) planned.mapping) planned.inside

      by : (o : Option (List Bool)) → HasBegun hint_of o desk image (commit_begun desk tree image) → DeskInvariant knows (commit_begun desk tree image)
      by None b = from None desk.tree (edited-none desk.tree) refl (λ k. k) b.unused
      by (Some dirty) b =
          let u = b.unused in
          let version = desk.geometry.version in
          let hint = hint_of desk.policy in
          from (Some dirty) u.0 u.1.edited (ap (λ (es : List (Option Entry)). origins es) u.1.entries ∙ origins-marked hint (bits_in_tree version dirty) desk.tree.entries)
          (λ k. subst (λ (es : List (Option Entry)). map (kept version) es ≡ es) (sym u.1.entries) (marked_kept version hint dirty desk.tree.entries)) u.2
