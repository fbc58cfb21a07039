-- Which of two states a device is read as.
use Rattle.std.proofs.Common.{◌≡◌, ◌∙◌, sym, ap, subst, refl, Bool, List, Option, Some, None, length, map, inl, inr}
use Rattle.std.proofs.lemmas.List.{length-map}
use Rattle.wb_types.specs.declared.geometry.Geometry.{Geometry}
use Rattle.wb_types.specs.declared.number.Place.{Place}
use Rattle.wb_types.specs.declared.refusal.Refusal.{Refusal}
use Rattle.wb_disk.specs.Device.{History, Crashed, PartlySynced, newest, only, synced}
use Rattle.wb_disk.specs.Crashes.{MayLeave}
use Rattle.wb_disk.proofs.Leaving.{read-left, crash-left, newest-synced, left-synced, left-crashed, left-partly}
use Rattle.wb_format.specs.declared.root.Root.{Root}
use Rattle.wb_tree.specs.Mapping.{Mapping}
use Rattle.wb_dirty.specs.ImageReading.{with_bits}
use Rattle.wb_meta.specs.Representing.{Stored, Whole}
use Rattle.wb_meta.specs.Imaging.{DeviceStores}
use Rattle.wb_meta.specs.Reads.{FitsDevice}
use Rattle.wb_meta.specs.States.{RepresentsState, SpeaksOfSectors, IsRefusedBy}
use Rattle.wb_meta.proofs.OneReading.{one_tree, not_refused}
use Rattle.wb_meta.proofs.Round.{stored_read}
use Rattle.wb_meta.proofs.Sizes.{own_sizes}
use Rattle.wb_meta.specs.Sizes.{AreSameSizes}
use Rattle.wb_meta.specs.Roots.{Are, MayBeReadAs, IsSettled}
use Rattle.wb_meta.specs.RootLaws.{IsDecided}

pub stored_is_read : (m : Mapping) (device : List History) (state : Stored) (used : List Place) → DeviceStores m device state used
    → MayBeReadAs state.root.geometry state None device
stored_is_read m device state used stores = record { size = stores.size; sizes = own_sizes state.root.geometry; later_sizes = tt; represents = stores.represents }

-- one of which a crash leaves what reads give alone is read as that
as_one : (geometry : Geometry) (state : Stored) (device : List History) → length device ≡ geometry.meta_sectors → AreSameSizes state.root.geometry geometry
    → IsSettled device → Are state (map newest device) → MayBeReadAs geometry state None device
as_one geometry state device size same settled are = record {
  size = size;
  sizes = same;
  later_sizes = tt;
  represents = λ sectors left. subst (Are state) (sym (settled sectors left)) are;
}

decided : (geometry : Geometry) (committed : Stored) (later : Option Stored) (device new : List History) → MayBeReadAs geometry committed later device
    → length new ≡ length device → IsSettled new → MayLeave device (map newest new) → IsDecided geometry committed later new
decided geometry committed None device new may size settled left =
    (settled, inl (as_one geometry committed new (size ∙ may.size) may.sizes settled (may.represents (map newest new) left)))
decided geometry committed (Some later) device new may size settled left = (
  settled,
  elim (may.represents (map newest new) left) [
    | inl old ↦ inl (as_one geometry committed new (size ∙ may.size) may.sizes settled old)
    | inr now ↦ inr (later, refl, as_one geometry later new (size ∙ may.size) may.later_sizes settled now)
  ],
)

pub crash_decides : (geometry : Geometry) (committed : Stored) (later : Option Stored) (device crashed : List History)
    → MayBeReadAs geometry committed later device → Crashed device crashed → IsDecided geometry committed later crashed
crash_decides geometry committed later device crashed may crash =
    decided geometry committed later device crashed may crash.size (λ sectors. left-crashed device crashed sectors crash) (crash-left device crashed crash)

pub sync_decides : (geometry : Geometry) (committed : Stored) (later : Option Stored) (device : List History)
    → MayBeReadAs geometry committed later device → IsDecided geometry committed later (synced device)
sync_decides geometry committed later device may =
    decided geometry committed later device (synced device) may (length-map device (λ h. only (newest h)))
    (λ sectors left. left-synced device sectors left ∙ sym (newest-synced device))
    (subst (MayLeave device) (sym (newest-synced device)) (read-left device))

pub failed_sync_leaves : (geometry : Geometry) (committed : Stored) (later : Option Stored) (device new : List History)
    → MayBeReadAs geometry committed later device → PartlySynced device new → MayBeReadAs geometry committed later new
failed_sync_leaves geometry committed later device new may partly = record {
  size = partly.size ∙ may.size;
  sizes = may.sizes;
  later_sizes = may.later_sizes;
  represents = λ sectors left. may.represents sectors (left-partly device new sectors partly left);
}

pub read_is_committed : (geometry : Geometry) (committed : Stored) (device : List History) (root : Root) (tree : Mapping) (dirty : Option (List Bool)) (used : List Place)
    → MayBeReadAs geometry committed None device → IsSettled device → RepresentsState (map newest device) root tree dirty used
    → FitsDevice (length device) root tree used → (root ≡ committed.root) × (with_bits dirty tree.entries ≡ committed.found.entries)
    × (tree.entries ≡ committed.found.mapping.entries) × DeviceStores tree device committed used
read_is_committed geometry committed device root tree dirty used may settled state fits =
    let here = may.represents (map newest device) (read-left device) in
    let same = one_tree (map newest device) root committed.root state.found committed.found state.represents here in
    let stores = stored_read device root tree dirty used settled fits state in (
      same.0,
      state.entries ∙ ap (λ (f : Whole). f.entries) same.1,
      state.mapping_entries ∙ ap (λ (f : Whole). f.mapping.entries) same.1,
      subst (λ (f : Whole). DeviceStores tree device (record { root = committed.root; found = f }) used) same.1
          (subst (λ (r : Root). DeviceStores tree device (record { root = r; found = state.found }) used) same.0 stores),
    )

pub nothing_is_refused : (geometry : Geometry) (committed : Stored) (device : List History) (refusal : Refusal) → MayBeReadAs geometry committed None device
    → SpeaksOfSectors refusal → ¬ IsRefusedBy (map newest device) refusal
nothing_is_refused geometry committed device refusal may speaks =
    not_refused (map newest device) committed.root committed.found refusal (may.represents (map newest device) (read-left device))
    (may.sizes.meta_sectors ∙ sym (length-map device newest ∙ may.size)) speaks
