-- What the metadata of every run are read as: one state or, while a commit runs or after it failed, one of two. And what is known of
-- them where no commit runs, while one does, and as far as an opening has read them: between commits they store the desk's tree.
use Rattle.std.proofs.Common.{◌≡◌, ◌∙◌, ◌⊎◌, ◌+◌, ◌++◌, append-nil, inl, inr, ℕ, Bool, true, false, List, Option, Some, None, refl, sym, ap, subst, length, map, if◌then◌else◌}
use Rattle.wb_types.specs.declared.entry.Entry.{Entry}
use Rattle.wb_types.specs.declared.geometry.Geometry.{Geometry}
use Rattle.wb_types.specs.declared.mode.Mode.{Mode}
use Rattle.wb_types.specs.declared.number.Place.{Place}
use Rattle.wb_types.proofs.Versions.{one_version}
use Rattle.wb_types.specs.declared.version.Version.TheVariants.{One}
use Rattle.wb_disk.specs.Device.{History, newest}
use Rattle.std.specs.List.{count_by}
use Rattle.std.specs.Prelude.{is_some}
use Rattle.wb_tree.specs.Mapping.{Mapping, IsSound, AreInside, used_places}
use Rattle.wb_dirty.specs.ImageReading.{with_bits}
use Rattle.wb_tree.specs.Edits.{IsEdited}
use Rattle.wb_tree.proofs.Stored.Edited.{edited-none}
use Rattle.wb_space.specs.Places.{noted, unused, place_count}
use Rattle.wb_format.specs.declared.root.Root.{Root}
use Rattle.wb_meta.specs.declared.read_steps.ReadSteps.{ReadSteps}
use Rattle.wb_meta.specs.declared.read_steps.ReadSteps.TheVariants.{Done as AllRead}
use Rattle.wb_meta.specs.declared.read_steps.State.{State as Stored_there}
use Rattle.wb_meta.specs.declared.commit_steps.CommitSteps.TheVariants.{NodesSynced, NodesWritten}
use Rattle.wb_meta.specs.Representing.{Stored}
use Rattle.wb_meta.specs.Reads.{HasRead, AreStepsOn, FitsDevice}
use Rattle.wb_meta.proofs.Round.{stored_edited}
use Rattle.wb_orders.specs.Orders.{AreOrders}
use Rattle.wb_orders.proofs.Kept.{none_kept}
use Rattle.wb_meta.specs.Openings.{IsOpening}
use Rattle.wb_meta.specs.Sizes.{AreSameSizes}
use Rattle.wb_meta.proofs.Sizes.{alike_sizes, swapped_sizes}
use Rattle.wb_meta.specs.Conversions.{written_anew}
use Rattle.wb_meta.proofs.BitsPlaces.{alone_places}
use Rattle.wb_meta.proofs.Converting.{conversion_begins}
use Rattle.wb_meta.specs.Imaging.{DeviceStores, IsPlanned, IsAllUsed}
use Rattle.wb_policy.specs.Law.{Holdings}
use Rattle.wb_desk.specs.Desks.{DeskState, DeskInvariant}
use Rattle.wb_desk.proofs.Committing.{ended_kept}
use Rattle.wb_desk.proofs.Opened.{opened_kept}
use Rattle.wb_desk.specs.Commits.{HasBegun, beside, commit_begun, commit_broken, next_plan, places_with}
use Rattle.wb_desk.specs.Marks.{entries_shown}
use Rattle.wb_desk.specs.Opening.{opened}
use Rattle.wb_devices.specs.declared.running.RunningCommit.{RunningCommit}
use Rattle.wb_stage.specs.Asking.{ended}
use Rattle.wb_devices.specs.Committing.{is_committed}
use Rattle.wb_devices.specs.Opened.{HasNextRoot}
use Rattle.wb_devices.specs.Converting.{Converts, conversion_plan}
use Rattle.wb_meta.specs.Roots.{Commit, commit_of, opening_of}
use Rattle.wb_meta.proofs.Leading.{commit_begins, opening_begins}
use Rattle.wb_meta.proofs.Deciding.{stored_is_read, read_is_committed}
use Rattle.wb_promise.specs.States.{Phase, Stands, Gone, Opens}
use Rattle.wb_runs.proofs.Sizes.{joined_sizes, read_by_sizes, sized_by}
use Rattle.wb_runs.proofs.Imaged.{begun_desk, geometry_of_image, root_of_image, entries_read}
use Rattle.wb_runs.proofs.Images.{Images, one_image, Ends, Turns}
use Rattle.wb_runs.proofs.Underway.{Readable, Underway, Found, begins_under, underway_readable, found_readable, all_done}

-- of the mapping a policy need know nothing here
abbrev pub unknowing : {P : Type 0} → P → Holdings → Type 0
unknowing policy mapping = Unit {0}

-- No commit runs: the device stores the desk's tree by the root that stands, on the places that the desk has noted.
pub record Quiet {P : Type 0} (g : Geometry) (images : Images) (desk : DeskState P) (device : List History) : Type 0 where
  pub stored : Stored
  pub are : images ≡ one_image stored
  pub used : List Place
  pub stores : DeviceStores desk.tree device stored used
  -- what is read of it stands on them, dirty bits too
  pub all_used : IsAllUsed stored used
  pub places : desk.space.places.committed ≡ noted used (unused (place_count desk.geometry))
  pub generation : desk.generation ≡ stored.root.generation
  pub same : stored.root.geometry ≡ desk.geometry
  pub idle : desk.space.committing ≡ false

-- One runs, that leads to a tree of which edits have made the desk's.
pub record Leading {P : Type 0} (g : Geometry) (images : Images) (desk : DeskState P) (commit : RunningCommit) (device : List History) : Type 0 where
  pub of : Commit
  pub under : Underway g images commit of device
  pub edited : IsEdited of.tree desk.tree
  pub places : desk.space.places.running ≡ noted of.used (unused (place_count desk.geometry))
  pub same : of.new.root.geometry ≡ desk.geometry
  pub generation : of.new.root.generation ≡ desk.generation + 1
  pub busy : desk.space.committing ≡ true

-- One was stopped by a fault, for good.
pub record Broken {P : Type 0} (g : Geometry) (images : Images) (desk : DeskState P) (device : List History) : Type 0 where
  pub readable : Readable g images device
  pub busy : desk.space.committing ≡ true

abbrev pub Standing : {P : Type 0} → Geometry → Images → DeskState P → Option RunningCommit → List History → Type 0
Standing g images desk None device = Quiet g images desk device ⊎ Broken g images desk device
Standing g images desk (Some commit) device = Leading g images desk commit device

-- what holds of a desk of these sizes, whatever its metadata are, in either version
pub record IsDesk {P : Type 0} (g : Geometry) (desk : DeskState P) : Type 0 where
  pub sizes : AreSameSizes desk.geometry g
  pub kept : DeskInvariant unknowing desk
  pub orders : AreOrders desk.orders
  pub sound : IsSound desk.tree

pub record AtDesk {P : Type 0} (g : Geometry) (images : Images) (desk : DeskState P) (commit : Option RunningCommit) (device : List History) : Type 0 where
  pub is : IsDesk g desk
  pub stands : Standing g images desk commit device

-- An opening has read so much.
pub record HasReached {A : Type 0} (g : Geometry) (images : Images) (reading : ReadSteps A) (device : List History) : Type 0 where
  pub found : Found g images device
  pub come : HasRead (map newest device) reading
  pub on : AreStepsOn (length device) reading

-- It has read all, and its root is on its way, and before it the nodes of what is written anew.
pub record Rooting {A : Type 0} (g : Geometry) (images : Images) (reading : ReadSteps A) (commit : RunningCommit) (device : List History) : Type 0 where
  pub stored : Stored_there A
  pub all : reading ≡ AllRead stored
  pub of : Commit
  pub under : Underway g images commit of device
  pub tree : of.tree ≡ stored.tree
  pub used : of.used ≡ stored.used.items
  pub generation : of.new.root.generation ≡ stored.root.generation + 1
  pub entries : of.new.found.entries ≡ stored.tree.entries
  pub unmarked : of.new.root.clean ≡ false
  pub fits : FitsDevice g.meta_sectors stored.root stored.tree stored.used.items
  pub sizes : AreSameSizes stored.root.geometry g
  pub same : of.new.root.geometry ≡ stored.root.geometry

abbrev pub AtOpening : {A : Type 0} → Geometry → Images → Option (ReadSteps A) → Option RunningCommit → List History → Type 0
AtOpening g images None None device = Readable g images device
AtOpening g images None (Some commit) device = ⊥
AtOpening g images (Some reading) None device = HasReached g images reading device
AtOpening g images (Some reading) (Some commit) device = Rooting g images reading commit device

abbrev pub AtGone : Geometry → Images → Option RunningCommit → List History → Type 0
AtGone g images None device = Readable g images device
AtGone g images (Some commit) device = ⊥

-- what is known of the metadata
abbrev pub MetadataKept : {P A : Type 0} → Geometry → Images → Phase P A → Option RunningCommit → List History → Type 0
MetadataKept g images (Stands t) commit device = AtDesk g images t.desk commit device
MetadataKept g images Gone commit device = AtGone g images commit device
MetadataKept g images (Opens mode reading) commit device = AtOpening g images reading commit device

-- ---- they can be read

module _ (g : Geometry) (images : Images) (device : List History) where
  quiet_readable : (P : Type 0) (desk : DeskState P) → IsDesk g desk → Quiet g images desk device → Readable g images device
  quiet_readable P desk is q = subst (λ (i : Images). Readable g i device) (sym q.are) (record {
    read = read_by_sizes q.stored.root.geometry g q.stored None device (sized_by q.stored.root.geometry desk.geometry g q.same is.sizes) (stored_is_read desk.tree device q.stored q.used q.stores);
  })

  standing_readable : (P : Type 0) (desk : DeskState P) (commit : Option RunningCommit) → IsDesk g desk → Standing g images desk commit device → Readable g images device
  standing_readable P desk None is (inl q) = quiet_readable P desk is q
  standing_readable P desk None is (inr b) = b.readable
  standing_readable P desk (Some commit) is l = underway_readable g images commit l.of device l.under

  opening_readable : (A : Type 0) (reading : Option (ReadSteps A)) (commit : Option RunningCommit) → AtOpening g images reading commit device → Readable g images device
  opening_readable A None None k = k
  opening_readable A None (Some commit) k = absurd k
  opening_readable A (Some reading) None k = found_readable g images device k.found
  opening_readable A (Some reading) (Some commit) k = underway_readable g images commit k.of device k.under

  pub kept_readable : (P A : Type 0) (phase : Phase P A) (commit : Option RunningCommit) → MetadataKept g images phase commit device → Readable g images device
  kept_readable P A (Stands t) commit k = standing_readable P t.desk commit k.is k.stands
  kept_readable P A Gone None k = k
  kept_readable P A Gone (Some commit) k = absurd k
  kept_readable P A (Opens mode reading) commit k = opening_readable A reading commit k

-- commits are broken: nothing that is stored changes
module _ (P : Type 0) (g : Geometry) (images : Images) (desk : DeskState P) where
  pub broken_over : (commit : Option RunningCommit) (device : List History) → AtDesk g images desk commit device → AtDesk g images (commit_broken desk) commit device
  broken_over commit device k = record { is = record { sizes = k.is.sizes; kept = let d = k.is.kept in record { mapping = d.mapping; keeps = d.keeps; blocks = d.blocks; slots = d.slots; busy = d.busy; places = d.places; next = d.next; each = d.each; counted = d.counted; numbered = d.numbered; known = d.known }; orders = k.is.orders; sound = k.is.sound }; stands = by_commit commit k.stands }
    where
      by_commit : (commit : Option RunningCommit) → Standing g images desk commit device → Standing g images (commit_broken desk) commit device
      by_commit None (inl q) = inl (record { stored = q.stored; are = q.are; used = q.used; stores = q.stores; all_used = q.all_used; places = q.places; generation = q.generation; same = q.same; idle = q.idle })
      by_commit None (inr b) = inr (record { readable = b.readable; busy = b.busy })
      by_commit (Some c) l = record { of = l.of; under = l.under; edited = l.edited; places = l.places; same = l.same; generation = l.generation; busy = l.busy }

-- ---- a commit begins and ends

module _ (P : Type 0) (g : Geometry) (images : Images) (desk : DeskState P) (device : List History) where
  -- the images, with a commit of which these entries are read
  abbrev LeadsTo : RunningCommit → Mapping → List (Option Entry) → Images → Type 0
  LeadsTo commit tree entries now = AtDesk g now (commit_begun desk tree commit.image) (Some commit) device × ((state : Stored) × (now.running ≡ Some state) × (state.found.entries ≡ entries))

  -- One begins whose image is made of this tree, which the device stores too, and has these bits beside it.
  begins_on : (bits : Option (List Bool)) (imaged : Mapping) (flag : Bool) (commit : RunningCommit) (tree : Mapping) → IsDesk g desk → (q : Quiet g images desk device) → commit.steps ≡ NodesWritten 0 → DeskInvariant unknowing (commit_begun desk tree commit.image)
      → DeviceStores imaged device q.stored q.used → IsPlanned bits imaged tree (next_plan desk imaged flag) commit.image q.used → Turns (LeadsTo commit tree (with_bits bits tree.entries)) images
  begins_on bits imaged flag commit tree k q steps kept stores planned =
      let image = commit.image in
      let plan = next_plan desk imaged flag in
      let both = commit_begins bits imaged tree plan image device q.stored q.used stores planned
      (record { sizes = alike_sizes q.stored.root.geometry desk.geometry q.same; next = ap (λ n. n + 1) q.generation; all_used = q.all_used }) in
      let of = commit_of bits image tree q.stored device in
      begins_under g images commit of (NodesWritten 0) device q.are steps refl both.0 refl both.1 (sized_by q.stored.root.geometry desk.geometry g q.same k.sizes) (λ under. (
        record {
          is = record {
            sizes = k.sizes;
            kept = kept;
            orders = k.orders;
            sound = planned.sound;
          };
          stands = record {
            of = of;
            under = under;
            edited = edited-none tree;
            places = refl;
            same = geometry_of_image bits imaged tree plan image planned.image_is;
            generation = (root_of_image bits imaged tree plan image planned.image_is).0;
            busy = refl;
          };
        },
        (of.new, refl, entries_read bits image tree),
      ))

  -- One begins over a device that stores the desk's tree: its entries are read of it, marked where it is clean.
  pub begins_over : (hint_of : P → ℕ → ℕ) (seen : Option (List Bool)) (commit : RunningCommit) (tree : Mapping) → IsDesk g desk → Quiet g images desk device → commit.steps ≡ NodesWritten 0
      → HasBegun hint_of seen desk commit.image (commit_begun desk tree commit.image) → Turns (LeadsTo commit tree (entries_shown (hint_of desk.policy) seen desk.tree.entries)) images
  begins_over hint_of seen commit tree k q steps begun = subst (λ (es : List (Option Entry)). Turns (LeadsTo commit tree es) images) begun.shown (by_seen seen begun)
    where
      kept : DeskInvariant unknowing (commit_begun desk tree commit.image)
      kept = begun_desk hint_of seen desk tree commit.image unknowing k.kept begun

      by_seen : (seen : Option (List Bool)) → HasBegun hint_of seen desk commit.image (commit_begun desk tree commit.image) → Turns (LeadsTo commit tree (with_bits (beside desk seen) tree.entries)) images
      by_seen None b = begins_on (beside desk None) desk.tree false commit tree k q steps kept q.stores (b.unused q.used q.places)
      by_seen (Some dirty) b =
          let u = b.unused in
          begins_on (beside desk (Some dirty)) u.0 true commit tree k q steps kept (stored_edited desk.tree u.0 device q.stored q.used q.stores u.1.edited u.1.sound) (u.2 q.used q.places)

  -- one that was done ends, and its state is the one image
  pub ends_over : (commit : RunningCommit) → AtDesk g images desk (Some commit) device → is_committed commit.steps ≡ true →
      Turns (λ now. AtDesk g now (ended desk) None device × ((state : Stored) × (images.running ≡ Some state) × (now ≡ one_image state))) images
  ends_over commit k done =
      let l = k.stands in
      let stores = all_done g images commit l.of device l.under done in
      let after = Rattle.wb_desk.specs.Commits.commit_ended desk in
      let is : ended desk ≡ after = ap (λ (t : Bool). if t then after else desk) l.busy in
      record {
        now = one_image l.of.new;
        turn = Ends;
        turned = (l.of.new, ap (λ (i : Images). i.running) l.under.are, refl);
        kept = (
          subst (λ (d : DeskState P). AtDesk g (one_image l.of.new) d None device) (sym is) (record {
            is = record { sizes = k.is.sizes; kept = ended_kept unknowing desk k.is.kept l.busy; orders = k.is.orders; sound = k.is.sound };
            stands = inl (record {
              stored = l.of.new;
              are = refl;
              used = l.of.used;
              stores = stored_edited l.of.tree desk.tree device l.of.new l.of.used stores l.edited k.is.sound;
              all_used = l.under.can.all_used;
              places = l.places;
              generation = sym l.generation;
              same = l.same;
              idle = refl;
            });
          }),
          (l.of.new, ap (λ (i : Images). i.running) l.under.are, refl),
        );
      }

-- ---- an opening reads all, and its target stands

module _ (A : Type 0) (g : Geometry) (images : Images) (device : List History) where
  pub root_begins : (now : ReadSteps A) (commit : Option RunningCommit) → HasReached g images now device → HasNextRoot now commit → Turns (λ i. AtOpening g i (Some now) commit device) images
  root_begins now commit k next = by_reading now k next
    where
      over : (stored : Stored_there A) → HasReached g images (AllRead stored) device → (next : HasNextRoot (AllRead stored) commit) → Turns (λ i. Rooting g i (AllRead stored) next.next device) images
      over stored k next =
          let committed = read_is_committed g k.found.committed device stored.root stored.tree stored.dirty stored.used.items k.found.read k.found.settled k.come k.on.0 in
          let known : stored.root ≡ next.root = cc in
          let image = next.next.image in
          let opens : IsOpening image k.found.committed.root = subst (λ (r : Root). IsOpening image r) (sym known ∙ committed.0) next.opens in
          let both = opening_begins stored.tree image device k.found.committed stored.used.items committed.3 opens in
          let of = opening_of image stored.tree stored.used.items k.found.committed device in
          begins_under g images next.next of NodesSynced device k.found.are next.steps refl both.0 refl both.1 k.found.read.sizes (λ under. record {
            stored = stored;
            all = refl;
            of = of;
            under = under;
            tree = refl;
            used = refl;
            generation = ap (λ (r : Root). r.generation) opens.root_is ∙ ap (λ (r : Root). r.generation + 1) (sym committed.0);
            entries = sym committed.2;
            unmarked = ap (λ (r : Root). r.clean) opens.root_is;
            fits = subst (λ (n : ℕ). FitsDevice n stored.root stored.tree stored.used.items) k.found.read.size k.on.0;
            sizes = sized_by stored.root.geometry k.found.committed.root.geometry g (ap (λ (r : Root). r.geometry) committed.0) k.found.read.sizes;
            same = ap (λ (r : Root). r.geometry) (opens.root_is) ∙ ap (λ (r : Root). r.geometry) (sym committed.0);
          })

      by_reading : (now : ReadSteps A) → HasReached g images now device → HasNextRoot now commit → Turns (λ i. AtOpening g i (Some now) commit device) images
      by_reading (AllRead stored) k next = subst (λ (c : Option RunningCommit). Turns (λ i. AtOpening g i (Some (AllRead stored)) c device) images) (sym next.commit_is) (over stored k next)
      by_reading now k next = absurd next.is_done

  -- what was read is to be written anew: its nodes come first
  pub nodes_begin : (asked : Geometry) (now : ReadSteps A) (nodes : ℕ) (after : Option (ReadSteps A)) (commit : Option RunningCommit) → AreSameSizes asked g → HasReached g images now device → Converts asked now nodes after commit → Turns (λ i. AtOpening g i after commit device) images
  nodes_begin asked now nodes after commit sizes k c = subst (λ (r : Option (ReadSteps A)). Turns (λ i. AtOpening g i r commit device) images) (sym c.after_is)
      (subst (λ (o : Option RunningCommit). Turns (λ i. AtOpening g i (Some (AllRead c.new)) o device) images) (sym c.commit_is) over)
    where
      old : Stored_there A
      old = c.old

      reached : HasReached g images (AllRead old) device
      reached = subst (λ (r : ReadSteps A). HasReached g images r device) c.wants.all_read k

      over : Turns (λ i. Rooting g i (AllRead c.new) c.next device) images
      over =
          let committed = read_is_committed g k.found.committed device old.root old.tree old.dirty old.used.items k.found.read k.found.settled reached.come reached.on.0 in
          let image = c.next.image in
          let to = c.converted in
          let first : k.found.committed.root.version ≡ One = ap (λ (r : Root). r.version) (sym committed.0) ∙ one_version old.root.version old.root.geometry.version old.root.same_version ∙ c.wants.first in
          let alike : AreSameSizes k.found.committed.root.geometry asked = joined_sizes k.found.committed.root.geometry g asked k.found.read.sizes (swapped_sizes asked g sizes) in
          let both = conversion_begins old.tree c.new.tree (conversion_plan asked old) image device k.found.committed old.used.items committed.3 first to.planned alike (ap (λ (r : Root). r.generation + 1) committed.0) in
          let of = commit_of None image c.new.tree k.found.committed device in
          begins_under g images c.next of (NodesWritten 0) device k.found.are c.steps refl both.0 refl both.1 k.found.read.sizes (λ under. record {
            stored = c.new;
            all = refl;
            of = of;
            under = under;
            tree = refl;
            used = ap (λ (ps : List Place). used_places c.new.tree ++ ps) (alone_places (written_anew old.tree) c.new.tree (conversion_plan asked old) image to.planned.image_is) ∙ append-nil (used_places c.new.tree) ∙ sym to.used;
            generation = ap (λ (r : Root). r.generation) to.root.next;
            entries = refl;
            unmarked = ap (λ (r : Root). r.clean) to.root.next;
            fits = subst (λ (n : ℕ). FitsDevice n c.new.root c.new.tree c.new.used.items) sizes.meta_sectors to.fits;
            sizes = sized_by c.new.root.geometry asked g to.root.geometry sizes;
            same = ap (λ (r : Root). r.geometry) to.root.next;
          })

  -- the images after it, whose committed state has the desk's entries, and is not marked clean
  pub target_stands : (P : Type 0) (mode : Mode) (policy : P) (threshold : ℕ) (stored : Stored_there A) (commit : RunningCommit) → Rooting g images (AllRead stored) commit device → is_committed commit.steps ≡ true
      → Turns (λ now. AtDesk g now (opened stored.root.geometry (stored.root.generation + 1) stored.tree stored.used.items mode policy threshold (count_by is_some stored.tree.entries)) None device × (now.committed.found.entries ≡ stored.tree.entries) × (now.committed.root.clean ≡ false)) images
  target_stands P mode policy threshold stored commit k done =
      let stores = all_done g images commit k.of device k.under done in
      let same : k.stored ≡ stored = by_done (k.all) in
      let new_root : k.of.new.root.geometry ≡ stored.root.geometry = k.same ∙ ap (λ (s : Stored_there A). s.root.geometry) same in
      let fits : FitsDevice g.meta_sectors stored.root stored.tree stored.used.items = subst (λ (s : Stored_there A). FitsDevice g.meta_sectors s.root s.tree s.used.items) same k.fits in
      let sizes : AreSameSizes stored.root.geometry g = subst (λ (s : Stored_there A). AreSameSizes s.root.geometry g) same k.sizes in
      record {
        now = one_image k.of.new;
        turn = Ends;
        turned = (k.of.new, ap (λ (i : Images). i.running) k.under.are, refl);
        kept = (
          record {
            is = record {
              sizes = sizes;
              kept = (opened_kept unknowing (record stored.root { generation = stored.root.generation + 1 }) stored.tree stored.used.items mode policy threshold (count_by is_some stored.tree.entries)
                  stored.root.geometry.room
                  (record { size = refl; mapping = fits.mapping; sound = fits.sound; inside = subst (λ (n : ℕ). AreInside n stored.tree) (sym fits.size) fits.inside; known_used = fits.known_used; used_are = subst (λ (n : ℕ). Rattle.wb_meta.specs.Reads.AreApartPlaces n stored.used.items) (sym fits.size) fits.used_are; used_few = fits.used_few; keeps = fits.keeps })
                  tt refl);
              orders = none_kept stored.root.geometry.cache_blocks stored.root.geometry.origin_blocks;
              sound = fits.sound;
            };
            stands = inl (record {
              stored = k.of.new;
              are = refl;
              used = stored.used.items;
              stores = subst (λ (s : Stored_there A). DeviceStores s.tree device k.of.new s.used.items) same
                  (subst (λ (us : List Place). DeviceStores k.stored.tree device k.of.new us) k.used (subst (λ (t : Mapping). DeviceStores t device k.of.new k.of.used) k.tree stores));
              all_used = subst (λ (s : Stored_there A). IsAllUsed k.of.new s.used.items) same (subst (λ (us : List Place). IsAllUsed k.of.new us) k.used k.under.can.all_used);
              places = refl;
              generation = ap (λ (s : Stored_there A). s.root.generation + 1) (sym same) ∙ sym k.generation;
              same = new_root;
              idle = refl;
            });
          },
          k.entries ∙ ap (λ (s : Stored_there A). s.tree.entries) same,
          k.unmarked,
        );
      }
    where
      stored_in : ReadSteps A → Stored_there A
      stored_in (AllRead s) = s
      stored_in other = stored

      by_done : {s : Stored_there A} → AllRead stored ≡ AllRead s → s ≡ stored
      by_done e = sym (ap stored_in e)
