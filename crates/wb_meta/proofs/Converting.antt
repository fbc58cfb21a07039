-- Metadata of the first version written anew in the second: the tree that is written, and its commit.
use Rattle.std.proofs.Common.{◌≡◌, ◌∙◌, ◌+◌, sym, ap, refl, ℕ, List, [], ◌∷◌, Option, Some, None, map, false, arith, Ok}
use Rattle.std.specs.Prelude.{slice_index_or}
use Rattle.std.proofs.lemmas.List.{length-map}
use Rattle.wb_types.specs.declared.entry.Entry.{Entry}
use Rattle.wb_types.specs.declared.number.OBlock.{OBlock}
use Rattle.wb_types.specs.declared.number.Place.{Place}
use Rattle.wb_types.specs.declared.version.Version.TheVariants.{One, Two}
use Rattle.wb_disk.specs.Device.{Content, History, newest}
use Rattle.wb_disk.proofs.Leaving.{read-left}
use Rattle.wb_format.specs.declared.root.Root.{Root}
use Rattle.wb_format.specs.NodeWords.{kept}
use Rattle.wb_tree.specs.declared.image.Image.{Image}
use Rattle.wb_tree.specs.declared.placed.PlacedNode.{PlacedNode}
use Rattle.wb_tree.specs.Mapping.{Mapping, IsMapping, IsSound}
use Rattle.wb_tree.specs.Edits.{IsEdited}
use Rattle.wb_tree.specs.Images.{ImagePlan}
use Rattle.wb_tree.specs.Reading.{Found, ReadOutcome, is_reached}
use Rattle.wb_tree.proofs.Images.PlanSteps.{kept_at}
use Rattle.wb_dirty.specs.ImageReading.{entries_with, with_bits}
use Rattle.wb_meta.specs.declared.commit_steps.CommitSteps.TheVariants.{NodesWritten}
use Rattle.wb_meta.specs.CleanImages.{found_of_image}
use Rattle.wb_meta.specs.Commits.{CommitHasCome}
use Rattle.wb_meta.specs.Conversions.{dirty_bits_of, written_anew}
use Rattle.wb_meta.specs.Imaging.{DeviceStores, IsAllUsed, IsPlanned}
use Rattle.wb_meta.specs.Representing.{Represents, Stored, Whole, all_of, alone}
use Rattle.wb_meta.specs.Roots.{CanBeMade, commit_of}
use Rattle.wb_meta.specs.Sizes.{AreSameSizes}
use Rattle.wb_meta.proofs.ImageFraming.{alone_read}
use Rattle.wb_meta.proofs.Leading.{commit_begins}
use Rattle.wb_meta.proofs.Round.{stored_edited}
use Rattle.wb_meta.proofs.Versions.{first_no_bits}

-- ---- the entries

pub bits_come_back : (entries : List (Option Entry)) → with_bits (Some (dirty_bits_of entries)) (map (kept Two) entries) ≡ entries
unfolding entries_with
bits_come_back [] = refl
bits_come_back (None ∷ entries) = ap (λ (es : List (Option Entry)). None ∷ es) (bits_come_back entries)
bits_come_back (Some entry ∷ entries) = ap (λ (es : List (Option Entry)). Some entry ∷ es) (bits_come_back entries)

-- the entry that lost its dirty bit
record WasKept (o : Option Entry) (entry : Entry) : Type 0 where
  was : Entry
  there : o ≡ Some was
  origin : was.origin ≡ entry.origin
  hint : was.hint ≡ entry.hint

was_kept : (o : Option Entry) (entry : Entry) → kept Two o ≡ Some entry → WasKept o entry
was_kept None entry e = absurd cc
was_kept (Some was) entry e =
    let same : record was { dirty = false } ≡ entry = cc in
    record { was = was; there = refl; origin = ap (λ (x : Entry). x.origin) same; hint = ap (λ (x : Entry). x.hint) same }

entry_was : (entries : List (Option Entry)) (block : ℕ) (entry : Entry) → slice_index_or (map (kept Two) entries) block None ≡ Some entry → WasKept (slice_index_or entries block None) entry
entry_was entries block entry e = was_kept (slice_index_or entries block None) entry (sym (kept_at Two entries block) ∙ e)

pub anew_is_mapping : (cache_blocks origin_blocks : ℕ) (m : Mapping) → IsMapping cache_blocks origin_blocks m.entries → IsMapping cache_blocks origin_blocks (written_anew m).entries
anew_is_mapping cache_blocks origin_blocks m mapping = record {
  size = length-map m.entries (kept Two) ∙ mapping.size;
  within = λ block entry is.
      let one = entry_was m.entries block entry is in
      let may = mapping.within block one.was one.there in
      (omega (arith, may.0, ap (λ (o : OBlock). o.0) one.origin), omega (arith, may.1, one.hint));
  once = λ block other entry same is also alike.
      let one = entry_was m.entries block entry is in
      let two = entry_was m.entries other same also in
      mapping.once block other one.was two.was one.there two.there (one.origin ∙ alike ∙ sym two.origin);
}

-- ---- the tree

pub anew_is_edited : (m : Mapping) → IsEdited m (written_anew m) × IsSound (written_anew m)
anew_is_edited m = (
  record {
    stays = λ level index place e. absurd cc;
    words = λ level index j place e. absurd cc;
  },
  record {
    known_level = λ level index place e. absurd cc;
    known_exist = λ level index place e. absurd cc;
    known_below = λ level index child place some e. absurd cc;
    apart = λ level index level' index' place e. absurd cc;
  },
)

-- ---- its commit

-- by a root that names no dirty bits the mapping alone is read
found_alone : (sectors : List Content) (root : Root) (found : Whole) → root.top_dirty ≡ None → Represents sectors root found → found.reached ≡ found.mapping.reached
found_alone sectors root found none represents =
    let one : ◌≡◌ {A = ReadOutcome} (Ok (all_of (alone found.mapping))) (Ok (all_of found)) = sym (alone_read root represents.nodes found.mapping none represents.mapping) ∙ represents.reads in
    let same : all_of (alone found.mapping) ≡ all_of found = cc in
    ap (λ (f : Found). f.reached) (sym same)

-- so all that the first version reads stands on used places
all_used_first : (m : Mapping) (device : List History) (old : Stored) (used : List Place) → DeviceStores m device old used → old.root.version ≡ One → IsAllUsed old used
all_used_first m device old used stores one place r =
    let same = found_alone (map newest device) old.root old.found (first_no_bits old.root one) (stores.represents (map newest device) (read-left device)) in
    stores.reached_used place (ap (λ (nodes : List PlacedNode). is_reached place.0 nodes) (sym same) ∙ r)

pub conversion_begins : (m n : Mapping) (plan : ImagePlan) (image : Image) (device : List History) (old : Stored) (used : List Place) → DeviceStores m device old used
    → old.root.version ≡ One → IsPlanned None (written_anew m) n plan image used → AreSameSizes old.root.geometry plan.geometry → plan.generation ≡ old.root.generation + 1
    → CanBeMade (commit_of None image n old device) × CommitHasCome image device (NodesWritten 0) device
conversion_begins m n plan image device old used stores one planned sizes next =
    let edited = anew_is_edited m in
    commit_begins None (written_anew m) n plan image device old used (stored_edited m (written_anew m) device old used stores edited.0 edited.1) planned
    (record { sizes = sizes; next = next; all_used = all_used_first m device old used stores one })

pub conversion_keeps : (m n : Mapping) (plan : ImagePlan) (image : Image) (used : List Place) → IsPlanned None (written_anew m) n plan image used
    → with_bits (Some (dirty_bits_of m.entries)) (found_of_image None image n).entries ≡ m.entries
conversion_keeps m n plan image used planned = ap (λ (es : List (Option Entry)). with_bits (Some (dirty_bits_of m.entries)) es) planned.image_is.same_entries ∙ bits_come_back m.entries
