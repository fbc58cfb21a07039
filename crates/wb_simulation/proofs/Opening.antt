-- Crashes, and the steps of an opening until it reads, are followed.
use Rattle.std.proofs.Common.{◌≡◌, ◌+◌, ◌*◌, ◌∙◌, ◌⊎◌, inl, inr, ℕ, Bool, true, false, List, Option, Some, None, refl, sym, ap, subst, Contains, zero, suc, ◌<◌, ◌==◌, [], ◌∷◌, length, cond, if◌then◌else◌, slice_index_or, arith}
use Rattle.wb_devices.specs.Clean.{AreAllClean}
use Rattle.wb_meta.specs.Conversions.{is_mapped_dirty}
use Rattle.wb_types.specs.declared.geometry.Geometry.{Geometry}
use Rattle.wb_types.specs.declared.mode.Mode.{Mode}
use Rattle.wb_disk.specs.Device.{History, Crashed, synced, newest, entries}
use Rattle.wb_disk.specs.Failing.{synced_where}
use Rattle.wb_contents.specs.Devices.{by_block, CrashLeaves}
use Rattle.wb_contents.specs.Acts.{all_synced, partly_synced}
use Rattle.wb_contents.proofs.Devices.{sync_is_act, failed_sync_is_act, crash_is_act}
use Rattle.wb_meta.specs.Representing.{Stored}
use Rattle.wb_meta.specs.Roots.{IsSettled}
use Rattle.wb_meta.specs.RootLaws.{IsDecided}
use Rattle.wb_meta.proofs.Deciding.{crash_decides, sync_decides, failed_sync_leaves, read_is_committed}
use Rattle.wb_contents.specs.Volume.{at_location}
use Rattle.wb_types.specs.declared.mode.Mode.TheVariants.{Writeback, Writethrough, Passthrough}
use Rattle.wb_promise.specs.Headline.{place_of, cached_from}
use Rattle.wb_devices.specs.declared.devices.Devices.{Devices}
use Rattle.wb_link.specs.World.{Shared}
use Rattle.wb_link.specs.Openings.{Site, AbstractPhase, Gone, Opens, Learnt, Stage, Settling, Caching, Basing, Looking, Rooting, Renewing, Answering, Stopping, Outcome, Settled, Fine, Learns, Refused, Broke, Shown, Stopped, Begins, Advances, Admitted, Yields, advance, advanced, next_phase, abstract_decided}
use Rattle.wb_types.specs.declared.entry.Entry.{Entry}
use Rattle.wb_format.specs.declared.root.Root.{Root}
use Rattle.wb_dirty.specs.ImageReading.{with_bits}
use Rattle.wb_simulation.specs.Opened.{TakesClean, is_clean_in}
use Rattle.wb_simulation.proofs.BitLocations.{located-with_bits}
use Rattle.wb_simulation.specs.Sites.{IsRunning, ImagesAgree, DevicesAgree, LeadsTo, LeadsToOne, OpeningsFollowed, ImagesFollowed, StateTakesClean}
use Rattle.wb_simulation.specs.Worlds.{zeros}

-- what is decided agrees with one image, whichever it is
pub record IsDecidedBy (geometry : Geometry) (committed : Stored) (later : Option Stored) (metadata : List History) (s : Shared) : Type 0 where
  pub new_root : Bool
  pub written : new_root ≡ true → s.root_written ≡ true
  pub state : Stored
  pub one_of : (state ≡ committed) ⊎ (later ≡ Some state)
  pub images : ImagesAgree geometry state None metadata (abstract_decided s new_root)
  pub settled : IsSettled metadata

decides : (geometry : Geometry) (committed : Stored) (later : Option Stored) (old new : List History) (s : Shared) (g : ImagesAgree geometry committed later old s) → IsDecided geometry committed later new → IsDecidedBy geometry committed later new s
decides geometry committed later old new s g d = elim d.1 [
  | inl same ↦ record { new_root = false; written = λ e. absurd (cc); state = committed; one_of = inl refl; images = record { read = same; committed_is = g.committed_is; clean_is = g.clean_is; later_is = tt }; settled = d.0 }
  | inr r ↦
      let runs = subst (λ (o : Option Stored). IsRunning o s) r.1 g.later_is in
      record { new_root = true; written = λ e. runs.0; state = r.0; one_of = inr r.1; images = record { read = r.2; committed_is = runs.1; clean_is = runs.2; later_is = tt }; settled = d.0 }
]

-- the images of a state of which nothing but the data devices is another
same_images : (geometry : Geometry) (committed : Stored) (later : Option Stored) (metadata : List History) (s t : Shared) → t.committed ≡ s.committed → t.running ≡ s.running → t.root_written ≡ s.root_written → t.committed_clean ≡ s.committed_clean → t.running_clean ≡ s.running_clean → ImagesAgree geometry committed later metadata s → ImagesAgree geometry committed later metadata t
same_images geometry committed later metadata s t c r w k l g = record { read = g.read; committed_is = c ∙ g.committed_is; clean_is = subst (StateTakesClean committed) (sym k) g.clean_is; later_is = runs later g.later_is }
  where
    runs : (later : Option Stored) → IsRunning later s → IsRunning later t
    runs None i = tt
    runs (Some state) i = (w ∙ i.0, r ∙ i.1, subst (StateTakesClean state) (sym l) i.2)

pub images_followed : ImagesFollowed
images_followed = record {
  stay = λ geometry committed later old new s t g turn read. same_images geometry committed later new s t turn.0 turn.1 turn.2 turn.3 turn.4 (record { read = read; committed_is = g.committed_is; clean_is = g.clean_is; later_is = g.later_is });
  begin = λ clean geometry committed metadata s t g turn. (record { read = g.read; committed_is = turn.0 ∙ g.committed_is; clean_is = subst (StateTakesClean committed) (sym turn.3) g.clean_is; later_is = tt }, turn.1);
  put = λ geometry committed state later old new s t g turn runs takes read. record { read = read; committed_is = turn.0 ∙ g.committed_is; clean_is = subst (StateTakesClean committed) (sym turn.3) g.clean_is; later_is = (turn.2, turn.1 ∙ runs, subst (StateTakesClean state) (sym turn.4) takes) };
  put_none = λ geometry committed written later old new s t g turn read. record { read = read; committed_is = turn.0 ∙ g.committed_is; clean_is = subst (StateTakesClean committed) (sym turn.3) g.clean_is; later_is = tt };
  end = λ geometry state metadata s t turn runs takes read. record { read = read; committed_is = turn.0 ∙ runs; clean_is = subst (StateTakesClean state) (sym turn.2) takes; later_is = tt };
}

-- an outcome of a stage, which leads to what it does there
module _ (geometry : Geometry) (size : ℕ) (committed : Stored) (later : Option Stored) (mode : Mode) (stage : Stage) (outcome : Outcome) (w : Site) (devices : Devices (List History)) (at : w.phase ≡ Opens mode stage) where
  advances : Yields w.world.shared mode stage outcome → DevicesAgree geometry size committed later devices (advanced w.world.shared mode stage outcome) → LeadsTo geometry size committed later w (next_phase mode stage outcome) devices
  advances y g = record {
    event = Advances outcome;
    may = (mode, stage, at, y);
    phase_is = ap (λ (p : AbstractPhase). (advance w.world p outcome).phase) at;
    agrees = subst (λ (p : AbstractPhase). DevicesAgree geometry size committed later devices (advance w.world p outcome).world.shared) (sym at) g;
  }

module _ (geometry : Geometry) (size : ℕ) (committed : Stored) (later : Option Stored) (w : Site) (devices devices' : Devices (List History)) (g : DevicesAgree geometry size committed later devices w.world.shared) where
  crashes : Crashed devices.metadata devices'.metadata → Crashed devices.cache devices'.cache → Crashed devices.origin devices'.origin → LeadsToOne geometry size committed later w Gone devices'
  crashes m c o = record {
    state = d.state;
    one_of = d.one_of;
    leads = record {
      event = Stopped stopping;
      may = record {
        root = d.written;
        origin = λ b i. subst (λ (f : ℕ → ℕ → History). Contains (entries (f b i)) (newest (by_block size zeros devices'.origin b i))) (sym g.origin) (left_origin.pending b i);
        cache = λ b i. subst (λ (f : ℕ → ℕ → History). Contains (entries (f b i)) (newest (by_block size zeros devices'.cache b i))) (sym g.cache) (left_cache.pending b i);
      };
      phase_is = refl;
      agrees = record { origin = sym left_origin.alone; cache = sym left_cache.alone; images = same_images geometry d.state None devices'.metadata (abstract_decided w.world.shared d.new_root) _ refl refl refl refl refl d.images };
    };
    settled = d.settled;
  }
    where
      left_origin : CrashLeaves (by_block size zeros devices.origin) (by_block size zeros devices'.origin)
      left_origin = crash_is_act size zeros devices.origin devices'.origin o

      left_cache : CrashLeaves (by_block size zeros devices.cache) (by_block size zeros devices'.cache)
      left_cache = crash_is_act size zeros devices.cache devices'.cache c

      d : IsDecidedBy geometry committed later devices'.metadata w.world.shared
      d = decides geometry committed later devices.metadata devices'.metadata w.world.shared g.images (crash_decides geometry committed later devices.metadata devices'.metadata g.images.read m)

      stopping : Stopping
      stopping = record { origin = λ b i. newest (by_block size zeros devices'.origin b i); cache = λ b i. newest (by_block size zeros devices'.cache b i); new_root = d.new_root }

-- what was read is taken as clean as what is stored
pub read_clean : (root : Root) (read : List (Option Entry)) (committed : Stored) (clean : ℕ → Bool) → root ≡ committed.root → read ≡ committed.found.entries → StateTakesClean committed clean → TakesClean root.clean read clean
read_clean root read committed clean same entries takes = subst (λ (r : Root). TakesClean r.clean read clean) (sym same) (subst (λ (es : List (Option Entry)). TakesClean committed.root.clean es clean) (sym entries) takes)

-- where no entry is dirty, that of each block that has one is clean
clean_there : (entries : List (Option Entry)) (c block k : ℕ) → ((i : ℕ) → i < length entries → is_mapped_dirty (slice_index_or entries i None) ≡ false) → cached_from block c entries ≡ Some k → is_clean_in entries block ≡ true
clean_there [] c block k clean e = absurd (cc)
clean_there (None ∷ entries) c block k clean e = clean_there entries (suc c) block k (λ i l. clean (suc i) (omega (arith, l))) e
clean_there (Some entry ∷ entries) c block k clean e = by (entry.origin.0 == block) e (λ f. clean_there entries (suc c) block k (λ i l. clean (suc i) (omega (arith, l))) f)
  where
    by : (t : Bool) → (if t then Some c else cached_from block (suc c) entries) ≡ Some k → (cached_from block (suc c) entries ≡ Some k → is_clean_in entries block ≡ true) → (if t then cond entry.dirty false true else is_clean_in entries block) ≡ true
    by true e later = ap (λ (dirty : Bool). cond dirty false true) (clean zero (omega arith))
    by false e later = later e

-- a mode that caches takes what was read as it is, and passthrough what was left clean
pub admitted : (mode : Mode) (root : Root) (read : List (Option Entry)) (learnt : Learnt) → (mode ≡ Passthrough → (root.clean ≡ true) × AreAllClean read) → learnt.locations ≡ (λ b. place_of read b) → TakesClean root.clean read learnt.clean → Admitted mode learnt
admitted Writeback root read learnt clean located takes = tt
admitted Writethrough root read learnt clean located takes = tt
admitted Passthrough root read learnt clean located takes = λ b k e.
    let there : place_of read b ≡ Some k = sym (ap (λ (f : ℕ → Option ℕ). f b) located) ∙ e in
    takes b k there ∙ ap (λ (t : Bool). cond t (is_clean_in read b) false) (clean refl).0 ∙ clean_there read 0 b k (clean refl).1 there

pub openings_followed : OpeningsFollowed
openings_followed = record {
  crashes = λ geometry size committed later w devices devices' g m c o. crashes geometry size committed later w devices devices' g m c o;
  begins = λ geometry size committed later mode w devices g may. record { event = Begins mode; may = may; phase_is = refl; agrees = g };
  settles = λ geometry size committed later mode w devices at g.
      let d = decides geometry committed later devices.metadata (synced devices.metadata) w.world.shared g.images (sync_decides geometry committed later devices.metadata g.images.read) in
      record { state = d.state; one_of = d.one_of; leads = advances geometry size d.state None mode Settling (Settled d.new_root) w (record devices { metadata = synced devices.metadata }) at d.written (record { origin = g.origin; cache = g.cache; images = d.images }); settled = d.settled };
  settling_fails = λ geometry size committed later mode w devices at g metadata partly.
      advances geometry size committed later mode Settling (Broke (λ b o. false)) w (record devices { metadata = metadata }) at tt
      (record { origin = g.origin; cache = g.cache; images = record { read = failed_sync_leaves geometry committed later devices.metadata metadata g.images.read partly; committed_is = g.images.committed_is; clean_is = g.images.clean_is; later_is = g.images.later_is } });
  syncs_cache = λ geometry size committed later mode w devices at g. advances geometry size committed later mode Caching Fine w (record devices { cache = synced devices.cache }) at tt
      (record { origin = g.origin; cache = ap all_synced g.cache ∙ sym (sync_is_act size zeros devices.cache); images = same_images geometry committed later devices.metadata w.world.shared _ refl refl refl refl refl g.images });
  cache_fails = λ geometry size committed later mode w devices at g lands. advances geometry size committed later mode Caching (Broke (λ b o. lands (b * size + o))) w (record devices { cache = synced_where lands devices.cache }) at tt
      (record { origin = g.origin; cache = ap (partly_synced (λ b o. lands (b * size + o))) g.cache ∙ sym (failed_sync_is_act size zeros lands devices.cache); images = same_images geometry committed later devices.metadata w.world.shared _ refl refl refl refl refl g.images });
  syncs_origin = λ geometry size committed later mode w devices at g. advances geometry size committed later mode Basing Fine w (record devices { origin = synced devices.origin }) at tt
      (record { origin = ap all_synced g.origin ∙ sym (sync_is_act size zeros devices.origin); cache = g.cache; images = same_images geometry committed later devices.metadata w.world.shared _ refl refl refl refl refl g.images });
  origin_fails = λ geometry size committed later mode w devices at g lands. advances geometry size committed later mode Basing (Broke (λ b o. lands (b * size + o))) w (record devices { origin = synced_where lands devices.origin }) at tt
      (record { origin = ap (partly_synced (λ b o. lands (b * size + o))) g.origin ∙ sym (failed_sync_is_act size zeros lands devices.origin); cache = g.cache; images = same_images geometry committed later devices.metadata w.world.shared _ refl refl refl refl refl g.images });
  learns = λ geometry size committed mode w devices root tree dirty used clean at g settled represents fits.
      let learnt : Learnt = record { locations = w.world.shared.committed; clean = w.world.shared.committed_clean } in
      let is = read_is_committed geometry committed devices.metadata root tree dirty used g.images.read settled represents fits in
      let read : List (Option Entry) = with_bits dirty tree.entries in
      let there : learnt.locations ≡ (λ b. place_of read b) = g.images.committed_is ∙ (λ i b. place_of (sym is.1 i) b) in
      let takes = read_clean root read committed learnt.clean is.0 is.1 g.images.clean_is in
      (learnt, there ∙ located-with_bits dirty tree.entries, takes, advances geometry size committed None mode Looking (Learns learnt) w devices at (refl, refl, admitted mode root read learnt clean there takes) g);
  look_stops = λ geometry size committed later mode w devices at g. advances geometry size committed later mode Looking Refused w devices at tt g;
  writes_nodes = λ learnt metadata geometry size committed later mode w devices at g read.
      record { origin = g.origin; cache = g.cache; images = record { read = read; committed_is = g.images.committed_is; clean_is = g.images.clean_is; later_is = g.images.later_is } };
  nodes_fail = λ learnt metadata geometry size committed later mode w devices at g read. advances geometry size committed later mode (Rooting learnt) Refused w (record devices { metadata = metadata }) at tt
      (record { origin = g.origin; cache = g.cache; images = record { read = read; committed_is = g.images.committed_is; clean_is = g.images.clean_is; later_is = g.images.later_is } });
  roots = λ learnt new metadata same none geometry size committed later mode w devices at g read. advances geometry size committed (Some new) mode (Rooting learnt) Fine w (record devices { metadata = metadata }) at tt
      (record { origin = g.origin; cache = g.cache; images = record { read = read; committed_is = g.images.committed_is; clean_is = g.images.clean_is; later_is = (refl, same, none) } });
  root_fails = λ learnt new metadata same none geometry size committed later mode w devices at g read. advances geometry size committed (Some new) mode (Rooting learnt) (Broke (λ b o. false)) w (record devices { metadata = metadata }) at tt
      (record { origin = g.origin; cache = g.cache; images = record { read = read; committed_is = g.images.committed_is; clean_is = g.images.clean_is; later_is = (refl, same, none) } });
  renews = λ learnt metadata geometry size committed later mode w devices at g read. advances geometry size committed later mode (Renewing learnt) Fine w (record devices { metadata = metadata }) at tt
      (record { origin = g.origin; cache = g.cache; images = record { read = read; committed_is = g.images.committed_is; clean_is = g.images.clean_is; later_is = g.images.later_is } });
  renewing_fails = λ learnt metadata geometry size committed later mode w devices at g read. advances geometry size committed later mode (Renewing learnt) (Broke (λ b o. false)) w (record devices { metadata = metadata }) at tt
      (record { origin = g.origin; cache = g.cache; images = record { read = read; committed_is = g.images.committed_is; clean_is = g.images.clean_is; later_is = g.images.later_is } });
  answers = λ learnt new blocks same none free geometry size committed later mode w devices at g read.
      advances geometry size new None mode (Answering learnt) (Shown blocks (λ b o. newest (at_location w.world.shared.origin w.world.shared.cache (learnt.locations b) b o))) w devices at (free, λ b o. refl)
      (record { origin = g.origin; cache = g.cache; images = record { read = read; committed_is = same; clean_is = none; later_is = tt } });
}
