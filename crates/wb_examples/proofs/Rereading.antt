-- A reading of metadata whose newest root is that of a suspend, and names a tree of one node, can be completed: it finds the entry with its dirty
-- bit, whatever that is.
use Rattle.std.proofs.Common.{Global, ◌≡◌, ◌∙◌, ◌≤◌, ◌<◌, ◌+◌, ◌^◌, ◌&&◌, ◌==◌, inl, ℕ, zero, suc, Bool, true, false, List, [], ◌∷◌, Option, Some, None, Ok, Err, refl, sym, ap, subst, arith, length, map, slice_get}
use Rattle.wb_types.specs.declared.mode.Mode.TheVariants.{Passthrough}
use Rattle.wb_types.specs.declared.mode.Mode.{Mode}
use Rattle.std.specs.Prelude.{All, Contains, if◌then◌else◌}
use Rattle.std.specs.List.{IsDistinct}
use Rattle.std.proofs.lemmas.List.Elements.{All-cons, All-nil}
use Rattle.wb_types.proofs.Lists.{Contains-first}
use Rattle.wb_types.specs.Limits.{depth_of}
use Rattle.wb_types.specs.declared.number.Place.{Place}
use Rattle.wb_disk.specs.Device.{Content as Bytes, History, newest}
use Rattle.wb_format.specs.declared.root.Root.{Root}
use Rattle.wb_tree.specs.declared.placed.PlacedNode.{PlacedNode}
use Rattle.wb_tree.specs.Mapping.{IsSound, AreInside, changed, each_from, exists, place_of}
use Rattle.wb_tree.specs.Images.{Stores}
use Rattle.wb_tree.specs.Loading.{Loading, loading_of, frames_rest, outcome, top_node}
use Rattle.wb_tree.specs.Loaded.{IsLoaded}
use Rattle.wb_tree.specs.Reading.{ReadOutcome, Nodes, IsNewestRoot, ◌then◌, node_read, nothing_found, tree_read}
use Rattle.wb_tree.specs.Whole.{found_of, reached_below}
use Rattle.wb_tree.proofs.Reading.Loaded.{loaded_all}
use Rattle.wb_meta.specs.Openings.{reopened}
use Rattle.wb_meta.specs.Reads.{FitsDevice, ReadingGoesOn}
use Rattle.wb_dirty.specs.ImageReading.{bits_behind}
use Rattle.wb_dirty.specs.ImageLoading.{ImageLoading, image_loading}
use Rattle.wb_dirty.specs.ImageLoading.PartRead.{OfMapping}
use Rattle.wb_meta.specs.Representing.{Represents, alone}
use Rattle.wb_meta.specs.Slots.{IsInSlot}
use Rattle.wb_meta.specs.declared.commit_steps.CommitSteps.TheVariants.{NodesSynced}
use Rattle.wb_meta.specs.declared.read_steps.ReadSteps.TheVariants.{FirstSlotRead, RootFound, Done as AllRead}
use Rattle.wb_meta.specs.declared.read_steps.State.{State as Stored}
use Rattle.wb_meta.specs.Sizes.{AreSameSizes}
use Rattle.wb_meta.proofs.Sizes.{own_sizes}
use Rattle.wb_devices.specs.Sizes.{IsServedBy}
use Rattle.wb_devices.proofs.Alike.{serves_alike}
use Rattle.wb_meta.proofs.Storing.{Represents-tree, tree_stored}
use Rattle.wb_meta.proofs.Telling.{told_none}
use Rattle.wb_meta.proofs.Versions.{first_keeps}
use Rattle.wb_devices.specs.declared.running.RunningCommit.{RunningCommit}
use Rattle.wb_devices.specs.Clean.{AreAllClean, IsLeftClean}
use Rattle.wb_tasks.specs.declared.step.Got.TheVariants.{Done, More}
use Rattle.wb_promise.specs.Happenings.{Reaches, DoesRead, IsGeometryAsked}
use Rattle.wb_runs.proofs.Readings.{same_newest}
use Rattle.wb_examples.proofs.Beginning.{no_node}
use Rattle.wb_examples.proofs.Marking.{leaf, leaf_place, stored_tree, stored_mapping, one_node, one_level, geometry, root, roomy, top_is}
use Rattle.wb_examples.proofs.Scenes.{Tiny}
use denote.RawPtr.{null_ptr}

-- where the one node of the tree stands
stands : (dirty : Bool) (level index : ℕ) (place : Place) → place_of (stored_tree dirty) level index ≡ Some place → leaf_place ≡ place
stands dirty level index place e = by_name ((1 == level) && (0 == index)) e
  where
    by_name : (b : Bool) → (if b then Some leaf_place else None) ≡ Some place → leaf_place ≡ place
    by_name true e = cc
    by_name false e = absurd (cc)

-- nothing is left behind an outcome
then_done : (r : Root) (nodes : Nodes) (reading : ReadOutcome) → (reading then frames_rest r nodes []) ≡ reading
then_done r nodes (Ok found) = refl
then_done r nodes (Err place) = refl

reached_here : (dirty : Bool) → reached_below (stored_tree dirty) 1 0 ≡ leaf ∷ []
unfolding reached_below each_from
reached_here dirty = refl

reached_is : (dirty : Bool) → reached_below (stored_tree dirty) (depth_of 1) 0 ≡ leaf ∷ []
reached_is dirty = ap (λ (n : ℕ). reached_below (stored_tree dirty) n 0) one_level ∙ reached_here dirty

has_entry : (dirty : Bool) → exists (stored_tree dirty).entries 1 0 ≡ true
unfolding exists
has_entry dirty = refl

-- no entry is dirty where that one is not
all_clean : (dirty : Bool) → dirty ≡ false → AreAllClean (stored_tree dirty).entries
all_clean dirty e zero l = e
all_clean dirty e (suc block) l = refl

-- what stands on a device by the root of a suspend
pub record StandsOn (P A : Type 0) (t : Tiny P A) (dirty : Bool) (device : List History) : Type 0 where
  pub size : length device ≡ t.meta_sectors
  pub newest_root : IsNewestRoot (map newest device) (root P A t dirty)
  pub stores : Stores (map newest device) (stored_tree dirty) (root P A t dirty).generation
  pub sound : IsSound (stored_tree dirty)
  pub inside : AreInside t.meta_sectors (stored_tree dirty)
  pub none_changed : changed (stored_tree dirty) (depth_of 1) ≡ []
  pub more : (root P A t dirty).generation + 1 < 2 ^ 64

module _ (P A : Type 0) (t : Tiny P A) (dirty : Bool) (device : List History) (on : StandsOn P A t dirty device) where
  abbrev r : Root
  r = root P A t dirty

  -- the root is found, and the node is to be read
  abbrev tree_loader : Loading
  tree_loader = loading_of r [] (nothing_found r).entries (nothing_found r).mapped [] (top_node r)

  abbrev pub loader : ImageLoading
  loader = image_loading r (OfMapping tree_loader)

  abbrev pub stored : Stored A
  stored = record {
    root = r;
    tree = stored_tree dirty;
    dirty = None;
    used = record { ptr = null_ptr; len = 1; cap = 1; alloc = t.global; items = leaf_place ∷ []; ok = (refl, omega arith); small = omega arith };
    nodes = 1;
  }

  loads : (others : Nodes) → outcome tree_loader others ≡ tree_read r others
  loads others = then_done r others (node_read r others (depth_of 1) 0 leaf_place (nothing_found r))

  finds : (alloc : A) (global : Global) (first : Option Root) → IsInSlot (map newest device) 0 first → ReadingGoesOn {A = A} (FirstSlotRead alloc global first) device (RootFound global r loader 0)
  finds alloc global first slot = λ sectors agree has. record {
    newest = same_newest (map newest device) sectors first slot has (agree.here 1 refl) r on.newest_root;
    nodes = λ place. None;
    reached = λ place e. absurd (cc);
    rest = λ others there. ap (λ (reading : ReadOutcome). reading then bits_behind r others r.top_dirty) (loads others);
    mapping = λ others there. loads others;
  }

  asks_own : IsGeometryAsked (geometry P A t) false (geometry P A t)
  asks_own = record { sizes_are = own_sizes (geometry P A t); version = λ room. refl }

  pub root_read : (mode : Mode) (left : ℕ) (alloc : A) (global : Global) (first : Option Root) → IsInSlot (map newest device) 0 first → 1 ≤ left →
      DoesRead {P = P} {A = A} mode (geometry P A t) false left (FirstSlotRead alloc global first) device None More (Reaches (Some (RootFound global r loader 0)) None)
  unfolding IsDistinct
  root_read mode left alloc global first slot some = (
    λ e. absurd (cc),
    inl (
      RootFound global r loader 0,
      finds alloc global first slot,
      (record { size = sym on.size; root_is = refl; used = record { from = tt; to = tt; apart = tt }; told = told_none r loader loads }, refl, refl),
      (geometry P A t, asks_own, inl ((some, refl, (λ known e. let same : r ≡ known = cc in subst (λ (x : Root). AreSameSizes x.geometry (geometry P A t)) same (own_sizes (geometry P A t))), refl), λ passes state e. absurd (cc))),
      refl,
      tt,
      tt,
    ),
  )

  -- sectors that agree with the device where the node stands store the tree too
  stores_there : (sectors : List Bytes) → slice_get sectors leaf_place.0 ≡ slice_get (map newest device) leaf_place.0 → Stores sectors (stored_tree dirty) r.generation
  stores_there sectors same level index place known =
      let s = on.stores level index place known in
      record { sector = s.sector; there = ap (λ (p : Place). slice_get sectors p.0) (sym (stands dirty level index place known)) ∙ same ∙ ap (λ (p : Place). slice_get (map newest device) p.0) (stands dirty level index place known) ∙ s.there; node = s.node; spelled = s.spelled; right = s.right }

  represents : (sectors : List Bytes) → slice_get sectors leaf_place.0 ≡ slice_get (map newest device) leaf_place.0 → IsNewestRoot sectors r → Represents sectors r (alone (found_of r (stored_tree dirty)))
  represents sectors same newest_there =
      Represents-tree sectors r (found_of r (stored_tree dirty)) refl newest_there
      (tree_stored sectors r (stored_tree dirty) (stored_mapping dirty) on.sound on.inside on.none_changed (top_is P A t dirty) (first_keeps r.version (stored_tree dirty) refl) (stores_there sectors same))

  loaded : (nodes : Nodes) → tree_read r nodes ≡ Ok (found_of r (stored_tree dirty)) → IsLoaded r (found_of r (stored_tree dirty)) (stored_tree dirty)
  loaded nodes reads = loaded_all r nodes (found_of r (stored_tree dirty)) (stored_tree dirty) reads refl (sym (reached_is dirty))
      (subst (λ (ns : List PlacedNode). All (λ (n : PlacedNode). exists (stored_tree dirty).entries n.level n.index ≡ true) ns) (sym (reached_is dirty)) (All-cons (λ (n : PlacedNode). exists (stored_tree dirty).entries n.level n.index ≡ true) leaf [] (has_entry dirty) (All-nil _)))

  completes : (global : Global) → ReadingGoesOn {A = A} (RootFound global r loader 0) device (AllRead stored)
  completes global = λ sectors agree has.
      let is = represents sectors (agree.here leaf_place.0 refl) has.newest in
      record {
        found = alone (found_of r (stored_tree dirty));
        represents = is;
        size = sym (agree.size ∙ on.size);
        entries = refl;
        mapping_entries = refl;
        used_are = sym (ap (λ (ns : List PlacedNode). map (λ (n : PlacedNode). n.place) ns) (reached_is dirty));
        loaded = loaded is.nodes is.mapping;
        stores = stores_there sectors (agree.here leaf_place.0 refl);
      }

  fits : FitsDevice (length device) r (stored_tree dirty) (leaf_place ∷ [])
  unfolding IsDistinct
  fits = record {
    size = sym on.size;
    mapping = (stored_mapping dirty);
    sound = on.sound;
    inside = subst (λ (n : ℕ). AreInside n (stored_tree dirty)) (sym on.size) on.inside;
    known_used = λ place at. subst (λ (p : Place). Contains (leaf_place ∷ []) p) (stands dirty at.level at.index place at.known) (Contains-first leaf_place []);
    used_are = record { from = (omega arith, tt); to = (omega (arith, roomy P A t, on.size), tt); apart = (tt, tt) };
    used_few = omega (arith, one_node);
    keeps = first_keeps r.geometry.version (stored_tree dirty) refl;
  }

  abbrev pub next_commit : RunningCommit
  next_commit = record {
    image = record { root = reopened r; nodes = record { ptr = null_ptr; len = 0; cap = 0; alloc = t.global; items = []; ok = (refl, omega arith); small = omega arith } };
    steps = NodesSynced;
    placed = no_node t.meta_sectors (omega (arith, t.within.meta_from));
  }

  -- in passthrough only where it was left clean
  pub all_read : (mode : Mode) → (mode ≡ Passthrough → dirty ≡ false) → (left : ℕ) (global : Global) → DoesRead {P = P} {A = A} mode (geometry P A t) false left (RootFound global r loader 0) device None Done (Reaches (Some (AllRead stored)) (Some next_commit))
  all_read mode clean left global = (
    λ e. absurd (cc),
    inl (
      AllRead stored,
      completes global,
      (fits, omega (arith, roomy P A t, on.size), λ first. omega (arith, one_node), λ first. refl),
      (geometry P A t, asks_own, inl ((refl, (λ known e. let same : r ≡ known = cc in subst (λ (x : Root). IsServedBy x.geometry (geometry P A t)) same (serves_alike (geometry P A t) (geometry P A t) refl)), record { is_done = tt; root = r; newest = refl; next = next_commit; commit_is = refl; opens = record { root_is = refl; no_nodes = refl }; steps = refl }), λ passes state e same. let is : stored ≡ state = cc in subst (λ (x : Stored A). IsLeftClean x) is (refl, all_clean dirty (clean passes)))),
      refl,
      on.more,
      All-nil _,
    ),
  )
