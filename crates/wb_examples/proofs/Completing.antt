-- A reading of metadata whose root names no tree, as that of formatted ones does, can be completed: nothing is cached.
use Rattle.std.proofs.Common.{Global, ◌≡◌, ◌∙◌, ◌⊎◌, ℕ, Bool, false, true, List, [], Option, Some, None, Ok, refl, sym, ap, subst, arith, length, map, inl, inr, if◌then◌else◌, ◌≢◌}
use Rattle.std.proofs.lemmas.Bool.{le-leb}
use Rattle.std.proofs.lemmas.List.Elements.{All-nil}
use Rattle.wb_types.specs.declared.version.Version.{Version}
use Rattle.wb_types.specs.declared.version.Version.TheVariants.{One, Two}
use Rattle.wb_types.specs.declared.refusal.Refusal.TheVariants.{Geometry as TooSmall}
use Rattle.wb_meta.specs.Sizes.{AreSameSizes}
use Rattle.wb_meta.proofs.Sizes.{swapped_sizes}
use Rattle.wb_types.specs.declared.mode.Mode.TheVariants.{Passthrough}
use Rattle.wb_types.specs.declared.mode.Mode.{Mode}
use Rattle.std.specs.List.{IsDistinct}
use Rattle.std.proofs.lemmas.List.{length-replicate}
use Rattle.wb_types.specs.declared.entry.Entry.{Entry}
use Rattle.wb_types.specs.declared.geometry.Geometry.{Geometry}
use Rattle.wb_types.specs.declared.number.Place.{Place}
use Rattle.wb_disk.specs.Device.{Content as Bytes, History, newest}
use Rattle.wb_disk.proofs.Leaving.{read-left}
use Rattle.wb_format.specs.declared.root.Root.{Root}
use Rattle.wb_tree.specs.Mapping.{IsSound, empty_mapping}
use Rattle.wb_tree.specs.Reading.{Nodes, IsNewestRoot, nothing_found, tree_read, top_read}
use Rattle.wb_tree.specs.Loaded.{IsLoaded}
use Rattle.wb_meta.specs.Openings.{reopened}
use Rattle.wb_meta.specs.Slots.{IsInSlot}
use Rattle.wb_meta.specs.Representing.{alone}
use Rattle.wb_meta.specs.States.{RepresentsState}
use Rattle.wb_meta.proofs.ImageFraming.{alone_read}
use Rattle.wb_meta.specs.Reads.{FitsDevice, ReadingGoesOn}
use Rattle.wb_meta.specs.declared.read_steps.ReadSteps.TheVariants.{FirstSlotRead, Done as AllRead}
use Rattle.wb_meta.specs.declared.read_steps.State.{State as Stored}
use Rattle.wb_meta.specs.declared.commit_steps.CommitSteps.TheVariants.{NodesSynced}
use Rattle.wb_tree.proofs.Images.PlanSteps.{kept_nones}
use Rattle.wb_devices.specs.Sizes.{IsServedBy}
use Rattle.wb_devices.specs.declared.running.RunningCommit.{RunningCommit}
use Rattle.wb_tasks.specs.declared.step.Got.TheVariants.{Done}
use Rattle.wb_promise.specs.Happenings.{Reaches, DoesRead, has_room_for}
use Rattle.wb_examples.proofs.Bare.{nothing_changed}
use Rattle.wb_examples.proofs.Beginning.{no_entry, no_node}
use Rattle.wb_runs.proofs.Readings.{geometry_asked, same_newest}
use Rattle.wb_runs.proofs.Formatted.{HasNoTree}
use denote.RawPtr.{null_ptr}

-- the sizes have room for the first version, so an opening that asks for it may start
has_room : (g : Geometry) → has_room_for false g ≡ true
has_room g = le-leb _ g.meta_sectors (omega (arith, g.within.meta_from))

pub room_for_first : (g : Geometry) → (if has_room_for false g then None else Some TooSmall) ≡ None
room_for_first g = ap (λ (room : Bool). if room then None else Some TooSmall) (has_room g)

-- what it asks for
abbrev pub asked : Geometry → Geometry
asked g = (geometry_asked g false).0

-- metadata of either version serve it
served : (found g : Geometry) → found ≡ g → IsServedBy found (asked g)
served found g same =
    let is = (geometry_asked g false).1 in
    record { sizes = subst (λ (x : Geometry). AreSameSizes x (asked g)) (sym same) (swapped_sizes (asked g) g is.sizes_are); version = by_version found.version refl }
  where
    by_version : (v : Version) → found.version ≡ v → (found.version ≡ (asked g).version) ⊎ (found.version ≡ Two)
    by_version One e = inl (e ∙ sym ((geometry_asked g false).1.version (has_room g)))
    by_version Two e = inr e

-- a tree with no entry that knows no node
pub empty_sound : (n : ℕ) → IsSound (empty_mapping n)
empty_sound n = record {
  known_level = λ level index place h. absurd (cc);
  known_exist = λ level index place h. absurd (cc);
  known_below = λ level index child place l h. absurd (cc);
  apart = λ level index level' index' place h. absurd (cc);
}

module _ (A : Type 0) (heap : Global) (g : Geometry) (device : List History) (bare : HasNoTree g device) (size : length device ≡ g.meta_sectors) where
  abbrev root : Root
  root = bare.root

  abbrev pub stored : Stored A
  stored = record {
    root = root;
    tree = empty_mapping root.geometry.cache_blocks;
    dirty = None;
    used = record { ptr = null_ptr; len = 0; cap = 0; alloc = heap; items = []; ok = (refl, omega arith); small = omega arith };
    nodes = 0;
  }

  root_size : root.geometry.meta_sectors ≡ length device
  root_size = ap (λ (x : Geometry). x.meta_sectors) bare.geometry_is ∙ sym size

  nothing_read : (nodes : Nodes) → tree_read root nodes ≡ Ok (nothing_found root)
  nothing_read nodes = ap (λ (top : Option Place). top_read root nodes top) bare.top

  loaded : IsLoaded root (nothing_found root) (empty_mapping root.geometry.cache_blocks)
  loaded = record {
    sound = empty_sound root.geometry.cache_blocks;
    inside = λ place at. absurd (let h = at.known in cc);
    reached = λ place at. absurd (let h = at.known in cc);
    read = λ nodes e level index place h. absurd (cc);
    few = omega arith;
    none_changed = λ have. nothing_changed root.geometry (empty_mapping root.geometry.cache_blocks) _ refl;
  }

  newest_root : IsNewestRoot (map newest device) root
  newest_root = (bare.represents (map newest device) (read-left device)).newest

  state_read : (sectors : List Bytes) → IsNewestRoot sectors root → length sectors ≡ length device → RepresentsState sectors root (empty_mapping root.geometry.cache_blocks) None []
  state_read sectors n same = record {
    found = alone (nothing_found root);
    represents = record {
      newest = n;
      nodes = λ place. None;
      reached = λ place e. absurd (cc);
      reads = alone_read root (λ place. None) (nothing_found root) bare.no_bits (nothing_read (λ place. None));
      mapping = nothing_read (λ place. None);
    };
    size = root_size ∙ sym same;
    entries = refl;
    mapping_entries = refl;
    used_are = refl;
    loaded = loaded;
    stores = λ level index place h. absurd (cc);
  }

  completes : (alloc : A) (global : Global) (first : Option Root) → IsInSlot (map newest device) 0 first → ReadingGoesOn {A = A} (FirstSlotRead alloc global first) device (AllRead stored)
  completes alloc global first slot = λ sectors agree has. state_read sectors (same_newest (map newest device) sectors first slot has (agree.here 1 refl) root newest_root) agree.size

  fits : FitsDevice (length device) root (empty_mapping root.geometry.cache_blocks) []
  unfolding IsDistinct
  fits = record {
    size = root_size;
    mapping = record {
      size = length-replicate root.geometry.cache_blocks None;
      within = λ block entry e. absurd (no_entry root.geometry.cache_blocks block entry e);
      once = λ block other entry same e f h. absurd (no_entry root.geometry.cache_blocks block entry e);
    };
    sound = empty_sound root.geometry.cache_blocks;
    inside = λ place at. absurd (let h = at.known in cc);
    known_used = λ place at. absurd (let h = at.known in cc);
    used_are = record { from = tt; to = tt; apart = tt };
    used_few = omega arith;
    keeps = ap (λ (es : List (Option Entry)). record (empty_mapping root.geometry.cache_blocks) { entries = es }) (kept_nones root.geometry.version root.geometry.cache_blocks);
  }

  abbrev pub next_commit : RunningCommit
  next_commit = record {
    image = record {
      root = reopened root;
      nodes = record { ptr = null_ptr; len = 0; cap = 0; alloc = heap; items = []; ok = (refl, omega arith); small = omega arith };
    };
    steps = NodesSynced;
    placed = no_node root.geometry.meta_sectors (omega (arith, root.geometry.within.meta_from));
  }

  pub all_read : (P : Type 0) (mode : Mode) → mode ≢ Passthrough → (left : ℕ) (alloc : A) (global : Global) (first : Option Root) → IsInSlot (map newest device) 0 first →
      DoesRead {P = P} {A = A} mode g false left (FirstSlotRead alloc global first) device None Done (Reaches (Some (AllRead stored)) (Some next_commit))
  all_read P mode caches left alloc global first slot = (
    λ e. absurd (cc),
    inl (
      AllRead stored,
      completes alloc global first slot,
      (fits, omega (arith, root_size, root.geometry.within.meta_from), λ first. omega arith, λ first. refl),
      (asked g, (geometry_asked g false).1, inl ((refl, (λ r e. let same : root ≡ r = cc in subst (λ (x : Root). IsServedBy x.geometry (asked g)) same (served root.geometry g bare.geometry_is)), record { is_done = tt; root = root; newest = refl; next = next_commit; commit_is = refl; opens = record { root_is = refl; no_nodes = refl }; steps = refl }), λ passes. absurd (caches passes))),
      refl,
      omega (arith, bare.more),
      All-nil _,
    ),
  )
