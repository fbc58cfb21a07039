-- Where a desk may begin a commit there is an image to begin it with: the tree has no node, and the image none to write.
use Rattle.std.proofs.Common.{Global, ◌≡◌, ◌∙◌, ◌≤◌, ◌+◌, inl, ℕ, zero, suc, Bool, false, List, [], ◌∷◌, Option, Some, None, refl, sym, ap, subst, arith, length, map, slice_index_or, slice_get, replicate}
use Rattle.std.proofs.lemmas.List.{length-map}
use Rattle.std.proofs.lemmas.List.Elements.{All-nil}
use Rattle.wb_types.specs.declared.entry.Entry.{Entry}
use Rattle.wb_types.specs.declared.geometry.Geometry.{Geometry}
use Rattle.wb_types.specs.declared.number.Place.{Place}
use Rattle.wb_types.proofs.Truth.{yes}
use Rattle.wb_disk.specs.Device.{History}
use Rattle.wb_format.specs.declared.root.Root.{Root}
use Rattle.wb_types.specs.declared.version.Version.{Version}
use Rattle.wb_format.specs.Sizes.{IsTop, MayNameDirty}
use Rattle.wb_meta.specs.Placing.{HavePlaces}
use Rattle.wb_meta.proofs.CleanImaging.{image_places}
use Rattle.wb_tree.specs.declared.image.Image.{Image}
use Rattle.wb_tree.specs.declared.placed.PlacedNode.{PlacedNode}
use Rattle.wb_tree.specs.Mapping.{Mapping, IsSound, place_in, place_of, used_places}
use Rattle.wb_tree.specs.Images.{AreUsed, ImagePlan, IsImage, levels_of}
use Rattle.wb_meta.specs.declared.commit_steps.CommitSteps.TheVariants.{NodesWritten}
use Rattle.wb_desk.specs.Desks.{DeskState}
use Rattle.wb_desk.specs.Commits.{MayBegin, commit_begun, next_plan}
use Rattle.wb_devices.specs.declared.running.RunningCommit.{RunningCommit}
use Rattle.wb_tasks.specs.declared.step.Got.TheVariants.{Began}
use denote.RawPtr.{null_ptr}
use Rattle.wb_promise.specs.Happenings.{Commits, DoesBegin}
use Rattle.wb_runs.proofs.Making.{as_alone}
use Rattle.wb_desk.proofs.Committing.{has_begun}
use Rattle.wb_examples.proofs.Bare.{BareDesk, no_entries, nothing_exists, nothing_changed}
use Rattle.wb_runs.proofs.Metadata.{unknowing}

pub no_entry : (n block : ℕ) (entry : Entry) → slice_index_or (replicate n None) block None ≡ Some entry → ⊥
no_entry zero block entry e = absurd (cc)
no_entry (suc n) zero entry e = absurd (cc)
no_entry (suc n) (suc block) entry e = no_entry n block entry e

-- a sound tree with no entry has no node that stands anywhere
no_place : (g : Geometry) (m : Mapping) → m.entries ≡ no_entries g → IsSound m → (level index : ℕ) (place : Place) → place_of m level index ≡ Some place → ⊥
no_place g m e sound level index place h = absurd (let there = sound.known_exist level index place h in
    let none = subst (λ (es : List (Option Entry)). Rattle.wb_tree.specs.Mapping.exists es level index ≡ false) (sym e) (nothing_exists g.cache_blocks level index) in cc)

-- nor a used place
none_used : (m : Mapping) (known : List PlacedNode) → m.known ≡ known → (cache_blocks : ℕ) → ((level index : ℕ) (place : Place) → place_of m level index ≡ Some place → ⊥) → AreUsed cache_blocks m
none_used m [] same cache_blocks none = record {
  are = λ place. ((λ has. absurd (let e = ap (λ (ks : List PlacedNode). length ks) same in omega (arith, has.1, length-map m.known (λ (n : PlacedNode). n.place), e))), (λ at. absurd (none at.level at.index place at.known)));
  few = omega (arith, length-map m.known (λ (n : PlacedNode). n.place), ap (λ (ks : List PlacedNode). length ks) same);
  once = λ i j place f h. absurd (let e : used_places m ≡ [] = ap (λ (ks : List PlacedNode). map (λ (n : PlacedNode). n.place) ks) same in
      let g : slice_get (used_places m) i ≡ None = ap (λ (ps : List Place). slice_get ps i) e in cc);
}
none_used m (node ∷ known) same cache_blocks none =
    let here : place_in (node ∷ known) node.level node.index ≡ Some node.place = rw (yes node.level, yes node.index) refl in
    absurd (none node.level node.index node.place (ap (λ (ks : List PlacedNode). place_in ks node.level node.index) same ∙ here))

pub no_top : (sectors : ℕ) → IsTop sectors None
no_top sectors p e = absurd (cc)

pub no_dirty : (version : Version) → MayNameDirty version false None
no_dirty version p e = absurd (cc)

pub no_node : (sectors : ℕ) → 2 ≤ sectors → HavePlaces [] sectors
no_node sectors some = record { slots = some; from = λ i node e. absurd (cc); to = λ i node e. absurd (cc); apart = λ i j node other e f h. absurd (cc) }

abbrev pub bare_root : (g : Geometry) (generation : ℕ) → Root
bare_root g generation = record { generation = generation; version = g.version; clean = false; geometry = g; top = None; top_dirty = None; same_version = refl; top_inside = no_top g.meta_sectors; dirty_inside = no_top g.meta_sectors; dirty_clean = no_dirty g.version }

module _ (heap : Global) where
  -- an image of one root, which writes nothing else
  abbrev pub bare_image : Root → Image
  bare_image root = record {
    root = root;
    nodes = record { ptr = null_ptr; len = 0; cap = 0; alloc = heap; items = []; ok = (refl, omega arith); small = omega arith };
  }

  abbrev pub bare_commit : Geometry → ℕ → RunningCommit
  bare_commit g generation = record {
    image = bare_image (bare_root g generation);
    steps = NodesWritten 0;
    placed = no_node g.meta_sectors (omega (arith, g.within.meta_from));
  }

  -- a desk of which a commit of one root runs
  abbrev pub bare_begun : {P : Type 0} → DeskState P → DeskState P
  bare_begun desk = commit_begun desk desk.tree (bare_image (bare_root desk.geometry (desk.generation + 1)))

  is_image : (g : Geometry) (m : Mapping) (plan : ImagePlan) → m.entries ≡ no_entries g → IsSound m → plan.geometry ≡ g → plan.clean ≡ false → IsImage m m plan (bare_image (bare_root g plan.generation))
  is_image g m plan e sound same unclean = record {
    same_entries = refl;
    stays = λ level index place h. h;
    none_changed = nothing_changed g m (levels_of plan) e;
    nodes_are = sym (nothing_changed g m (levels_of plan) e);
    places_are = refl;
    stands = All-nil _;
    generations = All-nil _;
    mappings = All-nil _;
    words = All-nil _;
    used = none_used m m.known refl plan.geometry.cache_blocks (no_place g m e sound);
    comes = λ place at. inl at;
    used_more = omega arith;
    root_generation = refl;
    root_clean = sym unclean;
    root_geometry = sym same;
    root_top = by_top (place_of m (levels_of plan) 0) refl;
    root_no_bits = refl;
  }
    where
      by_top : (o : Option Place) → place_of m (levels_of plan) 0 ≡ o → None ≡ place_of m (levels_of plan) 0
      by_top None h = sym h
      by_top (Some p) h = absurd (no_place g m e sound (levels_of plan) 0 p h)

  module _ (P A : Type 0) (g : Geometry) (desk : DeskState P) (device : List History) (bare : BareDesk P g desk device) where
    planned : IsImage desk.tree desk.tree (next_plan desk desk.tree false) (bare_image (bare_root g (desk.generation + 1)))
    planned = is_image g desk.tree (next_plan desk desk.tree false) bare.entries bare.known.is.sound bare.geometry refl

    -- a commit that may begin can begin
    pub begins_bare : (most : ℕ) → MayBegin desk → DoesBegin {P = P} {A = A} None most desk (Began 0) (Commits (bare_commit g (desk.generation + 1)) desk.tree)
    begins_bare most may = (
      omega arith,
      refl,
      refl,
      (
        (λ policy block. 0),
        has_begun unknowing (λ (bits : List Bool). bits) desk (λ policy block. 0) None desk.tree (desk.generation + 1) (bare_image (bare_root g (desk.generation + 1))) bare.known.is.kept may refl (λ e. absurd (cc)) image_places
            (as_alone desk.geometry.version desk.tree.entries desk.tree desk.tree (next_plan desk desk.tree false) (bare_image (bare_root g (desk.generation + 1))) planned)
            bare.known.is.kept.mapping bare.known.is.sound bare.known.is.kept.places.inside,
      ),
      All-nil _,
    )
