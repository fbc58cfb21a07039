-- What an opening would show is allowed, where each content that a crash may leave is an entry of its sector's history at its floor or later;
-- so it is whatever a crash leaves, by either of the two states.
use Rattle.std.proofs.Common.{◌≡◌, ◌∙◌, ◌<◌, ◌≤◌, ◌+◌, ◌*◌, ◌/◌, ◌%◌, ℕ, zero, suc, List, [], ◌∷◌, Option, Some, None, refl, sym, ap, subst, arith, length, slice_get, unwrap_or, Contains, mul_comm, zero-mul, ◌⊎◌, inl, inr}
use Rattle.std.proofs.Math.Nat.{div-add-mod', mod-lt, mul-le-mul_right}
use Rattle.std.proofs.lemmas.Bool.{lt-ltb}
use Rattle.std.proofs.lemmas.List.{length-map}
use Rattle.wb_types.specs.declared.entry.Entry.{Entry}
use Rattle.wb_types.specs.Extents.{rising}
use Rattle.wb_types.proofs.Lists.{map_there}
use Rattle.wb_disk.specs.Device.{Content, History, entries, Content as Bytes}
use Rattle.wb_disk.specs.Crashes.{MayLeave}
use Rattle.wb_contents.specs.Devices.{by_block}
use Rattle.wb_contents.specs.Volume.{at_location}
use Rattle.wb_contents.specs.Promises.{IsEntryFrom}
use Rattle.wb_contents.proofs.Devices.{is_there}
use Rattle.wb_tree.specs.Mapping.{IsMapping}
use Rattle.wb_devices.specs.declared.devices.Devices.{Devices}
use Rattle.wb_promise.specs.States.{Shape, sector_count, cache_sector_count, block_size, State}
use Rattle.wb_promise.specs.Clerk.{Notes}
use Rattle.wb_promise.specs.Headline.{place_of, content_of, shown_by, IsAllowed, IsAllowedAt, ShowsAllowed, ShowsOpened, CrashConsistent}
use Rattle.wb_link.specs.Clerk.{AbstractNotes}
use Rattle.wb_simulation.specs.Noting.{counts_by_block}
use Rattle.wb_simulation.specs.Worlds.{zeros}
use Rattle.wb_simulation.proofs.Opened.{found_at}
use Rattle.wb_types.specs.declared.geometry.Geometry.{Geometry}
use Rattle.wb_simulation.proofs.BitLocations.{image_mapping}
use Rattle.wb_meta.specs.Representing.{Represents, Stored, all_of}
use Rattle.wb_meta.specs.Roots.{AreOneOf, StoredIsOf}
use Rattle.wb_meta.specs.Sizes.{AreSameSizes}
use Rattle.wb_runs.proofs.Images.{Images}
use Rattle.wb_runs.proofs.Metadata.{MetadataKept}
use Rattle.wb_link.specs.Openings.{Site}
use Rattle.wb_simulation.specs.Sites.{DevicesAgree, IsRunning, locations}
use Rattle.wb_headline.proofs.Events.{Reached, committed_allowed, running_allowed}
use Rattle.wb_headline.proofs.Following.{many, size, Followed}
use Rattle.wb_headline.proofs.Arriving.{agreeing}
use Rattle.wb_contents.proofs.Lists.{there_is as there}

pub length-rising : (first count : ℕ) → length (rising first count) ≡ count
length-rising first zero = refl
length-rising first (suc count) = ap suc (length-rising (first + 1) count)

-- where there is a sector a block has some
some_block : (shape : Shape) (at : ℕ) → at < sector_count shape → 0 < block_size shape
some_block shape at l = by_size (block_size shape) refl
  where
    none : block_size shape ≡ 0 → ⊥
    none z = let k : sector_count shape ≡ 0 = ap (λ v. v * shape.geometry.origin_blocks) z ∙ zero-mul shape.geometry.origin_blocks in omega (arith, l, k)

    by_size : (b : ℕ) → block_size shape ≡ b → 0 < block_size shape
    by_size zero e = absurd (none e)
    by_size (suc b) e = omega (arith, e)

-- what stands in a rising list
rising_at : (first count i x : ℕ) → slice_get (rising first count) i ≡ Some x → (x ≡ first + i) × (i < count)
rising_at first zero i x e = absurd (cc)
rising_at first (suc count) zero x e = let same : first ≡ x = cc in (omega (arith, same), omega arith)
rising_at first (suc count) (suc i) x e = let r = rising_at (first + 1) count i x e in (let f = r.0 in omega (arith, f), let l = r.1 in omega (arith, l))

module _ (shape : Shape) (n : Notes) (m : AbstractNotes) (histories : m.histories ≡ by_block (block_size shape) zeros n.histories) (floors : m.floors ≡ counts_by_block (block_size shape) n.floors) (many : length n.histories ≡ sector_count shape) where
  -- an entry of a sector's history there is one here
  allowed_at : (at : ℕ) (c : Content) → at < sector_count shape → IsEntryFrom (m.floors (at / block_size shape) (at % block_size shape)) (m.histories (at / block_size shape) (at % block_size shape)) c → IsAllowedAt n at c
  allowed_at at c l e =
      let h = there n.histories at (subst (λ (k : ℕ). at < k) (sym many) l) in
      let o_less = mod-lt at (some_block shape at l) in
      let where_at : at / block_size shape * block_size shape + at % block_size shape ≡ at = div-add-mod' at (block_size shape) in
      let found : slice_get n.histories (at / block_size shape * block_size shape + at % block_size shape) ≡ Some h.0 = ap (λ k. slice_get n.histories k) where_at ∙ h.1 in
      let history : m.histories (at / block_size shape) (at % block_size shape) ≡ h.0 = ap (λ f. f (at / block_size shape) (at % block_size shape)) histories ∙ is_there (block_size shape) zeros n.histories (at / block_size shape) (at % block_size shape) h.0 o_less found in
      let floor : m.floors (at / block_size shape) (at % block_size shape) ≡ unwrap_or (slice_get n.floors at) 0 = ap (λ f. f (at / block_size shape) (at % block_size shape)) floors
      ∙ ap (λ t. Rattle.std.proofs.Common.cond t (unwrap_or (slice_get n.floors (at / block_size shape * block_size shape + at % block_size shape)) 0) 0) (lt-ltb (at % block_size shape) (block_size shape) o_less) ∙ ap (λ k. unwrap_or (slice_get n.floors k) 0) where_at in
      subst (λ (g : Option History). IsAllowed g (unwrap_or (slice_get n.floors at) 0) c) (sym h.1)
      (subst (λ (g : History). IsEntryFrom (unwrap_or (slice_get n.floors at) 0) g c) history (subst (λ (k : ℕ). IsEntryFrom k (m.histories (at / block_size shape) (at % block_size shape)) c) floor e))

  module _ (devices : Devices (List History)) (cache_size : length devices.cache ≡ cache_sector_count shape) (origin_size : length devices.origin ≡ sector_count shape) (tree : List (Option Entry)) (mapping : IsMapping shape.geometry.cache_blocks shape.geometry.origin_blocks tree)
      (all : (b o : ℕ) (c : Content) → Contains (entries (at_location (by_block (block_size shape) zeros devices.origin) (by_block (block_size shape) zeros devices.cache) (place_of tree b) b o)) c → IsEntryFrom (m.floors b o) (m.histories b o) c)
      (cache origin : List Content) (left_cache : MayLeave devices.cache cache) (left_origin : MayLeave devices.origin origin) where
    -- a content of a sector of a device is pending there
    pending : (device : List History) (sectors : List Content) → MayLeave device sectors → (b o : ℕ) → o < block_size shape → b * block_size shape + o < length device →
        Contains (entries (by_block (block_size shape) zeros device b o)) (unwrap_or (slice_get sectors (b * block_size shape + o)) [])
    pending device sectors left b o l inside =
        let h = there device (b * block_size shape + o) inside in
        let c = there sectors (b * block_size shape + o) (subst (λ (k : ℕ). b * block_size shape + o < k) (sym left.size) inside) in
        let is : unwrap_or (slice_get sectors (b * block_size shape + o)) [] ≡ c.0 = ap (λ (x : Option Content). unwrap_or x []) c.1 in
        subst (λ (x : Content). Contains (entries (by_block (block_size shape) zeros device b o)) x) (sym is)
        (subst (λ (g : History). Contains (entries g) c.0) (sym (is_there (block_size shape) zeros device b o h.0 l h.1)) (left.each (b * block_size shape + o) h.0 c.0 h.1 c.1))

    sector_allowed : (at : ℕ) → at < sector_count shape → IsAllowedAt n at (unwrap_or (content_of shape (place_of tree (at / block_size shape)) cache origin at) [])
    sector_allowed at l = by_place (place_of tree (at / block_size shape)) refl
      where
        o_less : at % block_size shape < block_size shape
        o_less = mod-lt at (some_block shape at l)

        where_at : at / block_size shape * block_size shape + at % block_size shape ≡ at
        where_at = div-add-mod' at (block_size shape)

        in_place : (p : Option ℕ) → place_of tree (at / block_size shape) ≡ p → Contains (entries (at_location (by_block (block_size shape) zeros devices.origin) (by_block (block_size shape) zeros devices.cache) p (at / block_size shape) (at % block_size shape))) (unwrap_or (content_of shape p cache origin at) []) →
            IsAllowedAt n at (unwrap_or (content_of shape p cache origin at) [])
        in_place p e c = allowed_at at (unwrap_or (content_of shape p cache origin at) []) l (all (at / block_size shape) (at % block_size shape) (unwrap_or (content_of shape p cache origin at) [])
            (subst (λ (q : Option ℕ). Contains (entries (at_location (by_block (block_size shape) zeros devices.origin) (by_block (block_size shape) zeros devices.cache) q (at / block_size shape) (at % block_size shape))) (unwrap_or (content_of shape p cache origin at) [])) (sym e) c))

        by_place : (p : Option ℕ) → place_of tree (at / block_size shape) ≡ p → IsAllowedAt n at (unwrap_or (content_of shape (place_of tree (at / block_size shape)) cache origin at) [])
        by_place None e = subst (λ (q : Option ℕ). IsAllowedAt n at (unwrap_or (content_of shape q cache origin at) [])) (sym e) (in_place None e
            (subst (λ (k : ℕ). Contains (entries (by_block (block_size shape) zeros devices.origin (at / block_size shape) (at % block_size shape))) (unwrap_or (slice_get origin k) [])) where_at
            (pending devices.origin origin left_origin (at / block_size shape) (at % block_size shape) o_less (subst (λ (k : ℕ). k < length devices.origin) (sym where_at) (subst (λ (k : ℕ). at < k) (sym origin_size) l)))))
        by_place (Some k) e =
            let f = found_at tree (at / block_size shape) 0 k e in
            let inside : k < shape.geometry.cache_blocks = (let is = f.2 in let less = f.3 in let size = mapping.size in omega (arith, is, less, size)) in
            let room : k * block_size shape + at % block_size shape < length devices.cache = subst (λ (v : ℕ). k * block_size shape + at % block_size shape < v) (sym cache_size) (in_blocks k shape.geometry.cache_blocks inside) in
            subst (λ (q : Option ℕ). IsAllowedAt n at (unwrap_or (content_of shape q cache origin at) [])) (sym e) (in_place (Some k) e (pending devices.cache cache left_cache k (at % block_size shape) o_less room))
          where
            in_blocks : (k blocks : ℕ) → k < blocks → k * block_size shape + at % block_size shape < block_size shape * blocks
            in_blocks k blocks less =
                let m1 : (k + 1) * block_size shape ≤ blocks * block_size shape = mul-le-mul_right (block_size shape) (omega (arith, less)) in
                omega (arith, m1, o_less, mul_comm (block_size shape) blocks)

    pub shows_allowed : ShowsAllowed n (shown_by shape tree cache origin)
    shows_allowed = record {
      all = length-map (rising 0 (sector_count shape)) (λ at. unwrap_or (content_of shape (place_of tree (at / block_size shape)) cache origin at) []) ∙ length-rising 0 (sector_count shape) ∙ sym many;
      each = λ at c e.
          let w = map_there (λ at. unwrap_or (content_of shape (place_of tree (at / block_size shape)) cache origin at) []) (rising 0 (sector_count shape)) at c e in
          let r = rising_at 0 (sector_count shape) at w.0 w.1 in
          let same : w.0 ≡ at = (let f = r.0 in omega (arith, f)) in
          subst (λ (x : Content). IsAllowedAt n at x) (sym (w.2 ∙ ap (λ k. unwrap_or (content_of shape (place_of tree (k / block_size shape)) cache origin k) []) same)) (sector_allowed at r.1);
    }

-- each content that is pending where a state has a block is allowed, if the metadata may be read as that state
pub state_allowed : (sectors actors : ℕ) (g : Geometry) (v : Site) (m : AbstractNotes) (committed : Stored) (later : Option Stored) (devices : Devices (List History)) (state : Stored) → Reached sectors actors v m → DevicesAgree g sectors committed later devices v.world.shared → (state ≡ committed) ⊎ (later ≡ Some state) → (b o : ℕ) (c : Bytes) →
    Contains (entries (at_location (by_block sectors zeros devices.origin) (by_block sectors zeros devices.cache) (locations state b) b o)) c → IsEntryFrom (m.floors b o) (m.histories b o) c
state_allowed sectors actors g v m committed later devices state r d (inl e) b o c k =
    committed_allowed sectors actors v m r b o c (subst (λ (h : History). Contains (entries h) c) (sym (
    ap (λ f. at_location f v.world.shared.cache (v.world.shared.committed b) b o) d.origin ∙ ap (λ f. at_location (by_block sectors zeros devices.origin) f (v.world.shared.committed b) b o) d.cache
    ∙ ap (λ l. at_location (by_block sectors zeros devices.origin) (by_block sectors zeros devices.cache) (l b) b o) (d.images.committed_is ∙ ap locations (sym e)))) k)
state_allowed sectors actors g v m committed later devices state r d (inr e) b o c k =
    let runs = subst (λ (l : Option Stored). IsRunning l v.world.shared) e d.images.later_is in
    running_allowed sectors actors v m r runs.0 b o c (subst (λ (h : History). Contains (entries h) c) (sym (
    ap (λ f. at_location f v.world.shared.cache (v.world.shared.running b) b o) d.origin ∙ ap (λ f. at_location (by_block sectors zeros devices.origin) f (v.world.shared.running b) b o) d.cache
    ∙ ap (λ l. at_location (by_block sectors zeros devices.origin) (by_block sectors zeros devices.cache) (l b) b o) runs.1)) k)

-- a mapping of as many blocks
pub sized_mapping : (one other : Geometry) (entries : List (Option Entry)) → AreSameSizes one other → IsMapping one.cache_blocks one.origin_blocks entries → IsMapping other.cache_blocks other.origin_blocks entries
sized_mapping one other entries same mapping = subst (λ (blocks : ℕ). IsMapping other.cache_blocks blocks entries) same.origin_blocks (subst (λ (blocks : ℕ). IsMapping blocks one.origin_blocks entries) same.cache_blocks mapping)

-- a state that is represented has each block once
mapping_of : (g : Geometry) (sectors : List Bytes) (state : Stored) → Represents sectors state.root state.found → AreSameSizes state.root.geometry g → IsMapping g.cache_blocks g.origin_blocks state.found.entries
mapping_of g sectors state r same = sized_mapping state.root.geometry g state.found.entries same (image_mapping state.root r.nodes state.found.mapping (all_of state.found) r.reads r.mapping)

module _ (P A : Type 0) (shape : Shape) (images : Images) (w : State P A) (n : Notes) (known : MetadataKept shape.geometry images w.phase w.commit w.devices.metadata) (f : Followed P A shape images w n) (cache_size : length w.devices.cache ≡ cache_sector_count shape) (origin_size : length w.devices.origin ≡ sector_count shape) where
  pub crash_consistent : CrashConsistent shape n w.devices
  crash_consistent metadata cache origin left_metadata left_cache left_origin = by_state d.later d.agree (d.agree.images.read.represents metadata left_metadata) d.agree.images.read.later_sizes
    where
      d : Rattle.wb_headline.proofs.Arriving.Agreeing P A shape images w.devices f.site
      d = agreeing P A shape images w.phase w.commit w.devices w.actors f.site known f.phase

      shows : (state : Stored) (later : Option Stored) → DevicesAgree shape.geometry (size P A shape) images.committed later w.devices f.site.world.shared → (state ≡ images.committed) ⊎ (later ≡ Some state) → AreSameSizes state.root.geometry shape.geometry → Represents metadata state.root state.found → ShowsOpened shape n metadata cache origin
      shows state later agree one same r = record {
        stored = state;
        represents = r;
        shows = shows_allowed shape n f.notes f.notes_agree.histories f.notes_agree.floors f.sized.sectors w.devices cache_size origin_size state.found.entries (mapping_of shape.geometry metadata state r same)
            (state_allowed (size P A shape) (many P A shape) shape.geometry f.site f.notes images.committed later w.devices state f.reached agree one) cache origin left_cache left_origin;
      }

      by_state : (later : Option Stored) → DevicesAgree shape.geometry (size P A shape) images.committed later w.devices f.site.world.shared → AreOneOf images.committed later metadata → StoredIsOf shape.geometry later → ShowsOpened shape n metadata cache origin
      by_state None agree r g = shows images.committed None agree (inl refl) agree.images.read.sizes r
      by_state (Some state) agree (inl r) g = shows images.committed (Some state) agree (inl refl) agree.images.read.sizes r
      by_state (Some state) agree (inr r) g = shows state (Some state) agree (inr refl) g r
