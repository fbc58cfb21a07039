-- An opening that is answered is followed: refused, nothing is left of it; done, its target stands for the abstract one's, and what it shows is allowed.
use Rattle.std.proofs.Common.{◌≡◌, ◌∙◌, ◌<◌, ◌≤◌, ◌+◌, ◌*◌, ◌/◌, ◌%◌, ◌⊎◌, inl, inr, ℕ, zero, suc, Bool, true, false, cond, nat_lt, List, [], ◌∷◌, Option, Some, None, refl, sym, ap, subst, arith, length, map, replicate, is_some, slice_get, slice_index_or, unwrap_or, mul_comm}
use Rattle.std.proofs.Math.Nat.{mul-le-mul_right}
use Rattle.std.proofs.lemmas.Bool.{ltb-true, ltb-false}
use Rattle.std.proofs.lemmas.Nat.{div-mul-add, mod-mul-add}
use Rattle.std.proofs.lemmas.Option.{slice_get_past}
use Rattle.wb_types.specs.declared.entry.Entry.{Entry}
use Rattle.wb_types.specs.declared.mode.Mode.{Mode}
use Rattle.wb_disk.specs.Device.{Content as Bytes, History, newest, only}
use Rattle.wb_contents.specs.Devices.{by_block}
use Rattle.wb_contents.specs.Volume.{at_location}
use Rattle.wb_contents.specs.Conditions.{IsUnnamed}
use Rattle.wb_contents.proofs.Devices.{is_there}
use Rattle.wb_tree.specs.Mapping.{IsMapping}
use Rattle.wb_space.specs.Blocks.{state, opened_block}
use Rattle.wb_space.specs.declared.block.Block.{Block}
use Rattle.wb_space.specs.declared.block.Block.TheVariants.{Free, Mapped}
use Rattle.wb_policy.specs.declared.order.Order.{Order}
use Rattle.wb_devices.specs.declared.devices.Devices.{Devices}
use Rattle.wb_promise.specs.States.{Shape, sector_count, cache_sector_count, block_size}
use Rattle.wb_promise.specs.Headline.{place_of, content_of, shown_by}
use Rattle.wb_link.specs.World.{Free as FreeThere, Mapped as MappedThere}
use Rattle.wb_link.specs.Openings.{Site, AbstractPhase as PhaseThere, Stands as StandsThere, Opens as OpensThere, Learnt, Answering, Shown, Advances, Event, MayHappen, after_event, advance, opened_on, emptied}
use Rattle.wb_simulation.specs.Opened.{located}
use Rattle.wb_simulation.specs.Worlds.{zeros}
use Rattle.wb_simulation.proofs.Opened.{found_at}
use Rattle.wb_headline.specs.Desks.{block_there, orders_living}
use Rattle.wb_contents.proofs.Lists.{there_is as there}

-- no order lives at a desk that was just opened
pub no_orders_live : (count : ℕ) → orders_living (replicate count None) ≡ replicate count None
no_orders_live zero = refl
no_orders_live (suc count) = ap (λ (os : List (Option Order)). None ∷ os) (no_orders_live count)

-- a cache block of an opened desk
abbrev pub opened_state : List (Option Entry) → ℕ → Block
opened_state tree k = state (map opened_block (map is_some tree)) k

-- it is mapped where it has an entry, or else free
opened_at : (tree : List (Option Entry)) (k : ℕ) → (opened_state tree k ≡ Mapped) ⊎ ((opened_state tree k ≡ Free) × (slice_index_or tree k None ≡ None))
opened_at (Some entry ∷ tree) zero = inl refl
opened_at (None ∷ tree) (suc k) = opened_at tree k
opened_at (Some entry ∷ tree) (suc k) = opened_at tree k
opened_at tree k = inr (refl, refl)

pub free_or_mapped : (tree : List (Option Entry)) (k : ℕ) → (block_there (opened_state tree k) ≡ MappedThere) ⊎ ((block_there (opened_state tree k) ≡ FreeThere) × IsUnnamed (located tree) k)
free_or_mapped tree k = elim (opened_at tree k) [
  | inl m ↦ inl (ap (λ (b : Block). block_there b) m)
  | inr f ↦ inr (
    ap (λ (b : Block). block_there b) f.0,
    λ b e.
        let at = found_at tree b 0 k e in
        let same : at.0 ≡ k = (let is = at.2 in omega (arith, is)) in
        let bad : Some at.1 ≡ None = sym at.4 ∙ ap (λ i. slice_index_or tree i None) same ∙ f.1 in cc,
  )
]

-- the abstract opening's answer, which makes the opened desk's blocks and shows what is newest
abbrev pub view_of : Site → Learnt → ℕ → ℕ → Bytes
view_of v i b o = newest (at_location v.world.shared.origin v.world.shared.cache (i.locations b) b o)

abbrev pub answer_of : Site → Learnt → List (Option Entry) → Event
answer_of v i tree = Advances (Shown (λ k. block_there (opened_state tree k)) (view_of v i))

pub answer_may : (sectors : ℕ) (mode : Mode) (v : Site) (i : Learnt) (tree : List (Option Entry)) → v.phase ≡ OpensThere mode (Answering i) → i.locations ≡ located tree → MayHappen sectors v (answer_of v i tree)
answer_may sectors mode v i tree ph same = (
  mode,
  Answering i,
  ph,
  ((λ k. subst (λ l. (block_there (opened_state tree k) ≡ MappedThere) ⊎ ((block_there (opened_state tree k) ≡ FreeThere) × IsUnnamed l k)) (sym same) (free_or_mapped tree k)), λ b o. refl),
)

-- the site of the target that it makes
abbrev pub opened_site : Mode → Site → Learnt → List (Option Entry) → Site
opened_site mode v i tree = record { world = emptied v.world (opened_on v.world.shared mode i (λ k. block_there (opened_state tree k))); phase = StandsThere }

pub answer_leads : (mode : Mode) (v : Site) (i : Learnt) (tree : List (Option Entry)) → v.phase ≡ OpensThere mode (Answering i) → after_event v (answer_of v i tree) ≡ opened_site mode v i tree
answer_leads mode v i tree ph = ap (λ (p : PhaseThere). advance v.world p (Shown (λ k. block_there (opened_state tree k)) (view_of v i))) ph

-- ---- what it shows

module _ (shape : Shape) (devices : Devices (List History)) (cache_size : length devices.cache ≡ cache_sector_count shape) (origin_size : length devices.origin ≡ sector_count shape) (tree : List (Option Entry)) (mapping : IsMapping shape.geometry.cache_blocks shape.geometry.origin_blocks tree) where
  abbrev shown : List Bytes
  shown = shown_by shape tree (map newest devices.cache) (map newest devices.origin)

  abbrev view : ℕ → ℕ → Bytes
  view b o = newest (at_location (by_block (block_size shape) zeros devices.origin) (by_block (block_size shape) zeros devices.cache) (place_of tree b) b o)

  -- the newest content of a sector that is there
  newest_at : (device : List History) (at : ℕ) (h : History) → slice_get device at ≡ Some h → slice_get (map newest device) at ≡ Some (newest h)
  newest_at [] at h e = absurd (cc)
  newest_at (g ∷ gs) zero h e = let same : g ≡ h = cc in ap (λ (x : History). Some (newest x)) same
  newest_at (g ∷ gs) (suc at) h e = newest_at gs at h e

  -- what stands in a rising list's image
  listed : (f : ℕ → Bytes) (first count i : ℕ) → i < count → slice_get (map f (Rattle.wb_types.specs.Extents.rising first count)) i ≡ Some (f (first + i))
  listed f first zero i l = absurd (omega (arith, l))
  listed f first (suc count) zero l = (let same : first ≡ first + 0 = omega arith in ap (λ k. Some (f k)) same)
  listed f first (suc count) (suc i) l = listed f (first + 1) count i (omega (arith, l)) ∙ (let same : first + 1 + i ≡ first + suc i = omega arith in ap (λ k. Some (f k)) same)

  past : (f : ℕ → Bytes) (first count i : ℕ) → count ≤ i → slice_get (map f (Rattle.wb_types.specs.Extents.rising first count)) i ≡ None
  past f first zero i l = refl
  past f first (suc count) zero l = absurd (omega (arith, l))
  past f first (suc count) (suc i) l = past f (first + 1) count i (omega (arith, l))

  -- what is shown of a sector is newest where its block stands
  sector_shown : (b o : ℕ) → o < block_size shape → b * block_size shape + o < sector_count shape → unwrap_or (content_of shape (place_of tree ((b * block_size shape + o) / block_size shape)) (map newest devices.cache) (map newest devices.origin) (b * block_size shape + o)) [] ≡ view b o
  sector_shown b o l inside = ap (λ k. unwrap_or (content_of shape (place_of tree k) (map newest devices.cache) (map newest devices.origin) at) []) (div-mul-add b (block_size shape) o l) ∙ by_place (place_of tree b) refl
    where
      at : ℕ
      at = b * block_size shape + o

      offset : at % block_size shape ≡ o
      offset = mod-mul-add b (block_size shape) o l

      by_place : (p : Option ℕ) → place_of tree b ≡ p → unwrap_or (content_of shape p (map newest devices.cache) (map newest devices.origin) at) [] ≡ newest (at_location (by_block (block_size shape) zeros devices.origin) (by_block (block_size shape) zeros devices.cache) p b o)
      by_place None e =
          let h = there devices.origin at (subst (λ (k : ℕ). at < k) (sym origin_size) inside) in
          ap (λ (x : Option Bytes). unwrap_or x []) (newest_at devices.origin at h.0 h.1) ∙ sym (ap newest (is_there (block_size shape) zeros devices.origin b o h.0 l h.1))
      by_place (Some k) e =
          let f = found_at tree b 0 k e in
          let less : k < shape.geometry.cache_blocks = (let is = f.2 in let below = f.3 in let many = mapping.size in omega (arith, is, below, many)) in
          let m1 : (k + 1) * block_size shape ≤ shape.geometry.cache_blocks * block_size shape = mul-le-mul_right (block_size shape) (omega (arith, less)) in
          let room : k * block_size shape + o < length devices.cache = (let c = cache_size in omega (arith, c, m1, l, mul_comm (block_size shape) shape.geometry.cache_blocks)) in
          let h = there devices.cache (k * block_size shape + o) room in
          ap (λ i. unwrap_or (slice_get (map newest devices.cache) (k * block_size shape + i)) []) offset ∙ ap (λ (x : Option Bytes). unwrap_or x []) (newest_at devices.cache (k * block_size shape + o) h.0 h.1)
          ∙ sym (ap newest (is_there (block_size shape) zeros devices.cache k o h.0 l h.1))

  -- a history of one content begins with it, everywhere
  pub shown_view : by_block (block_size shape) zeros (map only shown) ≡ (λ b o. only (view b o))
  shown_view = λ i b o. here b o i
    where
      -- an element of a list of one content each
      only_at : (xs : List Bytes) (at : ℕ) → slice_get (map only xs) at ≡ Rattle.std.specs.Prelude.option_map only (slice_get xs at)
      only_at (x ∷ xs) (suc at) = only_at xs at
      only_at xs at = refl

      shown_of : ℕ → Bytes
      shown_of at = unwrap_or (content_of shape (place_of tree (at / block_size shape)) (map newest devices.cache) (map newest devices.origin) at) []

      -- behind the end of a device, and of a block, there are zeros
      outside : (device : List History) (b o : ℕ) → (length device ≤ b * block_size shape + o) → by_block (block_size shape) zeros device b o ≡ only zeros
      outside device b o l = by (nat_lt o (block_size shape))
        where
          by : (t : Bool) → cond t (unwrap_or (slice_get device (b * block_size shape + o)) (only zeros)) (only zeros) ≡ only zeros
          by true = ap (λ (x : Option History). unwrap_or x (only zeros)) (slice_get_past device (b * block_size shape + o) l)
          by false = refl

      -- a block that is not there is nowhere cached
      uncached : (b : ℕ) → shape.geometry.origin_blocks ≤ b → place_of tree b ≡ None
      uncached b l = by_place (place_of tree b) refl
        where
          by_place : (p : Option ℕ) → place_of tree b ≡ p → place_of tree b ≡ None
          by_place None e = e
          by_place (Some k) e = absurd (let f = found_at tree b 0 k e in let inside = (mapping.within f.0 f.1 f.4).0 in let is = f.5 in omega (arith, inside, is, l))

      here : (b o : ℕ) → by_block (block_size shape) zeros (map only shown) b o ≡ only (view b o)
      here b o = by_offset (nat_lt o (block_size shape)) refl
        where
          at : ℕ
          at = b * block_size shape + o

          blank_view : (p : Option ℕ) → nat_lt o (block_size shape) ≡ false → newest (at_location (by_block (block_size shape) zeros devices.origin) (by_block (block_size shape) zeros devices.cache) p b o) ≡ zeros
          blank_view None e = ap (λ t. newest (cond t (unwrap_or (slice_get devices.origin at) (only zeros)) (only zeros))) e
          blank_view (Some k) e = ap (λ t. newest (cond t (unwrap_or (slice_get devices.cache (k * block_size shape + o)) (only zeros)) (only zeros))) e

          by_offset : (t : Bool) → nat_lt o (block_size shape) ≡ t → by_block (block_size shape) zeros (map only shown) b o ≡ only (view b o)
          by_offset false e = ap (λ t. cond t (unwrap_or (slice_get (map only shown) at) (only zeros)) (only zeros)) e ∙ sym (ap only (blank_view (place_of tree b) e))
          by_offset true e = ap (λ t. cond t (unwrap_or (slice_get (map only shown) at) (only zeros)) (only zeros)) e ∙ ap (λ (x : Option History). unwrap_or x (only zeros)) (only_at shown at) ∙ by_range (nat_lt at (sector_count shape)) refl
            where
              less : o < block_size shape
              less = ltb-true o (block_size shape) e

              by_range : (t : Bool) → nat_lt at (sector_count shape) ≡ t → unwrap_or (Rattle.std.specs.Prelude.option_map only (slice_get shown at)) (only zeros) ≡ only (view b o)
              by_range true r =
                  let l = ltb-true at (sector_count shape) r in
                  ap (λ (x : Option Bytes). unwrap_or (Rattle.std.specs.Prelude.option_map only x) (only zeros)) (listed shown_of 0 (sector_count shape) at l ∙ (let same : 0 + at ≡ at = omega arith in ap (λ k. Some (shown_of k)) same)) ∙ ap only (sector_shown b o less l)
              by_range false r =
                  let l : sector_count shape ≤ at = ltb-false at (sector_count shape) r in
                  let behind : shape.geometry.origin_blocks ≤ b = beyond b l in
                  ap (λ (x : Option Bytes). unwrap_or (Rattle.std.specs.Prelude.option_map only x) (only zeros)) (past shown_of 0 (sector_count shape) at l)
                  ∙ sym (ap only (ap (λ p. newest (at_location (by_block (block_size shape) zeros devices.origin) (by_block (block_size shape) zeros devices.cache) p b o)) (uncached b behind) ∙ ap newest (outside devices.origin b o (subst (λ (k : ℕ). k ≤ at) (sym origin_size) l))))
                where
                  beyond : (b : ℕ) → sector_count shape ≤ b * block_size shape + o → shape.geometry.origin_blocks ≤ b
                  beyond b l = by_order (nat_lt b shape.geometry.origin_blocks) refl
                    where
                      by_order : (t : Bool) → nat_lt b shape.geometry.origin_blocks ≡ t → shape.geometry.origin_blocks ≤ b
                      by_order false q = ltb-false b shape.geometry.origin_blocks q
                      by_order true q =
                          let under : b < shape.geometry.origin_blocks = ltb-true b shape.geometry.origin_blocks q in
                          let m1 : (b + 1) * block_size shape ≤ shape.geometry.origin_blocks * block_size shape = mul-le-mul_right (block_size shape) (omega (arith, under)) in
                          absurd (omega (arith, m1, l, less, mul_comm (block_size shape) shape.geometry.origin_blocks))
