-- The desk of a run over an origin and a cache of which the first block alone is touched, as orders are given, carried out and given up; and that
-- each of these may be.
use Rattle.std.proofs.Common.{Global, ◌≡◌, ◌≢◌, ◌≤◌, ◌+◌, ◌<◌, ◌^◌, ℕ, zero, suc, false, List, [], ◌∷◌, Option, Some, None, refl, sym, ap, subst, arith, slice_get, replicate, is_some}
use Rattle.std.specs.List.{count_by}
use Rattle.wb_types.specs.Limits.{HasRoom, IsWithinLimits}
use Rattle.wb_types.specs.declared.entry.Entry.{Entry}
use Rattle.wb_types.specs.declared.geometry.Geometry.{Geometry}
use Rattle.wb_types.specs.declared.mode.Mode.{Mode}
use Rattle.wb_types.specs.declared.mode.Mode.TheVariants.{Passthrough}
use Rattle.wb_types.specs.declared.number.OBlock.{OBlock}
use Rattle.wb_types.specs.declared.number.CBlock.{CBlock}
use Rattle.wb_types.specs.declared.version.Version.TheVariants.{One}
use Rattle.wb_tree.specs.Mapping.{IsSound, empty_mapping}
use Rattle.wb_tree.specs.Edits.{IsChangedAt}
use Rattle.wb_tree.proofs.Branching.Edits.{changed_at, changed-sound}
use Rattle.wb_policy.specs.Law.{origins}
use Rattle.wb_policy.specs.declared.order.Order.{Order}
use Rattle.wb_policy.specs.declared.order.Order.TheVariants.{Promote as PromoteOrder, Demote as DemoteOrder, Clean as CleanOrder}
use Rattle.wb_orders.specs.declared.live_order.LiveOrder.{LiveOrder}
use Rattle.wb_orders.specs.Orders.{cost_of, order_at}
use Rattle.wb_desk.specs.Desks.{DeskState, MayReserve, IsLive}
use Rattle.wb_desk.specs.Calls.{reserved, released}
use Rattle.wb_desk.specs.Entries.{MayMap, MayUnmap, entry_of, mapped, unmapped}
use Rattle.wb_desk.specs.Opening.{opened}
use Rattle.wb_stage.specs.Asking.{DidUnmap, DidRelease, ended}
use Rattle.wb_promise.specs.States.{Shape, Actor}
use Rattle.wb_examples.specs.Possible.{first_block, second_block, first_cache_block, replacement}
use Rattle.wb_tree.proofs.Branching.Edits.{changed-edit as changed}
use Rattle.wb_examples.proofs.Beginning.{bare_begun}
use Rattle.wb_examples.proofs.Completing.{empty_sound}
use Rattle.wb_examples.proofs.Playing.{AreIdle}

-- so many blocks of 64 sectors behind the first on the cache, so many sectors of metadata of the first version, so many sectors for which orders may ask at once, and so
-- many actors behind the first
pub record Sizes (more : ℕ) : Type 0 where
  pub k : ℕ
  pub meta_sectors : ℕ
  pub within : IsWithinLimits 64 (suc k) (suc more) meta_sectors
  pub room : HasRoom One (suc k) meta_sectors
  pub threshold : ℕ
  pub others : ℕ

-- such a shape, with so many blocks behind the first on the origin
abbrev pub geometry_of : (more : ℕ) → Sizes more → Geometry
geometry_of more sizes = record { block = 64; cache_blocks = suc sizes.k; origin_blocks = suc more; meta_sectors = sizes.meta_sectors; version = One; within = sizes.within; room = sizes.room }

abbrev pub shape_of : (more : ℕ) → Sizes more → Shape
shape_of more sizes = record { geometry = geometry_of more sizes; threshold = sizes.threshold; actors = suc sizes.others }

-- a target over it that was opened in this mode, what its desk was opened with, and the others, who are at nothing
pub record Setting (P : Type 0) (more : ℕ) (mode : Mode) : Type 0 where
  pub writes : mode ≢ Passthrough
  pub global : Global
  pub sizes : Sizes more
  pub policy : P
  pub generation : ℕ
  pub later : generation + 5 < 2 ^ 64
  pub rest : List Actor
  pub idle : AreIdle rest

-- ---- no block stands anywhere but one in the first cache block, and no order lives but there

none_mapped : (n b at : ℕ) → slice_get (origins (let xs : List (Option Entry) = replicate n None in xs)) at ≢ Some (Some b)
none_mapped zero b at m = absurd (cc)
none_mapped (suc n) b zero m = absurd (cc)
none_mapped (suc n) b (suc at) m = none_mapped n b at m

other_nowhere : (block : OBlock) (k b at : ℕ) → block.0 ≢ b → slice_get (origins (Some (entry_of block) ∷ replicate k None)) at ≢ Some (Some b)
other_nowhere block k b zero n e = n (cc)
other_nowhere block k b (suc at) n e = none_mapped k b at e

stands_once : (block : OBlock) (k at : ℕ) → slice_get (origins (Some (entry_of block) ∷ replicate k None)) at ≡ Some (Some block.0) → at ≡ 0
stands_once block k zero e = refl
stands_once block k (suc at) e = absurd (none_mapped k block.0 at e)

no_cost : (n : ℕ) → cost_of (let xs : List (Option LiveOrder) = replicate n None in xs) ≡ 0
no_cost zero = refl
no_cost (suc n) = no_cost n

lives_first : (k at : ℕ) (here live : LiveOrder) → order_at (Some here ∷ replicate k None) at ≡ Some live → record { 0 = at } ≡ first_cache_block
lives_first k zero here live e = refl
lives_first k (suc at) here live e = absurd (nobody k at e)
  where
    nobody : (n at : ℕ) → order_at (replicate n None) at ≡ Some live → ⊥
    nobody zero at e = absurd (cc)
    nobody (suc n) zero e = absurd (cc)
    nobody (suc n) (suc at) e = nobody n at e

-- where the first block stands in the first cache block, and no other stands anywhere, it leaves if it may
pub leaves_from : (P : Type 0) (policy : P) (d : DeskState P) (k : ℕ) → d.tree.entries ≡ Some (entry_of first_block) ∷ replicate k None → IsSound d.tree → MayUnmap d first_block →
    DidUnmap (λ p b. policy) first_block d (unmapped d first_cache_block (changed_at d.tree 0 None) policy)
leaves_from P policy d k e sound may = (
  λ other. subst (λ (at : ℕ). IsChangedAt d.tree (changed_at d.tree 0 None) at None × (unmapped d first_cache_block (changed_at d.tree 0 None) policy ≡ unmapped d (record { 0 = at }) (changed_at d.tree 0 None) policy))
      (sym (stands_once first_block k other.cache.0 (subst (λ (es : List (Option Entry)). slice_get (origins es) other.cache.0 ≡ Some (Some first_block.0)) e other.mapped)))
      (changed d.tree 0 None sound, refl),
  λ not. absurd (not may),
)

-- ---- the desk

module _ (P : Type 0) (more : ℕ) (mode : Mode) (s : Setting P more mode) where
  open s use {policy, sizes.{k, threshold}}

  abbrev pub shape : Shape
  shape = shape_of more s.sizes

  -- as it was opened: nothing is cached
  abbrev pub desk : DeskState P
  desk = opened shape.geometry s.generation (empty_mapping (suc k)) [] mode policy threshold (count_by is_some (replicate {A = Option Entry} (suc k) None))

  abbrev promotion : Order
  promotion = PromoteOrder first_block first_cache_block

  abbrev ordered : DeskState P
  ordered = reserved desk first_cache_block promotion false

  -- the first block stands in the first cache block
  abbrev pub stood : DeskState P
  stood = mapped ordered first_cache_block (changed_at desk.tree 0 (Some (entry_of first_block))) policy

  pub stood_sound : IsSound stood.tree
  stood_sound = changed-sound desk.tree 0 (Some (entry_of first_block)) (empty_sound (suc k))

  abbrev live : (order : Order) (sectors number : ℕ) → LiveOrder
  live order sectors number = record { order = order; sectors = sectors; threshold = threshold; number = number; waits = false }

  pub may_map : MayMap ordered first_block first_cache_block
  may_map = record { live = live promotion 64 0; there = refl; taken = refl; brings = refl; reserved = refl }

  pub comes : IsChangedAt ordered.tree stood.tree 0 (Some (entry_of first_block))
  comes = changed desk.tree 0 (Some (entry_of first_block)) (empty_sound (suc k))

  -- its order to leave is given, and it has left
  abbrev pub leaving : Order → DeskState P
  leaving order = reserved stood first_cache_block order false

  abbrev left_by : Order → DeskState P
  left_by order = unmapped (leaving order) first_cache_block (changed_at stood.tree 0 None) policy

  leaves_by : (order : Order) → MayUnmap (leaving order) first_block → DidUnmap (λ p b. (left_by order).policy) first_block (leaving order) (left_by order)
  leaves_by order may = leaves_from P policy (leaving order) k refl stood_sound may

  -- by a demotion, and by the first half of a replacement
  abbrev pub demoted : DeskState P
  demoted = left_by (DemoteOrder first_block)

  pub demotes : DidUnmap (λ p b. demoted.policy) first_block (leaving (DemoteOrder first_block)) demoted
  demotes = leaves_by (DemoteOrder first_block) (record { cache = first_cache_block; mapped = refl; removed = (refl, tt) })

  abbrev pub claimed : DeskState P
  claimed = left_by replacement

  pub leaves : DidUnmap (λ p b. claimed.policy) first_block (leaving replacement) claimed
  leaves = leaves_by replacement (record { cache = first_cache_block; mapped = refl; removed = (refl, tt) })

  pub lives : IsLive claimed replacement
  lives = record { cache = first_cache_block; live = live replacement 128 1; there = refl; same = refl; taken = refl }

  -- that order is given up, or a flush serves it, and the second block follows
  abbrev pub given_up : DeskState P
  given_up = released claimed first_cache_block

  pub gives_up : DidRelease (replacement ∷ []) first_block claimed given_up
  gives_up = (λ is. ap (λ (c : CBlock). released claimed c) (sym (lives_first k is.cache.0 (live replacement 128 1) is.live is.there)), λ not. absurd (not lives))

  abbrev pub settled : DeskState P
  settled = ended (bare_begun s.global claimed)

  abbrev pub followed : DeskState P
  followed = mapped settled first_cache_block (changed_at settled.tree 0 (Some (entry_of second_block))) policy

  pub may_follow : MayMap settled second_block first_cache_block
  may_follow = record { live = live replacement 128 1; there = refl; taken = refl; brings = refl; reserved = refl }

  pub follows : IsChangedAt settled.tree followed.tree 0 (Some (entry_of second_block))
  follows = changed settled.tree 0 (Some (entry_of second_block)) (changed-sound stood.tree 0 None stood_sound)

  -- the first block is written back
  abbrev cleaning : DeskState P
  cleaning = leaving (CleanOrder first_block)

  abbrev pub cleaned : DeskState P
  cleaned = released cleaning first_cache_block

  pub cleans : DidRelease (CleanOrder first_block ∷ []) first_block cleaning cleaned
  cleans = (λ is. ap (λ (c : CBlock). released cleaning c) (sym (lives_first k is.cache.0 (live (CleanOrder first_block) 64 1) is.live is.there)), λ not. absurd (not (record { cache = first_cache_block; live = live (CleanOrder first_block) 64 1; there = refl; same = refl; taken = refl })))

  -- which orders may be given, where orders may ask for so many sectors at once
  module _ (room : 64 ≤ threshold) where
    pub may_promote : MayReserve desk first_cache_block promotion
    may_promote = record {
      mode = s.writes;
      lawful = (refl, refl, none_mapped (suc k) 0);
      give = record { vacant = refl; idle = (refl, refl); room = omega (arith, room, no_cost k); countable = omega arith };
    }

    pub may_demote : MayReserve stood first_cache_block (DemoteOrder first_block)
    may_demote = record {
      mode = s.writes;
      lawful = refl;
      give = record { vacant = refl; idle = (refl, refl); room = omega (arith, room, no_cost k); countable = omega arith };
    }

    pub may_clean : MayReserve stood first_cache_block (CleanOrder first_block)
    may_clean = record {
      mode = s.writes;
      lawful = refl;
      give = record { vacant = refl; idle = (refl, refl); room = omega (arith, room, no_cost k); countable = omega arith };
    }

  pub may_replace : 128 ≤ threshold → slice_get (replicate more false) 0 ≡ Some false → MayReserve stood first_cache_block replacement
  may_replace room second = record {
    mode = s.writes;
    lawful = (refl, refl, λ at. other_nowhere first_block k 1 at (λ e. absurd (cc)));
    give = record { vacant = refl; idle = (refl, second); room = omega (arith, room, no_cost k); countable = omega arith };
  }
