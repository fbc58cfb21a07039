-- Where a desk has a block, and what its live orders say of that: a seal that tells it tells where an order has the block, and what is
-- written there is beside other orders.
use Rattle.std.proofs.Common.{◌≢◌, ◌≡◌, ◌∙◌, ◌<◌, inl, inr, ℕ, zero, suc, List, [], ◌∷◌, Option, Some, None, refl, sym, ap, subst, arith, length, slice_get, slice_set}
use Rattle.wb_types.specs.declared.number.OBlock.{OBlock}
use Rattle.wb_types.specs.declared.number.CBlock.{CBlock}
use Rattle.wb_words.specs.SharedWords.{Words, word_at, place_in}
use Rattle.wb_policy.specs.Law.{IsMappedAt}
use Rattle.wb_policy.specs.declared.order.Order.{Order}
use Rattle.wb_policy.specs.declared.order.Order.TheVariants.{Promote as PromoteOrder, Replace, Demote as DemoteOrder, Clean as CleanOrder}
use Rattle.wb_space.specs.Blocks.{state}
use Rattle.wb_orders.specs.declared.live_order.LiveOrder.{LiveOrder}
use Rattle.wb_orders.specs.Orders.{order_at}
use Rattle.wb_desk.specs.Desks.{DeskState, DeskInvariant, Names, NamesWhatIs, holdings}
use Rattle.wb_desk.proofs.Seen.{there}
use Rattle.wb_tasks.specs.declared.step.Migration.{Migration}
use Rattle.wb_tasks.specs.declared.step.Migration.TheVariants.{Promote, Demote, Clean}
use Rattle.wb_refines.specs.Translation.{number_of}
use Rattle.wb_refines.specs.Migrations.{IsWhere}
use Rattle.wb_promise.specs.Headline.{place_of}
use Rattle.wb_runs.proofs.Located.{stands_there}
use Rattle.wb_runs.proofs.Metadata.{unknowing}
use Rattle.wb_contents.specs.Volume.{Locations}
use Rattle.wb_simulation.specs.Carried.{IsOrderFor, IsReplacing}
use Rattle.wb_simulation.specs.Migrating.{SealTells}
use Rattle.wb_simulation.specs.Opened.{located}
use Rattle.wb_simulation.proofs.Opened.{found_at}
use Rattle.wb_headline.specs.Desks.{live_order, orders_living, live_orders}

-- ---- orders by cache block

pub live_here : (slots : List (Option LiveOrder)) (c : ℕ) (o : Order) → slice_get (orders_living slots) c ≡ Some (Some o) → (l : LiveOrder) × (order_at slots c ≡ Some l) × (l.order ≡ o)
live_here (Some l ∷ slots) zero o e = (l, refl, (let both : Some (Some l.order) ≡ Some (Some o) = e in cc))
live_here (s ∷ slots) (suc c) o e = live_here slots c o e
live_here slots c o e = absurd (cc)

pub slot_there : (slots : List (Option LiveOrder)) (c : ℕ) (live : LiveOrder) → order_at slots c ≡ Some live → slice_get (orders_living slots) c ≡ Some (Some live.order)
slot_there (s ∷ slots) zero live e = ap (λ (o : Option LiveOrder). Some (live_order o)) e
slot_there (s ∷ slots) (suc c) live e = slot_there slots c live e
slot_there [] c live e = absurd (cc)

pub slot_within : (slots : List (Option LiveOrder)) (c : ℕ) (l : LiveOrder) → order_at slots c ≡ Some l → c < length slots
slot_within (s ∷ slots) zero l e = omega arith
slot_within (s ∷ slots) (suc c) l e = let i = slot_within slots c l e in omega (arith, i)
slot_within [] c l e = absurd (cc)

pub orders_set : (slots : List (Option LiveOrder)) (c : ℕ) (o : Option LiveOrder) → orders_living (slice_set slots c o) ≡ slice_set (orders_living slots) c (live_order o)
orders_set (s ∷ slots) (suc c) o = ap (λ (os : List (Option Order)). live_order s ∷ os) (orders_set slots c o)
orders_set slots c o = refl

pub vacant_there : (slots : List (Option LiveOrder)) (c : ℕ) → slice_get slots c ≡ Some None → slice_get (orders_living slots) c ≡ Some None
vacant_there (None ∷ slots) zero e = refl
vacant_there (s ∷ slots) (suc c) e = vacant_there slots c e
vacant_there slots c e = absurd (cc)

module _ (P : Type 0) (desk : DeskState P) (kept : DeskInvariant unknowing desk) where
  -- whatever order lives in a cache block names what is
  pub named : (c : ℕ) (o : Order) → slice_get (live_orders desk) c ≡ Some (Some o) → Names (holdings desk) (state desk.space.blocks c) c o
  named c o e =
      let l = live_here desk.orders.slots c o e in
      let within = slot_within desk.orders.slots c l.0 l.1 in
      let many = kept.slots in
      subst (λ (q : Order). Names (holdings desk) (state desk.space.blocks c) c q) l.2 (subst (λ (s : Option LiveOrder). NamesWhatIs (holdings desk) (state desk.space.blocks c) c s) l.1 (kept.each c (omega (arith, within, many))).stands)

  pub mapped_there : (b c : ℕ) → place_of desk.tree.entries b ≡ Some c → IsMappedAt (holdings desk) b c
  mapped_there b c e =
      let f = found_at desk.tree.entries b 0 c e in
      let at : IsMappedAt (holdings desk) b f.0 = there desk.tree.entries f.0 f.1 f.4 ∙ ap (λ (k : ℕ). Some (Some k)) f.5 in
      subst (λ (k : ℕ). IsMappedAt (holdings desk) b k) (let is = f.2 in omega (arith, is)) at

  -- ---- orders that name what is

  module _ (slots : List (Option Order)) (names : (c : ℕ) (o : Order) → slice_get slots c ≡ Some (Some o) → Names (holdings desk) (state desk.space.blocks c) c o) where
    -- A seal that tells where the desk has a block tells where its order has it.
    pub seal_tells_order : (words : Words) (m : Locations) (migration : Migration) (block : OBlock) → number_of (place_in (word_at words.seals block)) ≡ place_of desk.tree.entries block.0 → m ≡ located desk.tree.entries → SealTells words slots m migration block
    seal_tells_order words m migration block told is c next order e of leaves = by migration of (names c.0 order e)
      where
        where_is : (place : Option CBlock) → number_of place ≡ Some c.0 → place ≡ Some c
        where_is None n = absurd (let bad : None ≡ Some c.0 = n in cc)
        where_is (Some d) n = let both : Some d.0 ≡ Some c.0 = n in let same : d.0 ≡ c.0 = cc in (λ i. Some (record { 0 = same i }))

        here : IsMappedAt (holdings desk) block.0 c.0 → place_in (word_at words.seals block) ≡ Some c
        here at = where_is (place_in (word_at words.seals block)) (told ∙ stands_there P desk kept block.0 c.0 at)

        names_as : (o : Order) → order ≡ o → Names (holdings desk) (state desk.space.blocks c.0) c.0 order → Names (holdings desk) (state desk.space.blocks c.0) c.0 o
        names_as o is n = subst (λ (p : Order). Names (holdings desk) (state desk.space.blocks c.0) c.0 p) is n

        stands : next ≢ None → place_in (word_at words.seals block) ≡ Some c
        stands some = where_is (place_in (word_at words.seals block)) (told ∙ ap (λ (k : Locations). k block.0) (sym is) ∙ leaves some)

        by : (m : Migration) → IsOrderFor m block next order → Names (holdings desk) (state desk.space.blocks c.0) c.0 order → IsWhere m c (place_in (word_at words.seals block))
        by (Promote k) of n = tt
        by Clean (inl i) n = here (names_as (CleanOrder block) i.0 n)
        by Clean (inr r) n = absurd (none order r)
          where
            none : (o : Order) → IsReplacing Clean block next o → ⊥
            none (PromoteOrder b k) r = r
            none o r = r
        by Demote (inl i) n = here (names_as (DemoteOrder block) i.0 n)
        by Demote (inr r) n = stands (follows order r)
          where
            follows : (o : Order) → IsReplacing Demote block next o → next ≢ None
            follows (Replace old new k) r q = (let bad : None ≡ Some new.0 = sym q ∙ r.1 in cc)
            follows o r q = r
