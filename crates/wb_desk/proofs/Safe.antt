-- No call of a desk makes an image unsafe.
use Rattle.std.proofs.Common.{◌≡◌, ◌<◌, inl, inr, ℕ, Bool, true, false, is_some, List, [], ◌∷◌, ◌++◌, Option, Some, None, length, map, get_or, set, refl, sym, ap, subst, ◌∙◌, arith, get_or-set_same, slice_get}
use Rattle.std.specs.Bool.{OnTrue, OnFalse}
use Rattle.std.specs.Option.{option_map}
use Rattle.std.proofs.lemmas.List.{length-map, map-set}
use Rattle.std.proofs.Math.ListN.{get_or-map}
use Rattle.std.proofs.lemmas.Option.{get_or_from_slice_get, slice_get_within}
use Rattle.wb_types.specs.declared.entry.Entry.{Entry}
use Rattle.wb_types.specs.declared.geometry.Geometry.{Geometry}
use Rattle.wb_types.specs.declared.message.Key.{Key}
use Rattle.wb_types.specs.declared.message.Key.TheVariants.{MigrationThreshold, PromoteMin}
use Rattle.wb_types.specs.declared.message.Message.{Message}
use Rattle.wb_types.specs.declared.message.Message.TheVariants.{Set, InvalidateCblocks}
use Rattle.wb_types.specs.declared.mode.Mode.{Mode}
use Rattle.wb_types.specs.declared.number.OBlock.{OBlock}
use Rattle.wb_types.specs.declared.number.CBlock.{CBlock}
use Rattle.wb_types.specs.declared.number.Place.{Place}
use Rattle.wb_tree.specs.Mapping.{Mapping}
use Rattle.wb_tree.specs.declared.image.Image.{Image}
use Rattle.wb_policy.specs.declared.order.Order.{Order}
use Rattle.wb_policy.specs.declared.order.Order.TheVariants.{Promote, Replace, Demote, Clean}
use Rattle.wb_policy.specs.Law.{Holdings, origins}
use Rattle.wb_space.specs.declared.block.Block.{Block}
use Rattle.wb_space.specs.declared.block.Block.TheVariants.{Free, Mapped, Reserved, Quarantined}
use Rattle.wb_space.specs.Blocks.{state, released as block_released, opened_block, commit_begun as block_begun, commit_ended as block_ended}
use Rattle.wb_orders.specs.declared.live_order.LiveOrder.{LiveOrder}
use Rattle.wb_orders.specs.Orders.{IsTaken, order_at}
use Rattle.wb_desk.specs.Allocation.{Allocation, ImageSafe, StaysQuarantined, origin_in}
use Rattle.wb_desk.specs.Desks.{DeskState, DeskInvariant, IsGivenLawfully, IsFreeFor, IsLive, MayReserve, holdings, is_mapped}
use Rattle.wb_desk.specs.Calls.{blocks_reserved, reserved, released, next_order_taken}
use Rattle.wb_desk.specs.Messages.{MessageIsTold}
use Rattle.wb_desk.specs.Entries.{MayMap, MayUnmap, HasEntered, HasLeft, entry_of, mapped, unmapped, keeps}
use Rattle.wb_desk.specs.Commits.{HasBegun, beside as beside_of, commit_begun, commit_broken, commit_ended}
use Rattle.wb_desk.specs.Opening.{opened}
use Rattle.wb_desk.specs.Safety.{HeldImages, AreSafe, DeskCall, TakeOrder, Tell, GiveOrder, Release, Map, Unmap, BeginCommit, EndCommit, BreakCommit, Does, AreCalls, IsBeginning, AreDecisions, ComesByCalls, images_after, images_since, desk_after}
use Rattle.wb_desk.proofs.Index.{entry_for}
use Rattle.wb_desk.proofs.Shown.{same_origins}
use Rattle.wb_desk.proofs.Acts.{same_stays, stays_given_back, stays_begun, stays_ended, set_stays, from_block, block_sound, entry_sound, sound_given_back, sound_begun, sound_ended}

-- the cache blocks beside the mapping and the images, with no order
abbrev beside : List Block → Holdings → HeldImages → Allocation
beside blocks mapping images = record { blocks = blocks; mapping = mapping; committed = images.committed; running = images.running; committing = false; orders = []; threshold = 0 }

abbrev AllSafe : List Block → Holdings → HeldImages → Type 0
AllSafe blocks mapping images = (c : ℕ) → ImageSafe (state blocks c) (origin_in mapping c) (origin_in images.committed c) (origin_in images.running c)

block_safe : (blocks : List Block) (mapping : Holdings) (images : HeldImages) (c : ℕ) (b : Block)
    → (c < length blocks → ImageSafe b (origin_in mapping c) (origin_in images.committed c) (origin_in images.running c)) → AllSafe blocks mapping images → AllSafe (set blocks c b) mapping images
block_safe blocks mapping images c b here all = block_sound (beside blocks mapping images) c b here all

reserved_safe : (blocks : List Block) (mapping : Holdings) (images : HeldImages) (c : ℕ) → slice_get blocks c ≡ Some Free → AllSafe blocks mapping images → AllSafe (set blocks c Reserved) mapping images
reserved_safe blocks mapping images c free all = block_safe blocks mapping images c Reserved
    (λ l. subst (λ (b : Block). ImageSafe b (origin_in mapping c) (origin_in images.committed c) (origin_in images.running c)) (get_or_from_slice_get blocks c Free Free free) (all c)) all

given_safe : {P : Type 0} (d : DeskState P) (images : HeldImages) (cache : CBlock) (order : Order) → IsGivenLawfully d cache order → AllSafe d.space.blocks (holdings d) images
    → AllSafe (blocks_reserved d.space.blocks order) (holdings d) images
given_safe d images cache (Promote b c) lawful all = reserved_safe d.space.blocks (holdings d) images c.0 lawful.1 all
given_safe d images cache (Replace v b c) lawful all = all
given_safe d images cache (Demote b) lawful all = all
given_safe d images cache (Clean b) lawful all = all

released_safe : (blocks : List Block) (mapping : Holdings) (images : HeldImages) (c : ℕ) → AllSafe blocks mapping images → AllSafe (set blocks c (block_released (state blocks c))) mapping images
released_safe blocks mapping images c all = block_safe blocks mapping images c (block_released (state blocks c))
    (λ l. sound_given_back (state blocks c) (origin_in mapping c) (origin_in images.committed c) (origin_in images.running c) (all c)) all

mapped_safe : (blocks : List Block) (mapping : Holdings) (images : HeldImages) (c b : ℕ) → slice_get blocks c ≡ Some Reserved → c < length mapping → AllSafe blocks mapping images
    → AllSafe (set blocks c Mapped) (set mapping c (Some b)) images
mapped_safe blocks mapping images c b is within all =
    let free : ImageSafe Reserved (origin_in mapping c) (origin_in images.committed c) (origin_in images.running c) =
    subst (λ (x : Block). ImageSafe x (origin_in mapping c) (origin_in images.committed c) (origin_in images.running c)) (get_or_from_slice_get blocks c Reserved Free is) (all c) in
    entry_sound (beside blocks mapping images) c Mapped (Some b) (slice_get_within blocks c Reserved is) (b, get_or-set_same mapping c (Some b) None within, inl free.1, inl free.2) all

unmapped_safe : (blocks : List Block) (mapping : Holdings) (images : HeldImages) (c : ℕ) (keep : Bool) → c < length blocks → c < length mapping → AllSafe blocks mapping images
    → AllSafe (set blocks c (Quarantined keep false)) (set mapping c None) images
unmapped_safe blocks mapping images c keep l within all = entry_sound (beside blocks mapping images) c (Quarantined keep false) None l (get_or-set_same mapping c None None within) all

begun_safe : (blocks : List Block) (mapping : Holdings) (images : HeldImages) → AllSafe blocks mapping images → AllSafe (map block_begun blocks) mapping (record { committed = images.committed; running = mapping })
begun_safe blocks mapping images all c =
    subst (λ (b : Block). ImageSafe b (origin_in mapping c) (origin_in images.committed c) (origin_in mapping c)) (sym (get_or-map block_begun blocks c Free))
    (sound_begun (state blocks c) (origin_in mapping c) (origin_in images.committed c) (origin_in images.running c) (all c))

ended_safe : (blocks : List Block) (mapping : Holdings) (images : HeldImages) → AllSafe blocks mapping images → AllSafe (map block_ended blocks) mapping (record { committed = images.running; running = images.running })
ended_safe blocks mapping images all c =
    subst (λ (b : Block). ImageSafe b (origin_in mapping c) (origin_in images.running c) (origin_in images.running c)) (sym (get_or-map block_ended blocks c Free))
    (sound_ended (state blocks c) (origin_in mapping c) (origin_in images.committed c) (origin_in images.running c) (all c))

differs : true ≡ false → ⊥
differs e = absurd cc

-- which origin blocks stand in the entries after one came or went
pub origins-set : (entries new : List (Option Entry)) (c : ℕ) (entry : Option Entry) → new ≡ set entries c entry → origins new ≡ set (origins entries) c (option_map (λ e. e.origin.0) entry)
origins-set entries new c entry e = ap (λ (es : List (Option Entry)). origins es) e ∙ map-set (option_map (λ x. x.origin.0)) entries c entry

module _ {P : Type 0} where
  -- what a call made, with the entries of then
  with_blocks : (d : DeskState P) (blocks : List Block) (mapping : Holdings) (images : HeldImages) → d.space.blocks ≡ blocks → holdings d ≡ mapping → AllSafe blocks mapping images
      → AllSafe d.space.blocks (holdings d) images
  with_blocks d blocks mapping images b e all = subst (λ (bs : List Block). AllSafe bs (holdings d) images) (sym b) (subst (λ (m : Holdings). AllSafe blocks m images) (sym e) all)

  blocks_of : (new old : DeskState P) → new ≡ old → new.space.blocks ≡ old.space.blocks
  blocks_of new old e = ap (λ (d : DeskState P). d.space.blocks) e

  holdings_of : (new old : DeskState P) → new ≡ old → holdings new ≡ holdings old
  holdings_of new old e = ap (λ (d : DeskState P). holdings d) e

  -- a commit runs where one ran
  still : (new old : DeskState P) (images : HeldImages) → new ≡ old → (old.space.committing ≡ false → images.running ≡ images.committed) → new.space.committing ≡ false → images.running ≡ images.committed
  still new old images e idle f = idle (sym (ap (λ (d : DeskState P). d.space.committing) e) ∙ f)

  pub call_safe : (knows : P → Holdings → Type 0) (d new : DeskState P) (call : DeskCall) (images : HeldImages) → DeskInvariant knows d → Does d call new → AreSafe d images → AreSafe new (images_after d images call)
  call_safe knows d new TakeOrder images i does safe = record {
    each = with_blocks new d.space.blocks (holdings d) images (blocks_of new (next_order_taken d) does) (holdings_of new (next_order_taken d) does) safe.each;
    idle = still new (next_order_taken d) images does safe.idle;
  }
  call_safe knows d new Tell images i does safe = record {
    each = with_blocks new d.space.blocks (holdings d) images (ap (λ (x : DeskState P). x.space.blocks) does) (ap (λ (x : DeskState P). holdings x) does) safe.each;
    idle = λ f. safe.idle (sym (ap (λ (x : DeskState P). x.space.committing) does) ∙ f);
  }
  call_safe knows d new (GiveOrder cache order waits) images i does safe = record {
    each = with_blocks new (blocks_reserved d.space.blocks order) (holdings d) images (blocks_of new (reserved d cache order waits) does.1) (holdings_of new (reserved d cache order waits) does.1)
        (given_safe d images cache order does.0.lawful safe.each);
    idle = still new (reserved d cache order waits) images does.1 safe.idle;
  }
  call_safe knows d new (Release cache) images i does safe = record {
    each = with_blocks new (set d.space.blocks cache.0 (block_released (state d.space.blocks cache.0))) (holdings d) images (blocks_of new (released d cache) does.1) (holdings_of new (released d cache) does.1)
        (released_safe d.space.blocks (holdings d) images cache.0 safe.each);
    idle = still new (released d cache) images does.1 safe.idle;
  }
  call_safe knows d new (Map b cache) images i does safe = record {
    each = with_blocks new (set d.space.blocks cache.0 Mapped) (set (holdings d) cache.0 (Some b.0)) images (blocks_of new (mapped d cache new.tree new.policy) does.2)
        (origins-set d.tree.entries new.tree.entries cache.0 (Some (entry_of b)) does.1)
        (mapped_safe d.space.blocks (holdings d) images cache.0 b.0 does.0.reserved
        (omega (arith, slice_get_within d.space.blocks cache.0 Reserved does.0.reserved, i.blocks, i.mapping.size, length-map d.tree.entries (option_map (λ x. x.origin.0)))) safe.each);
    idle = still new (mapped d cache new.tree new.policy) images does.2 safe.idle;
  }
  call_safe knows d new (Unmap b cache) images i does safe =
      let within : cache.0 < length (holdings d) = slice_get_within (holdings d) cache.0 (Some b.0) does.0 in record {
        each = with_blocks new (set d.space.blocks cache.0 (Quarantined (keeps (order_at d.orders.slots cache.0)) false)) (set (holdings d) cache.0 None) images (blocks_of new (unmapped d cache new.tree new.policy) does.3)
            (origins-set d.tree.entries new.tree.entries cache.0 None does.2)
            (unmapped_safe d.space.blocks (holdings d) images cache.0 (keeps (order_at d.orders.slots cache.0))
            (omega (arith, within, i.blocks, i.mapping.size, length-map d.tree.entries (option_map (λ x. x.origin.0)))) within safe.each);
        idle = still new (unmapped d cache new.tree new.policy) images does.3 safe.idle;
      }
  call_safe knows d new BeginCommit images i does safe = record {
    each = with_blocks new (map block_begun d.space.blocks) (holdings d) (record { committed = images.committed; running = holdings d }) (blocks_of new (commit_begun d new.tree does.2.0) does.2.1)
        does.1 (begun_safe d.space.blocks (holdings d) images safe.each);
    idle = λ f. absurd (differs (sym (ap (λ (x : DeskState P). x.space.committing) does.2.1) ∙ f));
  }
  call_safe knows d new EndCommit images i does safe = record {
    each = with_blocks new (map block_ended d.space.blocks) (holdings d) (record { committed = images.running; running = images.running }) (blocks_of new (commit_ended d) does.1)
        (holdings_of new (commit_ended d) does.1) (ended_safe d.space.blocks (holdings d) images safe.each);
    idle = λ f. refl;
  }
  call_safe knows d new BreakCommit images i does safe = record {
    each = with_blocks new d.space.blocks (holdings d) images (blocks_of new (commit_broken d) does) (holdings_of new (commit_broken d) does) safe.each;
    idle = still new (commit_broken d) images does safe.idle;
  }

  pub calls_safe : (knows : P → Holdings → Type 0) (d : DeskState P) (calls : List (DeskCall × DeskState P)) (images : HeldImages) → AreCalls knows d calls → AreSafe d images
      → AreSafe (desk_after d calls) (images_since d images calls)
  calls_safe knows d [] images are safe = safe
  calls_safe knows d (c ∷ calls) images are safe = calls_safe knows c.1 calls (images_after d images c.0) are.2 (call_safe knows d c.1 c.0 images are.0 are.1 safe)

opened_one : (entry : Option Entry) → ImageSafe (opened_block (is_some entry)) (option_map (λ e. e.origin.0) entry) (option_map (λ e. e.origin.0) entry) (option_map (λ e. e.origin.0) entry)
opened_one None = (refl, refl, refl)
opened_one (Some e) = (e.origin.0, refl, inr refl, inr refl)

pub opened_safe : {P : Type 0} (geometry : Geometry) (generation : ℕ) (tree : Mapping) (used : List Place) (mode : Mode) (policy : P) (threshold mapped : ℕ)
    → AreSafe (opened geometry generation tree used mode policy threshold mapped) (record { committed = origins tree.entries; running = origins tree.entries })
opened_safe geometry generation tree used mode policy threshold mapped = record {
  each = each tree.entries;
  idle = λ f. refl;
}
  where
    each : (entries : List (Option Entry)) (c : ℕ) → ImageSafe (state (map opened_block (map is_some entries)) c) (origin_in (origins entries) c) (origin_in (origins entries) c) (origin_in (origins entries) c)
    each entries c =
        subst (λ (x : Option ℕ). ImageSafe (state (map opened_block (map is_some entries)) c) x x x) (sym (get_or-map (option_map (λ (e : Entry). e.origin.0)) entries c None))
        (subst (λ (b : Block). ImageSafe b (option_map (λ (e : Entry). e.origin.0) (get_or entries c None)) (option_map (λ (e : Entry). e.origin.0) (get_or entries c None)) (option_map (λ (e : Entry). e.origin.0) (get_or entries c None)))
        (sym (get_or-map opened_block (map is_some entries) c false ∙ ap opened_block (get_or-map is_some entries c None))) (opened_one (get_or entries c None)))

-- ---- quarantine

reserved_stays : (B E : Type 0) (blocks : List Block) (order : Order) (c : ℕ) → IsFreeFor blocks order → StaysQuarantined B E (state blocks c) (state (blocks_reserved blocks order) c)
reserved_stays B E blocks (Promote b k) c free = set_stays B E blocks k.0 Reserved c (from_block B E blocks k.0 Free Reserved free tt)
reserved_stays B E blocks (Replace v b k) c free = same_stays B E (state blocks c)
reserved_stays B E blocks (Demote b) c free = same_stays B E (state blocks c)
reserved_stays B E blocks (Clean b) c free = same_stays B E (state blocks c)

abbrev ends : DeskCall → Type 0
ends call = call ≡ EndCommit

-- a mapped block may be quarantined
mapped_leaves : (B E : Type 0) (b : Block) (keep : Bool) → is_mapped b ≡ true → StaysQuarantined B E b (Quarantined keep false)
mapped_leaves B E Free keep e = tt
mapped_leaves B E Mapped keep e = tt
mapped_leaves B E Reserved keep e = tt
mapped_leaves B E (Quarantined claimed early) keep e = absurd (differs (sym e))

module _ {P : Type 0} where
  free_for_order : (d : DeskState P) (cache : CBlock) (order : Order) → IsGivenLawfully d cache order → IsFreeFor d.space.blocks order
  free_for_order d cache (Promote b k) lawful = lawful.1
  free_for_order d cache (Replace v b k) lawful = tt
  free_for_order d cache (Demote b) lawful = tt
  free_for_order d cache (Clean b) lawful = tt

  stays_by : (B E : Type 0) (d new : DeskState P) (blocks : List Block) (c : ℕ) → new.space.blocks ≡ blocks → StaysQuarantined B E (state d.space.blocks c) (state blocks c) → StaysQuarantined B E (state d.space.blocks c) (state new.space.blocks c)
  stays_by B E d new blocks c e s = subst (λ (bs : List Block). StaysQuarantined B E (state d.space.blocks c) (state bs c)) (sym e) s

  pub quarantine_stays : (knows : P → Holdings → Type 0) (d new : DeskState P) (call : DeskCall) → DeskInvariant knows d → Does d call new → (c : ℕ)
      → StaysQuarantined (IsBeginning call) (call ≡ EndCommit) (state d.space.blocks c) (state new.space.blocks c)
  quarantine_stays knows d new TakeOrder i does c = stays_by _ _ d new d.space.blocks c (ap (λ (x : DeskState P). x.space.blocks) does) (same_stays _ _ (state d.space.blocks c))
  quarantine_stays knows d new Tell i does c = stays_by _ _ d new d.space.blocks c (ap (λ (x : DeskState P). x.space.blocks) does) (same_stays _ _ (state d.space.blocks c))
  quarantine_stays knows d new (GiveOrder cache order waits) i does c = stays_by _ _ d new (blocks_reserved d.space.blocks order) c (ap (λ (x : DeskState P). x.space.blocks) does.1)
      (reserved_stays _ _ d.space.blocks order c (free_for_order d cache order does.0.lawful))
  quarantine_stays knows d new (Release cache) i does c = stays_by _ _ d new (set d.space.blocks cache.0 (block_released (state d.space.blocks cache.0))) c (ap (λ (x : DeskState P). x.space.blocks) does.1)
      (set_stays _ _ d.space.blocks cache.0 (block_released (state d.space.blocks cache.0)) c (stays_given_back _ _ (state d.space.blocks cache.0)))
  quarantine_stays knows d new (Map b cache) i does c = stays_by _ _ d new (set d.space.blocks cache.0 Mapped) c (ap (λ (x : DeskState P). x.space.blocks) does.2)
      (set_stays _ _ d.space.blocks cache.0 Mapped c (from_block _ _ d.space.blocks cache.0 Reserved Mapped does.0.reserved tt))
  quarantine_stays knows d new (Unmap b cache) i does c =
      let keep : Bool = keeps (order_at d.orders.slots cache.0) in
      let entry = entry_for d.tree.entries b.0 cache.0 does.0 in
      let within : cache.0 < d.geometry.cache_blocks = omega (arith, slice_get_within (holdings d) cache.0 (Some b.0) does.0, i.mapping.size, length-map d.tree.entries (option_map (λ x. x.origin.0))) in
      stays_by _ _ d new (set d.space.blocks cache.0 (Quarantined keep false)) c (ap (λ (x : DeskState P). x.space.blocks) does.3)
      (set_stays _ _ d.space.blocks cache.0 (Quarantined keep false) c
      (mapped_leaves _ _ (state d.space.blocks cache.0) keep ((i.each cache.0 within).filled ∙ ap is_some entry.there)))
  quarantine_stays knows d new BeginCommit i does c = stays_by _ _ d new (map block_begun d.space.blocks) c (ap (λ (x : DeskState P). x.space.blocks) does.2.1)
      (subst (λ (x : Block). StaysQuarantined (Unit {0}) (ends BeginCommit) (state d.space.blocks c) x) (sym (get_or-map block_begun d.space.blocks c Free)) (stays_begun (Unit {0}) (ends BeginCommit) (state d.space.blocks c) tt))
  quarantine_stays knows d new EndCommit i does c = stays_by _ _ d new (map block_ended d.space.blocks) c (ap (λ (x : DeskState P). x.space.blocks) does.1)
      (subst (λ (x : Block). StaysQuarantined ⊥ (EndCommit ≡ EndCommit) (state d.space.blocks c) x) (sym (get_or-map block_ended d.space.blocks c Free)) (stays_ended ⊥ (EndCommit ≡ EndCommit) (state d.space.blocks c) refl))
  quarantine_stays knows d new BreakCommit i does c = stays_by _ _ d new d.space.blocks c (ap (λ (x : DeskState P). x.space.blocks) does) (same_stays _ _ (state d.space.blocks c))

-- ---- contracts

module _ {P : Type 0} where
  pub told_does : (with_setting : P → Key → ℕ → Option P) (d new : DeskState P) (message : Message) → MessageIsTold with_setting d message new → Does d Tell new
  told_does with_setting d new (Set MigrationThreshold value) told = told.1 ∙ ap (λ (x : DeskState P). record d { threshold = x.threshold; policy = x.policy }) (sym told.1)
  told_does with_setting d new (Set PromoteMin value) told = told.1 ∙ ap (λ (x : DeskState P). record d { threshold = x.threshold; policy = x.policy }) (sym told.1)
  told_does with_setting d new (InvalidateCblocks ranges) told = told.2 ∙ ap (λ (x : DeskState P). record d { threshold = x.threshold; policy = x.policy }) (sym told.2)

  pub begun_does : (hint_of : P → ℕ → ℕ) (clean : Option (List Bool)) (d : DeskState P) (image : Image) (new : DeskState P) → HasBegun hint_of clean d image new → Does d BeginCommit new
  begun_does hint_of clean d image new begun = (begun.may, same_origins (beside_of d clean) (hint_of d.policy) clean new.tree.entries d.tree.entries begun.shown, (image, begun.state))

  pub mapped_does : (with_entry : P → ℕ → ℕ → P) (d new : DeskState P) (b : OBlock) (c : CBlock) → MayMap d b c → HasEntered with_entry d b c new → Does d (Map b c) new
  mapped_does with_entry d new b c may entered = (may, entered.0.entries, entered.1 ∙ ap (λ (p : P). mapped d c new.tree p) (sym (ap (λ (x : DeskState P). x.policy) entered.1)))

  pub unmapped_does : (without_entry : P → ℕ → P) (d new : DeskState P) (b : OBlock) (may : MayUnmap d b) → HasLeft without_entry d b may.cache new → Does d (Unmap b may.cache) new
  unmapped_does without_entry d new b may left = (may.mapped, may.removed, left.0.entries, left.1 ∙ ap (λ (p : P). unmapped d may.cache new.tree p) (sym (ap (λ (x : DeskState P). x.policy) left.1)))

  pub released_does : (d new : DeskState P) (order : Order) (live : IsLive d order) → new ≡ released d live.cache → Does d (Release live.cache) new
  released_does d new order live is = (subst (λ (slot : Option LiveOrder). IsTaken slot) (sym live.there) live.taken, is)

-- ---- calls that follow from accesses and ticks

module _ {P : Type 0} (knows : P → Holdings → Type 0) where
  -- one list of calls after another
  calls_then : (d m : DeskState P) (first second : List (DeskCall × DeskState P)) → AreCalls knows d first → AreDecisions first → desk_after d first ≡ m
      → AreCalls knows m second → AreDecisions second
      → AreCalls knows d (first ++ second) × AreDecisions (first ++ second) × (desk_after d (first ++ second) ≡ desk_after m second)
  calls_then d m [] second are decide e others rest =
      (subst (λ (x : DeskState P). AreCalls knows x second) (sym e) others, rest, ap (λ (x : DeskState P). desk_after x second) e)
  calls_then d m (c ∷ first) second are decide e others rest = let h = calls_then c.1 m first second are.2 decide.1 e others rest in
      ((are.0, are.1, h.0), (decide.0, h.1), h.2)

  pub decided_then : (d m new : DeskState P) → ComesByCalls knows d m → ComesByCalls knows m new → ComesByCalls knows d new
  decided_then d m new a b = let h = calls_then d m a.0 b.0 a.1 a.2 a.3 b.1 b.2 in (a.0 ++ b.0, h.0, h.1, h.2 ∙ b.3)

  pub none_decided : (d new : DeskState P) → new ≡ d → ComesByCalls knows d new
  none_decided d new e = ([], tt, tt, sym e)

  -- the policy was asked
  pub asked_decided : (d new : DeskState P) (p : P) → DeskInvariant knows d → new ≡ record d { policy = p } → ComesByCalls knows d new
  asked_decided d new p i e = ((Tell, new) ∷ [], (i, told, tt), (tt, tt), refl)
    where
      told : new ≡ record d { threshold = new.threshold; policy = new.policy }
      told = e ∙ ap (λ (x : DeskState P). record d { threshold = x.threshold; policy = x.policy }) (sym e)

  pub given_decided : (d new : DeskState P) (r : Bool) (order : Order) → DeskInvariant knows d
      → OnTrue r ((c : CBlock) × MayReserve d c order × (new ≡ reserved d c order true)) → OnFalse r (new ≡ d) → ComesByCalls knows d new
  given_decided d new true order i given same = ((GiveOrder given.0 order true, new) ∷ [], (i, (given.1, given.2), tt), (refl, tt), refl)
  given_decided d new false order i given same = none_decided d new same
