-- What is left of a demotion or a write-back is safe, from its start on: the copy home, and then either end.
use Rattle.std.proofs.Common.{◌≡◌, ◌⊎◌, inl, inr, ℕ, zero, suc, Bool, true, false, List, [], ◌∷◌, Some, None, refl, sym, ap, subst, ◌∙◌}
use Rattle.wb_disk.specs.Device.{Content, added, newest}
use Rattle.wb_contents.specs.Volume.{Volume, location, at_location, changed}
use Rattle.wb_contents.specs.Acts.{volume_after as after_act, Unmap, Make_clean, Copy_back}
use Rattle.wb_contents.specs.Conditions.{IsCopied, IsAllWhole}
use Rattle.wb_contents.proofs.Positions.{changed_same, last_of-append}
use Rattle.wb_contents.proofs.Sectors.{here_is, elsewhere_is}
use Rattle.wb_link.specs.Tables.{Order, Returning, Finished, Look_fail, Own, Look_seal, Disown, Seal, copy_dirty, unmapping, cleaning, returned}
use Rattle.wb_link.specs.World.{Shared, Held, Nothing, Owns, AbstractActor, AllWithin, Covers, following}
use Rattle.wb_link.proofs.Views.{BlockView, Holds, block_view}
use Rattle.wb_link.proofs.Link.{RestsAt, Others, Safe}
use Rattle.wb_link.proofs.Actors.{others_same}
use Rattle.wb_link.proofs.Agreeing.{empty_agrees, unmap_agrees, seal_agrees}
use Rattle.wb_link.proofs.Copying.{equal_all, past_equal}
use Rattle.wb_link.proofs.Moved.{seal_of, moved_rests, sealing}
use Rattle.wb_link.proofs.Calm.{rests_on, returning, disowned, beginning}
use Rattle.wb_link.proofs.Migrating.{Way, Came, came_on, copying}
use Rattle.wb_link.proofs.Givings.{at_work, Comes, gives_done}

-- What it knows while it owns its block: it rests, and it is where the order says.
pub record Placed (p : Order) (s : Shared) (d : Volume) : Type 0 where
  pub rests : RestsAt s d p.block
  pub mapped : d.mapping p.block ≡ Some p.cache
  pub live : d.live ≡ true

placed_on : (a : ℕ) (x : AbstractActor) (p : Order) (s t : Shared) (d e : Volume) → x.held ≡ Owns p.block → x.order ≡ Some p → Others a x s d t e → Placed p s d → Placed p t e
placed_on a x p s t d e own under o k = record {
  rests = rests_on a p.block x s t d e o (subst (λ (h : Held). Holds h p.block) (sym own) refl) k.rests;
  mapped = o.location p under ∙ k.mapped;
  live = o.live ∙ k.live;
}

-- a block that is mapped: its last contents are those on the cache
latest_is : (p : Order) (d : Volume) (i : ℕ) → d.mapping p.block ≡ Some p.cache → newest (location d d.mapping p.block i) ≡ newest (d.cache p.cache i)
latest_is p d i m = ap (λ q. newest (at_location d.origin d.cache q p.block i)) m

cache_on : (p : Order) (d e : Volume) (i : ℕ) → d.mapping p.block ≡ Some p.cache → e.mapping p.block ≡ Some p.cache → block_view e p.block ≡ block_view d p.block → newest (e.cache p.cache i) ≡ newest (d.cache p.cache i)
cache_on p d e i m n same = sym (latest_is p e i n) ∙ ap (λ (w : BlockView). w.latest i) same ∙ latest_is p d i m

-- It is unmapped where it is clean, or copied.
leaving_away : (n size a : ℕ) (p : Order) (os : List (List ℕ)) (c : ℕ → Content) (s : Shared) (d : Volume) → Placed p s d → ((i : ℕ) → newest (d.cache p.cache i) ≡ newest (d.origin p.block i)) ⊎ (d.dirty p.block ≡ false) →
    Safe n size a (at_work (Returning true p os) (unmapping p) Finished (Owns p.block) (Some p) false c) s d
leaving_away zero size a p os c s d k copied = tt
leaving_away (suc n) size a p os c s d k copied = λ t e got o g v r. let now = placed_on a (at_work (Returning true p os) (unmapping p) Finished (Owns p.block) (Some p) false c) p s t d e refl refl o k in
    let same : block_view e p.block ≡ block_view d p.block = o.block p.block refl in
    let ready : IsCopied e p.block p.cache ⊎ ((e.dirty p.block ≡ false) × IsAllWhole e p.block) = elim copied [
      | inl all ↦ inl (λ i. cache_on p d e i k.mapped now.mapped same ∙ all i ∙ sym (ap (λ (w : BlockView). w.base i) same))
      | inr f ↦ inr (ap (λ (w : BlockView). w.dirty) same ∙ f, now.rests.whole)
    ] in
    gives_done (λ w. Comes n size a (Returning true p os) (unmapping p) Finished (Owns p.block) (Some p) false c t e w)
    (record {
      run = ((now.live, (p.cache, now.mapped, ready)), tt);
      mine = ((refl, inl (p, refl, refl)), tt);
      agrees = unmap_agrees t e p.block _ g.agrees;
      ready = (refl, ap (λ f. f p.block) g.agrees.mapping ∙ now.mapped);
      owes = tt;
      right = record { reads = tt; histories = refl; flushes = tt };
      left = sealing size a (Returning true p os) tt p.block (following p.cache p.next) c (Disown p.block ∷ []) None (λ l. refl) n _ (after_act e (Unmap p.block))
          (record { done = now.rests.done; whole = now.rests.whole; location = changed_same e.mapping p.block None; clean = λ j f. absurd (cc) })
          (λ n t e live mode rests gone. disowned n size a (Returning true p os) tt p.block Finished (following p.cache p.next) c t e rests);
    })
    got v

-- Its seal is set clean where it was clean, or is copied.
leaving_clean : (n size a : ℕ) (p : Order) (os : List (List ℕ)) (c : ℕ → Content) (s : Shared) (d : Volume) → Placed p s d → ((i : ℕ) → newest (d.cache p.cache i) ≡ newest (d.origin p.block i)) ⊎ (d.dirty p.block ≡ false) →
    Safe n size a (at_work (Returning false p os) (cleaning p) Finished (Owns p.block) (Some p) false c) s d
leaving_clean zero size a p os c s d k copied = tt
leaving_clean (suc n) size a p os c s d k copied = λ t e got o g v r. let now = placed_on a (at_work (Returning false p os) (cleaning p) Finished (Owns p.block) (Some p) false c) p s t d e refl refl o k in
    let same : block_view e p.block ≡ block_view d p.block = o.block p.block refl in
    let ready : (e.dirty p.block ≡ false) ⊎ IsCopied e p.block p.cache = elim copied [
      | inl all ↦ inr (λ i. cache_on p d e i k.mapped now.mapped same ∙ all i ∙ sym (ap (λ (w : BlockView). w.base i) same))
      | inr f ↦ inl (ap (λ (w : BlockView). w.dirty) same ∙ f)
    ] in
    gives_done (λ w. Comes n size a (Returning false p os) (cleaning p) Finished (Owns p.block) (Some p) false c t e w)
    (record {
      run = ((now.live, (p.cache, now.mapped, ready)), tt);
      mine = (refl, tt);
      agrees = seal_agrees t e (changed t.seals p.block (seal_of (Some p.cache))) (changed e.dirty p.block false) g.agrees;
      ready = refl;
      owes = tt;
      right = record { reads = tt; histories = refl; flushes = tt };
      left = returning n size a (Returning false p os) tt p Finished c (record t { seals = changed t.seals p.block (seal_of (Some p.cache)) }) (after_act e (Make_clean p.block)) (moved_rests p.block (Some p.cache) t (after_act e (Make_clean p.block)) (after_act e (Make_clean p.block)) refl (record { done = now.rests.done; whole = now.rests.whole; location = now.mapped; clean = λ j f. changed_same e.dirty p.block false }));
    })
    got v

leaving : (n size a : ℕ) (leaves : Bool) (p : Order) (os : List (List ℕ)) (c : ℕ → Content) (s : Shared) (d : Volume) → Placed p s d → ((i : ℕ) → newest (d.cache p.cache i) ≡ newest (d.origin p.block i)) ⊎ (d.dirty p.block ≡ false) →
    Safe n size a (at_work (Returning leaves p os) (returned leaves p) Finished (Owns p.block) (Some p) false c) s d
leaving n size a true p os c s d k copied = leaving_away n size a p os c s d k copied
leaving n size a false p os c s d k copied = leaving_clean n size a p os c s d k copied

-- The copy to the origin.

way : (size a : ℕ) (leaves : Bool) (p : Order) (os : List (List ℕ)) → Way size a (Returning leaves p os) p (Some p.cache) None (λ c q. Copy_back p.block q) (λ s d. Placed p s d) (λ d i. newest (d.cache p.cache i)) (λ d i. newest (d.origin p.block i))
way size a leaves p os = record {
  copier = record { plain = tt; right = λ w got d e r. record { reads = tt; histories = r; flushes = tt }; given = λ c q. refl; releases = refl };
  reads = λ l c os got. refl;
  writes = λ l c os got. refl;
  rests = λ s d k. k.rests;
  on = λ x s t d e own under g o k. let now = placed_on a x p s t d e own under o k in let same = o.block p.block (subst (λ (h : Held). Holds h p.block) (sym own) refl) in (now, λ i. (ap (λ (w : BlockView). w.base i) same, cache_on p d e i k.mapped now.mapped same));
  latest = λ t e q g. ap (λ f. newest (f p.cache q)) g.told.cache;
  wrote = λ t e q c g k m is. let latest = latest_is p e q k.mapped in let new = newest (location e e.mapping p.block q) in record {
    run = (k.live, k.rests.whole q);
    mine = λ x busy h o. (h, m);
    agrees = empty_agrees t e p.block q (c q) (is ∙ sym latest) g;
    histories = refl;
    knows = record { rests = record { whole = k.rests.whole; location = k.rests.location; dirty = k.rests.dirty; done = k.rests.done }; mapped = k.mapped; live = k.live };
    here = ap newest (here_is e.origin p.block q (added (e.origin p.block q) new)) ∙ last_of-append (e.origin p.block q).first new (e.origin p.block q).later ∙ latest ∙ sym is;
    elsewhere = λ i n. ap newest (elsewhere_is e.origin p.block q p.block i (added (e.origin p.block q) new) (inr n));
    same = λ i. refl;
  };
}

copied : (n size a : ℕ) (leaves : Bool) (p : Order) (os : List (List ℕ)) (c : ℕ → Content) (s : Shared) (d : Volume) → Came size (λ t e. Placed p t e) (λ e i. newest (e.cache p.cache i)) (λ e i. newest (e.origin p.block i)) [] s d →
    Safe n size a (at_work (Returning leaves p os) (returned leaves p) Finished (Owns p.block) (Some p) false c) s d
copied zero size a leaves p os c s d k = tt
copied (suc n) size a leaves p os c s d k = λ t e got o g v r.
    let x = at_work (Returning leaves p os) (returned leaves p) Finished (Owns p.block) (Some p) false c in
    let now = came_on (way size a leaves p os) [] x s t d e refl refl g o k in
    leaving (suc n) size a leaves p os c t e now.0 (inl (λ i. sym (equal_all size _ _ now.1 (λ j l. sym (past_equal size e p.block p.cache g.bounded j l)) i))) t e got (others_same a x t e) g v r

-- The seal tells whether there is anything to copy.

worked : (n size a : ℕ) (leaves : Bool) (p : Order) (os : List (List ℕ)) (f : Bool) (c : ℕ → Content) (s : Shared) (d : Volume) → AllWithin size os → Covers size os → Placed p s d → f ≡ (s.seals p.block).dirty →
    Safe n size a (at_work (Returning leaves p os) (copy_dirty f p os (returned leaves p)) Finished (Owns p.block) (Some p) false c) s d
worked n size a leaves p os true c s d m all k is = copying (way size a leaves p os) (returned leaves p) (λ n c s d k. copied n size a leaves p os c s d k) n os c s d m (k, λ i l. inl (all i l))
worked n size a leaves p os false c s d m all k is = leaving n size a leaves p os c s d k (inr (sym (is ∙ k.rests.dirty p.cache k.mapped)))

pub returning_safe : (n size a : ℕ) (leaves : Bool) (p : Order) (os : List (List ℕ)) (c : ℕ → Content) (s : Shared) (d : Volume) → AllWithin size os → Covers size os → d.mapping p.block ≡ Some p.cache → Safe n size a (at_work (Returning leaves p os) (Look_fail ∷ Own p.block ∷ Look_seal p.block ∷ []) Finished Nothing (Some p) false c) s d
returning_safe n size a leaves p os c s d m all h = beginning size a (Returning leaves p os) tt p.block (Some p) c (λ t e. e.mapping p.block ≡ Some p.cache) (λ x s t d e own o k. o.location p own ∙ k)
    (λ n seal t e g k live rests is. worked n size a leaves p os seal.dirty c t e m all (record { rests = rests; mapped = k; live = live }) (ap (λ (w : Seal). w.dirty) is)) n s d h
