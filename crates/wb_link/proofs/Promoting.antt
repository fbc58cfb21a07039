-- What is left of a promotion is safe, from its start on.
use Rattle.std.proofs.Common.{◌≡◌, inl, inr, ℕ, zero, suc, true, false, List, [], ◌∷◌, Some, None, refl, sym, ap, subst, ◌∙◌}
use Rattle.wb_disk.specs.Device.{Content, added, newest}
use Rattle.wb_contents.specs.Volume.{Volume, Locations}
use Rattle.wb_contents.specs.Acts.{volume_after as after_act, Fill_cache, Map}
use Rattle.wb_contents.specs.Conditions.{IsUnused, IsUnnamed}
use Rattle.wb_contents.proofs.Positions.{changed_same, last_of-append}
use Rattle.wb_contents.proofs.Sectors.{here_is, elsewhere_is}
use Rattle.wb_link.specs.Tables.{Order, Promoting, Finished, Failed, Look_fail, Own, Look_seal, Disown, Make_room, Done, Short, mapping_on, abstract_entering}
use Rattle.wb_link.specs.World.{Block, Reserved, Shared, Held, Nothing, Owns, AbstractActor, AllWithin, Covers}
use Rattle.wb_link.proofs.Views.{BlockView, Holds}
use Rattle.wb_link.proofs.Link.{Good, Sound, RestsAt, Others, Safe}
use Rattle.wb_link.proofs.Agreeing.{fill_agrees, map_agrees}
use Rattle.wb_link.proofs.Copying.{equal_all, past_equal}
use Rattle.wb_link.proofs.Moved.{sealing}
use Rattle.wb_link.proofs.Calm.{rests_on, returning, disowned, beginning}
use Rattle.wb_link.proofs.Migrating.{Way, Came, came_on, copying}
use Rattle.wb_link.proofs.Givings.{at_work, Comes, quietly, gives_done, gives_short}

-- while the order lives: its block is unmapped, its cache block reserved
pub record Granted (p : Order) (s : Shared) (d : Volume) : Type 0 where
  pub unmapped : d.mapping p.block ≡ None
  pub reserved : s.blocks p.cache ≡ Reserved

granted_on : (a : ℕ) (x : AbstractActor) (p : Order) (s t : Shared) (d e : Volume) → x.order ≡ Some p → Others a x s d t e → Granted p s d → Granted p t e
granted_on a x p s t d e own o k = record { unmapped = o.location p own ∙ k.unmapped; reserved = o.state p own (inl k.reserved) ∙ k.reserved }

-- a reserved block is in no image
unused : (size : ℕ) (p : Order) (t : Shared) (e : Volume) → Good size t e → t.blocks p.cache ≡ Reserved → IsUnused e p.cache
unused size p t e g r =
    let free : Sound Reserved t.mapping t.committed t.running p.cache = subst (λ (v : Block). Sound v t.mapping t.committed t.running p.cache) r (g.sound p.cache) in (
      subst (λ (v : Locations). IsUnnamed v p.cache) g.agrees.mapping free.0,
      subst (λ (v : Locations). IsUnnamed v p.cache) g.agrees.told.committed free.1,
      subst (λ (v : Locations). IsUnnamed v p.cache) g.agrees.told.running free.2,
    )

-- The copy.

pub record Filling (p : Order) (s : Shared) (d : Volume) : Type 0 where
  pub rests : RestsAt s d p.block
  pub granted : Granted p s d
  pub unused : IsUnused d p.cache
  pub live : d.live ≡ true

way : (size a : ℕ) (p : Order) (os : List (List ℕ)) → Way size a (Promoting p os) p None (Some p.cache) (λ c q. Fill_cache p.cache q (c q)) (λ s d. Filling p s d) (λ d i. newest (d.origin p.block i)) (λ d i. newest (d.cache p.cache i))
way size a p os = record {
  copier = record { plain = tt; right = λ w got d e r. record { reads = tt; histories = r; flushes = tt }; given = λ c q. refl; releases = refl };
  reads = λ l c os got. refl;
  writes = λ l c os got. refl;
  rests = λ s d k. k.rests;
  on = λ x s t d e own under g o k. let now = granted_on a x p s t d e under o k.granted in let held = subst (λ (h : Held). Holds h p.block) (sym own) refl in (
    record { rests = rests_on a p.block x s t d e o held k.rests; granted = now; unused = unused size p t e g now.reserved; live = o.live ∙ k.live },
    λ i. (o.cached p under k.granted.reserved i, ap (λ (w : BlockView). w.base i) (o.block p.block held)),
  );
  latest = λ t e q g. ap (λ f. newest (f p.block q)) g.told.origin;
  wrote = λ t e q c g k m is. record {
    run = (k.live, k.unused);
    mine = λ x busy h o. ((p, o, refl), m);
    agrees = fill_agrees t e p.cache p.block q (c q) g;
    histories = refl;
    knows = record { rests = record { whole = k.rests.whole; location = k.rests.location; dirty = k.rests.dirty; done = k.rests.done }; granted = record { unmapped = k.granted.unmapped; reserved = k.granted.reserved }; unused = k.unused; live = k.live };
    here = ap newest (here_is e.cache p.cache q (added (e.cache p.cache q) (c q))) ∙ last_of-append (e.cache p.cache q).first (c q) (e.cache p.cache q).later;
    elsewhere = λ i n. ap newest (elsewhere_is e.cache p.cache q p.cache i (added (e.cache p.cache q) (c q)) (inr n));
    same = λ i. refl;
  };
}

abbrev Copied : ℕ → Order → Shared → Volume → Type 0
Copied size p s d = Came size (λ t e. Filling p t e) (λ e i. newest (e.origin p.block i)) (λ e i. newest (e.cache p.cache i)) [] s d

-- It is mapped, and its seal is to say so.
mapping : (n size a : ℕ) (p : Order) (os : List (List ℕ)) (c : ℕ → Content) (s : Shared) (d : Volume) → Copied size p s d → Safe n size a (at_work (Promoting p os) (abstract_entering p) Finished (Owns p.block) (Some p) false c) s d
mapping zero size a p os c s d k = tt
mapping (suc n) size a p os c s d k = λ t e got o g v r. let now = came_on (way size a p os) [] (at_work (Promoting p os) (abstract_entering p) Finished (Owns p.block) (Some p) false c) s t d e refl refl g o k in
    gives_done (λ w. Comes n size a (Promoting p os) (abstract_entering p) Finished (Owns p.block) (Some p) false c t e w)
    (record {
      run = ((now.0.live, now.0.unused, now.0.granted.unmapped, equal_all size _ _ now.1 (past_equal size e p.block p.cache g.bounded)), tt);
      mine = ((refl, (p, refl, refl, refl)), tt);
      agrees = map_agrees t e p.block p.cache _ g.agrees;
      ready = (refl, now.0.granted.reserved);
      owes = tt;
      right = record { reads = tt; histories = refl; flushes = tt };
      left = sealing size a (Promoting p os) tt p.block None c (Disown p.block ∷ []) (Some p.cache) (λ l. refl) n _ (after_act e (Map p.block p.cache))
          (record { done = now.0.rests.done; whole = now.0.rests.whole; location = changed_same e.mapping p.block (Some p.cache); clean = λ k f. changed_same e.dirty p.block false })
          (λ n t e live mode rests there. disowned n size a (Promoting p os) tt p.block Finished None c t e rests);
    })
    got v

-- The desk has room for the entry, or everything is given back.
rooming : (n size a : ℕ) (p : Order) (os : List (List ℕ)) (c : ℕ → Content) (s : Shared) (d : Volume) → Copied size p s d → Safe n size a (at_work (Promoting p os) (mapping_on p) Finished (Owns p.block) (Some p) false c) s d
rooming zero size a p os c s d k = tt
rooming (suc n) size a p os c s d k = λ t e got o g v r. let now = came_on (way size a p os) [] (at_work (Promoting p os) (mapping_on p) Finished (Owns p.block) (Some p) false c) s t d e refl refl g o k in
    gives_short (λ w. Comes n size a (Promoting p os) (mapping_on p) Finished (Owns p.block) (Some p) false c t e w)
    (quietly size a (λ y u f. Safe n size a y u f) _ _ Make_room Done t e g tt tt (record { reads = tt; histories = refl; flushes = tt }) (mapping n size a p os c t e now))
    (quietly size a (λ y u f. Safe n size a y u f) _ _ Make_room Short t e g tt tt (record { reads = tt; histories = refl; flushes = tt }) (returning n size a (Promoting p os) tt p Failed c t e now.0.rests))
    got v

-- The seal tells a promotion nothing that its order does not.
pub promoting_safe : (n size a : ℕ) (p : Order) (os : List (List ℕ)) (c : ℕ → Content) (s : Shared) (d : Volume) → AllWithin size os → Covers size os → Granted p s d →
    Safe n size a (at_work (Promoting p os) (Look_fail ∷ Own p.block ∷ Look_seal p.block ∷ []) Finished Nothing (Some p) false c) s d
promoting_safe n size a p os c s d m all h = beginning size a (Promoting p os) tt p.block (Some p) c (λ t e. Granted p t e) (λ x s t d e own o k. granted_on a x p s t d e own o k)
    (λ n seal t e g k live rests is. copying (way size a p os) (mapping_on p) (λ n c s d k. rooming n size a p os c s d k) n os c t e m (record { rests = rests; granted = k; unused = unused size p t e g k.reserved; live = live }, λ i l. inl (all i l))) n s d h
