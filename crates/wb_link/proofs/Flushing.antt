-- What is left of a flush is safe, from its start on.
use Rattle.std.proofs.Common.{◌≡◌, ◌≢◌, ◌≤◌, ◌+◌, ℕ, zero, suc, Bool, true, false, List, [], ◌∷◌, Option, Some, None, refl, sym, ◌∙◌, arith}
use Rattle.wb_disk.specs.Device.{Content}
use Rattle.wb_contents.specs.Volume.{Volume}
use Rattle.wb_contents.specs.Acts.{volume_after as after_act, Begin_commit}
use Rattle.wb_link.specs.Tables.{Order, Flushing, let_go, Answer, Finished, Busy, Failed, Io, Want, Look_fail, Begin, Sync_cache_device, Sync_origin_device, Put_root, Sync_metadata, End_running, Give_up, Got, Done, Lost, Flag, Ticket, Served, Broken, Short}
use Rattle.wb_link.specs.World.{Shared, Nothing, AbstractActor, actor_after}
use Rattle.wb_link.proofs.Link.{Good, Receives, Safe}
use Rattle.wb_link.proofs.Agreeing.{begin_agrees, blocks_agrees}
use Rattle.wb_link.proofs.Committing.{refused_safe, finishing, caching}
use Rattle.wb_link.proofs.Givings.{at_work, script_of, Comes, quietly, gives_done, gives_flag, gives_begin}

abbrev flushing : Option Order → List Want → Answer → Bool → (ℕ → Content) → AbstractActor
flushing q steps answer leads c = at_work (Flushing q) steps answer Nothing q leads c

abbrev Result : Option Order → ℕ → ℕ → ℕ → List Want → Answer → Bool → (ℕ → Content) → Shared → Volume → Got → Type 0
Result q n size a steps answer leads c t e got = Comes n size a (Flushing q) steps answer Nothing q leads c t e got

-- answered otherwise than done
given_up : (q : Option Order) (n size a : ℕ) (answer : Answer) (leads : Bool) (c : ℕ → Content) (s : Shared) (d : Volume) → answer ≢ Finished → Safe n size a (flushing q [] answer leads c) s d
given_up q n size a answer leads c s d other = refused_safe n size a (Flushing q) tt answer other q leads c s d (λ t e o. tt)

-- a replacement's order is given up
releasing : (n size a : ℕ) (p : Order) (c : ℕ → Content) (s : Shared) (d : Volume) → Safe n size a (flushing (Some p) (Give_up p ∷ []) Failed false c) s d
releasing zero size a p c s d = tt
releasing (suc n) size a p c s d = λ t e got o g v r. gives_done (λ k. Result (Some p) n size a (Give_up p ∷ []) Failed false c t e k)
    (record { run = tt; mine = tt; agrees = blocks_agrees t e _ g.agrees; ready = refl; owes = tt; right = record { reads = tt; histories = refl; flushes = tt }; left = refused_safe n size a (Flushing (Some p)) tt Failed (λ f. absurd (cc)) None false c _ e (λ u f o. tt) }) got v

short : (q : Option Order) (n size a : ℕ) (c : ℕ → Content) (s : Shared) (d : Volume) → Safe n size a (flushing q (let_go q) Failed false c) s d
short None n size a c s d = given_up None n size a Failed false c s d (λ f. absurd (cc))
short (Some p) n size a c s d = releasing n size a p c s d

-- it leads a commit
leading : (q : Option Order) (n size a : ℕ) (ticket : Option ℕ) (c : ℕ → Content) (t : Shared) (e : Volume) → Good size t e → e.ticket a ≤ e.began + 1 → e.live ≡ true → t.committing ≡ false → Result q n size a (Begin ticket ∷ Sync_cache_device ∷ Sync_origin_device ∷ Put_root ∷ Sync_metadata ∷ End_running ∷ []) Finished false c t e Done
leading q n size a ticket c t e g k l idle = record {
  run = ((l, sym g.agrees.told.root_written ∙ g.idle idle), tt);
  mine = (idle, tt);
  agrees = begin_agrees t e _ g.agrees;
  ready = refl;
  owes = tt;
  right = record { reads = tt; histories = refl; flushes = tt };
  left = caching size a (Flushing q) tt q c [] (λ n s d f. given_up q n size a Io true c s d (λ f. absurd (cc))) (λ n s d k. finishing n size a (Flushing q) tt q c s d k (λ t e o. tt)) n _ (after_act e Begin_commit) (record { ticket = k; is_cached = λ f. absurd (cc); is_based = λ f. absurd (cc); is_rooted = λ f. absurd (cc) });
}

-- with a ticket: any commit of its number or a later one began after this flush did
asking : (q : Option Order) (n size a k : ℕ) (c : ℕ → Content) (s : Shared) (d : Volume) → d.ticket a ≤ k → d.ticket a ≤ d.began + 1 → d.live ≡ true → Safe n size a (flushing q (Begin (Some k) ∷ Sync_cache_device ∷ Sync_origin_device ∷ Put_root ∷ Sync_metadata ∷ End_running ∷ []) Finished false c) s d
asking q zero size a k c s d i j l = tt
asking q (suc n) size a k c s d i j l = λ t e got o g v r.
    gives_begin t (Some k) (λ w. Result q n size a (Begin (Some k) ∷ Sync_cache_device ∷ Sync_origin_device ∷ Put_root ∷ Sync_metadata ∷ End_running ∷ []) Finished false c t e w)
    (λ idle. leading q n size a (Some k) c t e g (omega (arith, j, o.ticket, o.began)) (o.live ∙ l) idle)
    (λ m none is. let bad : Some k ≡ None = none in absurd (cc))
    (λ served. quietly size a (λ y u f. Safe n size a y u f) _ _ (Begin (Some k)) Served t e g refl tt (record { reads = tt; histories = refl; flushes = tt }) (finishing n size a (Flushing q) tt q c t e (omega (arith, i, o.ticket, served, g.agrees.ended)) (λ u f o. tt)))
    (quietly size a (λ y u f. Safe n size a y u f) _ _ (Begin (Some k)) Broken t e g refl tt (record { reads = tt; histories = refl; flushes = tt }) (given_up q n size a Failed false c t e (λ f. absurd (cc))))
    (quietly size a (λ y u f. Safe n size a y u f) _ _ (Begin (Some k)) Short t e g refl tt (record { reads = tt; histories = refl; flushes = tt }) (short q n size a c t e))
    (quietly size a (λ y u f. Safe n size a y u f) _ _ (Begin (Some k)) Lost t e g refl tt (record { reads = tt; histories = refl; flushes = tt }) (given_up q n size a Busy false c t e (λ f. absurd (cc))))
    got v

beginning : (q : Option Order) (n size a : ℕ) (c : ℕ → Content) (s : Shared) (d : Volume) → d.ticket a ≤ d.began + 1 → d.live ≡ true → Safe n size a (flushing q (Begin None ∷ Sync_cache_device ∷ Sync_origin_device ∷ Put_root ∷ Sync_metadata ∷ End_running ∷ []) Finished false c) s d
beginning q zero size a c s d k l = tt
beginning q (suc n) size a c s d k l = λ t e got o g v r.
    gives_begin t None (λ w. Result q n size a (Begin None ∷ Sync_cache_device ∷ Sync_origin_device ∷ Put_root ∷ Sync_metadata ∷ End_running ∷ []) Finished false c t e w)
    (λ idle. leading q n size a None c t e g (omega (arith, k, o.ticket, o.began)) (o.live ∙ l) idle)
    (λ m none is. quietly size a (λ y u f. Safe n size a y u f) _ _ (Begin None) (Ticket m) t e g refl tt (record { reads = tt; histories = refl; flushes = tt })
    (asking q n size a m c t e (omega (arith, k, is, o.ticket, o.began, g.agrees.began)) (omega (arith, k, o.ticket, o.began)) (o.live ∙ l)))
    (λ served. absurd served)
    (quietly size a (λ y u f. Safe n size a y u f) _ _ (Begin None) Broken t e g refl tt (record { reads = tt; histories = refl; flushes = tt }) (given_up q n size a Failed false c t e (λ f. absurd (cc))))
    (quietly size a (λ y u f. Safe n size a y u f) _ _ (Begin None) Short t e g refl tt (record { reads = tt; histories = refl; flushes = tt }) (short q n size a c t e))
    (quietly size a (λ y u f. Safe n size a y u f) _ _ (Begin None) Lost t e g refl tt (record { reads = tt; histories = refl; flushes = tt }) (given_up q n size a Busy false c t e (λ f. absurd (cc))))
    got v

pub flushing_safe : (q : Option Order) (n size a : ℕ) (c : ℕ → Content) (s : Shared) (d : Volume) → d.ticket a ≤ d.began + 1 → Safe n size a (flushing q (Look_fail ∷ Begin None ∷ Sync_cache_device ∷ Sync_origin_device ∷ Put_root ∷ Sync_metadata ∷ End_running ∷ []) Finished false c) s d
flushing_safe q zero size a c s d k = tt
flushing_safe q (suc n) size a c s d k = λ t e got o g v r.
    let steps = Look_fail ∷ Begin None ∷ Sync_cache_device ∷ Sync_origin_device ∷ Put_root ∷ Sync_metadata ∷ End_running ∷ [] in
    gives_flag t (λ w. Receives (flushing q steps Finished false c) (Flushing q) Look_fail w t e → Result q n size a steps Finished false c t e w)
    (λ f is h. quietly size a (λ y u f. Safe n size a y u f) _ _ Look_fail (Flag f) t e g tt tt (record { reads = tt; histories = refl; flushes = tt }) (on f t e (omega (arith, k, o.ticket, o.began)) h)) got v r
  where
    on : (f : Bool) (t : Shared) (e : Volume) → e.ticket a ≤ e.began + 1 → Receives (flushing q (Look_fail ∷ Begin None ∷ Sync_cache_device ∷ Sync_origin_device ∷ Put_root ∷ Sync_metadata ∷ End_running ∷ []) Finished false c) (Flushing q) Look_fail (Flag f) t e →
        Safe n size a (actor_after (flushing q (Look_fail ∷ Begin None ∷ Sync_cache_device ∷ Sync_origin_device ∷ Put_root ∷ Sync_metadata ∷ End_running ∷ []) Finished false c) (script_of (Flushing q) (Look_fail ∷ Begin None ∷ Sync_cache_device ∷ Sync_origin_device ∷ Put_root ∷ Sync_metadata ∷ End_running ∷ []) Finished) Look_fail (Flag f)) t e
    on true t e m h = given_up q n size a Failed false c t e (λ f. absurd (cc))
    on false t e m h = beginning q n size a c t e m (h refl)
