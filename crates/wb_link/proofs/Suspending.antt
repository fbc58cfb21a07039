-- What is left of a suspend is safe, from its start on: a task that is alone, so nothing changes between its steps.
use Rattle.std.proofs.Common.{◌≡◌, ◌≢◌, ◌≤◌, ◌+◌, ◌⊎◌, inl, inr, ℕ, zero, suc, Bool, true, false, List, [], ◌∷◌, None, refl, sym, ap, ◌∙◌, arith}
use Rattle.wb_disk.specs.Device.{Content}
use Rattle.wb_contents.specs.Volume.{Volume}
use Rattle.wb_contents.specs.Acts.{volume_after as after_act, Begin_suspend}
use Rattle.wb_link.specs.Tables.{Suspending, Answer, Finished, Busy, Failed, Io, Want, Look_fail, Set_suspended, Begin_clean, Sync_cache_device, Sync_origin_device, Put_root, Sync_metadata, End_running, Got, Lost, Flag, Short}
use Rattle.wb_link.specs.World.{Shared, Nothing, AbstractActor, actor_after}
use Rattle.wb_link.proofs.Link.{Others, Receives, Safe}
use Rattle.wb_link.proofs.Agreeing.{suspend_agrees, failed_agrees}
use Rattle.wb_link.proofs.Committing.{refused_safe, finishing, caching}
use Rattle.wb_link.proofs.Givings.{at_work, script_of, Comes, quietly, gives_done, gives_flag, gives_suspend}

abbrev suspending : List Want → Answer → Bool → (ℕ → Content) → AbstractActor
suspending steps answer leads c = at_work Suspending steps answer Nothing None leads c

abbrev Result : ℕ → ℕ → ℕ → List Want → Answer → Bool → (ℕ → Content) → Shared → Volume → Got → Type 0
Result n size a steps answer leads c t e got = Comes n size a Suspending steps answer Nothing None leads c t e got

-- it leaves a failed target or one that stands
abbrev Stood : Shared → Volume → Type 0
Stood s d = (s.fail ≡ true) ⊎ (d.live ≡ true)

stood_on : (a : ℕ) (x : AbstractActor) (s t : Shared) (d e : Volume) → Others a x s d t e → Stood s d → Stood t e
stood_on a x s t d e o (inl f) = inl (o.fail f)
stood_on a x s t d e o (inr l) = inr (o.live ∙ l)

-- answered otherwise than done
given_up : (n size a : ℕ) (answer : Answer) (leads : Bool) (c : ℕ → Content) (s : Shared) (d : Volume) → answer ≢ Finished → Stood s d → Safe n size a (suspending [] answer leads c) s d
given_up n size a answer leads c s d other h = refused_safe n size a Suspending tt answer other None leads c s d (λ t e o. stood_on a (suspending [] answer leads c) s t d e o h)

-- the suspended bit is set
marking : (n size a : ℕ) (c : ℕ → Content) (s : Shared) (d : Volume) → d.ticket a ≤ d.ended → Safe n size a (suspending (Set_suspended ∷ []) Finished false c) s d
marking zero size a c s d k = tt
marking (suc n) size a c s d k = λ t e got o g v r. gives_done (λ w. Result n size a (Set_suspended ∷ []) Finished false c t e w)
    (record { run = tt; mine = tt; agrees = failed_agrees t e g.agrees; ready = tt; owes = tt; right = record { reads = tt; histories = refl; flushes = tt }; left = finishing n size a Suspending tt None c (record t { fail = true }) e (omega (arith, k, o.ticket, o.ended)) (λ u f q. inl (q.fail refl)) })
    got v

beginning : (n size a : ℕ) (c : ℕ → Content) (s : Shared) (d : Volume) → d.ticket a ≤ d.began + 1 → d.live ≡ true → s.fail ≡ false → Safe n size a (suspending (Begin_clean ∷ Sync_cache_device ∷ Sync_origin_device ∷ Put_root ∷ Sync_metadata ∷ End_running ∷ Set_suspended ∷ []) Finished false c) s d
beginning zero size a c s d k l f = tt
beginning (suc n) size a c s d k l f = λ t e got o g v r.
    let steps = Begin_clean ∷ Sync_cache_device ∷ Sync_origin_device ∷ Put_root ∷ Sync_metadata ∷ End_running ∷ Set_suspended ∷ [] in
    gives_suspend t (λ w. Receives (suspending steps Finished false c) Suspending Begin_clean w t e → Result n size a steps Finished false c t e w)
    (λ idle rest. record {
      run = ((o.live ∙ l, sym g.agrees.told.root_written ∙ g.idle idle, λ b. (rest refl (ap (λ (v : Shared). v.fail) (o.alone refl).0 ∙ f) b (λ bad. absurd (cc))).whole), tt);
      mine = ((idle, refl), tt);
      agrees = suspend_agrees t e _ (λ b. rest refl (ap (λ (v : Shared). v.fail) (o.alone refl).0 ∙ f) b (λ bad. absurd (cc))) g.agrees;
      ready = (refl, refl);
      owes = tt;
      right = record { reads = tt; histories = refl; flushes = tt };
      left = caching size a Suspending tt None c (Set_suspended ∷ []) (λ n s d f. given_up n size a Io true c s d (λ f. absurd (cc)) (inl f)) (λ n s d k. marking n size a c s d k) n _ (after_act e Begin_suspend) (record { ticket = omega (arith, k, o.ticket, o.began); is_cached = λ f. absurd (cc); is_based = λ f. absurd (cc); is_rooted = λ f. absurd (cc) });
    })
    (λ rest. quietly size a (λ y u f. Safe n size a y u f) _ _ Begin_clean Lost t e g (refl, refl) tt (record { reads = tt; histories = refl; flushes = tt }) (given_up n size a Busy false c t e (λ f. absurd (cc)) (inr (o.live ∙ l))))
    (λ rest. quietly size a (λ y u f. Safe n size a y u f) _ _ Begin_clean Short t e g (refl, refl) tt (record { reads = tt; histories = refl; flushes = tt }) (given_up n size a Failed false c t e (λ f. absurd (cc)) (inr (o.live ∙ l))))
    got v r

pub suspending_safe : (n size a : ℕ) (c : ℕ → Content) (s : Shared) (d : Volume) → d.ticket a ≤ d.began + 1 → (s.fail ≡ false → d.live ≡ true) → Safe n size a (suspending (Look_fail ∷ Begin_clean ∷ Sync_cache_device ∷ Sync_origin_device ∷ Put_root ∷ Sync_metadata ∷ End_running ∷ Set_suspended ∷ []) Finished false c) s d
suspending_safe zero size a c s d k l = tt
suspending_safe (suc n) size a c s d k l = λ t e got o g v r.
    let steps = Look_fail ∷ Begin_clean ∷ Sync_cache_device ∷ Sync_origin_device ∷ Put_root ∷ Sync_metadata ∷ End_running ∷ Set_suspended ∷ [] in
    gives_flag t (λ w. Result n size a steps Finished false c t e w)
    (λ f is. quietly size a (λ y u f. Safe n size a y u f) _ _ Look_fail (Flag f) t e g tt tt (record { reads = tt; histories = refl; flushes = tt })
    (on f t e is (omega (arith, k, o.ticket, o.began)) (λ h. o.live ∙ l (ap (λ (v : Shared). v.fail) (sym (o.alone refl).0) ∙ h)))) got v
  where
    on : (f : Bool) (t : Shared) (e : Volume) → f ≡ t.fail → e.ticket a ≤ e.began + 1 → (t.fail ≡ false → e.live ≡ true) →
        Safe n size a (actor_after (suspending (Look_fail ∷ Begin_clean ∷ Sync_cache_device ∷ Sync_origin_device ∷ Put_root ∷ Sync_metadata ∷ End_running ∷ Set_suspended ∷ []) Finished false c) (script_of Suspending (Look_fail ∷ Begin_clean ∷ Sync_cache_device ∷ Sync_origin_device ∷ Put_root ∷ Sync_metadata ∷ End_running ∷ Set_suspended ∷ []) Finished) Look_fail (Flag f)) t e
    on true t e is m h = given_up n size a Failed false c t e (λ f. absurd (cc)) (inl (sym is))
    on false t e is m h = beginning n size a c t e m (h (sym is)) (sym is)
