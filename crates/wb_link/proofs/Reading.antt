-- What is left of a read is safe, from its start on.
use Rattle.std.proofs.Common.{◌≡◌, ◌⊎◌, inl, inr, ℕ, zero, suc, Bool, true, false, List, [], ◌∷◌, Option, Some, None, refl, sym, ap, subst, ◌∙◌}
use Rattle.wb_disk.specs.Device.{Content, newest}
use Rattle.wb_contents.specs.Volume.{Volume, Whole, at_location}
use Rattle.wb_types.specs.declared.mode.Mode.TheVariants.{Passthrough}
use Rattle.wb_link.specs.Tables.{Reading, Answer, Finished, Busy, Failed, Io, Look_fail, Share, Look_seal, Leave, Read_all, Done, Lost, Flag, Seen, Gave, Fault, read_each, read_from}
use Rattle.wb_link.specs.World.{Shared, Nothing, Shares, newest_at, actor_after}
use Rattle.wb_link.proofs.Views.{BlockView, block_view}
use Rattle.wb_link.proofs.Link.{Good, RestsAt, Receives, Safe}
use Rattle.wb_link.proofs.Copying.{alike_on}
use Rattle.wb_link.proofs.Calm.{rests_on, ending}
use Rattle.wb_link.proofs.Givings.{at_work, script_of, Comes, holds_nothing, quietly, gives_done, gives_lost, gives_flag, gives_seal, gives_read}

-- what a read knows of the block that it shares: each sector has its last write, and where it reads it is where the block
-- is, or the origin of a clean one
abbrev Sharing : Option ℕ → BlockView → Type 0
Sharing to v = ((to ≡ v.location) ⊎ ((to ≡ None) × ((k : ℕ) → v.location ≡ Some k → v.dirty ≡ false))) × ((o : ℕ) → v.standing o ≡ Whole)

leaving : (n size a : ℕ) (past : Bool) (b : ℕ) (os : List (List ℕ)) (answer : Answer) (c : ℕ → Content) (s : Shared) (d : Volume) → Safe n size a (at_work (Reading past b os) (Leave b ∷ []) answer (Shares b) None false c) s d
leaving zero size a past b os answer c s d = tt
leaving (suc n) size a past b os answer c s d = λ t e got o g v r. gives_done (λ k. Comes n size a (Reading past b os) (Leave b ∷ []) answer (Shares b) None false c t e k)
    (quietly size a (λ y u f. Safe n size a y u f) _ _ (Leave b) Done t e g refl tt (record { reads = tt; histories = refl; flushes = tt }) (ending n size a (Reading past b os) tt answer Nothing None c t e (holds_nothing answer t))) got v

-- the sector is the last write
latest : (size b o : ℕ) (to : Option ℕ) (t : Shared) (e : Volume) → Good size t e → Sharing to (block_view e b) → newest_at t to b o ≡ newest (e.histories b o)
latest size b o to t e g k = elim k.0 [ inl m ↦ here to m | inr m ↦ past (e.mapping b) refl m.0 m.1 ] where
  here : (p : Option ℕ) → p ≡ e.mapping b → newest_at t p b o ≡ newest (e.histories b o)
  here None m = ap (λ f. newest (f b o)) g.agrees.told.origin ∙ ap (λ q. newest (at_location e.origin e.cache q b o)) m ∙ (g.kept.latest.sectors b o).latest (k.1 o)
  here (Some j) m = ap (λ f. newest (f j o)) g.agrees.told.cache ∙ ap (λ q. newest (at_location e.origin e.cache q b o)) m ∙ (g.kept.latest.sectors b o).latest (k.1 o)

  past : (p : Option ℕ) → e.mapping b ≡ p → to ≡ None → ((j : ℕ) → e.mapping b ≡ Some j → e.dirty b ≡ false) → newest_at t to b o ≡ newest (e.histories b o)
  past None m is clean = here to (is ∙ sym m)
  past (Some j) m is clean = let sector = g.kept.latest.sectors b o in
      ap (λ q. newest_at t q b o) is ∙ ap (λ f. newest (f b o)) g.agrees.told.origin ∙ sym (sector.clean (clean j m) (k.1 o)) ∙ sector.latest (k.1 o)

-- where it reads, once it has seen the seal: past the cache in passthrough alone, where every mapped block is clean
shared : (size b : ℕ) (past : Bool) (p : Option ℕ) (t : Shared) (e : Volume) → Good size t e → (past ≡ true → e.mode ≡ Passthrough) → p ≡ e.mapping b → ((o : ℕ) → e.standing b o ≡ Whole) → Sharing (read_from past p) (block_view e b)
shared size b true p t e g l is whole = (inr (refl, λ k m. g.kept.latest.passed (l refl) b k m), whole)
shared size b false p t e g l is whole = (inl is, whole)

reading : (n size a : ℕ) (past : Bool) (b : ℕ) (all os : List (List ℕ)) (to : Option ℕ) (c : ℕ → Content) (s : Shared) (d : Volume) → Sharing to (block_view d b) → Safe n size a (at_work (Reading past b all) (read_each to b os (Leave b ∷ [])) Finished (Shares b) None false c) s d
reading zero size a past b all os to c s d k = tt
reading (suc n) size a past b all [] to c s d k = leaving (suc n) size a past b all Finished c s d
reading (suc n) size a past b all (q ∷ os) to c s d k = λ t e got o g v r.
    let now : Sharing to (block_view e b) = subst (λ (w : BlockView). Sharing to w) (sym (o.block b refl)) k in
    gives_read t to b q (λ w. Comes n size a (Reading past b all) (read_each to b (q ∷ os) (Leave b ∷ [])) Finished (Shares b) None false c t e w)
    (λ x is. quietly size a (λ y u f. Safe n size a y u f) _ _ (Read_all to b q) (Gave x) t e g tt tt (record { reads = alike_on q x (newest_at t to b) (λ i. newest (e.histories b i)) (λ i. sym (latest size b i to t e g now)) is; histories = refl; flushes = tt }) (reading n size a past b all os to x t e now))
    (λ lands. quietly size a (λ y u f. Safe n size a y u f) _ _ (Read_all to b q) (Fault lands) t e g tt tt (record { reads = tt; histories = refl; flushes = tt }) (leaving n size a past b all Io c t e))
    got v

sealed : (n size a : ℕ) (past : Bool) (b : ℕ) (os : List (List ℕ)) (c : ℕ → Content) (s : Shared) (d : Volume) → (past ≡ true → d.mode ≡ Passthrough) → RestsAt s d b → Safe n size a (at_work (Reading past b os) (Look_seal b ∷ []) Finished (Shares b) None false c) s d
sealed zero size a past b os c s d l k = tt
sealed (suc n) size a past b os c s d l k = λ t e got o g v r.
    let now : RestsAt t e b = rests_on a b _ s t d e o refl k in
    gives_seal t b (λ w. Comes n size a (Reading past b os) (Look_seal b ∷ []) Finished (Shares b) None false c t e w)
    (λ seal is. quietly size a (λ y u f. Safe n size a y u f) _ _ (Look_seal b) (Seen seal) t e g tt tt (record { reads = tt; histories = refl; flushes = tt }) (reading n size a past b os os (read_from past seal.location) c t e (shared size b past seal.location t e g (λ p. o.mode ∙ l p) (ap (λ w. w.location) is ∙ now.location) now.whole)))
    got v

sharing : (n size a : ℕ) (past : Bool) (b : ℕ) (os : List (List ℕ)) (c : ℕ → Content) (s : Shared) (d : Volume) → (past ≡ true → d.mode ≡ Passthrough) → Safe n size a (at_work (Reading past b os) (Share b ∷ Look_seal b ∷ []) Finished Nothing None false c) s d
sharing zero size a past b os c s d l = tt
sharing (suc n) size a past b os c s d l = λ t e got o g v r.
    gives_lost (λ w. Receives (at_work (Reading past b os) (Share b ∷ Look_seal b ∷ []) Finished Nothing None false c) (Reading past b os) (Share b) w t e → Comes n size a (Reading past b os) (Share b ∷ Look_seal b ∷ []) Finished Nothing None false c t e w)
    (λ k. quietly size a (λ y u f. Safe n size a y u f) _ _ (Share b) Done t e g refl tt (record { reads = tt; histories = refl; flushes = tt }) (sealed n size a past b os c t e (λ p. o.mode ∙ l p) k))
    (λ k. quietly size a (λ y u f. Safe n size a y u f) _ _ (Share b) Lost t e g refl tt (record { reads = tt; histories = refl; flushes = tt }) (ending n size a (Reading past b os) tt Busy Nothing None c t e (inl refl)))
    got v r

pub reading_safe : (n size a : ℕ) (past : Bool) (b : ℕ) (os : List (List ℕ)) (c : ℕ → Content) (s : Shared) (d : Volume) → (past ≡ true → d.mode ≡ Passthrough) → Safe n size a (at_work (Reading past b os) (Look_fail ∷ Share b ∷ Look_seal b ∷ []) Finished Nothing None false c) s d
reading_safe zero size a past b os c s d l = tt
reading_safe (suc n) size a past b os c s d l = λ t e got o g v r.
    gives_flag t (λ w. Comes n size a (Reading past b os) (Look_fail ∷ Share b ∷ Look_seal b ∷ []) Finished Nothing None false c t e w)
    (λ f is. quietly size a (λ y u f. Safe n size a y u f) _ _ Look_fail (Flag f) t e g tt tt (record { reads = tt; histories = refl; flushes = tt }) (on f n size a past b os c t e (λ p. o.mode ∙ l p))) got v
  where
    on : (f : Bool) (n size a : ℕ) (past : Bool) (b : ℕ) (os : List (List ℕ)) (c : ℕ → Content) (t : Shared) (e : Volume) → (past ≡ true → e.mode ≡ Passthrough) → Safe n size a (actor_after (at_work (Reading past b os) (Look_fail ∷ Share b ∷ Look_seal b ∷ []) Finished Nothing None false c) (script_of (Reading past b os) (Look_fail ∷ Share b ∷ Look_seal b ∷ []) Finished) Look_fail (Flag f)) t e
    on true n size a past b os c t e l = ending n size a (Reading past b os) tt Failed Nothing None c t e (inl refl)
    on false n size a past b os c t e l = sharing n size a past b os c t e l
