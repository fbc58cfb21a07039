-- A block that has moved, before its seal says so: into the cache or out of it, under an order or without one.
use Rattle.std.proofs.Common.{◌≡◌, inr, ℕ, zero, suc, true, false, List, [], ◌∷◌, Option, Some, None, refl, sym, ap, subst, ◌∙◌, length}
use Rattle.wb_disk.specs.Device.{Content}
use Rattle.wb_contents.specs.Volume.{Volume, Whole, Locations, changed}
use Rattle.wb_types.specs.declared.mode.Mode.TheVariants.{Passthrough}
use Rattle.wb_contents.specs.Acts.{Act, volume_after as after_act, volume_after_all as after_acts, Unmap}
use Rattle.wb_contents.proofs.Positions.{changed_same}
use Rattle.wb_link.specs.Tables.{Order, Job, Seal, Finished, Want, Set_seal, Unmap_plain, Done, dropping}
use Rattle.wb_link.specs.World.{Shared, Owns, Quarantined, job_drops}
use Rattle.wb_link.proofs.Views.{BlockView, block_view}
use Rattle.wb_link.proofs.Link.{Rests, RestsAt, Goes, Safe, acts_of}
use Rattle.wb_link.proofs.Agreeing.{seal_agrees, unmap_agrees}
use Rattle.wb_link.proofs.Calm.{IsPlain, still_right, calmly, rests_on}
use Rattle.wb_link.proofs.Givings.{at_work, script_of, Comes, Life, life_on, gives_done}

-- it was at rest, but that it is here now, and clean
pub record Moved (b : ℕ) (to : Option ℕ) (d : Volume) : Type 0 where
  pub done : (i : ℕ) → d.finished b i ≡ length (d.histories b i).later
  pub whole : (i : ℕ) → d.standing b i ≡ Whole
  pub location : d.mapping b ≡ to
  pub clean : (k : ℕ) → to ≡ Some k → d.dirty b ≡ false

-- what its seal is to say
abbrev pub seal_of : Option ℕ → Seal
seal_of to = record { location = to; dirty = false }

pub moved_rests : (b : ℕ) (to : Option ℕ) (t : Shared) (d e : Volume) → block_view e b ≡ block_view d b → Moved b to d → Rests (changed t.seals b (seal_of to) b) (block_view e b)
moved_rests b to t d e same k = record {
  whole = λ i. ap (λ (w : BlockView). w.standing i) same ∙ k.whole i;
  done = λ i. ap (λ (w : BlockView). w.finished i) same ∙ k.done i ∙ sym (ap (λ (w : BlockView). length (w.histories i).later) same);
  location = ap (λ (w : Seal). w.location) (changed_same t.seals b (seal_of to)) ∙ sym there;
  dirty = λ j f. ap (λ (w : Seal). w.dirty) (changed_same t.seals b (seal_of to)) ∙ sym (ap (λ (w : BlockView). w.dirty) same ∙ k.clean j (sym there ∙ f));
} where
  there : e.mapping b ≡ to
  there = ap (λ (w : BlockView). w.location) same ∙ k.location

module _ (size a : ℕ) (job : Job) (plain : IsPlain job) (b : ℕ) (order : Option Order) (c : ℕ → Content) (rest : List Want) where
  -- once it does, the block rests
  pub sealing : (to : Option ℕ) → ((l : Locations) → acts_of l a job c (Set_seal b (seal_of to)) Done ≡ []) →
      (n : ℕ) (s : Shared) (d : Volume) → Moved b to d → ((n : ℕ) (t : Shared) (e : Volume) → e.live ≡ d.live → e.mode ≡ d.mode → RestsAt t e b → e.mapping b ≡ to → Safe n size a (at_work job rest Finished (Owns b) order false c) t e) →
      Safe n size a (at_work job (Set_seal b (seal_of to) ∷ rest) Finished (Owns b) order false c) s d
  sealing to acts zero s d k next = tt
  sealing to acts (suc n) s d k next = λ t e got o g v r.
      gives_done (λ w. Comes n size a job (Set_seal b (seal_of to) ∷ rest) Finished (Owns b) order false c t e w)
      (calmly size a (λ y u f. Safe n size a y u f) _ _ (Set_seal b (seal_of to)) Done t (record t { seals = changed t.seals b (seal_of to) }) e _ (acts t.mapping) (seal_agrees t e (changed t.seals b (seal_of to)) e.dirty g.agrees) refl tt (still_right a job plain (Set_seal b (seal_of to)) tt Done e e refl)
      (next n _ e o.live o.mode (moved_rests b to t d e (o.block b refl) k) (ap (λ (w : BlockView). w.location) (o.block b refl) ∙ k.location)))
      got v

  module _ (drops : job_drops job ≡ true) (acts : (l : Locations) (k : ℕ) → acts_of l a job c (Unmap_plain b k) Done ≡ Unmap b ∷ []) (silent : (l : Locations) → acts_of l a job c (Set_seal b (seal_of None)) Done ≡ []) where
    -- in passthrough, where every mapped block is clean, it is unmapped without an order
    pub dropped : (n k : ℕ) (s : Shared) (d : Volume) → Life Passthrough d → RestsAt s d b → d.mapping b ≡ Some k → ((n : ℕ) (t : Shared) (e : Volume) → Life Passthrough e → RestsAt t e b → e.mapping b ≡ None → Safe n size a (at_work job rest Finished (Owns b) order false c) t e) →
        Safe n size a (at_work job (dropping b (Some k) rest) Finished (Owns b) order false c) s d
    dropped zero k s d l h m next = tt
    dropped (suc n) k s d l h m next = λ t e got o g v r.
        let steps = dropping b (Some k) rest in
        let now : RestsAt t e b = rests_on a b _ s t d e o refl h in
        let life = life_on a (at_work job steps Finished (Owns b) order false c) s t d e Passthrough o l in
        let there : e.mapping b ≡ Some k = ap (λ (w : BlockView). w.location) (o.block b refl) ∙ m in
        let after = after_act e (Unmap b) in
        let u : Shared = record t { mapping = changed t.mapping b None; blocks = changed t.blocks k (Quarantined false) } in
        gives_done (λ w. Comes n size a job steps Finished (Owns b) order false c t e w)
        (subst (λ (ys : List Act). Goes size a (λ y u f. Safe n size a y u f) (at_work job steps Finished (Owns b) order false c) (script_of job steps Finished) (Unmap_plain b k) Done t u e (after_acts e ys) ys) (sym (acts t.mapping k)) (record {
          run = ((life.0, (k, there, inr (g.kept.latest.passed life.1 b k there, now.whole))), tt);
          mine = ((refl, inr drops), tt);
          agrees = unmap_agrees t e b u.blocks g.agrees;
          ready = (drops, ap (λ f. f b) g.agrees.mapping ∙ there);
          owes = tt;
          right = still_right a job plain (Unmap_plain b k) tt Done e after refl;
          left = sealing None silent n u after (record { done = now.done; whole = now.whole; location = changed_same e.mapping b None; clean = λ j f. absurd (cc) }) (λ n t' e' live mode rests gone. next n t' e' (live ∙ life.0, mode ∙ life.1) rests gone);
        }))
        got v
