-- A target that was just made agrees with the abstract world that begins.
use Rattle.std.proofs.Common.{◌≡◌, ◌+◌, ◌*◌, ◌∙◌, inl, ℕ, zero, suc, Bool, true, false, cond, nat_lt, unwrap_or, Some, None, replicate, refl, sym, ap, subst, slice_get}
use Rattle.std.proofs.lemmas.List.{length-replicate}
use Rattle.wb_disk.specs.Device.{Content, only}
use Rattle.wb_contents.specs.Devices.{by_block}
use Rattle.wb_words.specs.SharedWords.{fresh_words}
use Rattle.wb_link.specs.World.{abstract_begins as world_begins, AbstractActor, abstract_resting as idle}
use Rattle.wb_contents.proofs.Lists.{replicated}
use Rattle.wb_refines.specs.Models.{SealAgrees}
use Rattle.wb_refines.proofs.Holding.{holds_nothing}
use Rattle.wb_promise.specs.States.{Actor, resting}
use Rattle.wb_simulation.specs.Actors.{StandsFor}
use Rattle.wb_simulation.specs.Laws.{CanAgree}
use Rattle.wb_simulation.proofs.Opened.{fresh_at, nowhere, no_orders}
use Rattle.wb_simulation.specs.Worlds.{zeros}

-- an empty device is empty wherever it is looked at
empty_at : (c : Content) (count at : ℕ) → unwrap_or (slice_get (replicate count (only c)) at) (only c) ≡ only c
empty_at c zero at = refl
empty_at c (suc count) zero = refl
empty_at c (suc count) (suc at) = empty_at c count at

pub empty_device : (c : Content) (size count : ℕ) → (λ (b o : ℕ). only c) ≡ by_block size c (replicate count (only c))
empty_device c size count = λ i b o. here (nat_lt o size) (b * size + o) i
  where
    here : (t : Bool) (at : ℕ) → only c ≡ cond t (unwrap_or (slice_get (replicate count (only c)) at) (only c)) (only c)
    here true at = sym (empty_at c count at)
    here false at = refl

rests : (size : ℕ) (most : Bool → ℕ) (blocks : ℕ) → StandsFor size most (fresh_words blocks) resting idle
rests size most blocks = record { failed = false; has_failed = λ e. absurd (cc); at = (refl, inl (record { task = refl; held = refl; leads = refl })); below = holds_nothing idle resting.card refl; among_others = λ among. refl }

pub can_agree : CanAgree
can_agree size most blocks caches cache origin many = record {
  words_agree = record { fail = refl; seals = λ block. subst (λ (n : ℕ). SealAgrees n (record { location = None; dirty = false })) (sym (fresh_at blocks block)) (nowhere false) };
  origin = empty_device zeros size origin;
  cache = empty_device zeros size cache;
  mode = refl;
  commits = record { runs = refl; broken = refl; ended = refl; began = refl };
  broken = λ e. absurd (cc);
  led = λ a y e l. absurd (nobody a y e l);
  whole = λ a y e l u. absurd (nobody a y e l);
  one_leads = λ a b y z e f l m. absurd (nobody a y e l);
  many = length-replicate many idle ∙ sym (length-replicate many resting);
  each = λ a x y e f. subst (λ (v : Actor). StandsFor size most (fresh_words blocks) v y) (replicated many a resting x e)
      (subst (λ (v : AbstractActor). StandsFor size most (fresh_words blocks) resting v) (replicated many a idle y f) (rests size most blocks));
  orders_agree = no_orders size (fresh_words blocks) (replicate many resting) caches many (world_begins many zeros).shared
      (λ a x e. ap (λ (v : Actor). v.task) (sym (replicated many a resting x e)));
}
  where
    nobody : (a : ℕ) (y : AbstractActor) → slice_get (replicate (many) idle) a ≡ Some y → y.leads ≡ true → ⊥
    nobody a y e l = let bad : false ≡ true = ap (λ (v : AbstractActor). v.leads) (replicated (many) a idle y e) ∙ l in absurd (cc)
