-- What an actor of the abstract world may do by itself is a run of that world.
use Rattle.std.proofs.Common.{◌≡◌, inl, inr, ℕ, List, [], ◌∷◌, Option, Some, None, refl, sym, ap, subst, ◌∙◌, slice_get, slice_set}
use Rattle.std.proofs.lemmas.Bool.{cases_eq}
use Rattle.wb_link.specs.Tables.{Script, Want, Share, Own, Got, Done, abstract_want}
use Rattle.wb_link.specs.World.{Shared, Held, Nothing, Shares, Owns, AbstractActor, World, effect, actor_after, task_after, Wins, Record, Step, step_task, step_actor, after_record, abstract_after_all, IsAbstractRun}
use Rattle.wb_contents.proofs.Lists.{set_there, set_other, set_twice, set_same}
use Rattle.wb_refines.specs.Going.{records, shared_after, gone, WinsBeside, MayGo}

-- the world with another shared state and another actor
abbrev pub with_own : World → ℕ → Shared → AbstractActor → World
with_own w a s y = record { shared = s; actors = slice_set w.actors a y; waiting = w.waiting }

wins_of : (actors : List AbstractActor) (a : ℕ) (y : AbstractActor) (next : Want) (got : Got) → slice_get actors a ≡ Some y → WinsBeside actors a y.held next got → Wins actors next got
wins_of actors a y (Share b) Done e wins = λ c x g. elim (cases_eq c a) [
  | inl s ↦ let now : Some x ≡ Some y = sym g ∙ ap (λ k. slice_get actors k) s ∙ e in let same : x ≡ y = cc in λ h. let bad : Nothing ≡ Owns b = sym wins.0 ∙ ap (λ (v : AbstractActor). v.held) (sym same) ∙ h in absurd (cc)
  | inr n ↦ wins.1 c x n g
]
wins_of actors a y (Own b) Done e wins = λ c x g. elim (cases_eq c a) [
  | inl s ↦ let now : Some x ≡ Some y = sym g ∙ ap (λ k. slice_get actors k) s ∙ e in let same : x ≡ y = cc in
      (λ h. let bad : Nothing ≡ Owns b = sym wins.0 ∙ ap (λ (v : AbstractActor). v.held) (sym same) ∙ h in absurd (cc), λ h. let bad : Nothing ≡ Shares b = sym wins.0 ∙ ap (λ (v : AbstractActor). v.held) (sym same) ∙ h in absurd (cc))
  | inr n ↦ wins.1 c x n g
]
wins_of actors a y next got e wins = tt

-- others stay as they are
beside_on : (actors : List AbstractActor) (a : ℕ) (z : AbstractActor) (held : Held) (next : Want) (got : Got) → WinsBeside actors a held next got → WinsBeside (slice_set actors a z) a held next got
beside_on actors a z held (Share b) Done w = (w.0, λ c x n g. w.1 c x n (sym (set_other actors a c z n) ∙ g))
beside_on actors a z held (Own b) Done w = (w.0, λ c x n g. w.1 c x n (sym (set_other actors a c z n) ∙ g))
beside_on actors a z held next got w = tt

may_on : (actors : List AbstractActor) (a : ℕ) (z : AbstractActor) (gots : List Got) (s : Shared) (y : AbstractActor) (task : Option Script) → MayGo actors a s y task gots → MayGo (slice_set actors a z) a s y task gots
may_on actors a z [] s y task m = tt
may_on actors a z (got ∷ gots) s y None m = absurd m
may_on actors a z (got ∷ gots) s y (Some script) m = (m.0, beside_on actors a z y.held (abstract_want script) got m.1, may_on actors a z gots _ _ _ m.2)

-- one step of it
pub step_own : (w : World) (a : ℕ) (y : AbstractActor) (script : Script) (got : Got) → slice_get w.actors a ≡ Some y → y.task ≡ Some script →
    after_record w (Step a (abstract_want script) got) ≡ with_own w a (effect w.shared script.job y.buffer (abstract_want script) got) (actor_after y script (abstract_want script) got)
step_own w a y script got e t = ap (λ o. step_actor w a o got) e ∙ ap (λ o. step_task w a y o got) t

-- and all of them
pub own_steps : (gots : List Got) (w : World) (a : ℕ) (y : AbstractActor) (task : Option Script) → slice_get w.actors a ≡ Some y → y.task ≡ task → abstract_after_all w (records a task gots) ≡ with_own w a (shared_after w.shared y task gots) (gone y task gots)
own_steps gots w a y None e t = ap (λ (ys : List AbstractActor). record { shared = w.shared; actors = ys; waiting = w.waiting }) (sym (set_same w.actors a y e))
own_steps [] w a y (Some script) e t = ap (λ (ys : List AbstractActor). record { shared = w.shared; actors = ys; waiting = w.waiting }) (sym (set_same w.actors a y e))
own_steps (got ∷ gots) w a y (Some script) e t =
    let y' = actor_after y script (abstract_want script) got in
    let s' = effect w.shared script.job y.buffer (abstract_want script) got in
    ap (λ (v : World). abstract_after_all v (records a (task_after script (abstract_want script) got) gots)) (step_own w a y script got e t)
    ∙ own_steps gots (with_own w a s' y') a y' (task_after script (abstract_want script) got) (set_there w.actors a y y' e) refl
    ∙ (λ i. record { shared = shared_after s' y' (task_after script (abstract_want script) got) gots; actors = set_twice w.actors a y' (gone y' (task_after script (abstract_want script) got) gots) i; waiting = w.waiting })

pub record Went (size : ℕ) (w : World) (a : ℕ) (rs : List Record) (s : Shared) (y : AbstractActor) : Type 0 where
  pub run : IsAbstractRun size w rs
  pub is : abstract_after_all w rs ≡ with_own w a s y

pub goes : (size : ℕ) (gots : List Got) (w : World) (a : ℕ) (y : AbstractActor) (task : Option Script) → slice_get w.actors a ≡ Some y → y.task ≡ task → MayGo w.actors a w.shared y task gots →
    Went size w a (records a task gots) (shared_after w.shared y task gots) (gone y task gots)
goes size gots w a y task e t m = record { run = runs size gots w a y task e t m; is = own_steps gots w a y task e t }
  where
    runs : (size : ℕ) (gots : List Got) (w : World) (a : ℕ) (y : AbstractActor) (task : Option Script) → slice_get w.actors a ≡ Some y → y.task ≡ task → MayGo w.actors a w.shared y task gots → IsAbstractRun size w (records a task gots)
    runs size [] w a y None e t m = tt
    runs size [] w a y (Some script) e t m = tt
    runs size (got ∷ gots) w a y None e t m = absurd m
    runs size (got ∷ gots) w a y (Some script) e t m =
        let y' = actor_after y script (abstract_want script) got in
        let s' = effect w.shared script.job y.buffer (abstract_want script) got in (
          (y, script, record { actor = e; task = t; asked = refl; gives = m.0; wins = wins_of w.actors a y (abstract_want script) got e m.1 }),
          subst (λ (v : World). IsAbstractRun size v (records a (task_after script (abstract_want script) got) gots)) (sym (step_own w a y script got e t))
              (runs size gots (with_own w a s' y') a y' (task_after script (abstract_want script) got) (set_there w.actors a y y' e) refl (may_on w.actors a y' gots s' y' (task_after script (abstract_want script) got) m.2)),
        )
