-- Lists of one thing, and lists of which one element changed.
use Rattle.std.proofs.Common.{◌≡◌, ◌∙◌, inl, inr, ℕ, zero, suc, List, [], ◌∷◌, Some, None, Option, refl, sym, ap, slice_get, map, Contains}
use Rattle.std.proofs.lemmas.List.Elements.{Contains-append_cases}
use Rattle.wb_types.proofs.Lists.{Contains-one}
use Rattle.wb_tasks.specs.Plan.{Plan}
use Rattle.wb_promise.specs.declared.job.Job.{Job}
use Rattle.wb_promise.specs.declared.event.Event.TheVariants.{Start}
use Rattle.wb_promise.specs.States.{State, Actor, resting}
use Rattle.std.proofs.lemmas.Option.{slice_get-map}
use Rattle.std.specs.Option.{option_map}
use Rattle.wb_promise.specs.Happenings.{DoesNotApply}

-- what a list has is its first element, or another one
pub first_or : {X : Type 0} (x y : X) (xs : List X) (Is : Type 0) → Contains (x ∷ xs) y → (y ≡ x → Is) → (Contains xs y → Is) → Is
first_or x y xs Is c first later = elim (Contains-append_cases (x ∷ []) xs y c) [ inl s ↦ first (Contains-one x y s) | inr r ↦ later r ]

-- an actor of a list in which all rest
pub rests : (actors : List Actor) (b : ℕ) (z : Actor) → slice_get (map (λ (x : Actor). resting) actors) b ≡ Some z → (z.task ≡ None) × ((x : Actor) × (slice_get actors b ≡ Some x))
rests [] b z e = absurd (cc)
rests (x ∷ xs) zero z e = let same : resting ≡ z = cc in (ap (λ (v : Actor). v.task) (sym same), (x, refl))
rests (x ∷ xs) (suc b) z e = rests xs b z e

pub there_rests : (actors : List Actor) (a : ℕ) (x : Actor) → slice_get actors a ≡ Some x → slice_get (map (λ (x : Actor). resting) actors) a ≡ Some resting
there_rests actors a x e = slice_get-map (λ (x : Actor). resting) actors a ∙ ap (option_map (λ (x : Actor). resting)) e

-- an actor to which a start applies has no task
pub free : (P A : Type 0) (w : State P A) (a : ℕ) (job : Job) → (¬ DoesNotApply w (Start a job)) → (x : Actor) × (slice_get w.actors a ≡ Some x) × (x.task ≡ None)
free P A w a job applies = at_actor (slice_get w.actors a) refl
  where
    at_task : (x : Actor) (t : Option (Job × Plan)) → slice_get w.actors a ≡ Some x → x.task ≡ t → x.task ≡ None
    at_task x None e f = f
    at_task x (Some doing) e f = absurd (applies (inr (inl (rw (e, f) tt))))

    at_actor : (o : Option Actor) → slice_get w.actors a ≡ o → (x : Actor) × (slice_get w.actors a ≡ Some x) × (x.task ≡ None)
    at_actor None e = absurd (applies (inl e))
    at_actor (Some x) e = (x, e, at_task x x.task e refl)
