-- What a change leaves of a tree that is tried.
use Rattle.std.proofs.Common.{◌≡◌, ◌∙◌, sym, subst, ℕ, Result, Ok, Err, length}
use Rattle.std.specs.Prelude.{OnOk, OnErr}
use Rattle.wb_types.specs.declared.geometry.Geometry.{Geometry}
use Rattle.wb_types.specs.declared.number.Place.{Place}
use Rattle.wb_tree.specs.Mapping.{Mapping, IsPlaceOf}
use Rattle.wb_trial.specs.Own.{AreOwn, IsTrial}

pub trial_changed : {T E : Type 0} (geometry : Geometry) (old new : Mapping) (next : ℕ) (r : Result T E) → IsTrial geometry old next → OnOk r (length new.entries ≡ length old.entries) → OnOk r (AreOwn new.entries)
    → OnOk r ((place : Place) → IsPlaceOf new place → IsPlaceOf old place) → OnErr r (new ≡ old) → IsTrial geometry new next
trial_changed geometry old new next (Ok x) t size own stays kept = record {
  origin = t.origin;
  size = size ∙ t.size;
  own = own;
  inside = λ place is. t.inside place (stays place is);
  behind = t.behind;
}
trial_changed geometry old new next (Err e) t size own stays kept = subst (λ m. IsTrial geometry m next) (sym kept) t
