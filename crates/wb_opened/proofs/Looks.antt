-- Looks at devices, one after the other.
use Rattle.std.proofs.Common.{◌∙◌, ◌⊎◌, inl, inr, ℕ, List, Result, Ok, Err}
use Rattle.std.specs.Prelude.{IfErr, IfOk}
use Rattle.wb_disk.specs.Device.{History}
use Rattle.wb_devices.specs.declared.devices.Devices.{Devices}
use Rattle.wb_checks.specs.Samples.{AreAsBefore, HaveSizes}

-- two that leave the sizes leave them together
pub sizes_twice : {D : Type 0} (size : D → ℕ) (a b c : Devices D) → HaveSizes size a b → HaveSizes size b c → HaveSizes size a c
sizes_twice size a b c h k = record { metadata = k.metadata ∙ h.metadata; cache = k.cache ∙ h.cache; origin = k.origin ∙ h.origin }

-- and two that leave what the devices hold
pub kept_twice : {D : Type 0} (contents : D → List History) (a b c : Devices D) → AreAsBefore contents a b → AreAsBefore contents b c → AreAsBefore contents a c
kept_twice contents a b c h k = record { metadata = k.metadata ∙ h.metadata; cache = k.cache ∙ h.cache; origin = k.origin ∙ h.origin }

-- what three clauses on a result give together
pub ok_of_three : {T E : Type 0} (r : Result T E) (A B C R : T → Type 0) → ((x : T) → A x → B x → C x → R x) → IfOk r A → IfOk r B → IfOk r C → IfOk r R
ok_of_three (Ok x) A B C R all a b c = all x a b c
ok_of_three (Err e) A B C R all a b c = tt

-- and what one on an error gives
pub err_of : {T E : Type 0} (r : Result T E) (A R : E → Type 0) → ((e : E) → A e → R e) → IfErr r A → IfErr r R
err_of (Ok x) A R on a = tt
err_of (Err e) A R on a = on e a

-- a refusal behind a look
pub behind_a_look : {X U M : Type 0} (W R : X → Type 0) (x : X) → W x → M ⊎ R x → U ⊎ M ⊎ ((y : X) × W y × R y)
behind_a_look W R x w (inl m) = inr (inl m)
behind_a_look W R x w (inr r) = inr (inr (x, w, r))
