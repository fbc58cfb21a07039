-- A step of an opening that makes its target is one of the opening.
use Rattle.std.proofs.Common.{◌≡◌, ◌⊎◌, ◌∙◌, ℕ, Bool, true, false, List, inl, refl, sym}
use Rattle.std.specs.Bool.{OnTrue, OnFalse}
use Rattle.std.specs.Result.{is_ok}
use Rattle.std.proofs.lemmas.Bool.{OnTrue_from, OnFalse_from}
use Rattle.wb_disk.specs.Device.{History}
use Rattle.wb_tasks.specs.declared.step.Want.{Want}
use Rattle.wb_tasks.specs.declared.step.Want.TheVariants.{Cell, Device, Desk, End}
use Rattle.wb_tasks.specs.declared.step.Got.{Got}
use Rattle.wb_tasks.specs.declared.step.Got.TheVariants.{Fault}
use Rattle.wb_devices.specs.OpeningLed.{LedOpening}
use Rattle.wb_devices.specs.Openings.{MayGoOn}
use Rattle.wb_devices.specs.declared.opening_stage.OpeningStage.{OpeningStage}
use Rattle.std.specs.Prelude.{Result, Ok, Err, IfOk, IfErr}
use Rattle.wb_target.specs.Making.{IsTakenFor}

pub led_on : {D : Type 0} (due : Bool) (Made Once Kept Not : Type 0) (tells : Type 0) (size : D → ℕ) (contents : D → List History) (faults : D → ℕ) (old before new : OpeningStage D) (want : Want) (got : Got)
    → IsTakenFor due old before → before.mode ≡ old.mode → Kept → LedOpening tells size contents faults before want got new → Made → Once
    → MayGoOn (size new.devices.metadata) new.opening
    × (new.mode ≡ old.mode)
    × Kept
    × (((mid : OpeningStage D) × IsTakenFor due old mid × LedOpening tells size contents faults mid want got new × Made × Once)
    ⊎ ((got ≡ Fault) × (due ≡ true) × (new.devices ≡ old.devices) × Not))
led_on due Made Once Kept Not tells size contents faults old before new (Device step) got taken m kept led made once = (led.3, led.5 ∙ m, kept, inl (before, taken, led, made, once))
led_on due Made Once Kept Not tells size contents faults old before new (Cell step) got taken m kept led made once = absurd led
led_on due Made Once Kept Not tells size contents faults old before new (Desk step) got taken m kept led made once = absurd led
led_on due Made Once Kept Not tells size contents faults old before new (End answer) got taken m kept led made once = absurd led

-- where a call answered, what follows from its answer and what it promises of it
pub answered_with : {T E : Type 0} (r : Result T E) (b : Bool) (P : T → Type 0) (Q : Type 0) → b ≡ is_ok r → ((t : T) → r ≡ Ok t → P t → Q) → IfOk r P → OnTrue b Q
answered_with (Ok t) b P Q is f p = OnTrue_from b Q (λ yes. f t refl p)
answered_with (Err e) b P Q is f p = OnTrue_from b Q (λ yes. absurd (let no : false ≡ true = sym is ∙ yes in cc))

-- what a call made is of the mode that it was handed
pub ok_as : {T E C : Type 0} (r : Result T E) (part : T → C) (x y : C) → x ≡ y → IfOk r (λ t. part t ≡ x) → IfOk r (λ t. part t ≡ y)
ok_as (Ok t) part x y same is = is ∙ same
ok_as (Err e) part x y same is = tt

-- where a call did not answer, what follows from its refusal and what it promises of it
pub refused_with : {T E : Type 0} (r : Result T E) (b : Bool) (P : E → Type 0) (Q : Type 0) → b ≡ is_ok r → ((e : E) → r ≡ Err e → P e → Q) → IfErr r P → OnFalse b Q
refused_with (Ok t) b P Q is f p = OnFalse_from b Q (λ no. absurd (let yes : true ≡ false = sym is ∙ no in cc))
refused_with (Err e) b P Q is f p = OnFalse_from b Q (λ no. f e refl p)
