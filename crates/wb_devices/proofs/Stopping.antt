-- What stops a reading fits its step.
use Rattle.std.proofs.Common.{◌≡◌, ◌∙◌, ℕ, List, Option, Some, None, refl, sym, subst, inl, inr}
use Rattle.wb_types.specs.declared.mode.Dev.TheVariants.{Metadata, Cache, Origin}
use Rattle.wb_types.specs.declared.refusal.Refusal.{Refusal}
use Rattle.wb_types.specs.declared.refusal.Refusal.TheVariants.{Io, Memory, NotFormatted, Mismatch, Damaged}
use Rattle.wb_meta.specs.States.{IsOfReading, CountsFault, FailsIf}
use Rattle.wb_tasks.specs.Plan.{Fits}
use Rattle.wb_tasks.specs.declared.step.DeviceStep.TheVariants.{ReadMetadata}
use Rattle.wb_tasks.specs.declared.step.Want.TheVariants.{Device}
use Rattle.wb_tasks.specs.declared.step.Got.{Got}
use Rattle.wb_types.specs.declared.geometry.Geometry.{Geometry}
use Rattle.wb_disk.specs.Device.{History}
use Rattle.wb_format.specs.declared.root.Root.{Root}
use Rattle.wb_meta.specs.Reads.{AreStepsOn, IsDone, ReadingGoesOn, ReadOneMore, StopsBy, known_root}
use Rattle.wb_meta.specs.declared.read_steps.ReadSteps.TheVariants.{Begun, FirstSlotRead, RootFound, Done as AllRead}
use Rattle.wb_tasks.specs.declared.step.Got.TheVariants.{More}
use Rattle.wb_meta.specs.declared.read_steps.ReadSteps.{ReadSteps}
use Rattle.wb_devices.specs.declared.running.RunningCommit.{RunningCommit}
use Rattle.wb_devices.specs.Opened.{HasGeneration, ReadsServed, ReadsOf, got_of_refusal}
use Rattle.wb_devices.specs.Clean.{DidTell, HasComeIn}
use Rattle.wb_types.specs.declared.version.Version.{Version}
use Rattle.wb_types.specs.declared.version.Version.TheVariants.{One, Two}
use Rattle.wb_meta.specs.Sizes.{AreSameSizes}
use Rattle.wb_devices.specs.Sizes.{IsServedBy}
use Rattle.wb_types.specs.declared.mode.Mode.{Mode}

pub fits_reading : (refusal : Refusal) (left : ℕ) → IsOfReading refusal → Fits (Device (ReadMetadata left)) (got_of_refusal refusal)
fits_reading (Io Metadata) left h = tt
fits_reading (Io Cache) left h = absurd h
fits_reading (Io Origin) left h = absurd h
fits_reading Memory left h = tt
fits_reading NotFormatted left h = tt
fits_reading Mismatch left h = tt
fits_reading (Damaged place) left h = tt
fits_reading refusal left h = absurd h

-- a reading without a root serves every geometry, and one with a root those that its root serves
pub no_root : {A : Type 0} (geometry : Geometry) (now : ReadSteps A) → None ≡ known_root now → ReadsOf geometry now
no_root geometry now none root known = absurd (nothing (none ∙ known))
  where
    nothing : None ≡ Some root → ⊥
    nothing e = cc

pub of_root : {A : Type 0} (geometry : Geometry) (now : ReadSteps A) (root : Root) → known_root now ≡ Some root → AreSameSizes root.geometry geometry → ReadsOf geometry now
of_root geometry now root known fits other also =
    let same : root ≡ other = cc in
    subst (λ (r : Root). AreSameSizes r.geometry geometry) same fits

pub of_served : {A : Type 0} (geometry : Geometry) (now : ReadSteps A) (root : Root) → known_root now ≡ Some root → IsServedBy root.geometry geometry → ReadsServed geometry now
of_served geometry now root known fits other also =
    let same : root ≡ other = cc in
    subst (λ (r : Root). IsServedBy r.geometry geometry) same fits

-- metadata of the sizes that are asked for that serve not are of the first version where the second is
pub unserved : (found asked : Geometry) → AreSameSizes found asked → ¬ IsServedBy found asked → (found.version ≡ One) × (asked.version ≡ Two)
unserved found asked sizes not = by found.version refl asked.version refl
  where
    by : (v : Version) → found.version ≡ v → (w : Version) → asked.version ≡ w → (found.version ≡ One) × (asked.version ≡ Two)
    by One e Two f = (e, f)
    by One e One f = absurd (not (record { sizes = sizes; version = inl (e ∙ sym f) }))
    by Two e w f = absurd (not (record { sizes = sizes; version = inr e }))

-- of a reading that is done the root is known
pub not_done : {A : Type 0} (now : ReadSteps A) → None ≡ known_root now → IsDone now → ⊥
not_done (Begun alloc global) none done = done
not_done (FirstSlotRead alloc global first) none done = done
not_done (RootFound global root loader nodes) none done = done
not_done (AllRead state) none done = cc

pub did_tell : {A : Type 0} (mode : Mode) (geometry : Geometry) (sectors left : ℕ) (was now : ReadSteps A) (device : List History) (commit commit' : Option RunningCommit) (got : Got) (after : Option (ReadSteps A)) → ReadingGoesOn was device now → AreStepsOn sectors now → HasComeIn mode geometry left now commit got after commit' → ReadOneMore was now → (HasGeneration commit → HasGeneration commit') → (got ≡ More → ¬ IsDone now) → DidTell mode geometry sectors left was device commit got after commit'
did_tell mode geometry sectors left was now device commit commit' got after goes on come one spells more = inl (now, goes, on, come, one, spells, more)

-- what stops a reading on a device that cannot fail is no fault
pub never_counts : (refusal : Refusal) (May : Type 0) → FailsIf refusal May → (May → ⊥) → (faults : ℕ) → CountsFault refusal faults faults
never_counts (Io device) May may never faults = absurd (never may)
never_counts Memory May may never faults = refl
never_counts NotFormatted May may never faults = refl
never_counts Mismatch May may never faults = refl
never_counts (Damaged place) May may never faults = refl
never_counts refusal May may never faults = refl

pub never_stops : {A : Type 0} (mode : Mode) (geometry : Geometry) (sectors left : ℕ) (was : ReadSteps A) (device : List History) (commit commit' : Option RunningCommit) (got : Got) (after : Option (ReadSteps A)) (refusal : Refusal) (May : Type 0) → StopsBy was device refusal → IsOfReading refusal → FailsIf refusal May → (May → ⊥) → got ≡ got_of_refusal refusal → after ≡ None → commit' ≡ commit → DidTell mode geometry sectors left was device commit got after commit'
never_stops mode geometry sectors left was device commit commit' got after refusal May stops kind may never is none same = inr (refusal, stops, kind, never_counts refusal May may never, is, none, same)
