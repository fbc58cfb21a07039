-- What an opening in a mode does of metadata that are clean or not.
use Rattle.std.proofs.Common.{◌≡◌, ℕ, List, Option, Some, sym, subst, inl}
use Rattle.wb_types.specs.declared.geometry.Geometry.{Geometry}
use Rattle.wb_types.specs.declared.mode.Mode.{Mode}
use Rattle.wb_disk.specs.Device.{History}
use Rattle.wb_meta.specs.Reads.{ReadingGoesOn, ReadOneMore}
use Rattle.wb_meta.specs.declared.read_steps.ReadSteps.{ReadSteps}
use Rattle.wb_tasks.specs.declared.step.Got.{Got}
use Rattle.wb_devices.specs.Opened.{HasGeneration}
use Rattle.wb_devices.specs.Clean.{DidOpenIn, HasComeIn}
use Rattle.wb_devices.specs.declared.running.RunningCommit.{RunningCommit}

pub did_open : {A : Type 0} (mode : Mode) (tells : Type 0) (geometry : Geometry) (left : ℕ) (before : Option (ReadSteps A)) (was now : ReadSteps A) (device : List History) (faults faults' : ℕ) (commit commit' : Option RunningCommit) (got : Got) (after : Option (ReadSteps A)) → before ≡ Some was → (tells → ReadingGoesOn was device now) → (tells → faults' ≡ faults) → HasComeIn mode geometry left now commit got after commit' → ReadOneMore was now → (HasGeneration commit → HasGeneration commit') → DidOpenIn mode tells geometry left before device faults commit got after faults' commit'
did_open {A} mode tells geometry left before was now device faults faults' commit commit' got after is on same come one spells =
    subst (λ (b : Option (ReadSteps A)). DidOpenIn mode tells geometry left b device faults commit got after faults' commit') (sym is) (inl (now, on, same, come, one, spells))
