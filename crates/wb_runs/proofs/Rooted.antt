-- A commit's root can be written.
use Rattle.std.proofs.Common.{◌≡◌, ◌∙◌, ◌<◌, ◌^◌, ◌&&◌, ◌==◌, true, List, refl, sym, ap, subst, length}
use Rattle.std.proofs.lemmas.Bool.{eq-eqb}
use Rattle.wb_disk.specs.Device.{History, written}
use Rattle.wb_meta.specs.Steps.{DoesStep, slot_of}
use Rattle.wb_meta.specs.declared.commit_steps.CommitSteps.{CommitSteps}
use Rattle.wb_meta.specs.declared.commit_steps.CommitSteps.TheVariants.{NodesSynced}
use Rattle.wb_tasks.specs.declared.step.DeviceStep.{DeviceStep}
use Rattle.wb_devices.specs.declared.running.RunningCommit.{RunningCommit}
use Rattle.wb_devices.specs.Committing.{goes_on, is_coming}
use Rattle.wb_runs.proofs.Spelling.{spelling, spelled_root}

-- the device has the size that the image is for
abbrev pub Fits : RunningCommit → List History → Type 0
Fits c device = length device ≡ c.image.root.geometry.meta_sectors

pub comes_next : (c : RunningCommit) (device : List History) (steps : CommitSteps) (step : DeviceStep) → Fits c device → c.steps ≡ steps → is_coming c.image steps step ≡ true → goes_on (length device) c.image c.steps step ≡ true
comes_next c device steps step fits e coming = ap (λ (s : CommitSteps). goes_on (length device) c.image s step) e ∙ ap (λ b. b && (length device == c.image.root.geometry.meta_sectors)) coming ∙ eq-eqb (length device) c.image.root.geometry.meta_sectors fits

-- the device with the commit's root
abbrev pub rooted : RunningCommit → List History → List History
rooted c device = written device (slot_of c.image.root).0 (spelling c.image.root)

pub root_does : (c : RunningCommit) (device : List History) → c.image.root.generation < 2 ^ 64 → c.steps ≡ NodesSynced → DoesStep c.image c.steps device (rooted c device)
root_does c device less e = subst (λ (s : CommitSteps). DoesStep c.image s device (rooted c device)) (sym e) (record { content = spelling c.image.root; spelled = spelled_root c.image.root less; wrote = refl })
