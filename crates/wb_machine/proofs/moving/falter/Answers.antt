use Rattle.std.proofs.Common.{◌∙◌, length}
use Rattle.wb_types.specs.declared.mode.Dev.{Dev}
use Rattle.wb_types.specs.declared.mode.Dev.TheVariants.{Metadata, Cache, Origin}
use Rattle.wb_disk.specs.Memory.{Memory}
use Rattle.wb_disk.specs.Faltering.{falters_as}
use Rattle.wb_disk.specs.declared.faltering.Faltering.{Faltering}
use Rattle.wb_tasks.specs.Plan.{device_of}
use Rattle.wb_tasks.specs.declared.step.Got.TheVariants.{Fault}
use Rattle.wb_devices.specs.declared.devices.Devices.{Devices}
use Rattle.wb_devices.specs.Stepping.{StepFails}
use Rattle.wb_devices.specs.Moving.{device_in}
use Rattle.wb_machine.proofs.Performed.{IsWrapped, as_fault, wrapped}
use Rattle.wb_machine.proofs.moving.falter.Goals as goal

pub returns-clause-how : goal.returns-clause-how
returns-clause-how c =
    let before : Devices Faltering = record { metadata = c.new-4.result; cache = c.new-5.result; origin = c.new-6.result } in
    let new : Devices Memory = record { metadata = c.into_inner.result; cache = c.into_inner-2.result; origin = c.into_inner-3.result } in
    let all : (d : Dev) → IsWrapped (λ f. f.disk) (λ f. f.device) (λ f. f.choice.now) before c.perform.new.self c.args.devices.now new c.args.choice.now d = elim [
      | Metadata ↦ (c.new-4.ensures.disk ∙ c.replace-metadata.ensures.value, c.new-4.ensures.device, c.new-4.ensures.choice, c.into_inner.ensures)
      | Cache ↦ (c.new-5.ensures.disk ∙ c.replace-cache.ensures.value, c.new-5.ensures.device, c.new-5.ensures.choice, c.into_inner-2.ensures)
      | Origin ↦ (c.new-6.ensures.disk ∙ c.replace-origin.ensures.value, c.new-6.ensures.device, c.new-6.ensures.choice, c.into_inner-3.ensures)
    ] in
    let at = device_of c.args.step in
    let one : Faltering = device_in at before in
    let then : Faltering = device_in at c.perform.new.self in
    wrapped (λ f. f.disk) (λ f. f.device) (λ f. f.choice.now) before c.perform.new.self c.args.devices.now new c.args.choice.now (λ may size was is. StepFails may c.args.commit.now c.args.step Fault size was c.args.moved.items is) at (all at)
    (as_fault (falters_as one.disk one.device one.choice.now) c.args.commit.now c.args.step c.perform.result (length one.disk.contents) one.disk.contents then.disk.contents c.as_mut_slice.result.now c.args.moved.items (c.perform.ensures.fails tt) c.as_mut_slice.ensures.value (c.perform.ensures.how tt))
