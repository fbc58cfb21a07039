-- That each step of a task is one on sectors that are there.
use Rattle.std.specs.Prelude.{◌≡◌, ◌≤◌, ◌<◌, ◌+◌, ℕ, Option, Some, None, length, slice_get}
use Rattle.wb_types.specs.declared.mode.Dev.{Dev}
use Rattle.wb_types.specs.declared.mode.Dev.TheVariants.{Metadata, Cache, Origin}
use Rattle.wb_words.specs.declared.step.CellStep.TheVariants.{Seal}
use Rattle.wb_tasks.specs.Plan.{Plan, want}
use Rattle.wb_tasks.specs.declared.step.DeviceStep.TheVariants.{Read as ReadExtent, Write as WriteExtent}
use Rattle.wb_tasks.specs.declared.step.Want.{Want}
use Rattle.wb_tasks.specs.declared.step.Want.TheVariants.{Cell, Device}
use Rattle.wb_promise.specs.declared.job.Job.{Job}
use Rattle.wb_promise.specs.States.{Shape, State, Actor, sector_count, cache_sector_count, start}
use Rattle.wb_promise.specs.Effects.{after_all}
use Rattle.wb_promise.specs.Headline.{InEveryRun}

-- how many sectors a device has
abbrev pub size_on : Shape → Dev → ℕ
size_on shape Metadata = shape.geometry.meta_sectors
size_on shape Cache = cache_sector_count shape
size_on shape Origin = sector_count shape

-- it reads or writes sectors that are there, and seals a block in a cache block that is
abbrev pub StepInside : Shape → Want → Type 0
StepInside shape (Device (ReadExtent device e)) = e.first + e.count ≤ size_on shape device
StepInside shape (Device (WriteExtent device e)) = e.first + e.count ≤ size_on shape device
StepInside shape (Cell (Seal block (Some c) dirty)) = c.0 < shape.geometry.cache_blocks
StepInside shape next = Unit {0}

abbrev pub TaskInside : Shape → Option (Job × Plan) → Type 0
TaskInside shape None = Unit {0}
TaskInside shape (Some task) = StepInside shape (want task.1)

-- cache and origin keep their sizes, and everybody's next step is inside
pub record StaysInside {P A : Type 0} (shape : Shape) (w : State P A) : Type 0 where
  pub cache : length w.devices.cache ≡ cache_sector_count shape
  pub origin : length w.devices.origin ≡ sector_count shape
  pub tasks : (a : ℕ) (x : Actor) → slice_get w.actors a ≡ Some x → TaskInside shape x.task

-- so it is after every run
abbrev pub StepsStayInside : (P A : Type 0) → Type 0
StepsStayInside P A = InEveryRun P A (λ shape metadata hs. StaysInside shape (after_all shape (start shape metadata) hs))
