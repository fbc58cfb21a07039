-- That reads are given what was written last.
use Rattle.std.specs.Prelude.{◌≡◌, List, [], ◌∷◌, Option, Some, All, slice_get}
use Rattle.wb_types.specs.declared.extent.Extent.{Extent}
use Rattle.wb_disk.specs.Device.{Content as Bytes}
use Rattle.wb_tasks.specs.declared.step.DeviceStep.TheVariants.{Read as ReadExtent}
use Rattle.wb_tasks.specs.declared.step.Want.TheVariants.{Device}
use Rattle.wb_tasks.specs.declared.step.Got.TheVariants.{Done}
use Rattle.wb_promise.specs.declared.job.Job.{Job}
use Rattle.wb_promise.specs.declared.job.Job.TheVariants.{Read, Migrate}
use Rattle.wb_promise.specs.declared.event.Event.{Event}
use Rattle.wb_promise.specs.declared.event.Event.TheVariants.{Step}
use Rattle.wb_promise.specs.declared.event.What.{What}
use Rattle.wb_promise.specs.declared.event.What.TheVariants.{Stepped}
use Rattle.wb_promise.specs.States.{Shape, State, start}
use Rattle.wb_promise.specs.Happenings.{Happening}
use Rattle.wb_promise.specs.Effects.{after_happening}
use Rattle.wb_promise.specs.Clerk.{Notes, Doing, sector_for, readings_from, formatted}
use Rattle.wb_promise.specs.Headline.{IsLatest, InEveryRun, note_happening}

-- Each sector that a step of a read is given is the last entry of its history. What a migration reads is not told.
abbrev pub GivesLatest : Shape → Notes → Job → Extent → List Bytes → Type 0
GivesLatest shape n (Read extent) e read = All IsLatest (readings_from n.histories (sector_for shape extent e) read)
GivesLatest shape n (Migrate migration block) e read = read ≡ []
GivesLatest shape n job e read = ⊥

-- only who is noted to read is given anything
abbrev pub IsGiven : Shape → Notes → Option (Option Doing) → Extent → List Bytes → Type 0
IsGiven shape n (Some (Some doing)) e read = GivesLatest shape n doing.job e read
IsGiven shape n doing e read = ⊥

abbrev pub ReadsRightly : Shape → Notes → Event → What → List Bytes → Type 0
ReadsRightly shape n (Step a) (Stepped (Device (ReadExtent device e)) Done) read = IsGiven shape n (slice_get n.doings a) e read
ReadsRightly shape n event what read = Unit {0}

-- every step of a run is
abbrev pub AllReadRightly : {P A : Type 0} → Shape → State P A → Notes → List (Happening P A) → Type 0
AllReadRightly shape w n [] = Unit {0}
AllReadRightly shape w n (h ∷ hs) = ReadsRightly shape n h.record_is.event h.record_is.what h.record_is.read.items
    × AllReadRightly shape (after_happening shape w h) (note_happening shape w n h) hs

abbrev pub ReadsGiveLatest : (P A : Type 0) → Type 0
ReadsGiveLatest P A = InEveryRun P A (λ shape metadata hs. AllReadRightly shape (start shape metadata) (formatted shape) hs)
