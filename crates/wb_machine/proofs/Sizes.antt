-- In every run the cache and the origin keep their sizes.
use Rattle.std.proofs.Common.{◌≡◌, ◌∙◌, ℕ, suc, true, List, [], ◌∷◌, Option, Some, None, refl, ap, length, slice_get, slice_set}
use Rattle.std.proofs.lemmas.List.{length-replicate, length-map}
use Rattle.std.specs.declared.alloc.Global.{Global}
use Rattle.wb_types.specs.declared.mode.Dev.{Dev}
use Rattle.wb_types.specs.declared.mode.Dev.TheVariants.{Metadata, Cache, Origin}
use Rattle.wb_disk.specs.Crash.{Choice, crashed_from}
use Rattle.wb_disk.specs.Device.{Content as Bytes, History}
use Rattle.wb_disk.specs.Failing.{lands}
use Rattle.wb_disk.specs.Memory.{blank}
use Rattle.wb_disk.proofs.FailedSyncs.{length-synced_from}
use Rattle.wb_disk.proofs.Lengths.{length_written_where}
use Rattle.wb_policy.specs.declared.quiet.Quiet.{Quiet}
use Rattle.wb_tasks.specs.Plan.{Plan, device_of}
use Rattle.wb_tasks.specs.declared.step.DeviceStep.{DeviceStep}
use Rattle.wb_tasks.specs.declared.step.DeviceStep.TheVariants.{Read as ReadExtent, Write as WriteExtent, Sync, ReadMetadata, WriteNode, WriteRoot}
use Rattle.wb_tasks.specs.declared.step.Want.{Want}
use Rattle.wb_tasks.specs.declared.step.Want.TheVariants.{Device}
use Rattle.wb_tasks.specs.declared.step.Got.{Got}
use Rattle.wb_devices.specs.declared.devices.Devices.{Devices}
use Rattle.wb_promise.specs.declared.job.Job.{Job}
use Rattle.wb_promise.specs.declared.job.Job.TheVariants.{Read, Migrate, Open}
use Rattle.wb_promise.specs.declared.event.Event.{Event}
use Rattle.wb_promise.specs.declared.event.Event.TheVariants.{Start, Step, FaultStep, Stop}
use Rattle.wb_promise.specs.declared.event.What.{What}
use Rattle.wb_promise.specs.declared.event.What.TheVariants.{Started, Stepped, Stopped}
use Rattle.wb_promise.specs.States.{Actor, Shape, cache_sector_count, mode_of, sector_count, start}
use Rattle.wb_promise.specs.Happenings.{Chosen, Plain, Falters, Gives, MayBe, OfSome}
use Rattle.wb_promise.specs.Effects.{IsRun, after_all, after_happening, after_what, all_crashed, cleared, contents_for, device_done, device_failed, devices_then, given, job_of, phase_given, put_by, stepped, with_actor}
use Rattle.wb_machine.specs.Life.{Happened, Now}

-- cache and origin are as large as before
pub record AsLarge (old new : Devices (List History)) : Type 0 where
  pub cache : length new.cache ≡ length old.cache
  pub origin : length new.origin ≡ length old.origin

same_size : (devices : Devices (List History)) → AsLarge devices devices
same_size devices = record { cache = refl; origin = refl }

then_size : (a b c : Devices (List History)) → AsLarge a b → AsLarge b c → AsLarge a c
then_size a b c s t = record { cache = t.cache ∙ s.cache; origin = t.origin ∙ s.origin }

length-crashed : (device : Dev) (choice : Choice) (at : ℕ) (sectors : List History) → length (crashed_from device choice at sectors) ≡ length sectors
length-crashed device choice at [] = refl
length-crashed device choice at (h ∷ hs) = ap suc (length-crashed device choice (suc at) hs)

-- ---- a step on a device

-- what it makes of a device where blocks stand is as large
abbrev KeepsSize : (DeviceStep → List History → List History) → DeviceStep → Type 0
KeepsSize change step = (device : List History) → length (change step device) ≡ length device

on_device : (change : DeviceStep → List History → List History) (step : DeviceStep) (devices : Devices (List History)) (device : Dev) → (device ≡ Metadata → ⊥) → device_of step ≡ device → KeepsSize change step → AsLarge devices (devices_then change devices (Device step))
on_device change step devices Metadata n e k = absurd (n refl)
on_device change step devices Cache n e k = rw e (record { cache = k devices.cache; origin = refl })
on_device change step devices Origin n e k = rw e (record { cache = refl; origin = k devices.origin })

on_metadata : (change : DeviceStep → List History → List History) (step : DeviceStep) (devices : Devices (List History)) → device_of step ≡ Metadata → AsLarge devices (devices_then change devices (Device step))
on_metadata change step devices e = rw e (record { cache = refl; origin = refl })

by_device : (change : DeviceStep → List History → List History) (step : DeviceStep) (devices : Devices (List History)) (device : Dev) → device_of step ≡ device → KeepsSize change step → AsLarge devices (devices_then change devices (Device step))
by_device change step devices Metadata e k = on_metadata change step devices e
by_device change step devices Cache e k = on_device change step devices Cache (λ q. absurd (cc)) e k
by_device change step devices Origin e k = on_device change step devices Origin (λ q. absurd (cc)) e k

module _ (shape : Shape) (w : Now) (actor : Actor) (got : Got) (read : List Bytes) (chosen : Chosen Quiet Global) (buffer : List Bytes) where
  abbrev done : Job → DeviceStep → List History → List History
  done job = λ step. device_done job buffer step chosen

  read_plain : (job : Job) (device : Dev) (e : Rattle.wb_types.specs.declared.extent.Extent.Extent) → Gives shape w actor job (Device (ReadExtent device e)) got read chosen → chosen ≡ Plain
  read_plain (Read extent) device e g = g.1
  read_plain (Migrate migration block) device e g = g.1.1
  read_plain job device e g = absurd g

  pub done_size : (job : Job) (next : Want) → Gives shape w actor job next got read chosen → AsLarge w.devices (devices_then (done job) w.devices next)
  done_size job (Device (ReadExtent device e)) g = by_device (done job) (ReadExtent device e) w.devices device refl (λ d. ap (λ (c : Chosen Quiet Global). length (put_by c d)) (read_plain job device e g))
  done_size job (Device (WriteExtent device e)) g = by_device (done job) (WriteExtent device e) w.devices device refl (λ d. length_written_where (λ at. true) d e.first (contents_for job buffer e.count))
  done_size job (Device (Sync device)) g = by_device (done job) (Sync device) w.devices device refl (λ d. length-map d _)
  done_size job (Device (ReadMetadata left)) g = on_metadata (done job) (ReadMetadata left) w.devices refl
  done_size job (Device (WriteNode number)) g = on_metadata (done job) (WriteNode number) w.devices refl
  done_size job (Device WriteRoot) g = on_metadata (done job) WriteRoot w.devices refl
  done_size job next g = same_size w.devices

  module _ (choice : Choice) where
    abbrev failed : Job → DeviceStep → List History → List History
    failed job = λ step. device_failed (lands (device_of step) choice) job buffer step chosen

    pub failed_size : (job : Job) (next : Want) → Falters w choice next chosen → AsLarge w.devices (devices_then (failed job) w.devices next)
    failed_size job (Device (ReadExtent device e)) g = by_device (failed job) (ReadExtent device e) w.devices device refl (λ d. ap (λ (c : Chosen Quiet Global). length (put_by c d)) g.0)
    failed_size job (Device (WriteExtent device e)) g = by_device (failed job) (WriteExtent device e) w.devices device refl (λ d. length_written_where (lands device choice) d e.first (contents_for job buffer e.count))
    failed_size job (Device (Sync device)) g = by_device (failed job) (Sync device) w.devices device refl (λ d. length-synced_from (lands device choice) 0 d)
    failed_size job (Device (ReadMetadata left)) g = on_metadata (failed job) (ReadMetadata left) w.devices refl
    failed_size job (Device (WriteNode number)) g = on_metadata (failed job) (WriteNode number) w.devices refl
    failed_size job (Device WriteRoot) g = on_metadata (failed job) WriteRoot w.devices refl
    failed_size job next g = absurd g

-- ---- an event

-- whoever is at work there goes on so
went_size : (shape : Shape) (w : Now) (next : Want) (got : Got) (chosen : Chosen Quiet Global) (a : ℕ) (change : Job → List Bytes → DeviceStep → List History → List History) (o : Option Actor) (P : Actor → Job → Plan → Type 0) → OfSome o (λ (x : Actor). OfSome x.task (λ doing. P x doing.0 doing.1))
    → ((x : Actor) (job : Job) (plan : Plan) → P x job plan → AsLarge w.devices (devices_then (change job x.buffer) w.devices next)) → AsLarge w.devices (with_actor w o (λ x. stepped shape w a x next got chosen (change (job_of x.task) x.buffer))).devices
went_size shape w next got chosen a change None P h k = absurd h
went_size shape w next got chosen a change (Some x) P h k = by_task x.task refl h
  where
    by_task : (t : Option (Job × Plan)) → x.task ≡ t → OfSome t (λ doing. P x doing.0 doing.1) → AsLarge w.devices (devices_then (change (job_of x.task) x.buffer) w.devices next)
    by_task None e h = absurd h
    by_task (Some doing) e h = rw e (k x doing.0 doing.1 h)

actor_size : (w : Now) (o : Option Actor) (change : Actor → Now) (devices : Devices (List History)) → AsLarge devices w.devices → ((x : Actor) → AsLarge devices (change x).devices) → AsLarge devices (with_actor w o change).devices
actor_size w None change devices s k = s
actor_size w (Some x) change devices s k = k x

cleared_size : (w : Now) (job : Job) → AsLarge w.devices (cleared w job).devices
cleared_size w (Open mode second) = same_size w.devices
cleared_size w job = same_size w.devices

crashed_size : (choice : Choice) (devices : Devices (List History)) → AsLarge devices (all_crashed choice devices)
crashed_size choice devices = record { cache = length-crashed Cache choice 0 devices.cache; origin = length-crashed Origin choice 0 devices.origin }

pub event_size : (shape : Shape) (w : Now) (event : Event) (what : What) (read : List Bytes) (chosen : Chosen Quiet Global) → MayBe shape w event what read chosen → AsLarge w.devices (after_what shape w event what chosen).devices
event_size shape w (Start a job) Started read chosen m = actor_size (cleared w job) (slice_get (cleared w job).actors a) (λ x. record (cleared w job) { phase = phase_given (cleared w job).phase job chosen; actors = slice_set (cleared w job).actors a (given shape (mode_of (cleared w job).phase) x job chosen) }) w.devices (cleared_size w job) (λ x. cleared_size w job)
event_size shape w (Step a) (Stepped next got) read chosen m = went_size shape w next got chosen a (λ job buffer step. device_done job buffer step chosen) (slice_get w.actors a) _ m (λ x job plan g. done_size shape w x got read chosen x.buffer job next g.1)
event_size shape w (FaultStep a choice) (Stepped next got) read chosen m = went_size shape w next got chosen a (λ job buffer step. device_failed (lands (device_of step) choice) job buffer step chosen) (slice_get w.actors a) _ m.2 (λ x job plan g. failed_size shape w x got read chosen x.buffer choice job next g.2)
event_size shape w (Stop choice) Stopped read chosen m = crashed_size choice w.devices
event_size shape w event what read chosen m = same_size w.devices

pub run_size : (shape : Shape) (w : Now) (hs : List Happened) → IsRun shape w hs → AsLarge w.devices (after_all shape w hs).devices
run_size shape w [] r = same_size w.devices
run_size shape w (h ∷ hs) r =
    let mid = after_happening shape w h in
    then_size w.devices mid.devices (after_all shape mid hs).devices (event_size shape w h.record_is.event h.record_is.what h.record_is.read.items h.chosen r.0) (run_size shape mid hs r.1)

-- after every run they have the sizes of its shape
pub sizes_are : (shape : Shape) (metadata : List History) (hs : List Happened) → IsRun shape (start shape metadata) hs →
    (length (after_all shape (start shape metadata) hs).devices.cache ≡ cache_sector_count shape) × (length (after_all shape (start shape metadata) hs).devices.origin ≡ sector_count shape)
sizes_are shape metadata hs r =
    let large = run_size shape (start shape metadata) hs r in
    (large.cache ∙ length-replicate (cache_sector_count shape) blank, large.origin ∙ length-replicate (sector_count shape) blank)
