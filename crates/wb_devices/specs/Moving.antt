-- What a step that moves sectors, or syncs, does to its device.
use Rattle.std.specs.Prelude.{◌≡◌, ◌≤◌, ◌+◌, ℕ, Bool, List, length, take}
use Rattle.wb_types.specs.declared.extent.Extent.{Extent}
use Rattle.wb_types.specs.declared.mode.Dev.{Dev}
use Rattle.wb_types.specs.declared.mode.Dev.TheVariants.{Metadata, Cache, Origin}
use Rattle.wb_disk.specs.Device.{History, Content as Bytes, OneMore, synced, PartlySynced}
use Rattle.wb_disk.specs.Extents.{Call, Reading, Writing, Syncing, MayLand, GivesEach, written_each, PartlyWritten, WrittenSo}
use Rattle.wb_disk.specs.Failing.{SyncedSo}
use Rattle.wb_tasks.specs.declared.step.Got.{Got}
use Rattle.wb_tasks.specs.declared.step.Got.TheVariants.{Done, Fault}
use Rattle.wb_devices.specs.declared.devices.Devices.{Devices}

-- a step on a device is done, or fails
abbrev pub IsOutcome : Got → Type 0
IsOutcome Done = Unit {0}
IsOutcome Fault = Unit {0}
IsOutcome got = ⊥

-- A device of this size has the sectors of an extent, and there is room for so many.
abbrev pub CanMove : ℕ → ℕ → Extent → Type 0
CanMove size room e = (e.first + e.count ≤ size) × (e.count ≤ room)

-- The device failed, once, where it can do a step; where it cannot, it was not asked.
abbrev pub FailedIf : Type 0 → ℕ → ℕ → Type 0
FailedIf Can faults faults' = (Can → OneMore faults faults') × (¬ Can → faults' ≡ faults)

-- A read of an extent to the front of a buffer: from the size, contents and faults of its device to what the buffer, the
-- contents and the faults are then. After a fault the buffer may hold anything.
abbrev pub DidRead : Extent → Got → ℕ → List History → ℕ → List Bytes → List History → ℕ → Type 0
DidRead e Done size old faults buffer new faults' = CanMove size (length buffer) e × GivesEach old e.first (take e.count buffer) × (new ≡ old) × (faults' ≡ faults)
DidRead e Fault size old faults buffer new faults' = (new ≡ old) × FailedIf (CanMove size (length buffer) e) faults faults'
DidRead e got size old faults buffer new faults' = ⊥

-- A write of an extent from the front of a buffer. A write that fails may have written any of its sectors.
abbrev pub DidWrite : Extent → Got → ℕ → List Bytes → List History → ℕ → List History → ℕ → Type 0
DidWrite e Done size buffer old faults new faults' = CanMove size (length buffer) e × (new ≡ written_each old e.first (take e.count buffer)) × (faults' ≡ faults)
DidWrite e Fault size buffer old faults new faults' = PartlyWritten old e.first (take e.count buffer) new × FailedIf (CanMove size (length buffer) e) faults faults'
DidWrite e got size buffer old faults new faults' = ⊥

-- A sync. One that fails may have settled any of the sectors.
abbrev pub DidSync : Got → List History → ℕ → List History → ℕ → Type 0
DidSync Done old faults new faults' = (new ≡ synced old) × (faults' ≡ faults)
DidSync Fault old faults new faults' = PartlySynced old new × OneMore faults faults'
DidSync got old faults new faults' = ⊥

-- ---- where a device that fails says how it lands

-- how a device may fail: a call on it, and on which sectors it lands
abbrev pub Ways : Type 1
Ways = Call → (ℕ → Bool) → Type 0

-- a read that the device was asked for failed as it may
abbrev pub ReadFails : Ways → Extent → Got → ℕ → List Bytes → Type 0
ReadFails may e Fault size buffer = CanMove size (length buffer) e → MayLand (may Reading)
ReadFails may e got size buffer = Unit {0}

abbrev pub WriteFails : Ways → Extent → Got → ℕ → List Bytes → List History → List History → Type 0
WriteFails may e Fault size buffer old new = CanMove size (length buffer) e → WrittenSo (may (Writing e.first e.count)) old e.first (take e.count buffer) new
WriteFails may e got size buffer old new = Unit {0}

abbrev pub SyncFails : Ways → Got → List History → List History → Type 0
SyncFails may Fault old new = SyncedSo (may Syncing) old new
SyncFails may got old new = Unit {0}

-- ---- which of three devices

abbrev pub device_in : {D : Type 0} → Dev → Devices D → D
device_in Metadata devices = devices.metadata
device_in Cache devices = devices.cache
device_in Origin devices = devices.origin

-- the other two are as they were
abbrev pub OthersStay : {D : Type 0} → Dev → Devices D → Devices D → Type 0
OthersStay Metadata old new = (new.cache ≡ old.cache) × (new.origin ≡ old.origin)
OthersStay Cache old new = (new.metadata ≡ old.metadata) × (new.origin ≡ old.origin)
OthersStay Origin old new = (new.metadata ≡ old.metadata) × (new.cache ≡ old.cache)
