-- What a crash leaves of a device, sector by sector.
use Rattle.std.specs.Prelude.{◌≡◌, ℕ, List, Some, length, map, slice_get, Contains}
use Rattle.wb_disk.specs.Device.{Content, History, Crashed, PartlySynced, entries, newest, synced}

-- A crash may leave these sectors: of each sector one content of its list.
pub record MayLeave (device : List History) (sectors : List Content) : Type 0 where
  pub size : length sectors ≡ length device
  pub each : (at : ℕ) (h : History) (content : Content) → slice_get device at ≡ Some h → slice_get sectors at ≡ Some content → Contains (entries h) content

-- so it is, whatever a crash leaves
abbrev pub AfterEveryCrash : (List Content → Type 0) → List History → Type 0
AfterEveryCrash Is device = (sectors : List Content) → MayLeave device sectors → Is sectors

-- ---- laws

-- what a device holds after a crash is what a crash may leave
abbrev pub CrashIsLeft : Type 0
CrashIsLeft = (device crashed : List History) → Crashed device crashed → MayLeave device (map newest crashed)

-- a crash may leave what reads give: so there always is something that it may leave
abbrev pub ReadIsLeft : Type 0
ReadIsLeft = (device : List History) → MayLeave device (map newest device)

-- after a sync a crash leaves what reads gave, and nothing else
abbrev pub SyncedIsLeft : Type 0
SyncedIsLeft = (device : List History) (sectors : List Content) → MayLeave (synced device) sectors → sectors ≡ map newest device

-- after a crash another leaves what reads give, and nothing else
abbrev pub CrashedIsLeft : Type 0
CrashedIsLeft = (device crashed : List History) (sectors : List Content) → Crashed device crashed
    → MayLeave crashed sectors → sectors ≡ map newest crashed

-- after a sync reads give what they gave
abbrev pub SyncedIsRead : Type 0
SyncedIsRead = (device : List History) → map newest (synced device) ≡ map newest device

-- and so they do after a sync that failed
abbrev pub PartlySyncedIsRead : Type 0
PartlySyncedIsRead = (old new : List History) → PartlySynced old new → map newest new ≡ map newest old

-- after a sync that failed a crash leaves nothing that it could not leave before
abbrev pub PartlySyncedLeavesNoMore : Type 0
PartlySyncedLeavesNoMore = (old new : List History) (sectors : List Content) → PartlySynced old new
    → MayLeave new sectors → MayLeave old sectors
