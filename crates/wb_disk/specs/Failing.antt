-- How a failing step leaves the sectors that it writes or syncs: which of them have landed.
use Rattle.std.specs.Prelude.{◌≡◌, ◌<◌, ◌≤◌, ◌==◌, ℕ, suc, Bool, List, [], ◌∷◌, All, if◌then◌else◌}
use Rattle.wb_types.specs.declared.mode.Dev.{Dev}
use Rattle.wb_disk.specs.Device.{History, newest, only}
use Rattle.wb_disk.specs.Crash.{Choice, NamesOnly, named_position}
use Rattle.wb_disk.specs.declared.crash_choice.Base.{Base}
use Rattle.wb_disk.specs.declared.crash_choice.Base.TheVariants.{Durable, Newest}
use Rattle.wb_disk.specs.declared.crash_choice.NamedContent.{NamedContent}

-- A sector that is named with 1 is as after a success, one named with 0 as before it; of one that is not named the base says
-- which.
abbrev pub base_lands : Base → ℕ
base_lands Durable = 0
base_lands Newest = 1

abbrev pub lands : Dev → Choice → ℕ → Bool
lands device choice at = named_position device choice.named at (base_lands choice.base) == 1

-- A step on a device of so many sectors may fail so: the names are of its sectors, and the number that counts for each is 0 or 1.
pub record MayFail (device : Dev) (choice : Choice) (sectors : ℕ) : Type 0 where
  pub here : NamesOnly device choice
  pub inside : All (λ (name : NamedContent). name.sector < sectors) choice.named
  pub two : All (λ (name : NamedContent). named_position device choice.named name.sector 0 ≤ 1) choice.named

-- a sector after a failed sync, landed or not
abbrev pub sync_landed : Bool → History → History
sync_landed landed h = if landed then only (newest h) else h

-- the sectors from this number on after a sync that landed on these alone
abbrev pub synced_from : (ℕ → Bool) → ℕ → List History → List History
synced_from lands at [] = []
synced_from lands at (h ∷ hs) = sync_landed (lands at) h ∷ synced_from lands (suc at) hs

-- a device after a sync that landed on these of its sectors alone
abbrev pub synced_where : (ℕ → Bool) → List History → List History
synced_where lands device = synced_from lands 0 device

-- a sync that failed has landed on the sectors on which it may, and on no other
abbrev pub SyncedSo : ((ℕ → Bool) → Type 0) → List History → List History → Type 0
SyncedSo may old new = (landed : ℕ → Bool) × may landed × (new ≡ synced_where landed old)
