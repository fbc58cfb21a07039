-- Which content a crash keeps of each sector of a device.
use Rattle.std.specs.Prelude.{◌≡◌, ◌<◌, ◌==◌, ◌&&◌, ℕ, suc, Bool, true, false, List, [], ◌∷◌, Some, length, slice_get, unwrap_or, All, if◌then◌else◌}
use Rattle.wb_types.specs.declared.mode.Dev.{Dev}
use Rattle.wb_types.specs.declared.mode.Dev.TheVariants.{Metadata, Cache, Origin}
use Rattle.wb_disk.specs.Device.{Content, History, entries, only}
use Rattle.wb_disk.specs.declared.crash_choice.Base.{Base}
use Rattle.wb_disk.specs.declared.crash_choice.Base.TheVariants.{Durable, Newest}
use Rattle.wb_disk.specs.declared.crash_choice.NamedContent.{NamedContent}

-- Of a sector that is named, with its device, the content at the position that was named last is chosen; of any other, that of
-- the base.
pub record Choice : Type 0 where
  pub base : Base
  pub named : List NamedContent

-- the position of the durable content, or of the newest
abbrev pub base_position : Base → History → ℕ
base_position Durable h = 0
base_position Newest h = length h.later

abbrev pub is_device : Dev → Dev → Bool
is_device Metadata Metadata = true
is_device Cache Cache = true
is_device Origin Origin = true
is_device a b = false

-- the position that was named last for this sector of the device, or this one where none was
abbrev pub named_position : Dev → List NamedContent → ℕ → ℕ → ℕ
named_position device [] at otherwise = otherwise
named_position device (name ∷ names) at otherwise =
    named_position device names at (if is_device name.device device && (name.sector == at) then name.position else otherwise)

-- no other device is named
abbrev pub NamesOnly : Dev → Choice → Type 0
NamesOnly device choice = All (λ name. name.device ≡ device) choice.named

-- the position that a choice names in the list of contents of a sector of the device
abbrev pub chosen_position : Dev → Choice → ℕ → History → ℕ
chosen_position device choice at h = named_position device choice.named at (base_position choice.base h)

-- the content at this position, or the durable one where there is none
abbrev pub content_at : History → ℕ → Content
content_at h position = unwrap_or (slice_get (entries h) position) h.first

-- The names of the device are of sectors that it has, and of each sector a content is chosen that is there. Names of other
-- devices are of no account to it.
pub record Applies (device : Dev) (choice : Choice) (sectors : List History) : Type 0 where
  pub inside : All (λ name. name.device ≡ device → name.sector < length sectors) choice.named
  pub there : (at : ℕ) (h : History) → slice_get sectors at ≡ Some h → chosen_position device choice at h < length (entries h)

-- the sectors from this number on, each with its chosen content alone
abbrev pub crashed_from : Dev → Choice → ℕ → List History → List History
crashed_from device choice at [] = []
crashed_from device choice at (h ∷ hs) = only (content_at h (chosen_position device choice at h)) ∷ crashed_from device choice (suc at) hs

-- the sectors of the device after a crash by this choice
abbrev pub crashed : Dev → Choice → List History → List History
crashed device choice sectors = crashed_from device choice 0 sectors
