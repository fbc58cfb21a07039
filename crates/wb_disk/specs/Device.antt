-- What a device holds: of each sector the content of the last sync, and each write since, in order.
use Rattle.std.specs.Prelude.{◌≡◌, ◌⊎◌, ◌+◌, ◌^◌, ◌%◌, ℕ, List, [], ◌∷◌, ◌++◌, Option, Some, None, map, length, slice_get, slice_set, Contains}

-- the bytes of a sector
abbrev pub Content : Type 0
Content = List ℕ

-- a list of contents that is never empty: the first, and the later ones in order
pub record History : Type 0 where
  pub first : Content
  pub later : List Content

-- all of it, as a list
abbrev pub entries : History → List Content
entries h = h.first ∷ h.later

-- what the sector held at the last sync that succeeded
abbrev pub durable : History → Content
durable h = h.first

-- the last of a content and those after it
abbrev pub last_of : Content → List Content → Content
last_of c [] = c
last_of c (d ∷ ds) = last_of d ds

-- what a read gives
abbrev pub newest : History → Content
newest h = last_of h.first h.later

-- one content more
abbrev pub added : History → Content → History
added h c = record { first = h.first; later = h.later ++ c ∷ [] }

-- this content alone
abbrev pub only : Content → History
only c = record { first = c; later = [] }

-- a read of this sector gives this content
abbrev pub ReadGives : List History → ℕ → Content → Type 0
ReadGives device at content = (h : History) × (slice_get device at ≡ Some h) × (newest h ≡ content)

-- the device with one content more at a sector, where there is such a sector
abbrev pub grown : Option History → Content → List History → ℕ → List History
grown None content device at = device
grown (Some h) content device at = slice_set device at (added h content)

-- the device after a write of this sector
abbrev pub written : List History → ℕ → Content → List History
written device at content = grown (slice_get device at) content device at

-- the device after a sync: of each sector the newest content alone
abbrev pub synced : List History → List History
synced device = map (λ h. only (newest h)) device

-- the same sectors, each gone on from its old list to its new one so
pub record EachSector (how : History → History → Type 0) (old new : List History) : Type 0 where
  pub size : length new ≡ length old
  pub each : (at : ℕ) (h g : History) → slice_get old at ≡ Some h → slice_get new at ≡ Some g → how h g

-- after a sync that failed, a sector has its newest content alone, or its whole list
abbrev pub MaySync : History → History → Type 0
MaySync h g = (g ≡ h) ⊎ (g ≡ only (newest h))

-- after a crash, a sector has one content of its list, alone
abbrev pub MayKeep : History → History → Type 0
MayKeep h g = (c : Content) × Contains (entries h) c × (g ≡ only c)

-- what a sync that failed may leave
abbrev pub PartlySynced : List History → List History → Type 0
PartlySynced = EachSector MaySync

-- what a crash may leave
abbrev pub Crashed : List History → List History → Type 0
Crashed = EachSector MayKeep

-- one fault more was counted, modulo 2^64
abbrev pub OneMore : ℕ → ℕ → Type 0
OneMore old new = new ≡ (old + 1) % 2 ^ 64
