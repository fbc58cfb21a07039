-- What the fields of a disk in memory stand for.
use Rattle.std.specs.Prelude.{◌≡◌, ◌<◌, ℕ, List, [], ◌∷◌, Some, Bool, true, false, map, length, get_or, slice_get, slice_set, vec_capacity, if◌then◌else◌}
use Rattle.wb_types.specs.declared.mode.Dev.{Dev}
use Rattle.wb_disk.specs.Device.{History, entries, only}
use Rattle.wb_disk.specs.Crash.{Choice, content_at, chosen_position, is_device}
use Rattle.wb_disk.specs.Failing.{lands}
use Rattle.wb_disk.specs.declared.crash_choice.NamedContent.{NamedContent}
use Rattle.wb_disk.specs.declared.failing.Landing.{Landing}
use Rattle.wb_disk.specs.declared.failing.Landing.TheVariants.{Everywhere, As}
use Rattle.wb_disk.specs.declared.pending.Pending.{Pending}

-- the contents of a sector as it is stored
abbrev pub history : Pending → History
history p = record { first = p.durable; later = p.later.items }

-- how many later contents a sector has memory for
abbrev pub capacity_of : Pending → ℕ
capacity_of p = vec_capacity p.later

-- the content at the mark, alone
abbrev pub cut_at_mark : Pending → History
cut_at_mark p = only (content_at (history p) p.mark)

-- there is a content at the mark
abbrev pub HasMark : Pending → Type 0
HasMark p = p.mark < length (entries (history p))

abbrev pub histories : List Pending → List History
histories ps = map history ps

abbrev pub capacities : List Pending → List ℕ
capacities ps = map capacity_of ps

abbrev pub marks : List Pending → List ℕ
marks ps = map (λ p. p.mark) ps

-- the marks of a device after these names were carried over to them, in order
abbrev pub marks_named : Dev → List NamedContent → List ℕ → List ℕ
marks_named device [] ms = ms
marks_named device (name ∷ names) ms =
    marks_named device names (if is_device name.device device then slice_set ms name.sector name.position else ms)

-- each mark is at the content that a choice keeps
abbrev pub IsMarked : Dev → Choice → List Pending → Type 0
IsMarked device choice ps = (at : ℕ) (p : Pending) → slice_get ps at ≡ Some p → p.mark ≡ chosen_position device choice at (history p)

-- each sector that was written since the last sync is noted
pub record IsNoted (hs : List History) (noted : List Bool) : Type 0 where
  pub size : length noted ≡ length hs
  pub written : (at : ℕ) (h : History) → slice_get hs at ≡ Some h → get_or noted at false ≡ false → h.later ≡ []

-- a sync lands on this sector
abbrev pub lands_at : Landing → ℕ → Bool
lands_at Everywhere at = true
lands_at (As device choice) at = lands device choice.now at
