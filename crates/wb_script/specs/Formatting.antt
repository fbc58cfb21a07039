-- What a formatting may write over.
use Rattle.std.specs.Prelude.{◌⊎◌, ◌&&◌, ◌||◌, Bool, true, false, nat_lt, List, if◌then◌else◌}
use Rattle.wb_disk.specs.Device.{Content}
use Rattle.wb_checks.specs.declared.front.Front.TheVariants.{Blank, Formatted, SomethingElse as NoCache}
use Rattle.wb_checks.specs.Fronts.{IsFront}
use Rattle.wb_script.specs.declared.given_up.Overwritten.{Overwritten}
use Rattle.wb_script.specs.declared.given_up.Overwritten.TheVariants.{Cache, Unread, SomethingElse, Unreadable}
use Rattle.wb_script.specs.declared.given_up.Wishes.{Wishes}
use Rattle.wb_script.specs.declared.given_up.Course.{Course}
use Rattle.wb_script.specs.declared.given_up.Course.TheVariants.{GoesOn, Asks, Refuses}

-- it is a cache's metadata
abbrev pub is_cache : Overwritten → Bool
is_cache (Cache given_up) = true
is_cache Unread = true
is_cache SomethingElse = false
is_cache Unreadable = false

abbrev pub IsOfCache : Overwritten → Type 0
IsOfCache (Cache given_up) = Unit {0}
IsOfCache Unread = Unit {0}
IsOfCache SomethingElse = ⊥
IsOfCache Unreadable = ⊥

-- a block of it may not be on the origin
abbrev pub may_be_dirty : Overwritten → Bool
may_be_dirty (Cache given_up) = nat_lt 0 given_up.dirty
may_be_dirty over = true

-- On a terminal somebody is asked, unless a wish answers. Elsewhere a cache is written over, unless care is wanted and a block may be dirty;
-- and what is no cache's metadata by force alone.
abbrev pub course_over : Overwritten → Wishes → Bool → Course
course_over over wishes true = if wishes.force || wishes.yes then GoesOn else Asks
course_over over wishes false =
    if is_cache over then (if wishes.careful && may_be_dirty over then Refuses else GoesOn) else (if wishes.force then GoesOn else Refuses)

-- the sectors hold this
abbrev pub IsOver : List Content → Overwritten → Type 0
IsOver sectors (Cache given_up) = IsFront sectors Formatted
IsOver sectors Unread = IsFront sectors Formatted
IsOver sectors SomethingElse = IsFront sectors NoCache
IsOver sectors Unreadable = Unit {0}

-- they are blank, or a cache's
abbrev pub IsOverNothing : List Content → Type 0
IsOverNothing sectors = IsFront sectors Blank ⊎ IsFront sectors Formatted

-- Sectors may be written over that are blank or a cache's with nothing mapped, or where it is allowed to write over what they hold.
abbrev pub MayFormat : (Overwritten → Type 0) → List Content → Type 0
MayFormat allows sectors = IsOverNothing sectors ⊎ ((over : Overwritten) × IsOver sectors over × allows over)
