-- Which states the metadata of a run are read as, and what becomes of them.
use Rattle.std.proofs.Common.{◌≡◌, Bool, true, false, if◌then◌else◌, Option, Some, None, refl}
use Rattle.wb_meta.specs.Representing.{Stored}

-- The committed state; that of the commit that runs, or was stopped by a fault; and whether the root of that may have been written.
pub record Images : Type 0 where
  pub committed : Stored
  pub running : Option Stored
  pub written : Bool

-- beside the committed state they may be read as this one
abbrev pub later_of : Images → Option Stored
later_of images = if images.written then images.running else None

-- where no commit runs
abbrev pub one_image : Stored → Images
one_image state = record { committed = state; running = None; written = false }

-- What becomes of them: nothing; a commit begins that leads to a state; its root is written, or may have been; it ends; or a crash, or an
-- opening's first sync, has decided which of the two stands, the newer one or the other.
pub data Turn : Type 0 where
  Stays : Turn
  Begins : Stored → Turn
  Puts : Turn
  Ends : Turn
  Settles : (newer : Bool) → Turn

abbrev pub Turned : Turn → Images → Images → Type 0
Turned Stays old new = new ≡ old
Turned (Begins state) old new = new ≡ record { committed = old.committed; running = Some state; written = false }
Turned Puts old new = new ≡ record old { written = true }
Turned Ends old new = (state : Stored) × (old.running ≡ Some state) × (new ≡ one_image state)
Turned (Settles false) old new = new ≡ one_image old.committed
Turned (Settles true) old new = (state : Stored) × (old.running ≡ Some state) × (old.written ≡ true) × (new ≡ one_image state)

-- this is so of what the images become
pub record Turns (Kept : Images → Type 0) (old : Images) : Type 0 where
  pub now : Images
  pub turn : Turn
  pub turned : Turned turn old now
  pub kept : Kept now

-- they stay
abbrev pub stays : (Kept : Images → Type 0) (images : Images) → Kept images → Turns Kept images
stays Kept images kept = record { now = images; turn = Stays; turned = refl; kept = kept }
