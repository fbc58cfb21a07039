-- What the contents of two devices, the images of the metadata and a clerk's notes make up, over many lives. No task, lock
-- or byte of metadata stands in it. Sectors are named by block and offset.
use Rattle.std.specs.Prelude.{◌==◌, ℕ, Bool, false, cond, Option, Some, None}
use Rattle.wb_types.specs.declared.mode.Mode.{Mode}
use Rattle.wb_disk.specs.Device.{History}

-- where each block is read: in a cache block, or else on the origin
abbrev pub Locations : Type 0
Locations = ℕ → Option ℕ

-- What metadata represent: where the blocks are, and which of them an opening takes as clean (none without the clean flag).
pub record Image : Type 0 where
  pub locations : Locations
  pub clean : ℕ → Bool

-- the same without the clean flag
abbrev pub unclean : Image → Image
unclean image = record { locations = image.locations; clean = λ b. false }

-- Of a sector: where it is read it has the last entry of its history; the origin alone has that; neither need have it.
pub data Standing : Type 0 where
  Whole : Standing
  Half : Standing
  Torn : Standing

pub record Volume : Type 0 where
  -- the pending contents of each sector, by block and offset
  pub origin : ℕ → ℕ → History
  pub cache : ℕ → ℕ → History
  -- of this life: whether a target runs, its mode, its mapping and which blocks are dirty
  pub live : Bool
  pub mode : Mode
  pub mapping : Locations
  pub dirty : ℕ → Bool
  -- Metadata represent the committed image or, once its root was written, perhaps the running one.
  pub committed : Image
  pub running : Image
  pub root_written : Bool
  -- synced since the running image was taken, or since the opening began
  pub cache_synced : Bool
  pub origin_synced : Bool
  -- the clerk's: what was written since the opening, how each sector stands, the position of its last finished write
  pub histories : ℕ → ℕ → History
  pub standing : ℕ → ℕ → Standing
  pub finished : ℕ → ℕ → ℕ
  -- what was finished when the committed image was taken, and when the running one was
  pub committed_floor : ℕ → ℕ → ℕ
  pub running_floor : ℕ → ℕ → ℕ
  -- Commits are numbered from 1: the last that began, the last that ended. Of each actor's flush: the number of the
  -- commit that it waits for, and what was finished when it began.
  pub began : ℕ
  pub ended : ℕ
  pub ticket : ℕ → ℕ
  pub then_finished : ℕ → ℕ → ℕ → ℕ
  -- the durable floor: what the flushes that were answered have covered
  pub floor : ℕ → ℕ → ℕ

-- the pending contents of a sector whose block is here
abbrev pub at_location : (origin cache : ℕ → ℕ → History) → Option ℕ → ℕ → ℕ → History
at_location origin cache None b o = origin b o
at_location origin cache (Some k) b o = cache k o

-- those that an image, or the mapping, names for a sector
abbrev pub location : Volume → Locations → ℕ → ℕ → History
location d locations b o = at_location d.origin d.cache (locations b) b o

abbrev pub changed : {X : Type 0} → (ℕ → X) → ℕ → X → ℕ → X
changed f i y j = cond (j == i) y (f j)

abbrev pub changed_at : {X : Type 0} → (ℕ → ℕ → X) → ℕ → ℕ → X → ℕ → ℕ → X
changed_at f i o x = changed f i (changed (f i) o x)
