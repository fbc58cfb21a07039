-- How the lists of metadata places belong together.
use Rattle.std.specs.Prelude.{◌≡◌, ◌<◌, ◌^◌, ℕ, false, if◌then◌else◌, length, get_or}
use Rattle.wb_space.specs.Places.{PlacesNow, is_free_place, unused}
use Rattle.wb_space.specs.declared.places.Places.TheInside.{Inside}

-- All lists go as far, and a place is a number of 32 bits. The newest image has the places of the committed one, but for
-- those that are marked, and none is where no commit runs. The free places are those that neither of both uses.
pub record AreEven (p : Inside) : Type 0 where
  pub small : length p.committed < 2 ^ 32
  pub even : length p.newest ≡ length p.committed
  pub marks : length p.changed ≡ length p.committed
  pub elsewhere : (k : ℕ) → get_or p.changed k false ≡ false → get_or p.newest k false ≡ get_or p.committed k false
  pub span : length p.free ≡ length p.committed
  pub free : (k : ℕ) → k < length p.committed → get_or p.free k false ≡ is_free_place (record { committed = p.committed; running = p.newest }) k
  pub idle : p.committing ≡ false → p.changed ≡ unused (length p.committed)

-- where no commit runs the newest image is the committed one, and none is running
abbrev pub shown_places : Inside → PlacesNow
shown_places p = record {
  in_use = record { committed = p.committed; running = if p.committing then p.newest else unused (length p.committed) };
  committing = p.committing;
}
