-- What happens to a file, as whoever shares it notes it, and when a sync of it can be left out.
use Rattle.std.specs.Prelude.{◌≡◌, ◌+◌, ℕ, Bool, true, false, List, [], ◌∷◌, ◌++◌, Contains}

-- A write ended, well or not; the sync of this number began, or ended well; a sync failed. Histories are lists of events, the latest first.
pub data Event : Type 0 where
  Wrote : Event
  Began : (number : ℕ) → Event
  EndedWell : (number : ℕ) → Event
  Failed : Event

-- how many syncs have begun
abbrev pub syncs_begun : List Event → ℕ
syncs_begun [] = 0
syncs_begun (Wrote ∷ events) = syncs_begun events
syncs_begun (Began number ∷ events) = syncs_begun events + 1
syncs_begun (EndedWell number ∷ events) = syncs_begun events
syncs_begun (Failed ∷ events) = syncs_begun events

-- whether a write ended
abbrev pub has_write : List Event → Bool
has_write [] = false
has_write (Wrote ∷ events) = true
has_write (Began number ∷ events) = has_write events
has_write (EndedWell number ∷ events) = has_write events
has_write (Failed ∷ events) = has_write events

-- whether a sync failed
abbrev pub has_failure : List Event → Bool
has_failure [] = false
has_failure (Wrote ∷ events) = has_failure events
has_failure (Began number ∷ events) = has_failure events
has_failure (EndedWell number ∷ events) = has_failure events
has_failure (Failed ∷ events) = true

-- The sync of this number began, and behind that, in the events after it, no write ended.
pub record BeganSince (events : List Event) (number : ℕ) : Type 0 where
  pub after : List Event
  pub before : List Event
  pub began : events ≡ after ++ Began number ∷ before
  pub unwritten : has_write after ≡ false

-- Each write so far is durable: a sync that began after all of them had ended has ended well, and none has failed.
pub record IsCovered (events : List Event) : Type 0 where
  pub number : ℕ
  pub since : BeganSince events number
  pub well : Contains since.after (EndedWell number)
  pub sound : has_failure events ≡ false
