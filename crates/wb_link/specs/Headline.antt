-- What is promised of every run.
use Rattle.std.specs.Prelude.{◌≡◌, ℕ, List, true, Contains}
use Rattle.wb_disk.specs.Device.{Content, entries}
use Rattle.wb_contents.specs.Volume.{at_location}
use Rattle.wb_contents.specs.Promises.{IsEntryFrom}
use Rattle.wb_link.specs.Clerk.{abstract_opened}
use Rattle.wb_link.specs.Openings.{Event, after_events, site, AllEventsRight, abstract_noted}

-- A finished read gives the last write, and an opening shows an entry of each sector's history at its floor or later;
-- and, whether a target stands or not, what a crash may leave on the locations that the metadata may stand for is one.
pub record Headline (many : ℕ) (z : Content) (es : List Event) : Type 0 where
  pub right : AllEventsRight (abstract_opened (λ b o. z)) es
  pub committed : (b o : ℕ) (c : Content) →
      Contains (entries (at_location (after_events (site many z) es).world.shared.origin (after_events (site many z) es).world.shared.cache ((after_events (site many z) es).world.shared.committed b) b o)) c → IsEntryFrom ((abstract_noted (abstract_opened (λ b o. z)) es).floors b o) ((abstract_noted (abstract_opened (λ b o. z)) es).histories b o) c
  pub running : (after_events (site many z) es).world.shared.root_written ≡ true → (b o : ℕ) (c : Content) →
      Contains (entries (at_location (after_events (site many z) es).world.shared.origin (after_events (site many z) es).world.shared.cache ((after_events (site many z) es).world.shared.running b) b o)) c → IsEntryFrom ((abstract_noted (abstract_opened (λ b o. z)) es).floors b o) ((abstract_noted (abstract_opened (λ b o. z)) es).histories b o) c
