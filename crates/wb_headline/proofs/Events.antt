-- A run of the abstract world goes on by events, and what it promises of the site that it has come to.
use Rattle.std.proofs.Common.{◌≡◌, ◌∙◌, ℕ, true, List, [], ◌∷◌, ◌++◌, refl, sym, ap, subst, map, Contains}
use Rattle.wb_disk.specs.Device.{Content, entries}
use Rattle.wb_contents.specs.Volume.{at_location}
use Rattle.wb_contents.specs.Promises.{IsEntryFrom}
use Rattle.wb_link.specs.World.{Record, IsAbstractRun, abstract_after_all}
use Rattle.wb_link.specs.Clerk.{AbstractNotes, abstract_opened}
use Rattle.wb_link.specs.Openings.{Event, On, Site, Stands, after_event, after_events, note_event, abstract_noted, AllEventsRight, MayHappen, AbstractHappens, site}
use Rattle.wb_link.proofs.Lives.{headline}
use Rattle.wb_simulation.specs.Worlds.{zeros}
use Rattle.wb_simulation.specs.Noted.{told}

-- Some run from empty devices has come to this site, and its clerk has these notes.
pub record Reached (size many : ℕ) (v : Site) (m : AbstractNotes) : Type 0 where
  pub events : List Event
  pub happens : AbstractHappens size (site many zeros) events
  pub at : after_events (site many zeros) events ≡ v
  pub notes : abstract_noted (abstract_opened (λ b o. zeros)) events ≡ m

-- ---- one run behind another

after-append : (v : Site) (es fs : List Event) → after_events v (es ++ fs) ≡ after_events (after_events v es) fs
after-append v [] fs = refl
after-append v (e ∷ es) fs = after-append (after_event v e) es fs

noted-append : (m : AbstractNotes) (es fs : List Event) → abstract_noted m (es ++ fs) ≡ abstract_noted (abstract_noted m es) fs
noted-append m [] fs = refl
noted-append m (e ∷ es) fs = noted-append (note_event m e) es fs

happens-append : (size : ℕ) (v : Site) (es fs : List Event) → AbstractHappens size v es → AbstractHappens size (after_events v es) fs → AbstractHappens size v (es ++ fs)
happens-append size v [] fs h k = k
happens-append size v (e ∷ es) fs h k = (h.0, happens-append size (after_event v e) es fs h.1 k)

right_behind : (m : AbstractNotes) (es fs : List Event) → AllEventsRight m (es ++ fs) → AllEventsRight (abstract_noted m es) fs
right_behind m [] fs r = r
right_behind m (e ∷ es) fs r = right_behind (note_event m e) es fs r.1

pub start_reached : (size many : ℕ) → Reached size many (site many zeros) (abstract_opened (λ b o. zeros))
start_reached size many = record { events = []; happens = tt; at = refl; notes = refl }

module _ (size many : ℕ) (v : Site) (m : AbstractNotes) (r : Reached size many v m) where
  pub goes_on : (es : List Event) → AbstractHappens size v es → Reached size many (after_events v es) (abstract_noted m es)
  goes_on es h = record {
    events = r.events ++ es;
    happens = happens-append size (site many zeros) r.events es r.happens (subst (λ (w : Site). AbstractHappens size w es) (sym r.at) h);
    at = after-append (site many zeros) r.events es ∙ ap (λ (w : Site). after_events w es) r.at;
    notes = noted-append (abstract_opened (λ b o. zeros)) r.events es ∙ ap (λ (n : AbstractNotes). abstract_noted n es) r.notes;
  }

  -- whatever happens next is right
  pub is_right : (es : List Event) → AbstractHappens size v es → AllEventsRight m es
  is_right es h =
      let all = headline size many zeros (r.events ++ es) (happens-append size (site many zeros) r.events es r.happens (subst (λ (w : Site). AbstractHappens size w es) (sym r.at) h)) in
      subst (λ (n : AbstractNotes). AllEventsRight n es) r.notes (right_behind (abstract_opened (λ b o. zeros)) r.events es all.right)

  -- what a crash may leave where the committed image has a block is allowed
  pub committed_allowed : (b o : ℕ) (c : Content) → Contains (entries (at_location v.world.shared.origin v.world.shared.cache (v.world.shared.committed b) b o)) c → IsEntryFrom (m.floors b o) (m.histories b o) c
  committed_allowed = subst (λ (n : AbstractNotes). (b o : ℕ) (c : Content) → Contains (entries (at_location v.world.shared.origin v.world.shared.cache (v.world.shared.committed b) b o)) c → IsEntryFrom (n.floors b o) (n.histories b o) c) r.notes
      (subst (λ (w : Site). (b o : ℕ) (c : Content) → Contains (entries (at_location w.world.shared.origin w.world.shared.cache (w.world.shared.committed b) b o)) c → IsEntryFrom ((abstract_noted (abstract_opened (λ b o. zeros)) r.events).floors b o) ((abstract_noted (abstract_opened (λ b o. zeros)) r.events).histories b o) c) r.at
      (headline size many zeros r.events r.happens).committed)

  -- and where the running one has it, once its root was written
  pub running_allowed : v.world.shared.root_written ≡ true → (b o : ℕ) (c : Content) → Contains (entries (at_location v.world.shared.origin v.world.shared.cache (v.world.shared.running b) b o)) c → IsEntryFrom (m.floors b o) (m.histories b o) c
  running_allowed = subst (λ (n : AbstractNotes). v.world.shared.root_written ≡ true → (b o : ℕ) (c : Content) → Contains (entries (at_location v.world.shared.origin v.world.shared.cache (v.world.shared.running b) b o)) c → IsEntryFrom (n.floors b o) (n.histories b o) c) r.notes
      (subst (λ (w : Site). w.world.shared.root_written ≡ true → (b o : ℕ) (c : Content) → Contains (entries (at_location w.world.shared.origin w.world.shared.cache (w.world.shared.running b) b o)) c → IsEntryFrom ((abstract_noted (abstract_opened (λ b o. zeros)) r.events).floors b o) ((abstract_noted (abstract_opened (λ b o. zeros)) r.events).histories b o) c) r.at
      (headline size many zeros r.events r.happens).running)

-- ---- records of tasks, where a target stands

-- the site with a later world
abbrev pub gone_on : Site → List Record → Site
gone_on v rs = record { world = abstract_after_all v.world rs; phase = v.phase }

after-records : (v : Site) (rs : List Record) → after_events v (map (λ (r : Record). On r) rs) ≡ gone_on v rs
after-records v [] = refl
after-records v (r ∷ rs) = after-records (after_event v (On r)) rs

pub records_happen : (size : ℕ) (v : Site) (rs : List Record) → v.phase ≡ Stands → IsAbstractRun size v.world rs → AbstractHappens size v (map (λ (r : Record). On r) rs)
records_happen size v [] p run = tt
records_happen size v (r ∷ rs) p run = ((p, run.0), records_happen size (after_event v (On r)) rs p run.1)

pub records_reach : (size many : ℕ) (v : Site) (m : AbstractNotes) (rs : List Record) → Reached size many v m → v.phase ≡ Stands → IsAbstractRun size v.world rs → Reached size many (gone_on v rs) (told m rs)
records_reach size many v m rs r p run = subst (λ (w : Site). Reached size many w (told m rs)) (after-records v rs) (goes_on size many v m r (map (λ (x : Record). On x) rs) (records_happen size v rs p run))

pub event_reaches : (size many : ℕ) (v : Site) (m : AbstractNotes) (e : Event) → Reached size many v m → MayHappen size v e → Reached size many (after_event v e) (note_event m e)
event_reaches size many v m e r h = goes_on size many v m r (e ∷ []) (h, tt)
