-- Every run of lives is a run of the contents machine: a record of the world is a list of acts, and so are a crash, an
-- opening's start (none) and each step of an opening.
use Rattle.std.proofs.Common.{◌≡◌, ◌≤◌, ℕ, List, [], ◌∷◌, None, refl, sym, ap, subst, ◌∙◌, Contains, length, replicate}
use Rattle.wb_disk.specs.Device.{Content, History, entries, only}
use Rattle.wb_contents.specs.Volume.{Volume, Locations, at_location}
use Rattle.wb_types.specs.declared.mode.Mode.{Mode}
use Rattle.wb_types.specs.declared.mode.Mode.TheVariants.{Writeback}
use Rattle.wb_contents.specs.Acts.{Act, Crash, volume_after_all as after_acts}
use Rattle.wb_contents.specs.Conditions.{IsUnnamed, IsRunOfActs as IsActs}
use Rattle.wb_contents.specs.Promises.{IsEntryFrom, first_volume}
use Rattle.wb_contents.proofs.Positions.{at_lower}
use Rattle.wb_contents.proofs.Run.{first_kept, holds}
use Rattle.wb_link.specs.World.{Shared, AbstractActor, World, abstract_resting, abstract_begins, after_record}
use Rattle.wb_link.specs.Clerk.{AbstractNotes, abstract_note, abstract_opened}
use Rattle.wb_link.specs.Openings.{Stage, Settling, Caching, Basing, Looking, Rooting, Renewing, Answering, AbstractPhase, Stands, Gone, Opens, Site, Outcome, Settled, Fine, Learns, Refused, Broke, Shown, Event, On, Stopped, Begins, Advances, advanced, next_phase, advance, Yields, emptied, MayHappen, after_event, after_events, AbstractHappens, site, note_outcome, note_event, ShowsRight, EventRight, AllEventsRight, abstract_noted as noted}
use Rattle.wb_link.specs.Headline.{Headline}
use Rattle.wb_link.proofs.Link.{Told, Linked}
use Rattle.wb_link.proofs.Runs.{Noted, fresh_noted, moves}
use Rattle.wb_link.proofs.Opening.{fresh, Empty, Reached, Lived, lived_empty, opening_acts, opening_goes, stop_run, stop_empty, shown_is, shown_right}

-- what of the clerk's outlives a target: the histories and the floors
pub record Lasting (d : Volume) (n : AbstractNotes) : Type 0 where
  pub histories : n.histories ≡ d.histories
  pub floors : (b o : ℕ) → n.floors b o ≤ d.floor b o

abbrev pub NotedIn : AbstractPhase → List AbstractActor → Volume → AbstractNotes → Type 0
NotedIn Stands actors d n = Noted actors d n
NotedIn Gone actors d n = Lasting d n
NotedIn (Opens mode stage) actors d n = Lasting d n

lasting : (phase : AbstractPhase) (actors : List AbstractActor) (d : Volume) (n : AbstractNotes) → NotedIn phase actors d n → Lasting d n
lasting Stands actors d n i = record { histories = i.histories; floors = i.floors }
lasting Gone actors d n i = i
lasting (Opens mode stage) actors d n i = i

-- one event is a list of acts
record Events (size : ℕ) (w : Site) (d : Volume) (n : AbstractNotes) (v : Event) : Type 0 where
  acts : List Act
  run : IsActs d acts
  lived : Lived size (after_event w v).world (after_event w v).phase (after_acts d acts)
  noted : NotedIn (after_event w v).phase (after_event w v).world.actors (after_acts d acts) (note_event n v)
  right : EventRight n v

-- the clerk's part of an opening's step
record Writes (actors : List AbstractActor) (mode : Mode) (stage : Stage) (outcome : Outcome) (d : Volume) (n : AbstractNotes) : Type 0 where
  noted : NotedIn (next_phase mode stage outcome) actors (after_acts d (opening_acts mode stage outcome)) (note_outcome n outcome)
  right : ShowsRight n outcome

opening_noted : (size many : ℕ) (s : Shared) (mode : Mode) (stage : Stage) (outcome : Outcome) (d : Volume) (n : AbstractNotes) → Empty size s d → Reached mode stage d → Yields s mode stage outcome → Lasting d n → Writes (replicate many abstract_resting) mode stage outcome d n
opening_noted size many s mode Settling (Settled t) d n e r y k = record { noted = record { histories = k.histories; floors = k.floors }; right = tt }
opening_noted size many s mode Settling (Broke choice) d n e r y k = record { noted = k; right = tt }
opening_noted size many s mode Caching Fine d n e r y k = record { noted = record { histories = k.histories; floors = k.floors }; right = tt }
opening_noted size many s mode Caching (Broke choice) d n e r y k = record { noted = record { histories = k.histories; floors = k.floors }; right = tt }
opening_noted size many s mode Basing Fine d n e r y k = record { noted = record { histories = k.histories; floors = k.floors }; right = tt }
opening_noted size many s mode Basing (Broke choice) d n e r y k = record { noted = record { histories = k.histories; floors = k.floors }; right = tt }
opening_noted size many s mode Looking (Learns i) d n e r y k = record { noted = k; right = tt }
opening_noted size many s mode Looking Refused d n e r y k = record { noted = k; right = tt }
opening_noted size many s mode Looking (Broke choice) d n e r y k = record { noted = k; right = tt }
opening_noted size many s mode (Rooting i) Fine d n e r y k = record { noted = record { histories = k.histories; floors = k.floors }; right = tt }
opening_noted size many s mode (Rooting i) (Broke choice) d n e r y k = record { noted = record { histories = k.histories; floors = k.floors }; right = tt }
opening_noted size many s mode (Rooting i) Refused d n e r y k = record { noted = k; right = tt }
opening_noted size many s mode (Renewing i) Fine d n e r y k = record { noted = k; right = tt }
opening_noted size many s mode (Renewing i) (Broke choice) d n e r y k = record { noted = k; right = tt }
opening_noted size many s mode (Answering i) (Shown blocks view) d n e r y k = record {
  noted = fresh_noted many (after_acts d (opening_acts mode (Answering i) (Shown blocks view))) view (λ j b o. only (shown_is s d mode i view e.told r.1 y.1 b o j));
  right = λ b o. at_lower (n.floors b o) (d.floor b o) (n.histories b o) (view b o) (k.floors b o) (subst (λ (g : ℕ → ℕ → History). IsEntryFrom (d.floor b o) (g b o) (view b o)) (sym k.histories) (shown_right size s d mode i view e r.0 r.1 y.1 b o));
}
opening_noted size many s mode stage outcome d n e r y k = absurd y

advance_is : (w : World) (phase : AbstractPhase) (mode : Mode) (stage : Stage) (outcome : Outcome) → phase ≡ Opens mode stage → advance w phase outcome ≡ record { world = emptied w (advanced w.shared mode stage outcome); phase = next_phase mode stage outcome }
advance_is w phase mode stage outcome e = ap (λ p. advance w p outcome) e

happen : (size : ℕ) (w : Site) (d : Volume) (n : AbstractNotes) (v : Event) → Lived size w.world w.phase d → NotedIn w.phase w.world.actors d n → MayHappen size w v → Events size w d n v
happen size w d n (On r) i k m =
    let one = moves size w.world d n r (subst (λ (p : AbstractPhase). Lived size w.world p d) m.0 i) (subst (λ (p : AbstractPhase). NotedIn p w.world.actors d n) m.0 k) m.1 in record {
      acts = one.acts;
      run = one.run;
      lived = subst (λ (p : AbstractPhase). Lived size (after_record w.world r) p (after_acts d one.acts)) (sym m.0) one.linked;
      noted = subst (λ (p : AbstractPhase). NotedIn p (after_record w.world r).actors (after_acts d one.acts) (abstract_note n r)) (sym m.0) one.noted;
      right = one.right;
    }
happen size w d n (Stopped r) i k m =
    let e = lived_empty size w.world w.phase d i in
    let l = lasting w.phase w.world.actors d n k in record {
      acts = Crash r.origin r.cache r.new_root ∷ [];
      run = stop_run w.world.shared d r e.told m;
      lived = stop_empty size w.world.shared d r e m;
      noted = record { histories = l.histories; floors = l.floors };
      right = tt;
    }
happen size w d n (Begins mode) i k m = record { acts = []; run = tt; lived = (lived_empty size w.world w.phase d i, tt); noted = lasting w.phase w.world.actors d n k; right = tt }
happen size w d n (Advances outcome) i k m =
    let mode = m.0 in
    let stage = m.1 in
    let now : Lived size w.world (Opens m.0 m.1) d = subst (λ (p : AbstractPhase). Lived size w.world p d) m.2 i in
    let step = opening_goes size w.world m.0 m.1 outcome d now.0 now.1 m.3 in
    let clerk = opening_noted size (length w.world.actors) w.world.shared m.0 m.1 outcome d n now.0 now.1 m.3 (lasting w.phase w.world.actors d n k) in
    let is = advance_is w.world w.phase m.0 m.1 outcome m.2 in record {
      acts = opening_acts m.0 m.1 outcome;
      run = step.run;
      lived = subst (λ (v : Site). Lived size v.world v.phase (after_acts d (opening_acts m.0 m.1 outcome))) (sym is) step.lived;
      noted = subst (λ (v : Site). NotedIn v.phase v.world.actors (after_acts d (opening_acts m.0 m.1 outcome)) (note_outcome n outcome)) (sym is) clerk.noted;
      right = clerk.right;
    }

-- Over a run from here on.
pub record Ends (size : ℕ) (w : Site) (d : Volume) (n : AbstractNotes) (es : List Event) : Type 0 where
  pub last : Volume
  pub lived : Lived size (after_events w es).world (after_events w es).phase last
  pub noted : NotedIn (after_events w es).phase (after_events w es).world.actors last (noted n es)
  pub right : AllEventsRight n es

pub ends : (size : ℕ) (w : Site) (d : Volume) (n : AbstractNotes) (es : List Event) → Lived size w.world w.phase d → NotedIn w.phase w.world.actors d n → AbstractHappens size w es → Ends size w d n es
ends size w d n [] i k m = record { last = d; lived = i; noted = k; right = tt }
ends size w d n (v ∷ vs) i k m =
    let one = happen size w d n v i k m.0 in
    let all = ends size (after_event w v) (after_acts d one.acts) (note_event n v) vs one.lived one.noted m.1 in record {
      last = all.last;
      lived = all.lived;
      noted = all.noted;
      right = (one.right, all.right);
    }

-- The start.

none_named : (k : ℕ) → IsUnnamed (λ b. None) k
none_named k b e = absurd (cc)

pub start_is_linked : (size many : ℕ) (z : Content) → Linked size (abstract_begins many z) (first_volume Writeback (λ b o. z))
start_is_linked size many z = fresh size many (abstract_begins many z).shared (first_volume Writeback (λ b o. z)) (record {
  kept = first_kept Writeback (λ b o. z);
  agrees = record { told = record { origin = refl; cache = refl; committed = refl; running = refl; root_written = refl; committed_clean = λ b k e. refl; running_clean = λ b k e. refl }; mapping = refl; live = refl; mode = refl; began = refl; ended = refl };
  bounded = (z, λ b o l. (refl, refl));
  sound = λ k. (none_named k, none_named k, none_named k);
  idle = λ e. refl;
}) (λ b. record { whole = λ o. refl; location = refl; dirty = λ k e. absurd (cc); done = λ o. refl }) refl

-- Each answer of each run is right, and what a crash may leave is allowed.
pub headline : (size many : ℕ) (z : Content) (es : List Event) → AbstractHappens size (site many z) es → Headline many z es
headline size many z es m =
    let all = ends size (site many z) (first_volume Writeback (λ b o. z)) (abstract_opened (λ b o. z)) es (start_is_linked size many z) (fresh_noted many (first_volume Writeback (λ b o. z)) (λ b o. z) refl) m in
    let after = after_events (site many z) es in
    let e : Empty size (after_events (site many z) es).world.shared all.last = lived_empty size (after_events (site many z) es).world (after_events (site many z) es).phase all.last all.lived in
    let notes : Lasting all.last (noted (abstract_opened (λ b o. z)) es) = lasting (after_events (site many z) es).phase (after_events (site many z) es).world.actors all.last (noted (abstract_opened (λ b o. z)) es) all.noted in
    let held = holds all.last e.kept in record {
      right = all.right;
      committed = λ b o c f. at_lower ((noted (abstract_opened (λ b o. z)) es).floors b o) (all.last.floor b o) ((noted (abstract_opened (λ b o. z)) es).histories b o) c (notes.floors b o) (subst (λ (g : ℕ → ℕ → History). IsEntryFrom (all.last.floor b o) (g b o) c) (sym notes.histories)
          (held.committed_allowed b o c (subst (λ (h : History). Contains (entries h) c) (named all.last (after_events (site many z) es).world.shared b o _ _ e.told.committed e.told) f)));
      running = λ r b o c f. at_lower ((noted (abstract_opened (λ b o. z)) es).floors b o) (all.last.floor b o) ((noted (abstract_opened (λ b o. z)) es).histories b o) c (notes.floors b o) (subst (λ (g : ℕ → ℕ → History). IsEntryFrom (all.last.floor b o) (g b o) c) (sym notes.histories)
          (held.running_allowed (sym e.told.root_written ∙ r) b o c (subst (λ (h : History). Contains (entries h) c) (named all.last (after_events (site many z) es).world.shared b o _ _ e.told.running e.told) f)));
    }
  where
    named : (d : Volume) (s : Shared) (b o : ℕ) (m n : Locations) → m ≡ n → Told s d → at_location s.origin s.cache (m b) b o ≡ at_location d.origin d.cache (n b) b o
    named d s b o m n e a = ap (λ (f : Locations). at_location s.origin s.cache (f b) b o) e ∙ ap (λ (f : ℕ → ℕ → History). at_location f s.cache (n b) b o) a.origin ∙ ap (λ (f : ℕ → ℕ → History). at_location d.origin f (n b) b o) a.cache
