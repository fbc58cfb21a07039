-- Where no target stands after it, an event of the abstract world tells its clerk nothing and leads to a site that agrees; so a crash is followed.
use Rattle.std.proofs.Common.{◌≡◌, ◌≢◌, ◌∙◌, ℕ, Option, Some, None, refl, sym, ap, subst, length, slice_get, List}
use Rattle.std.proofs.lemmas.List.{length-replicate, length-map}
use Rattle.wb_types.specs.declared.mode.Mode.{Mode}
use Rattle.wb_link.specs.Tables.{Script}
use Rattle.wb_link.specs.World.{World, Shared, AbstractActor, abstract_resting as resting_there}
use Rattle.wb_link.specs.Clerk.{AbstractNotes}
use Rattle.wb_link.specs.Openings.{Site, Stage, Answering, Outcome, Shown, Event, On, Stopped, Begins, Advances, after_event, note_event, MayHappen, Yields, advance, advanced, next_phase, emptied, AbstractPhase as PhaseThere, Stands as StandsThere, Gone as GoneThere}
use Rattle.wb_contents.proofs.Lists.{replicated}
use Rattle.wb_promise.specs.Clerk.{Notes, Doing, nobody}
use Rattle.wb_simulation.specs.Noting.{NotesAgree, IsNotedSo}
use Rattle.wb_disk.specs.Device.{History}
use Rattle.wb_meta.specs.Representing.{Stored}
use Rattle.wb_meta.specs.declared.read_steps.ReadSteps.{ReadSteps}
use Rattle.wb_tasks.specs.Plan.{Plan}
use Rattle.wb_devices.specs.declared.devices.Devices.{Devices}
use Rattle.wb_devices.specs.declared.running.RunningCommit.{RunningCommit}
use Rattle.wb_promise.specs.declared.job.Job.{Job}
use Rattle.wb_promise.specs.States.{Shape, State, Actor, Phase, Stands, Gone, Opens, resting}
use Rattle.wb_runs.proofs.Images.{Images, later_of, one_image}
use Rattle.wb_runs.proofs.Metadata.{MetadataKept}
use Rattle.wb_simulation.specs.Sites.{DevicesAgree, LeadsTo}
use Rattle.wb_types.specs.declared.mode.Dev.TheVariants.{Metadata, Cache, Origin}
use Rattle.wb_disk.specs.Crash.{Choice}
use Rattle.wb_disk.proofs.Crashes.{Crashed-crashed_from}
use Rattle.wb_promise.specs.Effects.{all_crashed, after_crash, all_resting}
use Rattle.wb_simulation.proofs.Opening.{openings_followed}
use Rattle.wb_headline.proofs.Events.{Reached, event_reaches}
use Rattle.wb_headline.proofs.Following.{IsFollowed, many, size, Sized, DevicesFollow, PhaseFollows, Followed, Goes}

-- it leaves nobody at anything, and nothing is noted of it
pub record Quietens (v : Site) (e : Event) (m : AbstractNotes) : Type 0 where
  pub shared : Shared
  pub world_is : (after_event v e).world ≡ emptied v.world shared
  pub notes_are : note_event m e ≡ m

-- so it is of every event after which no target stands
pub quietens : (size : ℕ) (v : Site) (e : Event) (m : AbstractNotes) → MayHappen size v e → (after_event v e).phase ≢ StandsThere → Quietens v e m
quietens size v (On r) m may down = absurd (down may.0)
quietens size v (Advances outcome) m may down = by_outcome outcome may.3 (λ e. down (ap (λ (p : PhaseThere). (advance v.world p outcome).phase) may.2 ∙ e))
  where
    world : (o : Outcome) → (advance v.world v.phase o).world ≡ emptied v.world (advanced v.world.shared may.0 may.1 o)
    world o = ap (λ (p : PhaseThere). (advance v.world p o).world) may.2

    no_showing : (stage : Stage) (mode : Mode) (s : Shared) (o : Outcome) → Yields s mode stage o → next_phase mode stage o ≢ StandsThere → note_event m (Advances o) ≡ m
    no_showing (Answering i) mode s (Shown blocks view) y d = absurd (d refl)
    no_showing stage mode s (Shown blocks view) y d = absurd y
    no_showing stage mode s o y d = refl

    by_outcome : (o : Outcome) → Yields v.world.shared may.0 may.1 o → next_phase may.0 may.1 o ≢ StandsThere → Quietens v (Advances o) m
    by_outcome o y d = record { shared = advanced v.world.shared may.0 may.1 o; world_is = world o; notes_are = no_showing may.1 may.0 v.world.shared o y d }
quietens size v e m may down = record { shared = _; world_is = refl; notes_are = refl }

-- who has nothing to do there has no task
pub rests_there : (w : World) (s : Shared) (a : ℕ) (y : AbstractActor) → slice_get (emptied w s).actors a ≡ Some y → y.task ≡ None
rests_there w s a y e = ap (λ (v : AbstractActor). v.task) (sym (replicated (length w.actors) a resting_there y e))

pub emptied_many : (w : World) (s : Shared) → length (emptied w s).actors ≡ length w.actors
emptied_many w s = length-replicate (length w.actors) resting_there

-- Notes of the same sectors agree with a world in which nobody is at anything.
pub notes_at_rest : (size : ℕ) (n n' : Notes) (s s' : World) (m : AbstractNotes) → NotesAgree size n s m → n'.histories ≡ n.histories → n'.finished ≡ n.finished → n'.floors ≡ n.floors → length n'.doings ≡ length n.doings →
    ((a : ℕ) (y : AbstractActor) → slice_get s'.actors a ≡ Some y → y.task ≡ None) → NotesAgree size n' s' m
notes_at_rest size n n' s s' m g h f l d rest = record {
  histories = g.histories ∙ ap (λ x. Rattle.wb_contents.specs.Devices.by_block size Rattle.wb_simulation.specs.Worlds.zeros x) (sym h);
  finished = g.finished ∙ ap (λ x. Rattle.wb_simulation.specs.Noting.counts_by_block size x) (sym f);
  floors = g.floors ∙ ap (λ x. Rattle.wb_simulation.specs.Noting.counts_by_block size x) (sym l);
  as_many = ap length f ∙ g.as_many ∙ ap length (sym h);
  floors_as_many = ap length l ∙ g.floors_as_many ∙ ap length (sym h);
  each = λ a y less e. subst (λ (t : Option Script). IsNotedSo size (length n'.histories) t (slice_get n'.doings a) a m) (sym (rest a y e)) tt;
}

-- the notes have the same of every sector, and as many actors
pub record SameSectors (n n' : Notes) : Type 0 where
  pub histories : n'.histories ≡ n.histories
  pub finished : n'.finished ≡ n.finished
  pub floors : n'.floors ≡ n.floors
  pub doings : length n'.doings ≡ length n.doings

-- so they are of as many sectors and actors
pub sized_so : (P A : Type 0) (shape : Shape) (actors actors' : List Actor) (n n' : Notes) → SameSectors n n' → length actors' ≡ length actors → Sized P A shape actors n → Sized P A shape actors' n'
sized_so P A shape actors actors' n n' same l z = record { actors_many = l ∙ z.actors_many; doings_many = same.doings ∙ z.doings_many; sectors = ap length same.histories ∙ z.sectors }

module _ (P A : Type 0) (shape : Shape) where
  -- the site that was come to
  pub record Arrived (committed : Stored) (later : Option Stored) (phase : PhaseThere) (devices : Devices (List History)) (n : Notes) : Type 0 where
    pub site : Site
    pub notes : AbstractNotes
    pub reached : Reached (size P A shape) (many P A shape) site notes
    pub as_many : length site.world.actors ≡ many P A shape
    pub notes_agree : NotesAgree (size P A shape) n site.world notes
    pub idle : (a : ℕ) (y : AbstractActor) → slice_get site.world.actors a ≡ Some y → y.task ≡ None
    pub phase_is : site.phase ≡ phase
    pub agree : DevicesAgree shape.geometry (size P A shape) committed later devices site.world.shared

  module _ (images : Images) (w : State P A) (n n' : Notes) (f : Followed P A shape images w n) (same : SameSectors n n') where
    -- by an event
    pub arrives : (committed : Stored) (later : Option Stored) (phase : PhaseThere) (devices : Devices (List History)) → LeadsTo shape.geometry (size P A shape) committed later f.site phase devices → phase ≢ StandsThere → Arrived committed later phase devices n'
    arrives committed later phase devices l down =
        let q = quietens (size P A shape) f.site l.event f.notes l.may (λ e. down (sym l.phase_is ∙ e)) in
        let idle : (a : ℕ) (y : AbstractActor) → slice_get (after_event f.site l.event).world.actors a ≡ Some y → y.task ≡ None = (λ a y e. rests_there f.site.world q.shared a y (subst (λ (v : World). slice_get v.actors a ≡ Some y) q.world_is e)) in
        record {
          site = after_event f.site l.event;
          notes = f.notes;
          reached = subst (λ (m : AbstractNotes). Reached (size P A shape) (many P A shape) (after_event f.site l.event) m) q.notes_are (event_reaches (size P A shape) (many P A shape) f.site f.notes l.event f.reached l.may);
          as_many = ap (λ (v : World). length v.actors) q.world_is ∙ emptied_many f.site.world q.shared ∙ f.as_many;
          notes_agree = notes_at_rest (size P A shape) n n' f.site.world (after_event f.site l.event).world f.notes f.notes_agree same.histories same.finished same.floors same.doings idle;
          idle = idle;
          phase_is = l.phase_is;
          agree = l.agrees;
        }

    -- or by none
    pub rests : (committed : Stored) (later : Option Stored) (phase : PhaseThere) (devices : Devices (List History)) → ((a : ℕ) (y : AbstractActor) → slice_get f.site.world.actors a ≡ Some y → y.task ≡ None) → f.site.phase ≡ phase → DevicesAgree shape.geometry (size P A shape) committed later devices f.site.world.shared → Arrived committed later phase devices n'
    rests committed later phase devices idle p agree = record {
      site = f.site;
      notes = f.notes;
      reached = f.reached;
      as_many = f.as_many;
      notes_agree = notes_at_rest (size P A shape) n n' f.site.world f.site.world f.notes f.notes_agree same.histories same.finished same.floors same.doings idle;
      idle = idle;
      phase_is = p;
      agree = agree;
    }

  module _ (images : Images) (later : Option Stored) (phase : PhaseThere) (devices : Devices (List History)) (n : Notes) (r : Arrived images.committed later phase devices n) (down : phase ≢ StandsThere) (actors : List Actor) (sized : Sized P A shape actors n) where
    follow : DevicesFollow P A shape images later devices r.site
    follow = record { agree = r.agree; down = λ e. down (sym r.phase_is ∙ e); idle = r.idle }

    -- nobody opens
    pub gone : (commit : Option RunningCommit) → MetadataKept {P = P} {A = A} shape.geometry images Gone commit devices.metadata → Goes P A shape (record { devices = devices; commit = commit; phase = Gone; actors = actors }) n
    gone commit known = record {
      images = images;
      known = known;
      followed = record { site = r.site; notes = r.notes; reached = r.reached; as_many = r.as_many; notes_agree = r.notes_agree; sized = sized; phase = record { later = later; devices_follow = follow } };
    }

    -- an opening is at work
    pub opens : (mode : Mode) (reading : Option (ReadSteps A)) (commit : Option RunningCommit) → MetadataKept {P = P} {A = A} shape.geometry images (Opens mode reading) commit devices.metadata →
        ((a : ℕ) (x : Actor) (job : Job) (plan : Plan) → slice_get actors a ≡ Some x → x.task ≡ Some (job, plan) → IsFollowed mode reading commit later plan phase) →
        Goes P A shape (record { devices = devices; commit = commit; phase = Opens mode reading; actors = actors }) n
    opens mode reading commit known each = record {
      images = images;
      known = known;
      followed = record {
        site = r.site;
        notes = r.notes;
        reached = r.reached;
        as_many = r.as_many;
        notes_agree = r.notes_agree;
        sized = sized;
        phase = record {
          later = later;
          devices_follow = follow;
          each = λ a x job plan e t. subst (λ (p : PhaseThere). IsFollowed mode reading commit later plan p) (sym r.phase_is) (each a x job plan e t);
        };
      };
    }

  -- in any phase the devices agree
  pub record Agreeing (images : Images) (devices : Devices (List History)) (v : Site) : Type 0 where
    pub later : Option Stored
    pub agree : DevicesAgree shape.geometry (size P A shape) images.committed later devices v.world.shared

  pub agreeing : (images : Images) (phase : Phase P A) (commit : Option RunningCommit) (devices : Devices (List History)) (actors : List Actor) (v : Site) → MetadataKept shape.geometry images phase commit devices.metadata → PhaseFollows P A shape images phase commit devices actors v → Agreeing images devices v
  agreeing images (Stands t) commit devices actors v known p = record {
    later = later_of images;
    agree = record { origin = p.agrees.origin; cache = p.agrees.cache; images = p.images_agree };
  }
  agreeing images phase commit devices actors v known p = record { later = p.later; agree = p.devices_follow.agree }

-- nobody is at anything
pub ended_same : (n : Notes) → SameSectors n (record n { doings = nobody n.doings })
ended_same n = record { histories = refl; finished = refl; floors = refl; doings = length-map n.doings (λ (d : Option Doing). None) }

module _ (P A : Type 0) (shape : Shape) (images : Images) (w : State P A) (n : Notes) (known : MetadataKept shape.geometry images w.phase w.commit w.devices.metadata) (f : Followed P A shape images w n) where
  pub crash_goes : (choice : Choice) → Goes P A shape (after_crash w choice) (record n { doings = nobody n.doings })
  crash_goes choice =
      let d = agreeing P A shape images w.phase w.commit w.devices w.actors f.site known f.phase in
      let l = openings_followed.crashes shape.geometry (size P A shape) images.committed d.later f.site w.devices (all_crashed choice w.devices) d.agree (Crashed-crashed_from Metadata choice 0 w.devices.metadata) (Crashed-crashed_from Cache choice 0 w.devices.cache) (Crashed-crashed_from Origin choice 0 w.devices.origin) in
      let v = arrives P A shape images w n (record n { doings = nobody n.doings }) f (ended_same n) l.state None GoneThere (all_crashed choice w.devices) l.leads (λ e. absurd (cc)) in
      gone P A shape (one_image l.state) None GoneThere (all_crashed choice w.devices) (record n { doings = nobody n.doings }) v (λ e. absurd (cc)) (all_resting w.actors) (sized_so P A shape w.actors (all_resting w.actors) n (record n { doings = nobody n.doings }) (ended_same n) (length-map w.actors (λ (x : Actor). resting)) f.sized) None
      (record { read = l.leads.agrees.images.read })
