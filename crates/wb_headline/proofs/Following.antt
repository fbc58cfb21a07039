-- A state of a run, with its clerk's notes, and the site of the abstract world that follows it.
use Rattle.std.proofs.Common.{◌≡◌, ◌≢◌, ◌++◌, ◌⊎◌, ℕ, Bool, false, List, [], ◌∷◌, Option, Some, None, length, slice_get}
use Rattle.wb_types.specs.declared.mode.Mode.{Mode}
use Rattle.wb_types.specs.declared.mode.Dev.TheVariants.{Metadata, Cache, Origin}
use Rattle.wb_disk.specs.Device.{History}
use Rattle.wb_meta.specs.Representing.{Stored}
use Rattle.wb_meta.specs.declared.read_steps.ReadSteps.{ReadSteps}
use Rattle.wb_meta.specs.declared.read_steps.ReadSteps.TheVariants.{Done as AllRead}
use Rattle.wb_meta.specs.declared.read_steps.State.{State as StoredThere}
use Rattle.wb_devices.specs.Clean.{entries_of}
use Rattle.wb_tasks.specs.Tables.{Opening}
use Rattle.wb_tasks.specs.Plan.{Plan, node_writes, opening_root}
use Rattle.wb_tasks.specs.declared.step.Answer.TheVariants.{Done as Finished}
use Rattle.wb_tasks.specs.declared.step.DeviceStep.TheVariants.{Sync, ReadMetadata, WriteRoot}
use Rattle.wb_tasks.specs.declared.step.Want.{Want}
use Rattle.wb_tasks.specs.declared.step.Want.TheVariants.{Device}
use Rattle.wb_desk.specs.Desks.{DeskState}
use Rattle.wb_devices.specs.declared.devices.Devices.{Devices}
use Rattle.wb_devices.specs.declared.running.RunningCommit.{RunningCommit}
use Rattle.wb_promise.specs.declared.job.Job.{Job}
use Rattle.wb_promise.specs.States.{Shape, State, Actor, Target, Phase, Stands, Gone, Opens, block_size, sector_count}
use Rattle.wb_promise.specs.Clerk.{Notes}
use Rattle.wb_promise.specs.Happenings.{most_for}
use Rattle.wb_runs.proofs.Images.{Images, later_of}
use Rattle.wb_runs.proofs.Metadata.{MetadataKept}
use Rattle.wb_runs.proofs.Underway.{is_written}
use Rattle.wb_link.specs.World.{AbstractActor}
use Rattle.wb_link.specs.Clerk.{AbstractNotes}
use Rattle.wb_link.specs.Openings.{Site, AbstractPhase as PhaseThere, Stands as StandsThere, Gone as GoneThere, Opens as OpensThere, Learnt, Stage, Settling, Caching, Basing, Looking, Rooting, Renewing, Answering}
use Rattle.wb_simulation.specs.Opened.{located, TakesClean}
use Rattle.wb_simulation.specs.Noting.{NotesAgree}
use Rattle.wb_simulation.specs.Sites.{ImagesAgree, DevicesAgree, StateTakesClean, locations}
use Rattle.wb_simulation.specs.Worlds.{Commits, Situation, Agrees}
use Rattle.wb_headline.specs.Desks.{DeskAgrees, live_orders}
use Rattle.wb_headline.proofs.Events.{Reached}

-- ---- an opening

-- what is left of its table where the abstract one is at a stage
abbrev pub steps_at : ℕ → Stage → List Want
steps_at left Settling = Device (Sync Metadata) ∷ Device (Sync Cache) ∷ Device (Sync Origin) ∷ Device (ReadMetadata left) ∷ Device WriteRoot ∷ Device (Sync Metadata) ∷ []
steps_at left Caching = Device (Sync Cache) ∷ Device (Sync Origin) ∷ Device (ReadMetadata left) ∷ Device WriteRoot ∷ Device (Sync Metadata) ∷ []
steps_at left Basing = Device (Sync Origin) ∷ Device (ReadMetadata left) ∷ Device WriteRoot ∷ Device (Sync Metadata) ∷ []
steps_at left Looking = Device (ReadMetadata left) ∷ Device WriteRoot ∷ Device (Sync Metadata) ∷ []
steps_at left (Rooting i) = Device WriteRoot ∷ Device (Sync Metadata) ∷ []
steps_at left (Renewing i) = Device (Sync Metadata) ∷ []
steps_at left (Answering i) = []

abbrev pub opening_at : (total left : ℕ) → Stage → Plan
opening_at total left stage = record { job = Opening total; steps = steps_at left stage; answer = Finished }

-- it has read this, and its root is on its way
pub record HasLearnt {A : Type 0} (reading : Option (ReadSteps A)) (commit : Option RunningCommit) (learnt : Learnt) : Type 0 where
  pub stored : StoredThere A
  pub reading_is : reading ≡ Some (AllRead stored)
  pub running : RunningCommit
  pub commit_is : commit ≡ Some running
  pub same : learnt.locations ≡ located stored.tree.entries
  pub clean : TakesClean stored.root.clean (entries_of stored) learnt.clean

-- the root that it has written leads to what it has read, and says of no block that it is clean
abbrev pub HasRoot : Learnt → Option Stored → Type 0
HasRoot learnt later = (new : Stored) × (later ≡ Some new) × (learnt.locations ≡ locations new) × StateTakesClean new (λ block. false)

-- what it has read at a stage, and as what the metadata may be read beside the committed state
abbrev pub HasReadAt : {A : Type 0} → Stage → Option (ReadSteps A) → Option RunningCommit → Option Stored → Type 0
HasReadAt {A} Settling reading commit later = (reading ≡ None) × (commit ≡ None)
HasReadAt {A} (Rooting i) reading commit later = HasLearnt reading commit i × (later ≡ None)
HasReadAt {A} (Renewing i) reading commit later = HasLearnt reading commit i × HasRoot i later
HasReadAt {A} (Answering i) reading commit later = HasLearnt reading commit i × HasRoot i later
HasReadAt {A} stage reading commit later = ((now : ReadSteps A) × (reading ≡ Some now)) × (commit ≡ None) × (later ≡ None)

-- The abstract opening is at what is left of it.
pub record AtStage {A : Type 0} (mode : Mode) (reading : Option (ReadSteps A)) (commit : Option RunningCommit) (later : Option Stored) (plan : Plan) (phase : PhaseThere) : Type 0 where
  pub total : ℕ
  pub left : ℕ
  pub stage : Stage
  pub is : plan ≡ opening_at total left stage
  pub phase_is : phase ≡ OpensThere mode stage
  pub read : HasReadAt stage reading commit later

-- What is left of it where metadata are written anew: so many nodes, the sync behind them, and the root.
abbrev pub anew_at : (total count first : ℕ) → Plan
anew_at total count first = record { job = Opening total; steps = node_writes count first ++ Device (Sync Metadata) ∷ opening_root; answer = Finished }

-- The abstract one is then at its root, and nothing was written there.
pub record AtNodes {A : Type 0} (mode : Mode) (reading : Option (ReadSteps A)) (commit : Option RunningCommit) (later : Option Stored) (plan : Plan) (phase : PhaseThere) : Type 0 where
  pub total : ℕ
  pub count : ℕ
  pub first : ℕ
  pub learnt : Learnt
  pub is : plan ≡ anew_at total count first
  pub phase_is : phase ≡ OpensThere mode (Rooting learnt)
  pub read : HasLearnt reading commit learnt
  pub unwritten : is_written read.running.steps ≡ false
  pub alone : later ≡ None

-- Refused, it has only to answer, and the abstract one is over.
pub record IsOver (plan : Plan) (phase : PhaseThere) : Type 0 where
  pub nothing : plan.steps ≡ []
  pub refused : plan.answer ≢ Finished
  pub phase_is : phase ≡ GoneThere

-- So it is of who opens.
abbrev pub IsFollowed : {A : Type 0} → Mode → Option (ReadSteps A) → Option RunningCommit → Option Stored → Plan → PhaseThere → Type 0
IsFollowed mode reading commit later plan phase = AtStage mode reading commit later plan phase ⊎ AtNodes mode reading commit later plan phase ⊎ IsOver plan phase

-- ---- a state

-- the commits of its desk
abbrev pub commits_of : {P : Type 0} → DeskState P → Commits
commits_of desk = record { committing = desk.space.committing; broken = desk.broken; ended = desk.ended }

-- where the machine stands, with this target
abbrev pub situation : {P : Type 0} → Shape → Target P → Devices (List History) → List Actor → Situation
situation shape t devices actors = record {
  mode = t.desk.mode;
  size = block_size shape;
  most = most_for shape.geometry;
  words = t.words;
  commits = commits_of t.desk;
  orders = live_orders t.desk;
  devices = devices;
  actors = actors;
}

module _ (P A : Type 0) (shape : Shape) where
  -- how many abstract actors there are
  abbrev pub many : ℕ
  many = shape.actors

  abbrev pub size : ℕ
  size = block_size shape

  abbrev pub most : Bool → ℕ
  most = most_for shape.geometry

  -- where no target stands the devices agree; beside the committed state the metadata may be read as this one
  pub record DevicesFollow (images : Images) (later : Option Stored) (devices : Devices (List History)) (v : Site) : Type 0 where
    pub agree : DevicesAgree shape.geometry size images.committed later devices v.world.shared
    pub down : v.phase ≢ StandsThere
    pub idle : (a : ℕ) (y : AbstractActor) → slice_get v.world.actors a ≡ Some y → y.task ≡ None

  pub record TargetFollows (images : Images) (t : Target P) (devices : Devices (List History)) (actors : List Actor) (v : Site) : Type 0 where
    pub phase_is : v.phase ≡ StandsThere
    pub agrees : Agrees (situation shape t devices actors) v.world
    pub desk : DeskAgrees t.desk v.world.shared
    pub images_agree : ImagesAgree shape.geometry images.committed (later_of images) devices.metadata v.world.shared
    -- the running image is that of the commit that runs, or was broken
    pub running : (state : Stored) → images.running ≡ Some state → (v.world.shared.running ≡ locations state) × StateTakesClean state v.world.shared.running_clean

  pub record GoneFollows (images : Images) (devices : Devices (List History)) (v : Site) : Type 0 where
    pub later : Option Stored
    pub devices_follow : DevicesFollow images later devices v

  pub record OpeningFollows (images : Images) (mode : Mode) (reading : Option (ReadSteps A)) (commit : Option RunningCommit) (devices : Devices (List History)) (actors : List Actor) (v : Site) : Type 0 where
    pub later : Option Stored
    pub devices_follow : DevicesFollow images later devices v
    pub each : (a : ℕ) (x : Actor) (job : Job) (plan : Plan) → slice_get actors a ≡ Some x → x.task ≡ Some (job, plan) → IsFollowed mode reading commit later plan v.phase

  abbrev pub PhaseFollows : Images → Phase P A → Option RunningCommit → Devices (List History) → List Actor → Site → Type 0
  PhaseFollows images (Stands t) commit devices actors v = TargetFollows images t devices actors v
  PhaseFollows images Gone commit devices actors v = GoneFollows images devices v
  PhaseFollows images (Opens mode reading) commit devices actors v = OpeningFollows images mode reading commit devices actors v

  -- as many actors, and notes of as many and of each sector
  pub record Sized (actors : List Actor) (n : Notes) : Type 0 where
    pub actors_many : length actors ≡ shape.actors
    pub doings_many : length n.doings ≡ shape.actors
    pub sectors : length n.histories ≡ sector_count shape

  -- The abstract world has come to a site that agrees, and its clerk's notes do.
  pub record Followed (images : Images) (w : State P A) (n : Notes) : Type 0 where
    pub site : Site
    pub notes : AbstractNotes
    pub reached : Reached size many site notes
    pub as_many : length site.world.actors ≡ many
    pub notes_agree : NotesAgree size n site.world notes
    pub sized : Sized w.actors n
    pub phase : PhaseFollows images w.phase w.commit w.devices w.actors site

  -- what becomes of a state: its metadata are read as these images, and it is followed
  pub record Goes (w : State P A) (n : Notes) : Type 0 where
    pub images : Images
    pub known : MetadataKept shape.geometry images w.phase w.commit w.devices.metadata
    pub followed : Followed images w n
