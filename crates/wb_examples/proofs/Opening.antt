-- A run in which an opening is answered done, where no target stands and the metadata have no tree; and a flush over a target that may begin a
-- commit whose desk has no entry.
use Rattle.std.proofs.Common.{false, Global, ◌≡◌, ◌≢◌, ◌∙◌, ◌-◌, ◌+◌, inl, inr, ℕ, List, [], ◌∷◌, Some, None, refl, sym, ap, subst, arith, length, slice_get, replicate, map}
use Rattle.std.proofs.lemmas.List.{length-map}
use Rattle.wb_types.specs.declared.geometry.Geometry.{Geometry}
use Rattle.wb_types.specs.declared.mode.Mode.{Mode}
use Rattle.wb_types.specs.declared.mode.Mode.TheVariants.{Writeback, Passthrough}
use Rattle.wb_types.specs.declared.mode.Dev.TheVariants.{Metadata}
use Rattle.wb_disk.specs.Device.{History, newest, only, synced}
use Rattle.wb_words.specs.SharedWords.{Words, fresh_words}
use Rattle.wb_words.specs.Cards.{blank_card}
use Rattle.wb_words.specs.declared.step.CellStep.{CellStep}
use Rattle.wb_meta.specs.Steps.{slot_of}
use Rattle.wb_meta.specs.Slots.{IsInSlot}
use Rattle.wb_meta.specs.declared.read_steps.ReadSteps.TheVariants.{Begun, FirstSlotRead, Done as AllRead}
use Rattle.wb_meta.specs.declared.read_steps.State.{State as Stored}
use Rattle.wb_meta.specs.declared.commit_steps.CommitSteps.TheVariants.{NodesWritten, NodesSynced, RootWritten}
use Rattle.wb_desk.specs.Desks.{DeskState}
use Rattle.wb_desk.specs.Commits.{MayBegin}
use Rattle.wb_tasks.specs.declared.step.DeviceStep.TheVariants.{Sync, WriteRoot}
use Rattle.wb_tasks.specs.declared.step.Got.TheVariants.{Done, More, Began}
use Rattle.wb_devices.specs.declared.devices.Devices.{Devices}
use Rattle.wb_devices.specs.declared.running.RunningCommit.{RunningCommit}
use Rattle.wb_stage.specs.declared.share.Share.TheVariants.{Nothing as Unshared}
use Rattle.wb_promise.specs.declared.job.Job.TheVariants.{Open, Flush}
use Rattle.wb_promise.specs.States.{Shape, State, Actor, Target, Stands, Gone, resting}
use Rattle.wb_promise.specs.Happenings.{Plain, Begins, Reaches, Puts, Commits, Opened, most_for}
use Rattle.wb_promise.specs.Effects.{target_over, words_by, card_by, all_resting}
use Rattle.wb_disk.proofs.Lengths.{length_grown}
use Rattle.wb_runs.proofs.Readings.{first_read, some_slot}
use Rattle.wb_runs.proofs.Formatted.{HasNoTree, synced_none, none_images, none_readable}
use Rattle.wb_runs.proofs.Rooted.{Fits, rooted, comes_next, root_does}
use Rattle.wb_runs.proofs.Metadata.{Quiet}
use Rattle.wb_runs.proofs.MetadataRuns.{IsKnown, known_always}
use Rattle.wb_examples.proofs.Bare.{BareDesk}
use Rattle.wb_examples.proofs.Beginning.{bare_commit, begins_bare}
use Rattle.wb_examples.proofs.Completing.{room_for_first, stored, next_commit, all_read}
use Rattle.wb_examples.proofs.Shown.{no_seals}
use Rattle.wb_examples.proofs.Playing.{Move, Gets, Does, goes, then, ends, played, AreIdle, Needs, MayGo, goes_on, ◌⨟◌}

-- openings start in write-back
pub write_back_starts : Writeback ≢ Passthrough
write_back_starts e = cc

-- Where nothing stands and nobody is at anything, over metadata without a tree, and an opening in this mode is to come.
pub record Down (P A : Type 0) : Type 0 where
  pub mode : Mode
  pub writes : mode ≢ Passthrough
  pub policy : P
  pub alloc : A
  pub global : Global
  pub shape : Shape
  pub metadata : List History
  pub cache : List History
  pub origin : List History
  pub none : HasNoTree shape.geometry metadata
  pub size : length metadata ≡ shape.geometry.meta_sectors
  pub rest : List Actor
  pub idle : AreIdle rest

module _ (P A : Type 0) (d : Down P A) where
  open d use {global, shape, rest}

  abbrev pub down : State P A
  down = record { devices = record { metadata = d.metadata; cache = d.cache; origin = d.origin }; commit = None; phase = Gone; actors = resting ∷ rest }

  -- the metadata once they were synced
  abbrev durable : List History
  durable = synced d.metadata

  abbrev pub none_then : HasNoTree shape.geometry durable
  none_then = synced_none shape.geometry d.metadata d.none

  pub same_size : length durable ≡ shape.geometry.meta_sectors
  same_size = length-map d.metadata _ ∙ d.size

  abbrev all_stored : Stored A
  all_stored = stored A global shape.geometry durable none_then same_size

  abbrev commit : RunningCommit
  commit = next_commit A global shape.geometry durable none_then same_size

  pub slot : (first : _) × IsInSlot (map newest durable) 0 first
  slot = some_slot P A d.mode shape.geometry false durable (omega (arith, same_size, shape.geometry.within.meta_from))

  abbrev left : ℕ
  left = shape.geometry.meta_sectors

  abbrev pub opening : List (Move P A)
  opening =
      Gets (Open d.mode false) Plain
      ∷ Does Done (Begins (Begun d.alloc global))
      ∷ goes 2 (Does More (Reaches (Some (FirstSlotRead d.alloc global slot.0)) None)
      ∷ Does Done (Reaches (Some (AllRead all_stored)) (Some commit))
      ∷ Does Done (Puts (rooted commit durable))
      ∷ Does Done Plain
      ∷ Does Done (Opened d.policy)
      ∷ [])

  fits : Fits commit durable
  fits = same_size ∙ ap (λ (x : Geometry). x.meta_sectors) (sym none_then.geometry_is)

  fits_then : length (rooted commit durable) ≡ commit.image.root.geometry.meta_sectors
  fits_then = length_grown (slice_get durable (slot_of commit.image.root).0) durable (slot_of commit.image.root).0 _ ∙ fits

  pub opening_may : MayGo global shape down opening
  opening_may =
      (d.idle, room_for_first shape.geometry)
      ⨟ (refl, refl, refl)
      ⨟ (refl, refl, first_read P A d.mode shape.geometry false durable d.alloc global left slot.0 slot.1 (omega (arith, shape.geometry.within.meta_from)))
      ⨟ (refl, refl, all_read A global shape.geometry durable none_then same_size P d.mode d.writes (left - 1) d.alloc global slot.0 slot.1)
      ⨟ (refl, refl, (comes_next commit durable NodesSynced WriteRoot fits refl refl, root_does commit durable (omega (arith, none_then.more)) refl))
      ⨟ (refl, refl, (comes_next (record commit { steps = RootWritten }) (rooted commit durable) RootWritten (Sync Metadata) fits_then refl refl, refl))
      ⨟ (refl, refl, (tt, refl))
      ⨟ tt

  abbrev pub target : Target P
  target = target_over shape d.mode d.policy all_stored

  abbrev pub opened : State P A
  opened = record {
    devices = record { metadata = synced (rooted commit durable); cache = synced d.cache; origin = synced d.origin };
    commit = None;
    phase = Stands (record { words = fresh_words shape.geometry.origin_blocks; desk = target.desk });
    actors = record { task = None; card = blank_card; orders = []; awaiting = []; buffer = []; seen = []; share = Unshared } ∷ all_resting rest;
  }

  pub rooted_size : length opened.devices.metadata ≡ shape.geometry.meta_sectors
  rooted_size = length-map (rooted commit durable) (λ (h : History). only (newest h)) ∙ length_grown (slice_get durable (slot_of commit.image.root).0) durable (slot_of commit.image.root).0 _ ∙ same_size

  pub opened_is : ends global shape down opening ≡ opened
  opened_is = ap (λ (steps : List CellStep). record opened {
    phase = Stands (record { words = words_by (fresh_words shape.geometry.origin_blocks) steps; desk = target.desk });
    actors = record { task = None; card = card_by (fresh_words shape.geometry.origin_blocks) blank_card steps; orders = []; awaiting = []; buffer = []; seen = []; share = Unshared } ∷ all_resting rest;
  }) (no_seals none_then.root.clean 0 none_then.root.geometry.cache_blocks)

  pub known : IsKnown P A shape opened
  known = subst (λ (w : State P A). IsKnown P A shape w) opened_is (known_always P A shape down (played global shape down opening) (record { images = none_images shape.geometry d.metadata d.none; known = none_readable shape.geometry d.metadata d.none d.size }) (goes_on global shape down opening opening_may))

  pub bare : BareDesk P shape.geometry target.desk opened.devices.metadata
  bare = record { images = known.images; known = known.known; geometry = none_then.geometry_is; entries = ap (λ (x : Geometry). replicate x.cache_blocks None) none_then.geometry_is }

  pub may_begin : MayBegin target.desk
  may_begin = record { idle = refl; next = omega (arith, none_then.more) }

-- ---- a flush

-- Where a target stands that has not failed, no commit runs, and the first actor is at nothing.
pub record Idle (P : Type 0) : Type 0 where
  pub global : Global
  pub shape : Shape
  pub words : Words
  pub desk : DeskState P
  pub devices : Devices (List History)
  pub actor : Actor
  pub rest : List Actor

module _ (P A : Type 0) (i : Idle P) where
  open i use {global, shape, desk}

  abbrev pub idle : State P A
  idle = record { devices = i.devices; commit = None; phase = Stands (record { words = record i.words { fail = 0 }; desk = desk }); actors = record i.actor { task = None } ∷ i.rest }

  abbrev m : List History
  m = i.devices.metadata

  abbrev root_commit : RunningCommit
  root_commit = bare_commit global shape.geometry (desk.generation + 1)

  -- it leads a commit, the steps of that, and what comes behind them
  abbrev pub leading : Move P A
  leading = Does (Began 0) (Commits root_commit desk.tree)

  abbrev pub committing : List (Move P A) → List (Move P A)
  committing behind = goes 2 (Does Done Plain ∷ Does Done (Puts (rooted root_commit (synced m))) ∷ Does Done Plain ∷ Does Done Plain ∷ behind)

  abbrev pub flushing : List (Move P A)
  flushing = Gets Flush Plain ∷ goes 1 (leading ∷ committing [])

  -- it comes to the desk with a flush, and leads its commit
  abbrev pub at_desk : State P A
  at_desk = ends global shape idle (Gets Flush Plain ∷ goes 1 [])

  abbrev pub led : State P A
  led = then global shape at_desk leading

  module _ (bare : BareDesk P shape.geometry desk m) (may : MayBegin desk) (whole : desk.broken ≡ false) where
    quiet : Quiet shape.geometry bare.images desk m
    quiet = elim bare.known.stands [ inl q ↦ q | inr broken ↦ absurd (let busy = broken.busy in let none = may.idle in cc) ]

    fits_now : Fits root_commit m
    fits_now = quiet.stores.size ∙ ap (λ (x : Geometry). x.meta_sectors) (quiet.same ∙ bare.geometry)

    fits_synced : Fits root_commit (synced m)
    fits_synced = length-map m _ ∙ fits_now

    fits_rooted : Fits root_commit (rooted root_commit (synced m))
    fits_rooted = length_grown (slice_get (synced m) (slot_of root_commit.image.root).0) (synced m) (slot_of root_commit.image.root).0 _ ∙ fits_synced

    pub leading_may : Needs shape at_desk leading
    leading_may = (refl, (whole, begins_bare global P A shape.geometry desk m bare (most_for shape.geometry false) may))

    pub committing_may : MayGo global shape led (committing [])
    committing_may =
        (refl, refl, (comes_next root_commit m (NodesWritten 0) (Sync Metadata) fits_now refl refl, refl))
        ⨟ (refl, refl, (comes_next (record root_commit { steps = NodesSynced }) (synced m) NodesSynced WriteRoot fits_synced refl refl, root_does (record root_commit { steps = NodesSynced }) (synced m) may.next refl))
        ⨟ (refl, refl, (comes_next (record root_commit { steps = RootWritten }) (rooted root_commit (synced m)) RootWritten (Sync Metadata) fits_rooted refl refl, refl))
        ⨟ ((refl, refl), refl, refl)
        ⨟ tt

    pub flushing_may : AreIdle i.rest → MayGo global shape idle flushing
    flushing_may others = (others, tt) ⨟ leading_may ⨟ committing_may
