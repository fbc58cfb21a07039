-- Every run keeps what is known of the metadata.
use Rattle.std.proofs.Common.{◌≡◌, inl, inr, ℕ, Bool, true, false, if◌then◌else◌, List, [], ◌∷◌, Option, Some, None, sym, subst, length, slice_get, slice_set}
use Rattle.wb_types.specs.declared.mode.Dev.TheVariants.{Metadata}
use Rattle.wb_disk.specs.Device.{Content as Bytes, History}
use Rattle.wb_disk.specs.Failing.{lands}
use Rattle.wb_disk.specs.Crash.{Choice, crashed}
use Rattle.wb_disk.specs.Crashes.{MayLeave}
use Rattle.wb_disk.proofs.Crashes.{Crashed-crashed_from}
use Rattle.wb_meta.specs.Formats.{IsFormatted}
use Rattle.wb_meta.specs.Representing.{Represents, Stored}
use Rattle.wb_tasks.specs.Plan.{Plan, want, device_of}
use Rattle.wb_tasks.specs.declared.step.Want.{Want}
use Rattle.wb_tasks.specs.declared.step.Got.{Got}
use Rattle.wb_tasks.specs.declared.step.Got.TheVariants.{Fault}
use Rattle.wb_meta.specs.Roots.{AreOneOf}
use Rattle.wb_promise.specs.declared.job.Job.{Job}
use Rattle.wb_promise.specs.declared.job.Job.TheVariants.{Read, Write, Flush, Suspend, Open, Migrate, Replace, Invalidate}
use Rattle.wb_promise.specs.declared.event.Event.{Event}
use Rattle.wb_promise.specs.declared.event.Event.TheVariants.{Start, Step, FaultStep, Stop}
use Rattle.wb_promise.specs.declared.event.What.{What}
use Rattle.wb_promise.specs.declared.event.What.TheVariants.{Started, Stepped, Stopped}
use Rattle.wb_devices.specs.declared.running.RunningCommit.{RunningCommit}
use Rattle.wb_promise.specs.States.{Shape, State, Actor, Phase, Stands, mode_of, start}
use Rattle.wb_policy.specs.declared.order.Order.TheVariants.{Replace as ReplaceOrder}
use Rattle.wb_promise.specs.Happenings.{Chosen, Cut, Orders, Happening, OfSome, Gives, Falters, MayFailAt, StartGives, MayBe, order_for, StartsAs}
use Rattle.wb_promise.specs.Effects.{device_done, device_failed, devices_then, commit_then, phase_then, stepped, with_actor, job_of, cleared, given, phase_given, started, after_what, after_happening, after_all, IsRun}
use Rattle.wb_runs.specs.Laws.{CanBeRead, OpeningFinds}
use Rattle.wb_runs.proofs.Images.{Images, Turns, stays}
use Rattle.wb_runs.proofs.Desks.{reserved_stands}
use Rattle.wb_runs.proofs.Formatted.{formatted_none, none_images, none_readable}
use Rattle.wb_runs.proofs.Underway.{Readable, crash_readable}
use Rattle.wb_runs.proofs.Metadata.{AtOpening, MetadataKept, kept_readable}
use Rattle.wb_runs.proofs.Refusing.{finds_own}
use Rattle.wb_runs.proofs.Stepping.{done_kept}
use Rattle.wb_runs.proofs.Faltering.{failed_kept}

module _ (P A : Type 0) (shape : Shape) where
  -- what is known of the metadata in a state
  abbrev pub Known : Images → State P A → Type 0
  Known images w = MetadataKept shape.geometry images w.phase w.commit w.devices.metadata

  -- and after something has happened
  abbrev pub Knows : Images → State P A → Type 0
  Knows images w = Turns (λ now. Known now w) images

  same : (i : Images) (w : State P A) → Known i w → Knows i w
  same i w k = stays (λ now. Known now w) i k

  by_step : (i : Images) (w : State P A) (a : ℕ) (next : Want) (got : Got) (read : List Bytes) (chosen : Chosen P A) (o : Option Actor) → Known i w →
      OfSome o (λ x. OfSome x.task (λ doing. (next ≡ want doing.1) × Gives shape w x doing.0 next got read chosen)) →
      Knows i (with_actor w o (λ x. stepped shape w a x next got chosen (λ step. device_done (job_of x.task) x.buffer step chosen)))
  by_step i w a next got read chosen None k h = absurd h
  by_step i w a next got read chosen (Some x) k h = by_task x.task h
    where
      by_task : (t : Option (Job × Plan)) → OfSome t (λ doing. (next ≡ want doing.1) × Gives shape w x doing.0 next got read chosen) →
          Turns (λ now. MetadataKept shape.geometry now (phase_then shape w.phase next got chosen) (commit_then w.phase w.commit next got chosen) (devices_then (λ step. device_done (job_of t) x.buffer step chosen) w.devices next).metadata) i
      by_task None h = absurd h
      by_task (Some doing) h = done_kept P A shape w x got read chosen i x.buffer doing.0 next k h.1

  by_fault : (i : Images) (w : State P A) (a : ℕ) (choice : Choice) (next : Want) (chosen : Chosen P A) (o : Option Actor) → Known i w →
      OfSome o (λ x. OfSome x.task (λ doing. (next ≡ want doing.1) × MayFailAt w.devices choice next × Falters w choice next chosen)) →
      Knows i (with_actor w o (λ x. stepped shape w a x next Fault chosen (λ step. device_failed (lands (device_of step) choice) (job_of x.task) x.buffer step chosen)))
  by_fault i w a choice next chosen None k h = absurd h
  by_fault i w a choice next chosen (Some x) k h = by_task x.task h
    where
      by_task : (t : Option (Job × Plan)) → OfSome t (λ doing. (next ≡ want doing.1) × MayFailAt w.devices choice next × Falters w choice next chosen) →
          Turns (λ now. MetadataKept shape.geometry now (phase_then shape w.phase next Fault chosen) (commit_then w.phase w.commit next Fault chosen) (devices_then (λ step. device_failed (lands (device_of step) choice) (job_of t) x.buffer step chosen) w.devices next).metadata) i
      by_task None h = absurd h
      by_task (Some doing) h = failed_kept P A shape w choice chosen i x.buffer doing.0 next k h.2

  -- what an order that is given with a job leaves
  ordered : (i : Images) (phase : Phase P A) (commit : Option RunningCommit) (m : List History) (actor : Option Actor) (job : Job) (chosen : Chosen P A) → MetadataKept shape.geometry i phase commit m → StartGives shape phase actor job Started chosen →
      MetadataKept shape.geometry i (phase_given phase job chosen) commit m
  ordered i (Stands t) commit m actor (Migrate migration block) (Orders cut cache) k g = reserved_stands P shape.geometry i t.desk commit m cache (order_for migration block) k g.1
  ordered i (Stands t) commit m actor (Migrate migration block) (Cut cut) k g = k
  ordered i (Stands t) commit m actor (Migrate migration block) chosen k g = absurd g
  ordered i (Stands t) commit m actor (Replace old new) (Orders cut cache) k g = reserved_stands P shape.geometry i t.desk commit m cache (ReplaceOrder old new cache) k g.1
  ordered i (Stands t) commit m actor (Replace old new) (Cut cut) k g = k
  ordered i (Stands t) commit m actor (Replace old new) chosen k g = absurd g
  ordered i phase commit m actor job chosen k g = k

  suspend_ordered : (i : Images) (phase : Phase P A) (commit : Option RunningCommit) (m : List History) (chosen : Chosen P A) → MetadataKept shape.geometry i phase commit m → MetadataKept shape.geometry i (phase_given phase Suspend chosen) commit m
  suspend_ordered i (Stands t) commit m chosen k = k
  suspend_ordered i phase commit m chosen k = k

  by_start : (i : Images) (w : State P A) (a : ℕ) (job : Job) (chosen : Chosen P A) → Known i w → StartsAs shape w a job Started chosen → Knows i (started shape w a job chosen)
  by_start i w a (Open mode second) chosen k g = by_actor (slice_get (cleared w (Open mode second)).actors a)
    where
      by_actor : (o : Option Actor) → Knows i (with_actor (cleared w (Open mode second)) o (λ x. record (cleared w (Open mode second)) { phase = phase_given (cleared w (Open mode second)).phase (Open mode second) chosen; actors = slice_set (cleared w (Open mode second)).actors a (given shape (mode_of (cleared w (Open mode second)).phase) x (Open mode second) chosen) }))
      by_actor None = same i (cleared w (Open mode second)) (kept_readable shape.geometry i w.devices.metadata P A w.phase w.commit k)
      by_actor (Some x) = stays (λ now. Readable shape.geometry now w.devices.metadata) i (kept_readable shape.geometry i w.devices.metadata P A w.phase w.commit k)
  by_start i w a (Read extent) chosen k g = started_over (Read extent) g (slice_get w.actors a)
    where
      started_over : (job : Job) → StartGives shape w.phase (slice_get w.actors a) job Started chosen → (o : Option Actor) → Knows i (with_actor w o (λ x. record w { phase = phase_given w.phase job chosen; actors = slice_set w.actors a (given shape (mode_of w.phase) x job chosen) }))
      started_over job g None = same i w k
      started_over job g (Some x) = stays (λ now. MetadataKept shape.geometry now (phase_given w.phase job chosen) w.commit w.devices.metadata) i (ordered i w.phase w.commit w.devices.metadata (slice_get w.actors a) job chosen k g)
  by_start i w a (Write extent content) chosen k g = by_start_over (slice_get w.actors a)
    where
      by_start_over : (o : Option Actor) → Knows i (with_actor w o (λ x. record w { phase = phase_given w.phase (Write extent content) chosen; actors = slice_set w.actors a (given shape (mode_of w.phase) x (Write extent content) chosen) }))
      by_start_over None = same i w k
      by_start_over (Some x) = stays (λ now. MetadataKept shape.geometry now (phase_given w.phase (Write extent content) chosen) w.commit w.devices.metadata) i (ordered i w.phase w.commit w.devices.metadata (slice_get w.actors a) (Write extent content) chosen k g)
  by_start i w a Flush chosen k g = by_start_over (slice_get w.actors a)
    where
      by_start_over : (o : Option Actor) → Knows i (with_actor w o (λ x. record w { phase = phase_given w.phase Flush chosen; actors = slice_set w.actors a (given shape (mode_of w.phase) x Flush chosen) }))
      by_start_over None = same i w k
      by_start_over (Some x) = stays (λ now. MetadataKept shape.geometry now (phase_given w.phase Flush chosen) w.commit w.devices.metadata) i (ordered i w.phase w.commit w.devices.metadata (slice_get w.actors a) Flush chosen k g)
  by_start i w a Suspend chosen k g = by_start_over (slice_get w.actors a)
    where
      by_start_over : (o : Option Actor) → Knows i (with_actor w o (λ x. record w { phase = phase_given w.phase Suspend chosen; actors = slice_set w.actors a (given shape (mode_of w.phase) x Suspend chosen) }))
      by_start_over None = same i w k
      by_start_over (Some x) = stays (λ now. MetadataKept shape.geometry now (phase_given w.phase Suspend chosen) w.commit w.devices.metadata) i (suspend_ordered i w.phase w.commit w.devices.metadata chosen k)
  by_start i w a (Invalidate block) chosen k g = by_start_over (slice_get w.actors a)
    where
      by_start_over : (o : Option Actor) → Knows i (with_actor w o (λ x. record w { phase = phase_given w.phase (Invalidate block) chosen; actors = slice_set w.actors a (given shape (mode_of w.phase) x (Invalidate block) chosen) }))
      by_start_over None = same i w k
      by_start_over (Some x) = stays (λ now. MetadataKept shape.geometry now (phase_given w.phase (Invalidate block) chosen) w.commit w.devices.metadata) i (ordered i w.phase w.commit w.devices.metadata (slice_get w.actors a) (Invalidate block) chosen k g)
  by_start i w a (Migrate migration block) chosen k g = by_start_over (slice_get w.actors a)
    where
      by_start_over : (o : Option Actor) → Knows i (with_actor w o (λ x. record w { phase = phase_given w.phase (Migrate migration block) chosen; actors = slice_set w.actors a (given shape (mode_of w.phase) x (Migrate migration block) chosen) }))
      by_start_over None = same i w k
      by_start_over (Some x) = stays (λ now. MetadataKept shape.geometry now (phase_given w.phase (Migrate migration block) chosen) w.commit w.devices.metadata) i (ordered i w.phase w.commit w.devices.metadata (slice_get w.actors a) (Migrate migration block) chosen k g)
  by_start i w a (Replace old new) chosen k g = by_start_over (slice_get w.actors a)
    where
      by_start_over : (o : Option Actor) → Knows i (with_actor w o (λ x. record w { phase = phase_given w.phase (Replace old new) chosen; actors = slice_set w.actors a (given shape (mode_of w.phase) x (Replace old new) chosen) }))
      by_start_over None = same i w k
      by_start_over (Some x) = stays (λ now. MetadataKept shape.geometry now (phase_given w.phase (Replace old new) chosen) w.commit w.devices.metadata) i (ordered i w.phase w.commit w.devices.metadata (slice_get w.actors a) (Replace old new) chosen k g)

  by_what : (i : Images) (w : State P A) (event : Event) (what : What) (read : List Bytes) (chosen : Chosen P A) → Known i w → MayBe shape w event what read chosen → Knows i (after_what shape w event what chosen)
  by_what i w (Start a job) Started read chosen k h = by_start i w a job chosen k h.2
  by_what i w (Step a) (Stepped next got) read chosen k h = by_step i w a next got read chosen (slice_get w.actors a) k h
  by_what i w (FaultStep a choice) (Stepped next got) read chosen k h = subst (λ (g : Got). Knows i (after_what shape w (FaultStep a choice) (Stepped next g) chosen)) (sym h.1) (by_fault i w a choice next chosen (slice_get w.actors a) k h.2)
  by_what i w (Stop choice) Stopped read chosen k h =
      let c = crash_readable shape.geometry i w.devices.metadata (crashed Metadata choice w.devices.metadata) (kept_readable shape.geometry i w.devices.metadata P A w.phase w.commit k) (Crashed-crashed_from Metadata choice 0 w.devices.metadata) in
      record { now = c.now; turn = c.turn; turned = c.turned; kept = c.kept }
  by_what i w event what read chosen k h = same i w k

  -- whatever happens, it is known what the metadata are read as, and what became of that
  pub known_turns : (i : Images) (w : State P A) (h : Happening P A) → Known i w → MayBe shape w h.record_is.event h.record_is.what h.record_is.read.items h.chosen → Knows i (after_happening shape w h)
  known_turns i w h k m = by_what i w h.record_is.event h.record_is.what h.record_is.read.items h.chosen k m

  -- so they are read as something
  pub record IsKnown (w : State P A) : Type 0 where
    pub images : Images
    pub known : Known images w

  pub known_after : (w : State P A) (h : Happening P A) → IsKnown w → MayBe shape w h.record_is.event h.record_is.what h.record_is.read.items h.chosen → IsKnown (after_happening shape w h)
  known_after w h k m = let t = known_turns k.images w h k.known m in record { images = t.now; known = t.kept }

  pub known_always : (w : State P A) (hs : List (Happening P A)) → IsKnown w → IsRun shape w hs → IsKnown (after_all shape w hs)
  known_always w [] k r = k
  known_always w (h ∷ hs) k r = known_always (after_happening shape w h) hs (known_after w h k r.0) r.1

  pub known_at_start : (metadata : List History) → IsFormatted shape.geometry metadata → length metadata ≡ shape.geometry.meta_sectors → IsKnown (start shape metadata)
  known_at_start metadata f size = let n = formatted_none shape.geometry metadata f in record { images = none_images shape.geometry metadata n; known = none_readable shape.geometry metadata n size }

  -- what a crash leaves of readable metadata
  pub read_then : (i : Images) (device : List History) (sectors : List Bytes) → Readable shape.geometry i device → MayLeave device sectors → CanBeRead shape sectors
  read_then i device sectors r left = by_written i.written i.running r.read.later_sizes (r.read.represents sectors left)
    where
      old : Represents sectors i.committed.root i.committed.found → CanBeRead shape sectors
      old represents = record { stored = i.committed; represents = represents; sizes = r.read.sizes }

      by_written : (written : Bool) (running : Option Stored) → Rattle.wb_meta.specs.Roots.StoredIsOf shape.geometry (if written then running else None) → AreOneOf i.committed (if written then running else None) sectors → CanBeRead shape sectors
      by_written false running g are = old are
      by_written true None g are = old are
      by_written true (Some s) g are = elim are [ inl o ↦ old o | inr n ↦ record { stored = s; represents = n; sizes = g } ]

  pub run_read : (metadata : List History) (hs : List (Happening P A)) → IsFormatted shape.geometry metadata → length metadata ≡ shape.geometry.meta_sectors → IsRun shape (start shape metadata) hs →
      (sectors : List Bytes) → MayLeave (after_all shape (start shape metadata) hs).devices.metadata sectors → CanBeRead shape sectors
  run_read metadata hs f size run sectors left =
      let w = after_all shape (start shape metadata) hs in
      let k = known_always (start shape metadata) hs (known_at_start metadata f size) run in
      read_then k.images w.devices.metadata sectors (kept_readable shape.geometry k.images w.devices.metadata P A w.phase w.commit k.known) left

  pub run_finds : (metadata : List History) (hs : List (Happening P A)) → IsFormatted shape.geometry metadata → length metadata ≡ shape.geometry.meta_sectors → IsRun shape (start shape metadata) hs → OpeningFinds shape.geometry (after_all shape (start shape metadata) hs)
  run_finds metadata hs f size run mode was opens none =
      let w = after_all shape (start shape metadata) hs in
      let k = known_always (start shape metadata) hs (known_at_start metadata f size) run in
      let read : AtOpening shape.geometry k.images (Some was) w.commit w.devices.metadata = subst (λ (phase : Phase P A). MetadataKept shape.geometry k.images phase w.commit w.devices.metadata) opens k.known in
      finds_own P A shape.geometry k.images w.devices.metadata was (subst (λ (commit : Option RunningCommit). AtOpening shape.geometry k.images (Some was) commit w.devices.metadata) none read)
