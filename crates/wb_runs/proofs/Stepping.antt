-- Each step of an actor, done or failed, keeps what is known of the metadata.
use Rattle.std.proofs.lemmas.List.{length-map}
use Rattle.std.proofs.Common.{◌≡◌, ◌≢◌, ◌⊎◌, inl, inr, ℕ, Bool, true, false, List, Option, Some, None, refl, sym, subst, map, arith}
use Rattle.wb_types.specs.declared.geometry.Geometry.{Geometry}
use Rattle.wb_types.specs.declared.mode.Dev.{Dev}
use Rattle.wb_types.specs.declared.mode.Dev.TheVariants.{Metadata, Cache, Origin}
use Rattle.wb_disk.specs.Device.{Content as Bytes, History, newest, synced}
use Rattle.wb_meta.specs.Steps.{DoesStep, steps_after}
use Rattle.wb_meta.specs.Reads.{IsDone, sectors_read}
use Rattle.wb_meta.specs.declared.read_steps.ReadSteps.{ReadSteps}
use Rattle.wb_meta.specs.declared.read_steps.ReadSteps.TheVariants.{Begun, Done as AllRead}
use Rattle.wb_tasks.specs.declared.step.Answer.{Answer}
use Rattle.wb_tasks.specs.declared.step.Answer.TheVariants.{Done as Finished}
use Rattle.wb_tasks.specs.declared.step.DeviceStep.TheVariants.{Read as ReadExtent, Write as WriteExtent, Sync, ReadMetadata, WriteNode, WriteRoot}
use Rattle.wb_tasks.specs.declared.step.DeskStep.TheVariants.{Map, Unmap, ReleaseOrder, BeginCommit, EndCommit, Arrive, Ask, BreakCommit}
use Rattle.wb_tasks.specs.declared.step.Want.{Want}
use Rattle.wb_tasks.specs.declared.step.Want.TheVariants.{Cell, Device, Desk, End}
use Rattle.wb_tasks.specs.declared.step.Got.{Got}
use Rattle.wb_tasks.specs.declared.step.Got.TheVariants.{Done, Fault, Refused as GotRefused, Began, More, Ticket, Served}
use Rattle.wb_tasks.specs.Ready.{HoldsBlocks}
use Rattle.wb_devices.specs.declared.running.RunningCommit.{RunningCommit}
use Rattle.wb_devices.specs.declared.devices.Devices.{Devices}
use Rattle.wb_tasks.specs.declared.step.DeviceStep.{DeviceStep}
use Rattle.wb_tasks.specs.Plan.{device_of}
use Rattle.wb_policy.specs.declared.order.Order.{Order}
use Rattle.wb_desk.specs.Desks.{DeskState}
use Rattle.wb_stage.specs.Stages.{is_all_done}
use Rattle.wb_devices.specs.Opened.{HasCome}
use Rattle.wb_promise.specs.declared.job.Job.{Job}
use Rattle.wb_promise.specs.declared.job.Job.TheVariants.{Read, Write, Flush, Open, Migrate, Invalidate}
use Rattle.wb_promise.specs.States.{Shape, State, Target, Phase, Stands, Gone, Opens, OfTarget, OfReading, with_device, Actor}
use Rattle.wb_promise.specs.Happenings.{Chosen, Plain, Begins, Reaches, Puts, Commits, Asks, Opened, DoesPut, DoesSync, DoesRead, asks_second, DoesBegin, DoesMap, DoesRelease, DoesOpen, Gives, DoesUnmap, DoesLead, DoesArrive, DoesAsk}
use Rattle.wb_promise.specs.Effects.{device_done, devices_then, commit_then, phase_then, begun_desk, begun_commit}
use Rattle.wb_runs.proofs.Images.{Images, Turns, stays}
use Rattle.wb_runs.proofs.Desks.{mapped_stands, unmapped_stands, released_for}
use Rattle.wb_runs.proofs.Underway.{Readable, Found, led_on, sync_does, sync_found, found_readable}
use Rattle.wb_stage.specs.declared.share.Share.{Share}
use Rattle.wb_desk.specs.Commits.{commit_broken}
use Rattle.wb_runs.proofs.Metadata.{AtDesk, HasReached, Rooting, AtOpening, MetadataKept, begins_over, ends_over, nodes_begin, root_begins, target_stands, kept_readable, broken_over}
use Rattle.wb_types.specs.declared.number.OBlock.{OBlock}
use Rattle.wb_stage.specs.Asking.{order_of}

-- a device on which blocks stand is not the metadata device
pub data_device : (device : Dev) → HoldsBlocks device → (devices : Devices (List History)) (new : List History) → (with_device device devices new).metadata ≡ devices.metadata
data_device Metadata h devices new = absurd h
data_device Cache h devices new = refl
data_device Origin h devices new = refl

module _ (P A : Type 0) (shape : Shape) where
  -- what is known of the metadata
  abbrev pub Known : Images → Phase P A → Option RunningCommit → List History → Type 0
  Known images phase commit device = MetadataKept shape.geometry images phase commit device

  -- what is known after a step
  abbrev pub KnownNext : Images → Phase P A → Option RunningCommit → List History → Type 0
  KnownNext images phase commit device = Turns (λ now. Known now phase commit device) images

  pub stays_known : (images : Images) (phase : Phase P A) (commit : Option RunningCommit) (device : List History) → Known images phase commit device → KnownNext images phase commit device
  stays_known images phase commit device k = stays (λ now. Known now phase commit device) images k

  -- ---- steps that touch neither metadata nor desk nor reading

  cell_same : (i : Images) (phase : Phase P A) (commit : Option RunningCommit) (m : List History) (step : _) (got : Got) (chosen : Chosen P A) → Known i phase commit m → KnownNext i (phase_then shape phase (Cell step) got chosen) (commit_then phase commit (Cell step) got chosen) m
  cell_same i (Stands t) commit m step got chosen k = stays_known i (phase_then shape (Stands t) (Cell step) got chosen) commit m (record { is = k.is; stands = k.stands })
  cell_same i Gone commit m step got chosen k = stays_known i Gone commit m k
  cell_same i (Opens mode reading) commit m step got chosen k = stays_known i (Opens mode reading) commit m k

  -- on a device of data
  abbrev pub IsData : DeviceStep → Type 0
  IsData (ReadExtent d e) = Unit {0}
  IsData (WriteExtent d e) = Unit {0}
  IsData (Sync Cache) = Unit {0}
  IsData (Sync Origin) = Unit {0}
  IsData step = ⊥

  pub data_same : (i : Images) (phase : Phase P A) (commit : Option RunningCommit) (m : List History) (step : DeviceStep) (got : Got) (chosen : Chosen P A) → IsData step → Known i phase commit m → KnownNext i (phase_then shape phase (Device step) got chosen) (commit_then phase commit (Device step) got chosen) m
  data_same i phase commit m (Sync Metadata) got chosen x k = absurd x
  data_same i phase commit m (ReadMetadata left) got chosen x k = absurd x
  data_same i phase commit m (WriteNode number) got chosen x k = absurd x
  data_same i phase commit m WriteRoot got chosen x k = absurd x
  data_same i (Stands t) commit m step got chosen x k = stays_known i (Stands t) commit m k
  data_same i Gone commit m step got chosen x k = stays_known i Gone commit m k
  data_same i (Opens mode reading) commit m step got chosen x k = stays_known i (Opens mode reading) commit m k

  -- ---- steps of a commit

  pub leading_on : (i : Images) (t : Target P) (c : RunningCommit) (old new : List History) → AtDesk shape.geometry i t.desk (Some c) old → DoesStep c.image c.steps old new → Turns (λ now. AtDesk shape.geometry now t.desk (Some (record c { steps = steps_after c.image c.steps })) new) i
  leading_on i t c old new k does = let l = k.stands in let u = led_on shape.geometry i c l.of old new l.under does in record {
    now = u.now;
    turn = u.turn;
    turned = u.turned;
    kept = record {
      is = k.is;
      stands = record { of = l.of; under = u.kept; edited = l.edited; places = l.places; same = l.same; generation = l.generation; busy = l.busy };
    };
  }

  pub rooting_on : (i : Images) (reading : ReadSteps A) (c : RunningCommit) (old new : List History) → Rooting shape.geometry i reading c old → DoesStep c.image c.steps old new → Turns (λ now. Rooting shape.geometry now reading (record c { steps = steps_after c.image c.steps }) new) i
  rooting_on i reading c old new k does = let u = led_on shape.geometry i c k.of old new k.under does in record {
    now = u.now;
    turn = u.turn;
    turned = u.turned;
    kept = record {
      stored = k.stored;
      all = k.all;
      of = k.of;
      under = u.kept;
      tree = k.tree;
      used = k.used;
      generation = k.generation;
      entries = k.entries;
      unmarked = k.unmarked;
      fits = k.fits;
      sizes = k.sizes;
      same = k.same;
    };
  }

  -- ---- done steps

  sync_metadata : (i : Images) (phase : Phase P A) (commit : Option RunningCommit) (m : List History) (chosen : Chosen P A) → Known i phase commit m → DoesSync phase commit m chosen →
      KnownNext i (phase_then shape phase (Device (Sync Metadata)) Done chosen) (commit_then phase commit (Device (Sync Metadata)) Done chosen) (synced m)
  sync_metadata i (Stands t) (Some c) m chosen k s = leading_on i t c m (synced m) k (sync_does c.image c.steps m s.0)
  sync_metadata i (Opens mode (Some reading)) (Some c) m chosen k s =
      subst (λ (ch : Chosen P A). KnownNext i (phase_then shape (Opens mode (Some reading)) (Device (Sync Metadata)) Done ch) (Some (record c { steps = steps_after c.image c.steps })) (synced m)) (sym s.1)
      (rooting_on i reading c m (synced m) k (sync_does c.image c.steps m s.0))
  sync_metadata i (Opens mode reading) None m (Begins now) k s = begun now s
    where
      base : Turns (λ j. Found shape.geometry j (synced m)) i
      base = sync_found shape.geometry i m (kept_readable shape.geometry i m P A (Opens mode reading) None k)

      by : (now : ReadSteps A) → HasReached shape.geometry base.now now (synced m) → Turns (λ j. HasReached shape.geometry j now (synced m)) i
      by now k = record { now = base.now; turn = base.turn; turned = base.turned; kept = k }

      begun : (now : ReadSteps A) → sectors_read now ≡ 0 → Turns (λ j. HasReached shape.geometry j now (synced m)) i
      begun (Begun alloc global) e = by (Begun alloc global) (record { found = base.kept; come = tt; on = tt })
      begun now e = absurd (omega (arith, e))
  sync_metadata i phase None m chosen k s = absurd s
  sync_metadata i phase (Some c) m chosen k s = absurd k

  put_node : (i : Images) (phase : Phase P A) (commit : Option RunningCommit) (m : List History) (number : ℕ) (job : Job) (buffer : List Bytes) (chosen : Chosen P A) → Known i phase commit m → DoesPut commit (WriteNode number) m chosen →
      KnownNext i (phase_then shape phase (Device (WriteNode number)) Done chosen) (commit_then phase commit (Device (WriteNode number)) Done chosen) (device_done job buffer (WriteNode number) chosen m)
  put_node i (Stands t) (Some c) m number job buffer (Puts new) k s = leading_on i t c m new k s.1
  put_node i Gone (Some c) m number job buffer (Puts new) k s = absurd k
  put_node i (Opens mode None) (Some c) m number job buffer (Puts new) k s = absurd k
  put_node i (Opens mode (Some reading)) (Some c) m number job buffer (Puts new) k s = rooting_on i reading c m new k s.1
  put_node i phase None m number job buffer (Puts new) k s = absurd s
  put_node i phase commit m number job buffer chosen k s = absurd s

  put_root : (i : Images) (phase : Phase P A) (commit : Option RunningCommit) (m : List History) (job : Job) (buffer : List Bytes) (chosen : Chosen P A) → Known i phase commit m → DoesPut commit WriteRoot m chosen →
      KnownNext i (phase_then shape phase (Device WriteRoot) Done chosen) (commit_then phase commit (Device WriteRoot) Done chosen) (device_done job buffer WriteRoot chosen m)
  put_root i (Stands t) (Some c) m job buffer (Puts new) k s = leading_on i t c m new k s.1
  put_root i Gone (Some c) m job buffer (Puts new) k s = absurd k
  put_root i (Opens mode None) (Some c) m job buffer (Puts new) k s = absurd k
  put_root i (Opens mode (Some reading)) (Some c) m job buffer (Puts new) k s = rooting_on i reading c m new k s.1
  put_root i phase None m job buffer (Puts new) k s = absurd s
  put_root i phase commit m job buffer chosen k s = absurd s

  read_nothing : (i : Images) (mode : _) (m : List History) → Readable shape.geometry i m → (after : Option (ReadSteps A)) (commit : Option RunningCommit) → after ≡ None → commit ≡ None → KnownNext i (Opens mode after) commit m
  read_nothing i mode m r None None e f = stays_known i (Opens mode None) None m r
  read_nothing i mode m r after commit e f = absurd (cc)

  read_metadata : (i : Images) (phase : Phase P A) (m : List History) (second : Bool) (left : ℕ) (got : Got) (chosen : Chosen P A) → Known i phase None m → OfReading phase (λ mode was. DoesRead mode shape.geometry second left was m None got chosen) →
      KnownNext i (phase_then shape phase (Device (ReadMetadata left)) got chosen) (commit_then phase None (Device (ReadMetadata left)) got chosen) m
  read_metadata i (Opens mode (Some was)) m second left got (Reaches after commit) k (no_fault, inr more) =
      read_nothing i mode m (found_readable shape.geometry i m k.found) after commit more.4 more.5
  read_metadata i (Opens mode (Some was)) m second left got (Reaches after commit) k (no_fault, inl more) = elim more.3.2 [
    | inl in_time ↦ by_got got no_fault in_time.0
    | inr unclean ↦ read_nothing i mode m (found_readable shape.geometry i m k.found) after commit unclean.2 unclean.3
  ]
    where
      now : ReadSteps A
      now = more.0

      reached : HasReached shape.geometry i now m
      reached = record { found = k.found; come = more.1 (map newest m) (record { size = length-map m newest; here = λ place e. refl }) k.come; on = more.2 }

      asked : Geometry
      asked = more.3.0

      by_got : (got : Got) → (got ≢ Fault) → HasCome asked left now None got after commit → Turns (λ j. AtOpening shape.geometry j after commit m) i
      by_got More n h = stays (λ j. AtOpening shape.geometry j after commit m) i
          (subst (λ (r : Option (ReadSteps A)). AtOpening shape.geometry i r commit m) (sym h.1) (subst (λ (c : Option RunningCommit). AtOpening shape.geometry i (Some now) c m) (sym h.3) reached))
      by_got Done n h = subst (λ (r : Option (ReadSteps A)). Turns (λ j. AtOpening shape.geometry j r commit m) i) (sym h.0) (root_begins A shape.geometry i m now commit reached h.2)
      by_got (Began nodes) n h = nodes_begin A shape.geometry i m asked now nodes after commit more.3.1.sizes_are reached h.2
      by_got (GotRefused refusal) n h = read_nothing i mode m (found_readable shape.geometry i m k.found) after commit h.0 h.1
      by_got Fault n h = absurd (n refl)
      by_got got n h = absurd h
  read_metadata i phase m second left got chosen k s = absurd s

  -- a commit begins, where it does
  begun : (i : Images) (t : Target P) (commit : Option RunningCommit) (m : List History) (seen : Option (List Bool)) (most : ℕ) (got : Got) (chosen : Chosen P A) → Known i (Stands t) commit m → DoesBegin seen most t.desk got chosen →
      KnownNext i (Stands (record { words = t.words; desk = begun_desk chosen t.desk })) (begun_commit chosen commit) m
  begun i t commit m seen most (Began nodes) (Commits c tree) k s = by_commit commit k
    where
      idle : t.desk.space.committing ≡ false
      idle = s.3.1.may.idle

      by_commit : (commit : Option RunningCommit) → AtDesk shape.geometry i t.desk commit m → Turns (λ j. AtDesk shape.geometry j (Rattle.wb_desk.specs.Commits.commit_begun t.desk tree c.image) (Some c) m) i
      by_commit (Some d) k = absurd (let a = k.stands.busy in let b = idle in cc)
      by_commit None k = elim k.stands [
        | inl q ↦ let b = begins_over P shape.geometry i t.desk m s.3.0 seen c tree k.is q s.2 s.3.1 in record { now = b.now; turn = b.turn; turned = b.turned; kept = b.kept.0 }
        | inr b ↦ absurd (let a = b.busy in let e = idle in cc)
      ]
  begun i t commit m seen most (GotRefused refusal) Plain k s = stays_known i (Stands t) commit m k
  begun i t commit m seen most got chosen k s = absurd s

  begin_commit : (seen : Option (List Bool)) (i : Images) (phase : Phase P A) (commit : Option RunningCommit) (m : List History) (most : ℕ) (got : Got) (chosen : Chosen P A) → Known i phase commit m → OfTarget phase (λ t. DoesBegin seen most t.desk got chosen) →
      KnownNext i (phase_then shape phase (Desk (BeginCommit most)) got chosen) (commit_then phase commit (Desk (BeginCommit most)) got chosen) m
  begin_commit seen i (Stands t) commit m most got chosen k s = begun i t commit m seen most got chosen k s
  begin_commit seen i phase commit m most got chosen k s = absurd s

  -- a flush leads one, or changes nothing
  leads : (i : Images) (t : Target P) (commit : Option RunningCommit) (m : List History) (most : ℕ) (got : Got) (chosen : Chosen P A) → Known i (Stands t) commit m → DoesLead most t.desk got chosen → KnownNext i (Stands (record { words = t.words; desk = begun_desk chosen t.desk })) (begun_commit chosen commit) m
  leads i t commit m most (Began nodes) (Commits c tree) k s = begun i t commit m None most (Began nodes) (Commits c tree) k s.1
  leads i t commit m most (GotRefused refusal) Plain k s = stays_known i (Stands t) commit m k
  leads i t commit m most got chosen k s = absurd s

  arrives : (i : Images) (phase : Phase P A) (commit : Option RunningCommit) (m : List History) (most : ℕ) (got : Got) (chosen : Chosen P A) → Known i phase commit m → OfTarget phase (λ t. DoesArrive most t.desk got chosen) →
      KnownNext i (phase_then shape phase (Desk (Arrive most)) got chosen) (commit_then phase commit (Desk (Arrive most)) got chosen) m
  arrives i (Stands t) commit m most Ticket Plain k s = stays_known i (Stands t) commit m k
  arrives i (Stands t) commit m most (Began nodes) chosen k s = leads i t commit m most (Began nodes) chosen k s
  arrives i (Stands t) commit m most (GotRefused refusal) chosen k s = leads i t commit m most (GotRefused refusal) chosen k s
  arrives i phase commit m most got chosen k s = absurd s

  asks : (share : Share) (i : Images) (phase : Phase P A) (commit : Option RunningCommit) (m : List History) (most : ℕ) (got : Got) (chosen : Chosen P A) → Known i phase commit m → OfTarget phase (λ t. DoesAsk share most t.desk got chosen) →
      KnownNext i (phase_then shape phase (Desk (Ask most)) got chosen) (commit_then phase commit (Desk (Ask most)) got chosen) m
  asks share i (Stands t) commit m most Served Plain k s = stays_known i (Stands t) commit m k
  asks share i (Stands t) commit m most (Began nodes) chosen k s = leads i t commit m most (Began nodes) chosen k s.1
  asks share i (Stands t) commit m most (GotRefused refusal) chosen k s = leads i t commit m most (GotRefused refusal) chosen k s.1
  asks share i (Stands t) commit m most got chosen k s = absurd s.1
  asks share i phase commit m most got chosen k s = absurd s

  -- commits are broken: what runs, and what is stored, stays
  breaks : (i : Images) (phase : Phase P A) (commit : Option RunningCommit) (m : List History) (got : Got) (chosen : Chosen P A) → Known i phase commit m → OfTarget phase (λ t. Unit {0}) →
      KnownNext i (phase_then shape phase (Desk BreakCommit) got chosen) (commit_then phase commit (Desk BreakCommit) got chosen) m
  breaks i (Stands t) commit m got chosen k s = stays_known i (Stands (record { words = t.words; desk = commit_broken t.desk })) commit m (broken_over P shape.geometry i t.desk commit m k)
  breaks i phase commit m got chosen k s = absurd s

  end_commit : (i : Images) (phase : Phase P A) (commit : Option RunningCommit) (m : List History) (got : Got) (chosen : Chosen P A) → Known i phase commit m → OfTarget phase (λ t. is_all_done commit ≡ true) →
      KnownNext i (phase_then shape phase (Desk EndCommit) got chosen) (commit_then phase commit (Desk EndCommit) got chosen) m
  end_commit i (Stands t) (Some c) m got chosen k s = let e = ends_over P shape.geometry i t.desk m c k s in record { now = e.now; turn = e.turn; turned = e.turned; kept = e.kept.0 }
  end_commit i (Stands t) None m got chosen k s = absurd (cc)
  end_commit i phase commit m got chosen k s = absurd s

  -- ---- a migration's steps on the desk

  pub map_keeps : (i : Images) (phase : Phase P A) (commit : Option RunningCommit) (m : List History) (b : _) (c : _) (got : Got) (chosen : Chosen P A) → Known i phase commit m → OfTarget phase (λ t. DoesMap b c t.desk got chosen) →
      KnownNext i (phase_then shape phase (Desk (Map b c)) got chosen) (commit_then phase commit (Desk (Map b c)) got chosen) m
  map_keeps i (Stands t) commit m b c Done (Asks new) k s = stays_known i (phase_then shape (Stands t) (Desk (Map b c)) Done (Asks new)) commit m
      (subst (λ (d : DeskState P). AtDesk shape.geometry i d commit m) (sym s.2) (mapped_stands P shape.geometry i t.desk commit m b c new.tree new.policy k s.0 s.1))
  map_keeps i (Stands t) commit m b c (GotRefused refusal) Plain k s = stays_known i (Stands t) commit m k
  map_keeps i phase commit m b c got chosen k s = absurd s

  pub unmap_keeps : (i : Images) (phase : Phase P A) (commit : Option RunningCommit) (m : List History) (b : _) (got : Got) (chosen : Chosen P A) → Known i phase commit m → OfTarget phase (λ t. DoesUnmap b t.desk chosen) →
      KnownNext i (phase_then shape phase (Desk (Unmap b)) got chosen) (commit_then phase commit (Desk (Unmap b)) got chosen) m
  unmap_keeps i (Stands t) commit m b got (Asks new) k s = stays_known i (phase_then shape (Stands t) (Desk (Unmap b)) got (Asks new)) commit m (unmapped_stands P shape.geometry i t.desk commit m b new k s)
  unmap_keeps i phase commit m b got chosen k s = absurd s

  pub release_keeps : (i : Images) (phase : Phase P A) (commit : Option RunningCommit) (m : List History) (b : OBlock) (orders : List Order) (got : Got) (chosen : Chosen P A) → Known i phase commit m → OfTarget phase (λ t. DoesRelease orders b t.desk chosen) →
      KnownNext i (phase_then shape phase (Desk (ReleaseOrder b)) got chosen) (commit_then phase commit (Desk (ReleaseOrder b)) got chosen) m
  release_keeps i (Stands t) commit m b orders got (Asks new) k s = stays_known i (phase_then shape (Stands t) (Desk (ReleaseOrder b)) got (Asks new)) commit m (released_for P shape.geometry i t.desk commit m new (order_of b orders) k s)
  release_keeps i phase commit m b orders got chosen k s = absurd s

  -- ---- answers

  answer_plain : (i : Images) (phase : Phase P A) (commit : Option RunningCommit) (m : List History) (answer : Answer) (got : Got) → Known i phase commit m →
      KnownNext i (phase_then shape phase (End answer) got Plain) (commit_then phase commit (End answer) got Plain) m
  answer_plain i (Stands t) commit m answer got k = stays_known i (Stands t) commit m k
  answer_plain i Gone commit m answer got k = stays_known i Gone commit m k
  answer_plain i (Opens mode reading) commit m answer got k = stays_known i Gone None m (kept_readable shape.geometry i m P A (Opens mode reading) commit k)

  answer_opens : (i : Images) (phase : Phase P A) (commit : Option RunningCommit) (m : List History) (got : Got) (chosen : Chosen P A) → Known i phase commit m → DoesOpen phase commit chosen →
      KnownNext i (phase_then shape phase (End Finished) got chosen) (commit_then phase commit (End Finished) got chosen) m
  answer_opens i (Opens mode (Some reading)) (Some c) m got (Opened policy) k s = by_reading reading k s.0
    where
      by_reading : (reading : ReadSteps A) → Rooting shape.geometry i reading c m → IsDone reading → KnownNext i (phase_then shape (Opens mode (Some reading)) (End Finished) got (Opened policy)) None m
      by_reading (AllRead stored) k d = let t = target_stands A shape.geometry i m P mode policy shape.threshold stored c k s.1 in record { now = t.now; turn = t.turn; turned = t.turned; kept = t.kept.0 }
      by_reading reading k d = absurd d
  answer_opens i (Opens mode (Some reading)) None m got (Opened policy) k s = absurd (let e = s.1 in cc)
  answer_opens i (Opens mode None) commit m got (Opened policy) k s = absurd s.0
  answer_opens i (Stands t) commit m got (Opened policy) k s = absurd s.0
  answer_opens i Gone commit m got (Opened policy) k s = absurd s.0
  answer_opens i phase commit m got chosen k s = absurd s

  -- ---- a step of any kind that is done

  module _ (w : State P A) (actor : Actor) (got : Got) (read : List Bytes) (chosen : Chosen P A) where
    abbrev m : List History
    m = w.devices.metadata

    abbrev G : Job → Want → Type 0
    G job next = Gives shape w actor job next got read chosen

    -- what is known of the metadata after it
    abbrev After : Images → List Bytes → Job → Want → Type 0
    After i buffer job next = KnownNext i (phase_then shape w.phase next got chosen) (commit_then w.phase w.commit next got chosen) (devices_then (λ step. device_done job buffer step chosen) w.devices next).metadata

    read_fact : (job : Job) (d : Dev) (e : _) → G job (Device (ReadExtent d e)) → HoldsBlocks d
    read_fact (Read x) d e g = g.0
    read_fact (Migrate migration block) d e g = g.0
    read_fact job d e g = absurd g

    write_fact : (job : Job) (d : Dev) (e : _) → G job (Device (WriteExtent d e)) → HoldsBlocks d
    write_fact (Write x c) d e g = g.0
    write_fact (Migrate migration block) d e g = g.0
    write_fact job d e g = absurd g

    pub sync_fact : (job : Job) → G job (Device (Sync Metadata)) → (got ≡ Done) × DoesSync w.phase w.commit m chosen
    sync_fact (Read x) g = (g.1, g.2)
    sync_fact job g = (g.1, g.2)

    pub node_fact : (job : Job) (number : ℕ) → G job (Device (WriteNode number)) → (got ≡ Done) × DoesPut w.commit (WriteNode number) m chosen
    node_fact (Read x) number g = (g.1, g.2)
    node_fact job number g = (g.1, g.2)

    pub root_fact : (job : Job) → G job (Device WriteRoot) → (got ≡ Done) × DoesPut w.commit WriteRoot m chosen
    root_fact (Read x) g = (g.1, g.2)
    root_fact job g = (g.1, g.2)

    pub metadata_fact : (job : Job) (left : ℕ) → G job (Device (ReadMetadata left)) → (w.commit ≡ None) × OfReading w.phase (λ mode was. DoesRead mode shape.geometry (asks_second job) left was m w.commit got chosen)
    metadata_fact (Read x) left g = (g.1, g.2)
    metadata_fact job left g = (g.1, g.2)

    -- asked for a commit
    pub begin_fact : (job : Job) (most : ℕ) → G job (Desk (BeginCommit most)) → OfTarget w.phase (λ t. DoesBegin (Some actor.seen) most t.desk got chosen)
    begin_fact (Read x) most g = g.1
    begin_fact job most g = g.1

    pub arrive_fact : (job : Job) (most : ℕ) → G job (Desk (Arrive most)) → OfTarget w.phase (λ t. DoesArrive most t.desk got chosen)
    arrive_fact (Read x) most g = g.1
    arrive_fact job most g = g.1

    pub ask_fact : (job : Job) (most : ℕ) → G job (Desk (Ask most)) → OfTarget w.phase (λ t. DoesAsk actor.share most t.desk got chosen)
    ask_fact (Read x) most g = g.1
    ask_fact job most g = g.1

    pub break_fact : (job : Job) → G job (Desk BreakCommit) → OfTarget w.phase (λ t. Unit {0})
    break_fact (Read x) g = g.2
    break_fact job g = g.2

    pub end_fact : (job : Job) → G job (Desk EndCommit) → OfTarget w.phase (λ t. is_all_done w.commit ≡ true)
    end_fact (Read x) g = g.2
    end_fact job g = g.2

    pub map_fact : (job : Job) (b c : _) → G job (Desk (Map b c)) → OfTarget w.phase (λ t. DoesMap b c t.desk got chosen)
    map_fact (Migrate migration block) b c g = g.1
    map_fact job b c g = absurd g

    pub unmap_fact : (job : Job) (b : _) → G job (Desk (Unmap b)) → OfTarget w.phase (λ t. DoesUnmap b t.desk chosen)
    unmap_fact (Write x y) b g = g.2
    unmap_fact (Invalidate block) b g = g.2
    unmap_fact (Migrate migration block) b g = g.2
    unmap_fact job b g = absurd g

    pub release_fact : (job : Job) (b : OBlock) → G job (Desk (ReleaseOrder b)) → (orders : List Order) × OfTarget w.phase (λ t. DoesRelease orders b t.desk chosen)
    release_fact Flush b g = (actor.awaiting, g.2)
    release_fact (Migrate migration block) b g = (actor.orders, g.2)
    release_fact job b g = absurd g

    pub answer_fact : (job : Job) (answer : Answer) → G job (End answer) → (chosen ≡ Plain) ⊎ ((answer ≡ Finished) × DoesOpen w.phase w.commit chosen)
    answer_fact (Open mode second) Finished g = inr (refl, g.2)
    answer_fact job answer g = inl g.0.1

    -- its device is not that of the metadata
    moves_data : (i : Images) (buffer : List Bytes) (job : Job) (step : DeviceStep) (d : Dev) → HoldsBlocks d → device_of step ≡ d → IsData step → Known i w.phase w.commit m → After i buffer job (Device step)
    moves_data i buffer job step d h e x k =
        subst (λ (n : List History). KnownNext i (phase_then shape w.phase (Device step) got chosen) (commit_then w.phase w.commit (Device step) got chosen) n)
        (sym (data_device (device_of step) (subst (λ (v : Dev). HoldsBlocks v) (sym e) h) w.devices _)) (data_same i w.phase w.commit m step got chosen x k)

    pub done_kept : (i : Images) (buffer : List Bytes) (job : Job) (next : Want) → Known i w.phase w.commit m → G job next → After i buffer job next
    done_kept i buffer job (Cell step) k g = cell_same i w.phase w.commit m step got chosen k
    done_kept i buffer job (Device (ReadExtent d e)) k g = moves_data i buffer job (ReadExtent d e) d (read_fact job d e g) refl tt k
    done_kept i buffer job (Device (WriteExtent d e)) k g = moves_data i buffer job (WriteExtent d e) d (write_fact job d e g) refl tt k
    done_kept i buffer job (Device (Sync Cache)) k g = moves_data i buffer job (Sync Cache) Cache tt refl tt k
    done_kept i buffer job (Device (Sync Origin)) k g = moves_data i buffer job (Sync Origin) Origin tt refl tt k
    done_kept i buffer job (Device (Sync Metadata)) k g = let f = sync_fact job g in
        subst (λ (x : Got). KnownNext i (phase_then shape w.phase (Device (Sync Metadata)) x chosen) (commit_then w.phase w.commit (Device (Sync Metadata)) x chosen) (synced m)) (sym f.0) (sync_metadata i w.phase w.commit m chosen k f.1)
    done_kept i buffer job (Device (WriteNode number)) k g = let f = node_fact job number g in
        subst (λ (x : Got). KnownNext i (phase_then shape w.phase (Device (WriteNode number)) x chosen) (commit_then w.phase w.commit (Device (WriteNode number)) x chosen) (device_done job buffer (WriteNode number) chosen m)) (sym f.0)
        (put_node i w.phase w.commit m number job buffer chosen k f.1)
    done_kept i buffer job (Device WriteRoot) k g = let f = root_fact job g in
        subst (λ (x : Got). KnownNext i (phase_then shape w.phase (Device WriteRoot) x chosen) (commit_then w.phase w.commit (Device WriteRoot) x chosen) (device_done job buffer WriteRoot chosen m)) (sym f.0) (put_root i w.phase w.commit m job buffer chosen k f.1)
    done_kept i buffer job (Device (ReadMetadata left)) k g = let f = metadata_fact job left g in by_commit w.commit f.0 k f.1
      where
        still : device_done job buffer (ReadMetadata left) chosen m ≡ m
        still = by_chosen chosen (metadata_fact job left g).1
          where
            by_chosen : (ch : Chosen P A) → OfReading w.phase (λ mode was. DoesRead mode shape.geometry (asks_second job) left was m w.commit got ch) → device_done job buffer (ReadMetadata left) ch m ≡ m
            by_chosen (Puts new) h = by_phase w.phase h
              where
                by_phase : (p : Phase P A) → OfReading p (λ mode was. ⊥) → new ≡ m
                by_phase (Opens mode (Some was)) h = absurd h
                by_phase p h = absurd h
            by_chosen ch h = refl

        by_commit : (commit : Option RunningCommit) → commit ≡ None → Known i w.phase commit m → OfReading w.phase (λ mode was. DoesRead mode shape.geometry (asks_second job) left was m commit got chosen) →
            KnownNext i (phase_then shape w.phase (Device (ReadMetadata left)) got chosen) (commit_then w.phase commit (Device (ReadMetadata left)) got chosen) (device_done job buffer (ReadMetadata left) chosen m)
        by_commit None e k h = subst (λ (n : List History). KnownNext i (phase_then shape w.phase (Device (ReadMetadata left)) got chosen) (commit_then w.phase None (Device (ReadMetadata left)) got chosen) n) (sym still)
            (read_metadata i w.phase m (asks_second job) left got chosen k h)
        by_commit (Some c) e k h = absurd (cc)
    done_kept i buffer job (Desk (Arrive most)) k g = arrives i w.phase w.commit m most got chosen k (arrive_fact job most g)
    done_kept i buffer job (Desk (Ask most)) k g = asks actor.share i w.phase w.commit m most got chosen k (ask_fact job most g)
    done_kept i buffer job (Desk (BeginCommit most)) k g = begin_commit (Some actor.seen) i w.phase w.commit m most got chosen k (begin_fact job most g)
    done_kept i buffer job (Desk BreakCommit) k g = breaks i w.phase w.commit m got chosen k (break_fact job g)
    done_kept i buffer job (Desk EndCommit) k g = end_commit i w.phase w.commit m got chosen k (end_fact job g)
    done_kept i buffer job (Desk (Map b c)) k g = map_keeps i w.phase w.commit m b c got chosen k (map_fact job b c g)
    done_kept i buffer job (Desk (Unmap b)) k g = unmap_keeps i w.phase w.commit m b got chosen k (unmap_fact job b g)
    done_kept i buffer job (Desk (ReleaseOrder b)) k g = let f = release_fact job b g in release_keeps i w.phase w.commit m b f.0 got chosen k f.1
    done_kept i buffer job (End answer) k g = elim (answer_fact job answer g) [
      | inl e ↦ subst (λ (ch : Chosen P A). KnownNext i (phase_then shape w.phase (End answer) got ch) (commit_then w.phase w.commit (End answer) got ch) m) (sym e) (answer_plain i w.phase w.commit m answer got k)
      | inr h ↦ subst (λ (x : Answer). KnownNext i (phase_then shape w.phase (End x) got chosen) (commit_then w.phase w.commit (End x) got chosen) m) (sym h.0) (answer_opens i w.phase w.commit m got chosen k h.1)
    ]
