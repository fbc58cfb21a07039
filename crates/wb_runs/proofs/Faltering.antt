-- A step that fails keeps what is known of the metadata.
use Rattle.std.proofs.Common.{◌≡◌, ◌⊎◌, inl, inr, ℕ, Bool, true, false, List, Option, Some, None, sym, subst}
use Rattle.wb_types.specs.declared.mode.Dev.TheVariants.{Metadata, Cache, Origin}
use Rattle.wb_disk.specs.Device.{Content as Bytes, History}
use Rattle.wb_disk.specs.Failing.{lands, synced_where}
use Rattle.wb_disk.specs.Crash.{Choice}
use Rattle.wb_meta.specs.Steps.{DoesStep, coming_step}
use Rattle.wb_tasks.specs.declared.step.DeviceStep.{DeviceStep}
use Rattle.wb_tasks.specs.declared.step.DeviceStep.TheVariants.{Read as ReadExtent, Write as WriteExtent, Sync, ReadMetadata, WriteNode, WriteRoot}
use Rattle.wb_tasks.specs.declared.step.Want.{Want}
use Rattle.wb_tasks.specs.declared.step.Want.TheVariants.{Device}
use Rattle.wb_tasks.specs.declared.step.Got.TheVariants.{Fault}
use Rattle.wb_tasks.specs.Plan.{device_of}
use Rattle.wb_tasks.specs.Ready.{HoldsBlocks}
use Rattle.wb_devices.specs.declared.running.RunningCommit.{RunningCommit}
use Rattle.wb_promise.specs.declared.job.Job.{Job}
use Rattle.wb_promise.specs.States.{Shape, State, Target, Phase, Stands, Gone, Opens}
use Rattle.wb_promise.specs.Happenings.{Chosen, Plain, Puts, LandedOr, sector_put, IsNextOf, FailsPut, FailsSync, Falters}
use Rattle.wb_promise.specs.Effects.{device_failed, devices_then, commit_then, phase_then}
use Rattle.wb_runs.proofs.Images.{Images, Turns}
use Rattle.wb_runs.proofs.Stepping.{IsData, Known, KnownNext, stays_known, data_same, data_device}
use Rattle.wb_runs.proofs.Underway.{Readable, IsPut, stopped, sync_fails, put_fails, partly_readable}
use Rattle.wb_runs.proofs.Metadata.{AtDesk, kept_readable}

module _ (P A : Type 0) (shape : Shape) where
  commit_stops : (i : Images) (t : Target P) (c : RunningCommit) (old new : List History) → AtDesk shape.geometry i t.desk (Some c) old → Turns (λ j. Readable shape.geometry j new) i → KnownNext P A shape i (Stands t) None new
  commit_stops i t c old new k r = record { now = r.now; turn = r.turn; turned = r.turned; kept = record { is = k.is; stands = inr (record { readable = r.kept; busy = k.stands.busy }) } }

  opening_stops : (i : Images) (mode : _) (new : List History) → Turns (λ j. Readable shape.geometry j new) i → KnownNext P A shape i (Opens mode None) None new
  opening_stops i mode new r = record { now = r.now; turn = r.turn; turned = r.turned; kept = r.kept }

  sync_failed : (i : Images) (phase : Phase P A) (commit : Option RunningCommit) (m : List History) (landed : ℕ → Bool) → Known P A shape i phase commit m → FailsSync phase commit m →
      KnownNext P A shape i (phase_then shape phase (Device (Sync Metadata)) Fault Plain) (commit_then phase commit (Device (Sync Metadata)) Fault Plain) (synced_where landed m)
  sync_failed i (Stands t) (Some c) m landed k s = commit_stops i t c m (synced_where landed m) k (stopped shape.geometry i c k.stands.of m (synced_where landed m) k.stands.under (sync_fails c.image c.steps landed m s.0))
  sync_failed i (Opens mode (Some reading)) (Some c) m landed k s = opening_stops i mode (synced_where landed m) (stopped shape.geometry i c k.of m (synced_where landed m) k.under (sync_fails c.image c.steps landed m s.0))
  sync_failed i (Opens mode reading) None m landed k s = stays_known P A shape i (Opens mode None) None (synced_where landed m) (partly_readable shape.geometry i landed m (kept_readable shape.geometry i m P A (Opens mode reading) None k))
  sync_failed i phase None m landed k s = absurd s
  sync_failed i phase (Some c) m landed k s = absurd k

  -- what a failed write of a node or root did
  did : (landed : Bool) (c : RunningCommit) (old new : List History) → LandedOr landed (DoesStep c.image c.steps old new) (new ≡ old) → DoesStep c.image c.steps old new ⊎ (new ≡ old)
  did true c old new h = inl h
  did false c old new h = inr h

  put_failed : (i : Images) (phase : Phase P A) (c : RunningCommit) (old new : List History) (choice : Choice) (step : DeviceStep) → IsPut step → Known P A shape i phase (Some c) old → IsNextOf (Some c) step old
      (λ running. LandedOr (lands Metadata choice (sector_put (coming_step running.image running.steps))) (DoesStep running.image running.steps old new) (new ≡ old)) → Turns (λ j. Readable shape.geometry j new) i
  put_failed i (Stands t) c old new choice step p k s = stopped shape.geometry i c k.stands.of old new k.stands.under (put_fails c.image c.steps step old new p s.0 (did _ c old new s.1))
  put_failed i (Opens mode (Some reading)) c old new choice step p k s = stopped shape.geometry i c k.of old new k.under (put_fails c.image c.steps step old new p s.0 (did _ c old new s.1))
  put_failed i phase c old new choice step p k s = absurd k

  node_failed : (i : Images) (phase : Phase P A) (commit : Option RunningCommit) (m : List History) (choice : Choice) (number : ℕ) (landed : ℕ → Bool) (job : Job) (buffer : List Bytes) (chosen : Chosen P A) → Known P A shape i phase commit m → FailsPut commit choice (WriteNode number) m chosen →
      KnownNext P A shape i (phase_then shape phase (Device (WriteNode number)) Fault chosen) (commit_then phase commit (Device (WriteNode number)) Fault chosen) (device_failed landed job buffer (WriteNode number) chosen m)
  node_failed i (Stands t) (Some c) m choice number landed job buffer (Puts new) k s = commit_stops i t c m new k (put_failed i (Stands t) c m new choice (WriteNode number) tt k s)
  node_failed i Gone (Some c) m choice number landed job buffer (Puts new) k s = absurd k
  node_failed i (Opens mode reading) (Some c) m choice number landed job buffer (Puts new) k s = opening_stops i mode new (put_failed i (Opens mode reading) c m new choice (WriteNode number) tt k s)
  node_failed i phase None m choice number landed job buffer (Puts new) k s = absurd s
  node_failed i phase commit m choice number landed job buffer chosen k s = absurd s

  root_failed : (i : Images) (phase : Phase P A) (commit : Option RunningCommit) (m : List History) (choice : Choice) (landed : ℕ → Bool) (job : Job) (buffer : List Bytes) (chosen : Chosen P A) → Known P A shape i phase commit m → FailsPut commit choice WriteRoot m chosen →
      KnownNext P A shape i (phase_then shape phase (Device WriteRoot) Fault chosen) (commit_then phase commit (Device WriteRoot) Fault chosen) (device_failed landed job buffer WriteRoot chosen m)
  root_failed i (Stands t) (Some c) m choice landed job buffer (Puts new) k s = commit_stops i t c m new k (put_failed i (Stands t) c m new choice WriteRoot tt k s)
  root_failed i Gone (Some c) m choice landed job buffer (Puts new) k s = absurd k
  root_failed i (Opens mode reading) (Some c) m choice landed job buffer (Puts new) k s = opening_stops i mode new (put_failed i (Opens mode reading) c m new choice WriteRoot tt k s)
  root_failed i phase None m choice landed job buffer (Puts new) k s = absurd s
  root_failed i phase commit m choice landed job buffer chosen k s = absurd s

  reading_failed : (i : Images) (phase : Phase P A) (m : List History) (left : ℕ) → Known P A shape i phase None m → KnownNext P A shape i (phase_then shape phase (Device (ReadMetadata left)) Fault Plain) (commit_then phase None (Device (ReadMetadata left)) Fault Plain) m
  reading_failed i (Stands t) m left k = stays_known P A shape i (Stands t) None m k
  reading_failed i Gone m left k = stays_known P A shape i Gone None m k
  reading_failed i (Opens mode reading) m left k = stays_known P A shape i (Opens mode None) None m (kept_readable shape.geometry i m P A (Opens mode reading) None k)

  module _ (w : State P A) (choice : Choice) (chosen : Chosen P A) where
    abbrev m : List History
    m = w.devices.metadata

    -- what is known of the metadata after it
    abbrev After : Images → List Bytes → Job → Want → Chosen P A → Type 0
    After i buffer job next ch = KnownNext P A shape i (phase_then shape w.phase next Fault ch) (commit_then w.phase w.commit next Fault ch) (devices_then (λ step. device_failed (lands (device_of step) choice) job buffer step ch) w.devices next).metadata

    -- its device is not that of the metadata
    moves_data : (i : Images) (buffer : List Bytes) (job : Job) (step : DeviceStep) → HoldsBlocks (device_of step) → IsData P A shape step → Known P A shape i w.phase w.commit m → After i buffer job (Device step) chosen
    moves_data i buffer job step h x k = subst (λ (n : List History). KnownNext P A shape i (phase_then shape w.phase (Device step) Fault chosen) (commit_then w.phase w.commit (Device step) Fault chosen) n)
        (sym (data_device (device_of step) h w.devices _)) (data_same P A shape i w.phase w.commit m step Fault chosen x k)

    pub failed_kept : (i : Images) (buffer : List Bytes) (job : Job) (next : Want) → Known P A shape i w.phase w.commit m → Falters w choice next chosen → After i buffer job next chosen
    failed_kept i buffer job (Device (ReadExtent d e)) k g = moves_data i buffer job (ReadExtent d e) g.1 tt k
    failed_kept i buffer job (Device (WriteExtent d e)) k g = moves_data i buffer job (WriteExtent d e) g.1 tt k
    failed_kept i buffer job (Device (Sync Cache)) k g = moves_data i buffer job (Sync Cache) tt tt k
    failed_kept i buffer job (Device (Sync Origin)) k g = moves_data i buffer job (Sync Origin) tt tt k
    failed_kept i buffer job (Device (Sync Metadata)) k g = subst (λ (ch : Chosen P A). After i buffer job (Device (Sync Metadata)) ch) (sym g.0) (sync_failed i w.phase w.commit m (lands Metadata choice) k g.1)
    failed_kept i buffer job (Device (WriteNode number)) k g = node_failed i w.phase w.commit m choice number (lands Metadata choice) job buffer chosen k g
    failed_kept i buffer job (Device WriteRoot) k g = root_failed i w.phase w.commit m choice (lands Metadata choice) job buffer chosen k g
    failed_kept i buffer job (Device (ReadMetadata left)) k g = subst (λ (ch : Chosen P A). After i buffer job (Device (ReadMetadata left)) ch) (sym g.0) (by_commit w.commit g.1 k)
      where
        by_commit : (commit : Option RunningCommit) → commit ≡ None → Known P A shape i w.phase commit m → KnownNext P A shape i (phase_then shape w.phase (Device (ReadMetadata left)) Fault Plain) (commit_then w.phase commit (Device (ReadMetadata left)) Fault Plain) m
        by_commit None e k = reading_failed i w.phase m left k
        by_commit (Some c) e k = absurd (cc)
    failed_kept i buffer job next k g = absurd g
