-- What the code that programs run does on the devices of a machine is what wb_promise says.
use Rattle.std.proofs.Common.{◌≡◌, ◌≤◌, ◌+◌, ℕ, zero, suc, Bool, true, false, if◌then◌else◌, List, [], ◌∷◌, Option, Some, None, refl, sym, ap, subst, ◌∙◌, arith, length, take, slice_get, is_some}
use Rattle.std.specs.Prelude.{IfSome}
use Rattle.wb_types.specs.declared.mode.Dev.{Dev}
use Rattle.wb_types.specs.declared.mode.Dev.TheVariants.{Metadata, Cache, Origin}
use Rattle.wb_types.specs.declared.extent.Extent.{Extent}
use Rattle.wb_types.specs.declared.number.Place.{Place}
use Rattle.wb_disk.specs.Device.{Content as Bytes, History, synced, written}
use Rattle.wb_disk.specs.Extents.{GivesEach, written_where}
use Rattle.wb_disk.specs.Crash.{Choice}
use Rattle.wb_disk.specs.Failing.{lands, synced_where}
use Rattle.wb_disk.specs.Faltering.{falters_as}
use Rattle.wb_disk.specs.Memory.{Memory, HasRoomFor, memory_falters}
use Rattle.wb_format.specs.declared.node.Node.{Node}
use Rattle.wb_tree.specs.declared.image.Image.{Image}
use Rattle.wb_meta.specs.Placing.{HavePlaces}
use Rattle.wb_format.specs.Layout.{SpellsNode, SpellsRoot}
use Rattle.wb_meta.specs.Steps.{DoesStep, FailsStepSo, NodeOrSync, NodeOrSyncSo, PutSo, Puts, coming_step, node_or_sync, slot_of, steps_after}
use Rattle.wb_meta.specs.declared.commit_steps.CommitSteps.{CommitSteps}
use Rattle.wb_meta.specs.declared.commit_steps.CommitSteps.TheVariants.{NodesWritten, NodesSynced}
use Rattle.wb_tasks.specs.Plan.{device_of}
use Rattle.wb_tasks.specs.declared.step.DeviceStep.{DeviceStep}
use Rattle.wb_tasks.specs.declared.step.DeviceStep.TheVariants.{Read as ReadExtent, Write as WriteExtent, Sync, ReadMetadata, WriteNode, WriteRoot}
use Rattle.wb_tasks.specs.declared.step.Want.TheVariants.{Device}
use Rattle.wb_tasks.specs.declared.step.Got.{Got}
use Rattle.wb_tasks.specs.declared.step.Got.TheVariants.{Done, Fault}
use Rattle.wb_devices.specs.declared.devices.Devices.{Devices}
use Rattle.wb_devices.specs.declared.running.RunningCommit.{RunningCommit}
use Rattle.wb_devices.specs.Committing.{goes_on}
use Rattle.wb_devices.specs.Moving.{CanMove, DidSync, IsOutcome, OthersStay, SyncFails, Ways, device_in}
use Rattle.wb_devices.specs.Stepping.{BufferStays, CommitGoes, DidPut, DidStep, Goes, PutFails, StepFails}
use Rattle.wb_promise.specs.declared.job.Job.{Job}
use Rattle.wb_promise.specs.States.{with_device}
use Rattle.wb_promise.specs.Happenings.{LandedOr, Plain, sector_put}
use Rattle.wb_promise.specs.Effects.{contents_for, led}
use Rattle.wb_machine.specs.Life.{FailsOn, MayBePut, WasPut, commit_synced, contents_of, device_step_of}
use Rattle.wb_machine.specs.Serving.{ComesNext, DoesOn, FailsAt, FittedTo, HasRoomAt, IsDoable, IsFront, IsPut, Moves, PutComes, PutsSector, SyncComes, commit_by, read_by}
use Rattle.wb_machine.proofs.Commits.{commit_of, same_commit}
use Rattle.wb_machine.proofs.Doing.{did_read, did_write, did_sync, did_put, failed_read, failed_write, failed_sync, failed_put, led_none, puts_sector, same_device}
use Rattle.wb_machine.proofs.Landing.{written_inside}

take_whole : {X : Type 0} (n : ℕ) (xs : List X) → length xs ≡ n → take n xs ≡ xs
take_whole zero [] e = refl
take_whole zero (x ∷ xs) e = absurd (cc)
take_whole (suc n) [] e = refl
take_whole (suc n) (x ∷ xs) e = ap (λ ys. x ∷ ys) (take_whole n xs (omega (arith, e)))

-- ---- the running commit

same_running : (image image' : Image) (steps steps' : CommitSteps) (p : HavePlaces image.nodes.items image.root.geometry.meta_sectors) (q : HavePlaces image'.nodes.items image'.root.geometry.meta_sectors) → image ≡ image' → steps ≡ steps' → commit_of image steps p ≡ commit_of image' steps' q
same_running image image' steps steps' p q i s =
    subst (λ (j : Image). (r : HavePlaces j.nodes.items j.root.geometry.meta_sectors) → commit_of image steps p ≡ commit_of j steps' r) i (λ r. same_commit image steps p r ∙ ap (λ t. commit_of image t r) s) q

-- the step that comes next leads it on
went_on : (device : List History) (commit commit' : Option RunningCommit) (step : DeviceStep) → ComesNext commit step device → Goes (length device) commit step Done commit' → commit' ≡ led commit Done
went_on device None commit' step next goes = absurd next
went_on device (Some running) commit' step next goes =
    let later = goes.0 in
    let on : later.steps ≡ steps_after running.image running.steps = goes.3 ∙ ap (λ (b : Bool). if b then steps_after running.image running.steps else running.steps) next.0 in
    goes.1 ∙ same_running later.image running.image later.steps (steps_after running.image running.steps) later.placed running.placed goes.2 on

-- a fault leaves it
still_there : (size : ℕ) (commit commit' : Option RunningCommit) (step : DeviceStep) → Goes size commit step Fault commit' → commit' ≡ commit
still_there size None commit' step goes = goes
still_there size (Some running) commit' step goes =
    let later = goes.0 in
    let same : later.steps ≡ running.steps = goes.3 ∙ either (goes_on size running.image running.steps step) running.steps in
    goes.1 ∙ same_running later.image running.image later.steps running.steps later.placed running.placed goes.2 same
  where
    either : (b : Bool) (steps : CommitSteps) → (if b then steps else steps) ≡ steps
    either true steps = refl
    either false steps = refl

-- ---- a node or root that fails

never_node : (disk : Memory) (o : Option (Place × Node)) (old new : List History) → is_some o ≡ true → HasRoomFor disk (sector_put (node_or_sync o)) 1 → NodeOrSyncSo (memory_falters disk) o old new → ⊥
never_node disk None old new is room fails = cc
never_node disk (Some node) old new is room fails = fails.2.1 room

never_so : (disk : Memory) (image : Image) (steps : CommitSteps) (old new : List History) → PutsSector image steps → HasRoomFor disk (sector_put (coming_step image steps)) 1 → FailsStepSo (memory_falters disk) image steps old new → ⊥
never_so disk image (NodesWritten count) old new puts room fails = never_node disk (slice_get image.nodes.items count) old new puts room fails
never_so disk image NodesSynced old new puts room fails = fails.2.1 room
never_so disk image steps old new puts room fails = absurd puts

-- where there is room it does not
pub never_put : (disk : Memory) (commit : Option RunningCommit) (step : DeviceStep) (old new : List History) → IsPut step → ComesNext commit step old → IfSome commit (λ running. HasRoomFor disk (sector_put (coming_step running.image running.steps)) 1) → PutFails (memory_falters disk) (length old) commit step Fault old new → ⊥
never_put disk None step old new put next room fails = next
never_put disk (Some running) step old new put next room fails = never_so disk running.image running.steps old new (puts_sector running.image running.steps step _ put next.0) room (fails next.0)

module _ (disk : Memory) (choice : Choice) where
  one_landed : (b : Bool) (Spelled : Bytes → Type 0) (at : ℕ) (old new : List History) (content : Bytes) → Spelled content → new ≡ (if b then written old at content else old) → LandedOr b (Puts Spelled at old new) (new ≡ old)
  one_landed true Spelled at old new content s e = record { content = content; spelled = s; wrote = e }
  one_landed false Spelled at old new content s e = e

  put_landed : (Spelled : Bytes → Type 0) (at : ℕ) (old new : List History) → HasRoomFor disk at 1 → PutSo (falters_as disk Metadata choice) Spelled at old new → LandedOr (lands Metadata choice at) (Puts Spelled at old new) (new ≡ old)
  put_landed Spelled at old new room p =
      let same : p.2.0 ≡ lands Metadata choice = p.2.1 room in
      one_landed (lands Metadata choice at) Spelled at old new p.0 p.1 (p.2.2 ∙ ap (λ (l : ℕ → Bool). if l at then written old at p.0 else old) same)

  landed_node : (o : Option (Place × Node)) (old new : List History) → is_some o ≡ true → HasRoomFor disk (sector_put (node_or_sync o)) 1 → NodeOrSyncSo (falters_as disk Metadata choice) o old new → LandedOr (lands Metadata choice (sector_put (node_or_sync o))) (NodeOrSync o old new) (new ≡ old)
  landed_node None old new is room fails = absurd (cc)
  landed_node (Some node) old new is room fails = put_landed (λ content. SpellsNode content node.1) node.0.0 old new room fails

  landed_so : (image : Image) (steps : CommitSteps) (old new : List History) → PutsSector image steps → HasRoomFor disk (sector_put (coming_step image steps)) 1 → FailsStepSo (falters_as disk Metadata choice) image steps old new → LandedOr (lands Metadata choice (sector_put (coming_step image steps))) (DoesStep image steps old new) (new ≡ old)
  landed_so image (NodesWritten count) old new puts room fails = landed_node (slice_get image.nodes.items count) old new puts room fails
  landed_so image NodesSynced old new puts room fails = put_landed (λ content. SpellsRoot content image.root) (slot_of image.root).0 old new room fails
  landed_so image steps old new puts room fails = absurd puts

  -- or lands where the choice says so
  landed_put : (commit : Option RunningCommit) (step : DeviceStep) (old new : List History) → IsPut step → ComesNext commit step old → IfSome commit (λ running. HasRoomFor disk (sector_put (coming_step running.image running.steps)) 1) → PutFails (falters_as disk Metadata choice) (length old) commit step Fault old new → MayBePut commit choice step old new
  landed_put None step old new put next room fails = absurd next
  landed_put (Some running) step old new put next room fails = (next.0, landed_so running.image running.steps old new (puts_sector running.image running.steps step _ put next.0) room (fails next.0))

-- ---- devices

abbrev three : List History → List History → List History → Devices (List History)
three m c o = record { metadata = m; cache = c; origin = o }

same_three : (m m' c c' o o' : List History) → m ≡ m' → c ≡ c' → o ≡ o' → three m c o ≡ three m' c' o'
same_three m m' c c' o o' a b e = ap (λ x. three x c o) a ∙ ap (λ x. three m' x o) b ∙ ap (λ x. three m' c' x) e

module _ (devices devices' : Devices (List History)) where
  rebuilt : (device : Dev) (new : List History) → OthersStay device devices devices' → device_in device devices' ≡ new → devices' ≡ with_device device devices new
  rebuilt Metadata new others e = same_three _ _ _ _ _ _ e others.0 others.1
  rebuilt Cache new others e = same_three _ _ _ _ _ _ others.0 e others.1
  rebuilt Origin new others e = same_three _ _ _ _ _ _ others.0 others.1 e

  stayed : (device : Dev) → OthersStay device devices devices' → device_in device devices' ≡ device_in device devices → devices' ≡ devices
  stayed device others e = rebuilt device (device_in device devices) others e ∙ same_device device devices

  module _ (commit commit' : Option RunningCommit) (job : Job) (buffer moved : List Bytes) where
    -- what a step that was performed did, with this result
    abbrev Went : Got → List Bytes → ℕ → ℕ → DeviceStep → Type 0
    Went got moved' faults faults' there = BufferStays there moved moved' × OthersStay (device_of there) devices devices'
        × DidStep commit there got (length (device_in (device_of there) devices)) (device_in (device_of there) devices) faults moved moved' (device_in (device_of there) devices') faults'
        × CommitGoes (length devices.metadata) commit there got commit'

    -- all that is written is in the extent
    all_written : (landed : ℕ → Bool) (device : Dev) (e f : Extent) → IsFront (length (device_in device devices)) e.first (length moved) f → moved ≡ contents_for job buffer e.count →
        written_where landed (device_in device devices) f.first (take f.count moved) ≡ written_where landed (device_in device devices) e.first (contents_for job buffer e.count)
    all_written landed device e f front moves =
        let old = device_in device devices in
        ap (λ at. written_where landed old at (take f.count moved)) front.0
        ∙ written_inside landed old e.first f.count moved front.1 front.3
        ∙ ap (λ cs. written_where landed old e.first cs) moves

    was_put : (step : DeviceStep) (faults faults' : ℕ) → IsPut step → ComesNext commit step devices.metadata → DidPut (length devices.metadata) commit step Done devices.metadata faults devices'.metadata faults' → WasPut commit step devices.metadata devices'.metadata
    was_put step faults faults' put next did = by commit next did
      where
        by : (commit : Option RunningCommit) → ComesNext commit step devices.metadata → DidPut (length devices.metadata) commit step Done devices.metadata faults devices'.metadata faults' → WasPut commit step devices.metadata devices'.metadata
        by None next did = absurd next
        by (Some running) next did = (next.0, (did.0 next.0).0)

    pub performed : (step there : DeviceStep) (moved' : List Bytes) (faults faults' : ℕ) → IsDoable devices commit job step → Moves job buffer step moved → FittedTo moved devices step there → Went Done moved' faults faults' there → DoesOn devices commit job buffer step (read_by step moved') devices' commit'
    performed (ReadExtent device e) there moved' faults faults' can moves fit went =
        let w = subst (Went Done moved' faults faults') fit went in
        let many : length moved' ≡ e.count = w.0 ∙ moves in
        let each = subst (λ cs. GivesEach (device_in device devices) e.first cs) (take_whole e.count moved' many) w.2.1 in
        did_read devices commit devices' commit' buffer job device e moved' can many each (stayed device w.1 w.2.2) w.3
    performed (WriteExtent device e) there moved' faults faults' can moves fit went =
        let w = subst (Went Done moved' faults faults') fit.1 went in
        did_write devices commit devices' commit' buffer job device e can (rebuilt device _ w.1 (w.2.1 ∙ all_written (λ at. true) device e fit.0 fit.2 moves)) w.3
    performed (Sync Metadata) there moved' faults faults' can moves fit went =
        let w = subst (Went Done moved' faults faults') fit went in
        did_sync devices commit devices' commit' buffer job Metadata [] can refl (rebuilt Metadata _ w.1 w.2.0) (went_on devices.metadata commit commit' (Sync Metadata) can w.3)
    performed (Sync Cache) there moved' faults faults' can moves fit went =
        let w = subst (Went Done moved' faults faults') fit went in
        did_sync devices commit devices' commit' buffer job Cache [] can refl (rebuilt Cache _ w.1 w.2.0) w.3
    performed (Sync Origin) there moved' faults faults' can moves fit went =
        let w = subst (Went Done moved' faults faults') fit went in
        did_sync devices commit devices' commit' buffer job Origin [] can refl (rebuilt Origin _ w.1 w.2.0) w.3
    performed (WriteNode number) there moved' faults faults' can moves fit went =
        let w = subst (Went Done moved' faults faults') fit went in
        did_put devices commit devices' commit' buffer job (WriteNode number) [] tt refl (was_put (WriteNode number) faults faults' tt can w.2) (rebuilt Metadata _ w.1 refl) (went_on devices.metadata commit commit' (WriteNode number) can w.3)
    performed WriteRoot there moved' faults faults' can moves fit went =
        let w = subst (Went Done moved' faults faults') fit went in
        did_put devices commit devices' commit' buffer job WriteRoot [] tt refl (was_put WriteRoot faults faults' tt can w.2) (rebuilt Metadata _ w.1 refl) (went_on devices.metadata commit commit' WriteRoot can w.3)
    performed (ReadMetadata left) there moved' faults faults' can moves fit went = absurd can

    -- the extent can be moved
    can_move : (device : Dev) (e f : Extent) → e.first + e.count ≤ length (device_in device devices) → IsFront (length (device_in device devices)) e.first (length moved) f → CanMove (length (device_in device devices)) (length moved) f
    can_move device e f inside front = (subst (λ (at : ℕ). at + f.count ≤ length (device_in device devices)) (sym front.0) (front.2 (omega (arith, inside))), front.1)

    abbrev Refused : Devices Memory → List Bytes → ℕ → ℕ → DeviceStep → Type 0
    Refused mid moved' faults faults' t = HasRoomAt mid commit t × Went Fault moved' faults faults' t × StepFails (memory_falters (device_in (device_of t) mid)) commit t Fault (length (device_in (device_of t) devices)) (device_in (device_of t) devices) moved (device_in (device_of t) devices')

    -- Where there is room a disk in memory does not fail, but where it is not asked.
    pub refused : (mid : Devices Memory) (step there : DeviceStep) (moved' : List Bytes) (faults faults' : ℕ) → IsDoable devices commit job step → Moves job buffer step moved → FittedTo moved devices step there → HasRoomAt mid commit there → Went Fault moved' faults faults' there
        → StepFails (memory_falters (device_in (device_of there) mid)) commit there Fault (length (device_in (device_of there) devices)) (device_in (device_of there) devices) moved (device_in (device_of there) devices') → (devices' ≡ devices) × (commit' ≡ commit)
    refused mid step there moved' faults faults' can moves fit room went fails = by step can moves fit
      where
        by : (step : DeviceStep) → IsDoable devices commit job step → Moves job buffer step moved → FittedTo moved devices step there → (devices' ≡ devices) × (commit' ≡ commit)
        by (ReadExtent device e) can moves fit = let w = subst (Refused mid moved' faults faults') fit (room, went, fails) in (stayed device w.1.1 w.1.2.0, w.1.3)
        by (WriteExtent device e) can moves fit = let w = subst (Refused mid moved' faults faults') fit.1 (room, went, fails) in absurd ((w.2 (can_move device e fit.0 can.2 fit.2)).1 w.0)
        by (Sync device) can moves fit = let w = subst (Refused mid moved' faults faults') fit (room, went, fails) in absurd w.2.1
        by (WriteNode number) can moves fit = let w = subst (Refused mid moved' faults faults') fit (room, went, fails) in absurd (never_put mid.metadata commit (WriteNode number) devices.metadata devices'.metadata tt can w.0 w.2)
        by WriteRoot can moves fit = let w = subst (Refused mid moved' faults faults') fit (room, went, fails) in absurd (never_put mid.metadata commit WriteRoot devices.metadata devices'.metadata tt can w.0 w.2)
        by (ReadMetadata left) can moves fit = absurd can

    abbrev Faltered : Devices Memory → Choice → DeviceStep → Type 0
    Faltered mid choice t = HasRoomAt mid commit t × OthersStay (device_of t) devices devices' × CommitGoes (length devices.metadata) commit t Fault commit' × ((device : Dev) (e : Extent) → t ≡ ReadExtent device e → device_in device devices' ≡ device_in device devices)
        × StepFails (falters_as (device_in (device_of t) mid) (device_of t) choice) commit t Fault (length (device_in (device_of t) devices)) (device_in (device_of t) devices) moved (device_in (device_of t) devices')

    -- Over disks that fail by a choice it has landed where that says so.
    pub faltered : (mid : Devices Memory) (choice : Choice) (step there : DeviceStep) (commit'' : Option RunningCommit) → IsDoable devices commit job step → Moves job buffer step moved → FittedTo moved devices step there → HasRoomAt mid commit there → OthersStay (device_of there) devices devices'
        → CommitGoes (length devices.metadata) commit there Fault commit' → ((device : Dev) (e : Extent) → there ≡ ReadExtent device e → device_in device devices' ≡ device_in device devices)
        → StepFails (falters_as (device_in (device_of there) mid) (device_of there) choice) commit there Fault (length (device_in (device_of there) devices)) (device_in (device_of there) devices) moved (device_in (device_of there) devices')
        → commit'' ≡ commit_by commit' (Device step) Fault Plain → FailsAt choice devices commit job buffer step devices' commit''
    faltered mid choice step there commit'' can moves fit room others goes reads fails ends = by step can moves fit ends
      where
        ended : commit'' ≡ led commit' Fault → commit'' ≡ None
        ended e = e ∙ led_none commit'

        by : (step : DeviceStep) → IsDoable devices commit job step → Moves job buffer step moved → FittedTo moved devices step there → commit'' ≡ commit_by commit' (Device step) Fault Plain → FailsAt choice devices commit job buffer step devices' commit''
        by (ReadExtent device e) can moves fit ends = let w = subst (Faltered mid choice) fit (room, others, goes, reads, fails) in failed_read devices commit devices' commit'' choice job buffer device e can (stayed device w.1 (w.3 device e refl)) (ends ∙ w.2)
        by (WriteExtent device e) can moves fit ends =
            let w = subst (Faltered mid choice) fit.1 (room, others, goes, reads, fails) in
            let wrote = w.4 (can_move device e fit.0 can.2 fit.2) in
            let same : wrote.0 ≡ lands device choice = wrote.1 w.0 in
            failed_write devices commit devices' commit'' choice job buffer device e can (rebuilt device _ w.1 (wrote.2 ∙ ap (λ (l : ℕ → Bool). written_where l (device_in device devices) fit.0.first (take fit.0.count moved)) same ∙ all_written (lands device choice) device e fit.0 fit.2 moves)) (ends ∙ w.2)
        by (Sync device) can moves fit ends =
            let w = subst (Faltered mid choice) fit (room, others, goes, reads, fails) in
            failed_sync devices commit devices' commit'' choice job buffer device can (rebuilt device _ w.1 (w.4.2 ∙ ap (λ (l : ℕ → Bool). synced_where l (device_in device devices)) w.4.1)) (of device w.2 ends)
          where
            of : (device : Dev) → CommitGoes (length devices.metadata) commit (Sync device) Fault commit' → commit'' ≡ commit_by commit' (Device (Sync device)) Fault Plain → commit'' ≡ commit_by commit (Device (Sync device)) Fault Plain
            of Metadata goes ends = ended ends ∙ sym (led_none commit)
            of Cache goes ends = ends ∙ goes
            of Origin goes ends = ends ∙ goes
        by (WriteNode number) can moves fit ends =
            let w = subst (Faltered mid choice) fit (room, others, goes, reads, fails) in
            failed_put devices commit devices' commit'' choice job buffer (WriteNode number) tt (landed_put mid.metadata choice commit (WriteNode number) devices.metadata devices'.metadata tt can w.0 w.4) (rebuilt Metadata _ w.1 refl) (ended ends)
        by WriteRoot can moves fit ends =
            let w = subst (Faltered mid choice) fit (room, others, goes, reads, fails) in
            failed_put devices commit devices' commit'' choice job buffer WriteRoot tt (landed_put mid.metadata choice commit WriteRoot devices.metadata devices'.metadata tt can w.0 w.4) (rebuilt Metadata _ w.1 refl) (ended ends)
        by (ReadMetadata left) can moves fit ends = absurd can

-- ---- disks in memory

pub as_many : (step : DeviceStep) (buffer buffer' : List Bytes) → BufferStays step buffer buffer' → length buffer' ≡ length buffer
as_many (ReadExtent device e) buffer buffer' stays = stays
as_many step buffer buffer' stays = ap length stays

contents_at_both : (device : Dev) (old new : Devices Memory) (P : ℕ → List History → List History → Type 0) → P (length (device_in device old).contents) (device_in device old).contents (device_in device new).contents
    → P (length (device_in device (contents_of old))) (device_in device (contents_of old)) (device_in device (contents_of new))
contents_at_both Metadata old new P p = p
contents_at_both Cache old new P p = p
contents_at_both Origin old new P p = p

pub others_of : (device : Dev) (old new : Devices Memory) → OthersStay device old new → OthersStay device (contents_of old) (contents_of new)
others_of Metadata old new o = (ap (λ (d : Memory). d.contents) o.0, ap (λ (d : Memory). d.contents) o.1)
others_of Cache old new o = (ap (λ (d : Memory). d.contents) o.0, ap (λ (d : Memory). d.contents) o.1)
others_of Origin old new o = (ap (λ (d : Memory). d.contents) o.0, ap (λ (d : Memory). d.contents) o.1)

module _ (old new : Devices Memory) (commit commit' : Option RunningCommit) (job : Job) (buffer moved moved' : List Bytes) (step there : DeviceStep) (can : IsDoable (contents_of old) commit job step) (moves : Moves job buffer step moved) (fit : FittedTo moved (contents_of old) step there) where
  abbrev Did : Got → Type 0
  Did got = DidStep commit there got (length (device_in (device_of there) old).contents) (device_in (device_of there) old).contents (device_in (device_of there) old).faults moved moved' (device_in (device_of there) new).contents (device_in (device_of there) new).faults

  went : (got : Got) → BufferStays there moved moved' → OthersStay (device_of there) old new → Did got → CommitGoes (length old.metadata.contents) commit there got commit'
      → Went (contents_of old) (contents_of new) commit commit' job buffer moved got moved' (device_in (device_of there) old).faults (device_in (device_of there) new).faults there
  went got stays others did goes = (
    stays,
    others_of (device_of there) old new others,
    contents_at_both (device_of there) old new (λ size was is. DidStep commit there got size was (device_in (device_of there) old).faults moved moved' is (device_in (device_of there) new).faults) did,
    goes,
  )

  pub does_so : BufferStays there moved moved' → OthersStay (device_of there) old new → Did Done → CommitGoes (length old.metadata.contents) commit there Done commit' → DoesOn (contents_of old) commit job buffer step (read_by step moved') (contents_of new) commit'
  does_so stays others did goes = performed (contents_of old) (contents_of new) commit commit' job buffer moved step there moved' _ _ can moves fit (went Done stays others did goes)

  pub refused_so : HasRoomAt old commit there → BufferStays there moved moved' → OthersStay (device_of there) old new → Did Fault → CommitGoes (length old.metadata.contents) commit there Fault commit'
      → StepFails (memory_falters (device_in (device_of there) old)) commit there Fault (length (device_in (device_of there) old).contents) (device_in (device_of there) old).contents moved (device_in (device_of there) new).contents → (contents_of new ≡ contents_of old) × (commit' ≡ commit)
  refused_so room stays others did goes fails = refused (contents_of old) (contents_of new) commit commit' job buffer moved old step there moved' _ _ can moves fit room (went Fault stays others did goes)
      (contents_at_both (device_of there) old new (λ size was is. StepFails (memory_falters (device_in (device_of there) old)) commit there Fault size was moved is) fails)

pub falters_so : (old new : Devices Memory) (commit commit' commit'' : Option RunningCommit) (job : Job) (buffer moved : List Bytes) (step there : DeviceStep) (choice : Choice) → IsDoable (contents_of old) commit job step → Moves job buffer step moved → FittedTo moved (contents_of old) step there → HasRoomAt old commit there
    → OthersStay (device_of there) (contents_of old) (contents_of new) → CommitGoes (length old.metadata.contents) commit there Fault commit' → ((device : Dev) (e : Extent) → there ≡ ReadExtent device e → device_in device (contents_of new) ≡ device_in device (contents_of old))
    → StepFails (falters_as (device_in (device_of there) old) (device_of there) choice) commit there Fault (length (device_in (device_of there) (contents_of old))) (device_in (device_of there) (contents_of old)) moved (device_in (device_of there) (contents_of new))
    → commit'' ≡ commit_by commit' (Device step) Fault Plain → FailsAt choice (contents_of old) commit job buffer step (contents_of new) commit''
falters_so old new commit commit' commit'' job buffer moved step there choice can moves fit room others goes reads fails ends =
    faltered (contents_of old) (contents_of new) commit commit' job buffer moved old choice step there commit'' can moves fit room others goes reads fails ends

-- the same of disks in memory that were wrapped, each as its device, and taken out again
module _ {F : Type 0} (disk : F → Memory) (named : F → Dev) (chosen : F → Choice) (before after : Devices F) (old new : Devices Memory) (choice : Choice) where
  abbrev pub IsWrapped : Dev → Type 0
  IsWrapped d = (disk (device_in d before) ≡ device_in d old) × (named (device_in d before) ≡ d) × (chosen (device_in d before) ≡ choice) × (device_in d new ≡ disk (device_in d after))

  pub wrapped : (P : Ways → ℕ → List History → List History → Type 0) (d : Dev) → IsWrapped d
      → P (falters_as (disk (device_in d before)) (named (device_in d before)) (chosen (device_in d before))) (length (disk (device_in d before)).contents) (disk (device_in d before)).contents (disk (device_in d after)).contents
      → P (falters_as (device_in d old) d choice) (length (device_in d (contents_of old))) (device_in d (contents_of old)) (device_in d (contents_of new))
  wrapped P d is p = contents_at_both d old new (P (falters_as (device_in d old) d choice))
      (subst (λ (m : Memory). P (falters_as (device_in d old) d choice) (length (device_in d old).contents) (device_in d old).contents m.contents) (sym is.3)
      (subst (λ (c : Choice). P (falters_as (device_in d old) d c) (length (device_in d old).contents) (device_in d old).contents (disk (device_in d after)).contents) is.2
      (subst (λ (n : Dev). P (falters_as (device_in d old) n (chosen (device_in d before))) (length (device_in d old).contents) (device_in d old).contents (disk (device_in d after)).contents) is.1
      (subst (λ (m : Memory). P (falters_as m (named (device_in d before)) (chosen (device_in d before))) (length m.contents) m.contents (disk (device_in d after)).contents) is.0 p))))

pub as_fault : (may : Ways) (commit : Option RunningCommit) (step : DeviceStep) (got : Got) (size : ℕ) (was is : List History) (held held' : List Bytes) → got ≡ Fault → held ≡ held' → StepFails may commit step got size was held is → StepFails may commit step Fault size was held' is
as_fault may commit step got size was is held held' e f fails = subst (λ (m : List Bytes). StepFails may commit step Fault size was m is) f (subst (λ (g : Got). StepFails may commit step g size was held is) e fails)

-- ---- nodes and the root of an opening

-- It was written, and the commit goes on.
pub was_put_next : (old new : List History) (commit commit' : Option RunningCommit) (step : DeviceStep) (faults faults' : ℕ) → ComesNext commit step old → Goes (length old) commit step Done commit' → DidPut (length old) commit step Done old faults new faults'
    → (commit' ≡ led commit Done) × WasPut commit step old new
was_put_next old new None commit' step faults faults' next goes did = absurd next
was_put_next old new (Some running) commit' step faults faults' next goes did = (went_on old (Some running) commit' step next goes, (next.0, (did.0 next.0).0))

-- what a step that was performed did, where it puts a node or root
pub as_put : (old new : Devices Memory) (commit commit' : Option RunningCommit) (step : DeviceStep) (got : Got) (held held' : List Bytes) → IsPut step → OthersStay (device_of step) old new → CommitGoes (length old.metadata.contents) commit step got commit'
    → DidStep commit step got (length (device_in (device_of step) old).contents) (device_in (device_of step) old).contents (device_in (device_of step) old).faults held held' (device_in (device_of step) new).contents (device_in (device_of step) new).faults
    → StepFails (memory_falters (device_in (device_of step) old)) commit step got (length (device_in (device_of step) old).contents) (device_in (device_of step) old).contents held (device_in (device_of step) new).contents
    → OthersStay Metadata old new × Goes (length old.metadata.contents) commit step got commit'
    × DidPut (length old.metadata.contents) commit step got old.metadata.contents old.metadata.faults new.metadata.contents new.metadata.faults
    × PutFails (memory_falters old.metadata) (length old.metadata.contents) commit step got old.metadata.contents new.metadata.contents
as_put old new commit commit' (WriteNode number) got held held' put others goes did fails = (others, goes, did, fails)
as_put old new commit commit' WriteRoot got held held' put others goes did fails = (others, goes, did, fails)
as_put old new commit commit' step got held held' put others goes did fails = absurd put

pub put_size : (old new : Devices Memory) (step : DeviceStep) → IsPut step → length (device_in (device_of step) new).contents ≡ length (device_in (device_of step) old).contents → length new.metadata.contents ≡ length old.metadata.contents
put_size old new (WriteNode number) put same = same
put_size old new WriteRoot put same = same
put_size old new step put same = absurd put

-- and it left the other devices
pub put_beside : (old mid new : Devices Memory) → contents_of mid ≡ contents_of old → OthersStay Metadata mid new → contents_of new ≡ record (contents_of old) { metadata = new.metadata.contents }
put_beside old mid new same others = rebuilt (contents_of mid) (contents_of new) Metadata new.metadata.contents (others_of Metadata mid new others) refl
    ∙ ap (λ (d : Devices (List History)). record d { metadata = new.metadata.contents }) same

-- there is room on the metadata device for the node or root that comes next
pub room_there : (devices : Devices Memory) (commit : Option RunningCommit) (step : DeviceStep) → IsPut step → HasRoomAt devices commit step → IfSome commit (λ running. HasRoomFor devices.metadata (sector_put (coming_step running.image running.steps)) 1)
room_there devices commit (WriteNode number) put room = room
room_there devices commit WriteRoot put room = room
room_there devices commit step put room = absurd put

-- A step of an opening that failed over disks that fail by a choice has landed where that says so.
pub opening_faltered : (old new : Devices Memory) (commit : Option RunningCommit) (step : DeviceStep) (moved : List Bytes) (choice : Choice) → device_step_of (Device step) ≡ Some step → PutComes step commit old.metadata.contents → HasRoomAt old commit step → OthersStay (device_of step) (contents_of old) (contents_of new)
    → StepFails (falters_as (device_in (device_of step) old) (device_of step) choice) commit step Fault (length (device_in (device_of step) (contents_of old))) (device_in (device_of step) (contents_of old)) moved (device_in (device_of step) (contents_of new)) → ((left : ℕ) → step ≡ ReadMetadata left → ⊥) → FailsOn commit step choice (contents_of old) (contents_of new)
opening_faltered old new commit (Sync device) moved choice kind comes room others fails reads = rebuilt (contents_of old) (contents_of new) device _ others (fails.2 ∙ ap (λ (l : ℕ → Bool). synced_where l (device_in device (contents_of old))) fails.1)
opening_faltered old new commit (WriteNode number) moved choice kind comes room others fails reads =
    (landed_put old.metadata choice commit (WriteNode number) old.metadata.contents new.metadata.contents tt comes room fails, rebuilt (contents_of old) (contents_of new) Metadata _ others refl)
opening_faltered old new commit WriteRoot moved choice kind comes room others fails reads =
    (landed_put old.metadata choice commit WriteRoot old.metadata.contents new.metadata.contents tt comes room fails, rebuilt (contents_of old) (contents_of new) Metadata _ others refl)
opening_faltered old new commit (ReadMetadata left) moved choice kind comes room others fails reads = absurd (reads left refl)
opening_faltered old new commit (ReadExtent device e) moved choice kind comes room others fails reads = absurd (cc)
opening_faltered old new commit (WriteExtent device e) moved choice kind comes room others fails reads = absurd (cc)

-- a step that fails leaves the commit
pub still : (size : ℕ) (commit commit' : Option RunningCommit) (step : DeviceStep) → CommitGoes size commit step Fault commit' → commit' ≡ commit
still size commit commit' (Sync Metadata) goes = still_there size commit commit' (Sync Metadata) goes
still size commit commit' (WriteNode number) goes = still_there size commit commit' (WriteNode number) goes
still size commit commit' WriteRoot goes = still_there size commit commit' WriteRoot goes
still size commit commit' step goes = goes

-- ---- a sync of an opening

-- a disk in memory does not fail to sync
synced_so : (disk : Memory) (got : Got) (old new : List History) (faults faults' : ℕ) → IsOutcome got → DidSync got old faults new faults' → SyncFails (memory_falters disk) got old new → (got ≡ Done) × (new ≡ synced old)
synced_so disk Done old new faults faults' is did fails = (refl, did.0)
synced_so disk Fault old new faults faults' is did fails = absurd fails.1
synced_so disk got old new faults faults' is did fails = absurd is

sync_goes : (device : Dev) (size : ℕ) (old : List History) (commit commit' : Option RunningCommit) → size ≡ length old → SyncComes device commit old → CommitGoes size commit (Sync device) Done commit' → commit' ≡ commit_synced device commit
sync_goes Cache size old commit commit' e comes goes = goes
sync_goes Origin size old commit commit' e comes goes = goes
sync_goes Metadata size old None commit' e comes goes = goes
sync_goes Metadata size old (Some running) commit' e comes goes =
    went_on old (Some running) commit' (Sync Metadata) (comes, tt) (subst (λ (n : ℕ). Goes n (Some running) (Sync Metadata) Done commit') e goes)

pub sync_done : (old new : Devices Memory) (commit commit' : Option RunningCommit) (device : Dev) (got : Got) → IsOutcome got → SyncComes device commit old.metadata.contents → OthersStay device old new
    → DidSync got (device_in device old).contents (device_in device old).faults (device_in device new).contents (device_in device new).faults → SyncFails (memory_falters (device_in device old)) got (device_in device old).contents (device_in device new).contents
    → CommitGoes (length old.metadata.contents) commit (Sync device) got commit' → (commit' ≡ commit_synced device commit) × (contents_of new ≡ with_device device (contents_of old) (synced (device_in device (contents_of old))))
sync_done old new commit commit' device got is comes others did fails goes =
    let so = synced_so (device_in device old) got _ _ _ _ is did fails in (
      sync_goes device (length old.metadata.contents) old.metadata.contents commit commit' refl comes (subst (λ (g : Got). CommitGoes (length old.metadata.contents) commit (Sync device) g commit') so.0 goes),
      rebuilt (contents_of old) (contents_of new) device _ (others_of device old new others) (contents_at_both device old new (λ size was now. now ≡ synced was) so.1),
    )
