-- What single steps of an actor do is what wb_promise says.
use Rattle.std.proofs.Common.{◌≡◌, ◌≤◌, ◌==◌, ◌&&◌, ℕ, zero, suc, Bool, true, false, List, [], ◌∷◌, Option, Some, None, refl, sym, ap, subst, ◌∙◌, arith, if◌then◌else◌, drop, length, map, take, slice_get, is_some}
use Rattle.std.specs.declared.alloc.Global.{Global}
use Rattle.wb_types.specs.declared.mode.Dev.{Dev}
use Rattle.wb_types.specs.declared.mode.Dev.TheVariants.{Metadata, Cache, Origin}
use Rattle.wb_types.specs.declared.extent.Extent.{Extent}
use Rattle.wb_disk.specs.Device.{Content as Bytes, History, newest, synced}
use Rattle.wb_disk.specs.Extents.{GivesEach, written_each, written_where}
use Rattle.wb_disk.specs.Crash.{Choice}
use Rattle.wb_disk.specs.Failing.{lands, synced_where}
use Rattle.wb_words.specs.Effects.{result_of}
use Rattle.wb_words.specs.SharedWords.{Words, flag}
use Rattle.wb_words.specs.declared.step.CellStep.{CellStep}
use Rattle.wb_cells.specs.Crews.{CrewState, crew_after}
use Rattle.wb_policy.specs.declared.quiet.Quiet.{Quiet}
use Rattle.wb_tree.specs.declared.image.Image.{Image}
use Rattle.wb_meta.specs.declared.commit_steps.CommitSteps.{CommitSteps}
use Rattle.wb_meta.specs.declared.commit_steps.CommitSteps.TheVariants.{NodesWritten, NodesSynced, RootWritten, Done as Committed}
use Rattle.wb_types.specs.Limits.{most_nodes}
use Rattle.wb_desk.specs.Commits.{HasBegun}
use Rattle.wb_desk.specs.Desks.{DeskState}
use Rattle.wb_desk.specs.Entries.{MayUnmap, HasLeft, mapped, unmapped}
use Rattle.wb_types.specs.declared.number.OBlock.{OBlock}
use Rattle.wb_types.specs.declared.number.CBlock.{CBlock}
use Rattle.wb_types.specs.declared.refusal.Refusal.TheVariants.{Memory}
use Rattle.wb_tasks.specs.Plan.{Fits, got_of}
use Rattle.wb_tasks.specs.declared.step.Answer.{Answer}
use Rattle.wb_tasks.specs.declared.step.Answer.TheVariants.{Done as Finished}
use Rattle.wb_tasks.specs.declared.step.DeviceStep.{DeviceStep}
use Rattle.wb_tasks.specs.declared.step.DeviceStep.TheVariants.{Read as ReadExtent, Write as WriteExtent, Sync, WriteNode, WriteRoot}
use Rattle.wb_tasks.specs.declared.step.DeskStep.{DeskStep}
use Rattle.wb_tasks.specs.declared.step.DeskStep.TheVariants.{Map, Unmap, ReleaseOrder, Arrive, Ask, BeginCommit, EndCommit, BreakCommit}
use Rattle.wb_tasks.specs.declared.step.Want.{Want}
use Rattle.wb_tasks.specs.declared.step.Want.TheVariants.{Cell, Device, Desk, End}
use Rattle.wb_tasks.specs.declared.step.Got.{Got}
use Rattle.wb_tasks.specs.declared.step.Got.TheVariants.{Done, Fault, Began, Ticket, Served, Refused as GotRefused}
use Rattle.wb_devices.specs.declared.devices.Devices.{Devices}
use Rattle.wb_devices.specs.declared.running.RunningCommit.{RunningCommit}
use Rattle.wb_devices.specs.Committing.{is_coming}
use Rattle.wb_devices.specs.Moving.{device_in}
use Rattle.wb_stage.specs.Asking.{DidMap, DidUnmap, DidRelease}
use Rattle.wb_stage.specs.Sharing.{ShareIsCovered, MayAskNow}
use Rattle.wb_stage.specs.Stages.{DidArrive, DidAsk, DidAskWith, DidBeginWith, EndsWith, IsServed, is_all_done}
use Rattle.wb_stage.specs.declared.share.Share.{Share}
use Rattle.wb_promise.specs.declared.job.Job.{Job}
use Rattle.wb_promise.specs.declared.job.Job.TheVariants.{Read, Write, Flush, Suspend, Open, Invalidate, Migrate}
use Rattle.wb_promise.specs.States.{Shape, Actor, Stands, Target as RunTarget, with_device}
use Rattle.wb_promise.specs.Happenings.{Chosen, Plain, Commits, Asks, AreWhole, Awaits, DoesBegin, DoesSync, FailsSync, Gives}
use Rattle.wb_promise.specs.Effects.{contents_for, led}
use Rattle.wb_machine.specs.declared.target.Target.{Target}
use Rattle.wb_machine.specs.Life.{MayBePut, Now, WasPut}
use Rattle.wb_machine.specs.Serving.{Allows, DidAskFor, IsAskable, ComesNext, DoesOn, FailsAt, IsDoable, IsPossible, IsPut, Performs, PutsSector, DeskWasAsked, IsCopy, Migrates, Unmaps, chosen_at, commit_by, is_copied, noted_read, over, stood, target_told, GivesUp}
use Rattle.wb_policy.specs.declared.order.Order.{Order}

-- ---- devices

-- a device in its own place
pub same_device : (device : Dev) (devices : Devices (List History)) → with_device device devices (device_in device devices) ≡ devices
same_device Metadata devices = refl
same_device Cache devices = refl
same_device Origin devices = refl

first_there : {X : Type 0} (xs : List X) (i : ℕ) (x : X) → slice_get xs i ≡ Some x → slice_get (drop i xs) 0 ≡ Some x
first_there [] zero x e = e
first_there [] (suc i) x e = absurd (cc)
first_there (y ∷ ys) zero x e = e
first_there (y ∷ ys) (suc i) x e = first_there ys i x e

drop_more : {X : Type 0} (xs : List X) (i : ℕ) (y : X) (ys : List X) → drop i xs ≡ y ∷ ys → drop (suc i) xs ≡ ys
drop_more [] zero y ys e = absurd (cc)
drop_more [] (suc i) y ys e = absurd (cc)
drop_more (x ∷ xs) zero y ys e = cc
drop_more (x ∷ xs) (suc i) y ys e = drop_more xs i y ys e

-- what was read of each sector is what it holds
given_copy : (device : List History) (first count : ℕ) (read : List Bytes) → length read ≡ count → GivesEach device first read → read ≡ map newest (take count (drop first device))
given_copy device first zero [] many g = refl
given_copy device first (suc count) [] many g = absurd (omega (arith, many))
given_copy device first zero (c ∷ cs) many g = absurd (omega (arith, many))
given_copy device first (suc count) (c ∷ cs) many g = one (drop first device) refl (given_copy device (suc first) count cs (omega (arith, many)) g.1)
  where
    one : (hs : List History) → drop first device ≡ hs → cs ≡ map newest (take count (drop (suc first) device)) → c ∷ cs ≡ map newest (take (suc count) hs)
    one [] e rest = absurd (let none = first_there device first g.0.0 g.0.1 in let bad : slice_get {X = History} [] 0 ≡ Some g.0.0 = ap (λ hs. slice_get hs 0) (sym e) ∙ none in cc)
    one (h ∷ hs) e rest =
        let at : Some h ≡ Some g.0.0 = ap (λ hs. slice_get hs 0) (sym e) ∙ first_there device first g.0.0 g.0.1 in
        let same : h ≡ g.0.0 = cc in
        let here : c ≡ newest h = sym g.0.2 ∙ ap newest (sym same) in
        let later : drop (suc first) device ≡ hs = drop_more device first h hs e in
        ap (λ x. x ∷ cs) here ∙ ap (λ xs. newest h ∷ xs) (rest ∙ ap (λ xs. map newest (take count xs)) later)

-- no commit runs after a fault
pub led_none : (commit : Option RunningCommit) → led commit Fault ≡ None
led_none None = refl
led_none (Some running) = refl

module _ (devices : Devices (List History)) (commit : Option RunningCommit) (devices' : Devices (List History)) (commit' : Option RunningCommit) where
  -- what the job writes next is in its buffer
  module _ (buffer : List Bytes) where
    pub did_read : (job : Job) (device : Dev) (e : Extent) (read : List Bytes) → IsDoable devices commit job (ReadExtent device e) → length read ≡ e.count → GivesEach (device_in device devices) e.first read → devices' ≡ devices → commit' ≡ commit →
        DoesOn devices commit job buffer (ReadExtent device e) read devices' commit'
    did_read (Read extent) device e read can many each d c = record { gives = λ shape t actors x. (can.1, refl, refl, many, each); copies = tt; devices_are = d ∙ sym (same_device device devices); commit_is = c }
    did_read (Migrate migration block) device e read can many each d c = record {
      gives = λ shape t actors x. (can.1, (refl, refl), refl, can.2);
      copies = given_copy (device_in device devices) e.first e.count read many each;
      devices_are = d ∙ sym (same_device device devices);
      commit_is = c;
    }
    did_read job device e read can many each d c = absurd can.0

    pub did_write : (job : Job) (device : Dev) (e : Extent) → IsDoable devices commit job (WriteExtent device e) →
        devices' ≡ with_device device devices (written_each (device_in device devices) e.first (contents_for job buffer e.count)) → commit' ≡ commit → DoesOn devices commit job buffer (WriteExtent device e) [] devices' commit'
    did_write (Write extent content) device e can d c = record { gives = λ shape t actors x. (can.1, (refl, refl), refl, can.2); copies = tt; devices_are = d; commit_is = c }
    did_write (Migrate migration block) device e can d c = record { gives = λ shape t actors x. (can.1, (refl, refl), refl, can.2); copies = tt; devices_are = d; commit_is = c }
    did_write job device e can d c = absurd can.0

  syncs_so : (commit : Option RunningCommit) → ComesNext commit (Sync Metadata) devices.metadata → (t : RunTarget Quiet) → DoesSync {P = Quiet} {A = Global} (Stands t) commit devices.metadata Plain
  syncs_so None can t = can
  syncs_so (Some running) can t = (can.0, refl)

  module _ (buffer : List Bytes) where
    pub did_sync : (job : Job) (device : Dev) (read : List Bytes) → IsDoable devices commit job (Sync device) → read ≡ [] → devices' ≡ with_device device devices (synced (device_in device devices)) → commit' ≡ commit_by commit (Device (Sync device)) Done Plain →
        DoesOn devices commit job buffer (Sync device) read devices' commit'
    did_sync Flush Metadata read can r d c = record { gives = λ shape t actors x. (r, refl, syncs_so commit can t); copies = tt; devices_are = d; commit_is = c }
    did_sync job Metadata read can r d c = record { gives = λ shape t actors x. (r, refl, syncs_so commit can t); copies = tt; devices_are = d; commit_is = c }
    did_sync Flush device read can r d c = record { gives = λ shape t actors x. ((r, refl), refl); copies = tt; devices_are = d; commit_is = c }
    did_sync job device read can r d c = record { gives = λ shape t actors x. ((r, refl), refl); copies = tt; devices_are = d; commit_is = c }

    pub did_put : (job : Job) (step : DeviceStep) (read : List Bytes) → IsPut step → read ≡ [] → WasPut commit step devices.metadata devices'.metadata → devices' ≡ record devices { metadata = devices'.metadata } → commit' ≡ led commit Done →
        DoesOn devices commit job buffer step read devices' commit'
    did_put Flush (WriteNode number) read put r p d c = record { gives = λ shape t actors x. (r, refl, p); copies = tt; devices_are = d; commit_is = c }
    did_put job (WriteNode number) read put r p d c = record { gives = λ shape t actors x. (r, refl, p); copies = tt; devices_are = d; commit_is = c }
    did_put Flush WriteRoot read put r p d c = record { gives = λ shape t actors x. (r, refl, p); copies = tt; devices_are = d; commit_is = c }
    did_put job WriteRoot read put r p d c = record { gives = λ shape t actors x. (r, refl, p); copies = tt; devices_are = d; commit_is = c }
    did_put job step read put r p d c = absurd put

  -- ---- that fail

  module _ (choice : Choice) (job : Job) (buffer : List Bytes) where
    pub failed_read : (device : Dev) (e : Extent) → IsDoable devices commit job (ReadExtent device e) → devices' ≡ devices → commit' ≡ commit → FailsAt choice devices commit job buffer (ReadExtent device e) devices' commit'
    failed_read device e can d c = record { falters = λ t actors. (refl, can.1); devices_are = d ∙ sym (same_device device devices); commit_is = c }

    pub failed_write : (device : Dev) (e : Extent) → IsDoable devices commit job (WriteExtent device e) → devices' ≡ with_device device devices (written_where (lands device choice) (device_in device devices) e.first (contents_for job buffer e.count)) → commit' ≡ commit → FailsAt choice devices commit job buffer (WriteExtent device e) devices' commit'
    failed_write device e can d c = record { falters = λ t actors. (refl, can.1); devices_are = d; commit_is = c }

    faults_so : (commit : Option RunningCommit) → ComesNext commit (Sync Metadata) devices.metadata → (t : RunTarget Quiet) → FailsSync {P = Quiet} {A = Global} (Stands t) commit devices.metadata
    faults_so None can t = can
    faults_so (Some running) can t = can

    pub failed_sync : (device : Dev) → IsDoable devices commit job (Sync device) → devices' ≡ with_device device devices (synced_where (lands device choice) (device_in device devices)) → commit' ≡ commit_by commit (Device (Sync device)) Fault Plain → FailsAt choice devices commit job buffer (Sync device) devices' commit'
    failed_sync Metadata can d c = record { falters = λ t actors. (refl, faults_so commit can t); devices_are = d; commit_is = c }
    failed_sync device can d c = record { falters = λ t actors. refl; devices_are = d; commit_is = c }

    pub failed_put : (step : DeviceStep) → IsPut step → MayBePut commit choice step devices.metadata devices'.metadata → devices' ≡ record devices { metadata = devices'.metadata } → commit' ≡ None → FailsAt choice devices commit job buffer step devices' commit'
    failed_put (WriteNode number) put p d c = record { falters = λ t actors. p; devices_are = d; commit_is = c ∙ sym (led_none commit) }
    failed_put WriteRoot put p d c = record { falters = λ t actors. p; devices_are = d; commit_is = c ∙ sym (led_none commit) }
    failed_put step put p d c = absurd put

-- the step that comes next of a commit, and that writes
pub puts_sector : (image : Image) (steps : CommitSteps) (step : DeviceStep) (b : Bool) → IsPut step → is_coming image steps step && b ≡ true → PutsSector image steps
puts_sector image (NodesWritten count) (WriteNode number) b p e = there (number == count) (is_some (slice_get image.nodes.items count)) b e
  where
    there : (x y z : Bool) → (x && y) && z ≡ true → y ≡ true
    there true true true e = refl
    there true true false e = absurd (cc)
    there true false z e = absurd (cc)
    there false y z e = absurd (cc)
puts_sector image NodesSynced WriteRoot b p e = tt
puts_sector image (NodesWritten count) WriteRoot b p e = absurd (cc)
puts_sector image NodesSynced (WriteNode number) b p e = absurd (cc)
puts_sector image RootWritten step b p e = no_more step b p e
  where
    no_more : (step : DeviceStep) (b : Bool) → IsPut step → is_coming image RootWritten step && b ≡ true → PutsSector image RootWritten
    no_more (WriteNode number) b p e = absurd (cc)
    no_more WriteRoot b p e = absurd (cc)
    no_more step b p e = absurd p
puts_sector image Committed step b p e = absurd (cc)
puts_sector image steps step b p e = absurd p

-- ---- the desk

-- what is asked for otherwise than by the beginning of a suspend's commit is served
pub served : (step : DeskStep) → ((most : ℕ) → step ≡ BeginCommit most → ⊥) → IsServed (Desk step)
served (BeginCommit most) n = n most refl
served step n = tt

-- who has not to wait goes on
pub going : (desk : DeskState Quiet) (share : Share) (step : DeskStep) → (Awaits desk share (Desk step) → ⊥) → MayAskNow desk share step
going desk share (Ask most) n = n
going desk share step n = tt

module _ (desk : DeskState Quiet) (commit : Option RunningCommit) (desk' : DeskState Quiet) (commit' : Option RunningCommit) (held : List Order) (seen : List Bool) (share : Share) where
  -- one call of the desk that begins no suspend's commit
  pub asked_plainly : (with_entry : Quiet → ℕ → ℕ → Quiet) (without_entry : Quiet → ℕ → Quiet) (step : DeskStep) (got : Got) → ((most : ℕ) → step ≡ BeginCommit most → ⊥) → DidAsk with_entry without_entry held step share got desk commit desk' commit' → DidAskFor held seen share step got desk commit desk' commit'
  asked_plainly enters leaves (BeginCommit most) got n did = absurd (n most refl)
  asked_plainly enters leaves step got n did = (enters, leaves, did)

  -- and one that does
  pub suspend_begins : (step : DeskStep) (most : ℕ) (got : Got) → step ≡ BeginCommit most → DidBeginWith (λ policy block. 0) seen most got desk commit desk' commit' → DidAskFor held seen share step got desk commit desk' commit'
  suspend_begins step most got e did = subst (λ (s : DeskStep). DidAskFor held seen share s got desk commit desk' commit') (sym e) (λ policy block. 0, did)

  abbrev Asked : DeskStep → Job → Got → Type 0
  Asked step job got = DeskWasAsked desk commit job held seen share step got desk' commit'

  -- the image of a commit that has begun is whole
  abbrev BeginsWhole : Got → Type 0
  BeginsWhole got = (nodes : ℕ) (running : RunningCommit) → got ≡ Began nodes → commit' ≡ Some running → AreWhole running.image

  -- what begins is so whatever desk it left
  begins : (bits : Option (List Bool)) (most nodes : ℕ) (running : RunningCommit) → nodes ≤ most → running.steps ≡ NodesWritten 0 → nodes ≡ length running.image.nodes.items → (hint_of : Quiet → ℕ → ℕ) → HasBegun hint_of bits desk running.image desk' → AreWhole running.image
      → DoesBegin {P = Quiet} {A = Global} bits most desk (Began nodes) (Commits running desk'.tree)
  begins bits most nodes running few steps many hint_of begun whole =
      (few, many, steps, (hint_of, subst (λ (d : DeskState Quiet). HasBegun hint_of bits desk running.image d) begun.state begun), whole)

  -- What a suspend is given is given to whoever takes the step. (A clause that names one case has the next one look at each of the others.)
  module _ (shape : Shape) (devices : Devices (List History)) (words : Words) (actors : List Actor) (x : Actor) where
    abbrev w : Now
    w = stood devices commit (record { words = words; desk = desk }) actors

    given : (job : Job) (step : DeskStep) (got : Got) (chosen : Chosen Quiet Global) → Gives shape w x Suspend (Desk step) got [] chosen → Gives shape w x job (Desk step) got [] chosen
    given job (Map block place) got chosen g = absurd g
    given job (Unmap block) got chosen g = absurd g
    given job (ReleaseOrder block) got chosen g = absurd g
    given Suspend step got chosen g = g
    given job step got chosen g = g

  -- a flush arrives: it leads a commit, is refused one, or gets a ticket
  did_arrive : (job : Job) (most : ℕ) (got : Got) → most_nodes desk.geometry.version false desk.geometry.cache_blocks ≤ most → Fits (Desk (Arrive most)) got → BeginsWhole got → DidArrive most got desk commit desk' commit' → Asked (Arrive most) job got
  did_arrive job most (Began nodes) enough fits whole did =
      let does = begins None most nodes did.1.0 fits did.1.2 did.1.3 did.1.4.0 did.1.4.1 (whole nodes did.1.0 refl did.1.1) in
      record { chosen = Commits did.1.0 desk'.tree; gives = λ shape devices words actors x own. given shape devices words actors x job (Arrive most) (Began nodes) (Commits did.1.0 desk'.tree) (refl, (did.0, does)); desk_is = did.1.4.1.state; commit_is = did.1.1 }
  did_arrive job most (GotRefused refusal) enough fits whole did =
      record { chosen = Plain; gives = λ shape devices words actors x own. given shape devices words actors x job (Arrive most) (GotRefused refusal) Plain (refl, did.2 enough); desk_is = did.1; commit_is = did.0 }
  did_arrive job most Ticket enough fits whole did =
      record { chosen = Plain; gives = λ shape devices words actors x own. given shape devices words actors x job (Arrive most) Ticket Plain (refl, (did.0, did.1)); desk_is = did.2; commit_is = did.3 }
  did_arrive job most got enough fits whole did = absurd did

  -- one with a ticket asks: it is served, leads a commit, or is refused one
  did_ask_again : (job : Job) (most : ℕ) (got : Got) → most_nodes desk.geometry.version false desk.geometry.cache_blocks ≤ most → Fits (Desk (Ask most)) got → BeginsWhole got → DidAskWith share most got desk commit desk' commit' → Asked (Ask most) job got
  did_ask_again job most Served enough fits whole did = record {
    chosen = Plain;
    gives = λ shape devices words actors x own. given shape devices words actors x job (Ask most) Served Plain (refl, subst (λ (s : Share). ShareIsCovered desk s) (sym own.2) did.0);
    desk_is = did.1;
    commit_is = did.2;
  }
  did_ask_again job most (Began nodes) enough fits whole did =
      let does = begins None most nodes did.1.1.0 fits did.1.1.2 did.1.1.3 did.1.1.4.0 did.1.1.4.1 (whole nodes did.1.1.0 refl did.1.1.1) in
      record {
        chosen = Commits did.1.1.0 desk'.tree;
        gives = λ shape devices words actors x own. given shape devices words actors x job (Ask most) (Began nodes) (Commits did.1.1.0 desk'.tree) (refl, (subst (λ (s : Share). ¬ ShareIsCovered desk s) (sym own.2) did.0, (did.1.0, does)));
        desk_is = did.1.1.4.1.state;
        commit_is = did.1.1.1;
      }
  did_ask_again job most (GotRefused refusal) enough fits whole did = record {
    chosen = Plain;
    gives = λ shape devices words actors x own. given shape devices words actors x job (Ask most) (GotRefused refusal) Plain (refl, (subst (λ (s : Share). ¬ ShareIsCovered desk s) (sym own.2) (did.2 enough).0, (did.2 enough).1));
    desk_is = did.1;
    commit_is = did.0;
  }
  did_ask_again job most got enough fits whole did = absurd did

  -- a suspend's commit begins, or is refused
  did_begin : (job : Job) (most : ℕ) (got : Got) (hint_of : Quiet → ℕ → ℕ) → most_nodes desk.geometry.version true desk.geometry.cache_blocks ≤ most → Fits (Desk (BeginCommit most)) got → BeginsWhole got → DidBeginWith hint_of seen most got desk commit desk' commit' → Asked (BeginCommit most) job got
  did_begin job most (Began nodes) hint_of enough fits whole did =
      let does = begins (Some seen) most nodes did.0 fits did.2 did.3 hint_of did.4 (whole nodes did.0 refl did.1) in
      record {
        chosen = Commits did.0 desk'.tree;
        gives = λ shape devices words actors x own. given shape devices words actors x job (BeginCommit most) (Began nodes) (Commits did.0 desk'.tree)
            (refl, subst (λ (bits : List Bool). DoesBegin {P = Quiet} {A = Global} (Some bits) most desk (Began nodes) (Commits did.0 desk'.tree)) (sym own.1) does);
        desk_is = did.4.state;
        commit_is = did.1;
      }
  did_begin job most (GotRefused refusal) hint_of enough fits whole did =
      record { chosen = Plain; gives = λ shape devices words actors x own. given shape devices words actors x job (BeginCommit most) (GotRefused refusal) Plain (refl, did.1.1 enough); desk_is = did.1.0; commit_is = did.0 }
  did_begin job most got hint_of enough fits whole did = absurd did

  -- a commit of which all was done ends
  ends : (job : Job) → is_all_done commit ≡ true → EndsWith (is_all_done commit) desk commit desk' commit' → Asked EndCommit job Done
  ends job done did =
      let all : EndsWith true desk commit desk' commit' = subst (λ (t : Bool). EndsWith t desk commit desk' commit') done did in
      record { chosen = Plain; gives = λ shape devices words actors x own. given shape devices words actors x job EndCommit Done Plain ((refl, refl), refl, done); desk_is = all.0; commit_is = all.1 }

  -- a migration's block is mapped, or there is no memory for that
  did_map : (with_entry : Quiet → ℕ → ℕ → Quiet) (job : Job) (b : OBlock) (c : CBlock) (got : Got) → Migrates job → Fits (Desk (Map b c)) got → DidMap with_entry b c got desk desk' → commit' ≡ commit → DeskWasAsked desk commit job held seen share (Map b c) got desk' commit'
  did_map with_entry (Migrate migration block) b c Done m f did k = record {
    chosen = Asks desk';
    gives = λ shape devices words actors x own. (refl, (did.0, did.1.0, did.1.1 ∙ ap (λ (p : Quiet). mapped desk c desk'.tree p) (sym (ap (λ (d : DeskState Quiet). d.policy) did.1.1))));
    desk_is = refl;
    commit_is = k;
  }
  did_map with_entry (Migrate migration block) b c (GotRefused Memory) m f did k = record { chosen = Plain; gives = λ shape devices words actors x own. (refl, refl); desk_is = did; commit_is = k }
  did_map with_entry (Migrate migration block) b c (GotRefused refusal) m f did k = absurd f
  did_map with_entry (Migrate migration block) b c got m f did k = absurd did
  did_map with_entry job b c got m f did k = absurd m

  -- a block is unmapped, where the desk has it and its order lets it go
  did_unmap : (without_entry : Quiet → ℕ → Quiet) (job : Job) (b : OBlock) → Unmaps job → DidUnmap without_entry b desk desk' → commit' ≡ commit → DeskWasAsked desk commit job held seen share (Unmap b) Done desk' commit'
  did_unmap without_entry job b m did k = record { chosen = Asks desk'; gives = λ shape devices words actors x own. by_job job m shape devices words actors x; desk_is = refl; commit_is = k }
    where
      left : (may : MayUnmap desk b) → HasLeft without_entry desk b may.cache desk' → HasLeft (λ policy block. desk'.policy) desk b may.cache desk'
      left may l = (l.0, l.1 ∙ ap (λ (p : Quiet). unmapped desk may.cache desk'.tree p) (sym (ap (λ (d : DeskState Quiet). d.policy) l.1)))

      by_job : (job : Job) → Unmaps job → (shape : Shape) (devices : Devices (List History)) (words : Words) (actors : List Actor) (x : Actor) → Gives shape (stood devices commit (record { words = words; desk = desk }) actors) x job (Desk (Unmap b)) Done [] (Asks desk')
      by_job (Migrate migration block) m shape devices words actors x = (refl, refl, (λ may. left may (did.0 may), did.1))
      by_job (Write extent content) m shape devices words actors x = (refl, refl, (λ may. left may (did.0 may), did.1))
      by_job (Invalidate block) m shape devices words actors x = (refl, refl, (λ may. left may (did.0 may), did.1))
      by_job job m shape devices words actors x = absurd m

  -- or an order of those that the job may give up is
  did_release : (job : Job) (b : OBlock) → GivesUp job → DidRelease held b desk desk' → commit' ≡ commit → DeskWasAsked desk commit job held seen share (ReleaseOrder b) Done desk' commit'
  did_release (Migrate migration block) b m up k = record { chosen = Asks desk'; gives = λ shape devices words actors x own. (refl, refl, subst (λ (os : List Order). DidRelease os b desk desk') (sym own.0) up); desk_is = refl; commit_is = k }
  did_release Flush b m up k = record { chosen = Asks desk'; gives = λ shape devices words actors x own. (refl, refl, subst (λ (os : List Order). DidRelease os b desk desk') (sym own.0) up); desk_is = refl; commit_is = k }
  did_release job b m up k = absurd m

  -- so it is with whatever the desk was asked
  pub did_ask : (job : Job) (step : DeskStep) (got : Got) → IsAskable commit job step → Allows desk.geometry seen (Desk step) → Fits (Desk step) got → BeginsWhole got → DidAskFor held seen share step got desk commit desk' commit' → Asked step job got
  did_ask job (Map b c) got askable enough fits whole did = did_map did.0 job b c got askable fits did.2.0 did.2.1
  did_ask job (Unmap b) Done askable enough fits whole did = did_unmap did.1 job b askable did.2.0 did.2.1
  did_ask job (ReleaseOrder b) Done askable enough fits whole did = did_release job b askable did.2.0 did.2.1
  did_ask job (Arrive most) got askable enough fits whole did = did_arrive job most got enough fits whole did.2
  did_ask job (Ask most) got askable enough fits whole did = did_ask_again job most got enough fits whole did.2
  did_ask job (BeginCommit most) got askable enough fits whole did = did_begin job most got did.0 enough.0 fits whole did.1
  did_ask job EndCommit Done askable enough fits whole did = ends job askable did.2
  did_ask job BreakCommit Done askable enough fits whole did =
      record { chosen = Plain; gives = λ shape devices words actors x own. given shape devices words actors x job BreakCommit Done Plain ((refl, refl), refl, tt); desk_is = did.2.0; commit_is = did.2.1 }
  did_ask job step got askable enough fits whole did = absurd fits

-- ---- an actor

-- only of an extent that is read is anything to be written next
no_copy : (devices : Devices (List History)) (job : Job) (next : Want) (read : List Bytes) → ((device : Dev) (e : Extent) → next ≡ Device (ReadExtent device e) → ⊥) → IsCopy devices job next read
no_copy devices (Migrate migration block) (Device (ReadExtent device e)) read n = absurd (n device e refl)
no_copy devices job next read n = tt

-- where nothing was read, nothing is noted
none_noted : (job : Job) (next : Want) → [] ≡ noted_read job next []
none_noted job next = either (is_copied job next)
  where
    either : (b : Bool) → ◌≡◌ {A = List Bytes} [] (if b then [] else [])
    either true = refl
    either false = refl

module _ (devices : Devices (List History)) (old : Target) (a : ℕ) (held : List Order) (seen : List Bool) (share : Share) (buffer : List Bytes) (devices' : Devices (List History)) (new : Target) where
  pub performs_word : (job : Job) (step : CellStep) (got : Got) (read : List Bytes) → got ≡ got_of (result_of old.crew.words step) → read ≡ [] → devices' ≡ devices → new.crew ≡ crew_after old.crew a step → new.desk ≡ old.desk → new.commit ≡ old.commit → new.failed ≡ flag new.crew.words.fail →
      Performs devices old a job held seen share buffer (Cell step) got read devices' new
  performs_word job step got read g r d w k c f = rw r (record {
    chosen = Plain;
    gives = λ shape actors x own. subst (λ (none : List Bytes). Gives shape (over devices old actors) x job (Cell step) got none Plain) (none_noted job (Cell step)) ((refl, refl), g);
    copies = no_copy devices job (Cell step) [] (λ device e n. cc);
    leads = record { devices_are = d; crew_is = w; desk_is = k; commit_is = c; failed_is = f };
  })

  pub performs_end : (job : Job) (answer : Answer) (read : List Bytes) → IsPossible devices old.commit job (End answer) → read ≡ [] → devices' ≡ devices → new ≡ old → old.failed ≡ flag old.crew.words.fail → Performs devices old a job held seen share buffer (End answer) Done read devices' new
  performs_end job answer read can r d n f = rw (n, r) (record {
    chosen = Plain;
    gives = λ shape actors x own. subst (λ (none : List Bytes). Gives shape (over devices old actors) x job (End answer) Done none Plain) (none_noted job (End answer)) (by_job job answer can shape actors x);
    copies = no_copy devices job (End answer) [] (λ device e n. cc);
    leads = record { devices_are = d; crew_is = refl; desk_is = refl; commit_is = refl; failed_is = f };
  })
    where
      by_job : (job : Job) (answer : Answer) → IsPossible devices old.commit job (End answer) → (shape : Shape) (actors : List Actor) (x : Actor) → Gives shape (over devices old actors) x job (End answer) Done [] Plain
      by_job (Open mode second) Finished can shape actors x = absurd (can tt)
      by_job job answer can shape actors x = ((refl, refl), refl)

  pub performs_device : (job : Job) (step : DeviceStep) (read : List Bytes) (commit' : Option RunningCommit) → DoesOn devices old.commit job buffer step read devices' commit' → new ≡ record old { commit = commit' } → old.failed ≡ flag old.crew.words.fail → Performs devices old a job held seen share buffer (Device step) Done read devices' new
  performs_device job step read commit' does n f = rw n (record {
    chosen = chosen_at step devices';
    gives = λ shape actors x own. does.gives shape (target_told old) actors x;
    copies = does.copies;
    leads = record { devices_are = does.devices_are; crew_is = refl; desk_is = refl; commit_is = does.commit_is; failed_is = f };
  })

  pub performs_desk : (job : Job) (step : DeskStep) (got : Got) (read : List Bytes) (desk' : DeskState Quiet) (commit' : Option RunningCommit) → DeskWasAsked old.desk old.commit job held seen share step got desk' commit' → read ≡ [] → devices' ≡ devices →
      new.crew ≡ old.crew → new.failed ≡ old.failed → new.desk ≡ desk' → new.commit ≡ commit' → old.failed ≡ flag old.crew.words.fail → Performs devices old a job held seen share buffer (Desk step) got read devices' new
  performs_desk job step got read desk' commit' asked r d w b k c f = rw r (record {
    chosen = asked.chosen;
    gives = λ shape actors x own. subst (λ (none : List Bytes). Gives shape (over devices old actors) x job (Desk step) got none asked.chosen) (none_noted job (Desk step)) (asked.gives shape devices old.crew.words actors x own);
    copies = no_copy devices job (Desk step) [] (λ device e n. cc);
    leads = record { devices_are = d; crew_is = w; desk_is = k ∙ asked.desk_is; commit_is = c ∙ asked.commit_is; failed_is = b ∙ f ∙ sym (ap (λ (x : CrewState). flag x.words.fail) w) };
  })
