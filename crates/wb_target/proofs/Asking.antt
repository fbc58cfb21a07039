-- What a step on the desk does to the commit of who asks, whatever it does to the desk; when a step on a device may be asked.
use Rattle.std.proofs.Common.{ℕ, Bool, true, false, List, Option}
use Rattle.wb_disk.specs.Device.{History}
use Rattle.wb_words.specs.declared.card.Card.{Card}
use Rattle.wb_policy.specs.declared.order.Order.{Order}
use Rattle.wb_desk.specs.Desks.{DeskState}
use Rattle.wb_tasks.specs.declared.step.DeskStep.{DeskStep}
use Rattle.wb_tasks.specs.declared.step.DeskStep.TheVariants.{Map, Unmap, ReleaseOrder, Arrive, Ask, BeginCommit, EndCommit, BreakCommit}
use Rattle.wb_tasks.specs.declared.step.DeviceStep.{DeviceStep}
use Rattle.wb_tasks.specs.declared.step.DeviceStep.TheVariants.{Read, Write, Sync, ReadMetadata, WriteNode, WriteRoot}
use Rattle.wb_disk.specs.Device.{Content as Bytes}
use Rattle.wb_tasks.specs.declared.step.Want.{Want}
use Rattle.wb_tasks.specs.declared.step.Want.TheVariants.{Device, Desk}
use Rattle.wb_tasks.specs.declared.step.Got.{Got}
use Rattle.wb_tasks.specs.declared.step.Got.TheVariants.{Refused, Began, Ticket, Served}
use Rattle.wb_devices.specs.declared.running.RunningCommit.{RunningCommit}
use Rattle.wb_devices.specs.declared.devices.Devices.{Devices}
use Rattle.wb_stage.specs.declared.share.Share.{Share}
use Rattle.wb_stage.specs.Stages.{DidAsk, EndsWith, is_all_done}
use Rattle.wb_port.specs.Moves.{MayPerform}
use Rattle.wb_target.specs.Works.{DeskTold, DidAskDesk, EndsIf, MayWork, ShareTold, WorksOn, WritesUnderCommit}

ends : {P : Type 0} (done : Bool) (d d' : DeskState P) (commit commit' : Option RunningCommit) → EndsWith done d commit d' commit' → EndsIf done commit commit'
ends true d d' commit commit' h = h.1
ends false d d' commit commit' h = h.1

pub commit_asked : {P : Type 0} (with_entry : P → ℕ → ℕ → P) (without_entry : P → ℕ → P) (held : List Order) (step : DeskStep) (share : Share) (got : Got) (d d' : DeskState P) (commit commit' : Option RunningCommit)
    → DidAsk with_entry without_entry held step share got d commit d' commit' → DidAskDesk step got commit commit'
commit_asked with_entry without_entry held (Map b c) share got d d' commit commit' h = h.1
commit_asked with_entry without_entry held (Unmap b) share got d d' commit commit' h = h.1
commit_asked with_entry without_entry held (ReleaseOrder b) share got d d' commit commit' h = h.1
commit_asked with_entry without_entry held BreakCommit share got d d' commit commit' h = h.1
commit_asked with_entry without_entry held (Arrive most) share Ticket d d' commit commit' h = h.3
commit_asked with_entry without_entry held (Arrive most) share (Began nodes) d d' commit commit' h = (h.1.0, h.1.1, h.1.2, h.1.3)
commit_asked with_entry without_entry held (Arrive most) share (Refused x) d d' commit commit' h = h.0
commit_asked with_entry without_entry held (Arrive most) share got d d' commit commit' h = absurd h
commit_asked with_entry without_entry held (Ask most) share Served d d' commit commit' h = h.2
commit_asked with_entry without_entry held (Ask most) share (Began nodes) d d' commit commit' h = (h.1.1.0, h.1.1.1, h.1.1.2, h.1.1.3)
commit_asked with_entry without_entry held (Ask most) share (Refused x) d d' commit commit' h = h.0
commit_asked with_entry without_entry held (Ask most) share got d d' commit commit' h = absurd h
commit_asked with_entry without_entry held (BeginCommit most) share got d d' commit commit' h = absurd h
commit_asked with_entry without_entry held EndCommit share got d d' commit commit' h = ends (is_all_done commit) d d' commit commit' h

-- what is told of a step on the desk, whatever who asks has of others' commits then
abbrev pub some_told : ShareTold → Share → DeskTold
some_told asked share step got commit commit' = (share' : Share) × asked share share' step got commit commit'

pub told_some : {D : Type 0} (tells : Type 0) (size : D → ℕ) (contents : D → List History) (faults : D → ℕ) (asked : ShareTold) (share share' : Share) (old : Devices D) (buffer : List Bytes) (commit : Option RunningCommit) (w : Want) (g : Got) (new : Devices D) (buffer' : List Bytes) (commit' : Option RunningCommit)
    → WorksOn tells size contents faults (asked share share') old buffer commit w g new buffer' commit' → WorksOn tells size contents faults (some_told asked share) old buffer commit w g new buffer' commit'
told_some tells size contents faults asked share share' old buffer commit (Desk step) g new buffer' commit' h = (h.0, h.1, h.2, (share', h.3))
told_some tells size contents faults asked share share' old buffer commit w g new buffer' commit' h = h

pub may_perform : {D : Type 0} (tells : Type 0) (contents : D → List History) (size : ℕ) (held : List Order) (card : Card) (devices : Devices D) (commit : Option RunningCommit) (step : DeviceStep)
    → MayWork size held card (Device step) → WritesUnderCommit tells contents devices commit (Device step) → MayPerform tells contents size card devices commit step
may_perform tells contents size held card devices commit (Read device e) w c = w
may_perform tells contents size held card devices commit (Write device e) w c = w.0
may_perform tells contents size held card devices commit (Sync device) w c = tt
may_perform tells contents size held card devices commit (ReadMetadata left) w c = tt
may_perform tells contents size held card devices commit (WriteNode number) w c = c
may_perform tells contents size held card devices commit WriteRoot w c = c
