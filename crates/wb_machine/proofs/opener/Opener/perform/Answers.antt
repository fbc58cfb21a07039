use Rattle.std.proofs.Common.{◌≡◌, ◌∙◌, List, [], None, ap, refl}
use Rattle.wb_disk.specs.Device.{History}
use Rattle.wb_tasks.specs.Plan.{want}
use Rattle.wb_tasks.specs.declared.step.DeviceStep.TheVariants.{Sync}
use Rattle.wb_tasks.specs.declared.step.Got.TheVariants.{Done}
use Rattle.wb_tasks.specs.declared.step.Want.TheVariants.{Device}
use Rattle.wb_promise.specs.declared.event.Event.TheVariants.{Step}
use Rattle.wb_promise.specs.declared.event.What.TheVariants.{Stepped}
use Rattle.wb_machine.specs.declared.machine.TheConstants.{ACTORS}
use Rattle.wb_machine.specs.declared.phase.Phase.TheVariants.{Underway}
use Rattle.wb_machine.specs.Life.{Happens, contents_of, shape_of, state_of}
use Rattle.wb_machine.specs.Making.{reading_by}
use Rattle.wb_machine.specs.Serving.{IsPut}
use Rattle.wb_machine.specs.Standing.{ReadsOn}
use Rattle.wb_machine.proofs.Openings.{at_commit, is_device_step, reads as reads_there}
use Rattle.wb_machine.proofs.Wherever.{put_comes, puts_there, sync_comes, syncs_there}
use Rattle.wb_machine.proofs.Standing.{does_then, else_puts, had_room, reads_on, stands_then, synced_stands, under_way, written_stands}
use Rattle.wb_machine.proofs.opener.Opener.perform.Goals as goal
use Rattle.wb_machine.proofs.opener.Opener.perform.Goals.{In-ReadMetadata, In_default}

pub returns-in-Sync-clause-stands : goal.returns-in-Sync-clause-stands
returns-in-Sync-clause-stands c =
    let self = c.args.self.now in
    let did = c.sync.ensures in
    let next : want self.task ≡ Device (Sync c.in-Sync.device) = is_device_step (want self.task) c.args.step c.requires.next ∙ ap (λ s. Device s) c.in-Sync.is in
    synced_stands c.args.geometry.now ACTORS self c.sync.new.self self.opening.alloc c.in-Sync.device c.requires.stands next did.asked did.task did.geometry did.commit did.reading did.made

pub returns-in-Sync-clause-does : goal.returns-in-Sync-clause-does
returns-in-Sync-clause-does c =
    let self = c.args.self.now in
    let shape = shape_of c.args.geometry.now ACTORS in
    let next : want self.task ≡ Device (Sync c.in-Sync.device) = is_device_step (want self.task) c.args.step c.requires.next ∙ ap (λ s. Device s) c.in-Sync.is in
    syncs_there shape ACTORS c.args.devices.now c.sync.new.devices self c.sync.new.self c.requires.there c.sync.ensures.asked c.requires.whole c.requires.stands c.in-Sync.device (Stepped (Device c.args.step) Done) next (ap (λ s. Stepped (Device s) Done) c.in-Sync.is) c.sync.ensures.task c.sync.ensures.reading c.sync.ensures.commit c.sync.ensures.devices

pub read-requires-clause-next : goal.read-requires-clause-next
read-requires-clause-next c = is_device_step (want c.args.self.now.task) c.args.step c.requires.next ∙ ap (λ s. Device s) c.in-ReadMetadata.is

-- it reads on
reads : (c : In-ReadMetadata) → ReadsOn c.args.geometry.now ACTORS c.in-ReadMetadata.left c.args.self.now c.args.devices.now.metadata.contents
reads c = reads_on c.args.geometry.now ACTORS c.in-ReadMetadata.left c.args.self.now c.args.devices.now.metadata.contents c.requires.there c.requires.whole c.requires.stands (is_device_step (want c.args.self.now.task) c.args.step c.requires.next ∙ ap (λ s. Device s) c.in-ReadMetadata.is) c.requires.finds

pub read-requires-clause-reads : goal.read-requires-clause-reads
read-requires-clause-reads c = reads (goal.at.read-requires-clause-reads c).In-ReadMetadata

pub returns-in-ReadMetadata-clause-stands : goal.returns-in-ReadMetadata-clause-stands
returns-in-ReadMetadata-clause-stands c =
    let g = c.args.geometry.now in
    let did = c.read.ensures in
    let room = had_room g _ c.node_count-two_slots.ensures.value c.node_count-two_slots.ensures.two_images_fit in
    stands_then g ACTORS c.in-ReadMetadata.left c.args.self.now c.read.new.self c.args.devices.now.metadata.contents c.read.result (reads (goal.at.returns-in-ReadMetadata-clause-stands c).In-ReadMetadata) room did.did
    c.requires.stands (is_device_step (want c.args.self.now.task) c.args.step c.requires.next ∙ ap (λ s. Device s) c.in-ReadMetadata.is) did.asked did.task did.geometry did.made

pub returns-in-ReadMetadata-clause-does : goal.returns-in-ReadMetadata-clause-does
returns-in-ReadMetadata-clause-does c =
    let self = c.args.self.now in
    let g = c.args.geometry.now in
    let left = c.in-ReadMetadata.left in
    let new = c.read.new.self in
    let on = reads (goal.at.returns-in-ReadMetadata-clause-does c).In-ReadMetadata in
    let u = under_way g left self.opening.reading self.opening.commit on.reads in
    let room = had_room g _ c.node_count-two_slots.ensures.value c.node_count-two_slots.ensures.two_images_fit in
    let after = record c.args.devices.now { metadata = c.read.new.metadata } in
    at_commit ACTORS c.args.devices.now self (λ w. Happens (shape_of g ACTORS) w (Step self.asked.actor) (Stepped (Device c.args.step) c.read.result) [] (state_of ACTORS after (Underway new))) None u.commit_is
    (reads_there (shape_of g ACTORS) ACTORS c.args.devices.now after self new c.requires.there c.read.ensures.asked left u.was c.read.result (Stepped (Device c.args.step) c.read.result) (is_device_step (want c.args.self.now.task) c.args.step c.requires.next ∙ ap (λ s. Device s) c.in-ReadMetadata.is) (ap (λ s. Stepped (Device s) c.read.result) c.in-ReadMetadata.is)
    (ap (λ m. reading_by m self.opening.reading) on.none ∙ u.is)
    (does_then g ACTORS left self new c.args.devices.now.metadata.contents c.read.result on room c.read.ensures.did c.read.ensures.whole)
    c.read.ensures.task (ap (λ (m : List History). record (contents_of c.args.devices.now) { metadata = m }) c.read.ensures.contents))

-- else it writes a node or the root
puts : (c : In_default) → IsPut c.args.step
puts c = else_puts (want c.args.self.now.task) c.args.step c.requires.next c.in_default.not-Sync c.in_default.not-ReadMetadata

pub write-requires-clause-puts : goal.write-requires-clause-puts
write-requires-clause-puts c = puts (goal.at.write-requires-clause-puts c).In_default

pub write-requires-clause-next : goal.write-requires-clause-next
write-requires-clause-next c = is_device_step (want c.args.self.now.task) c.args.step c.requires.next

pub write-requires-clause-comes : goal.write-requires-clause-comes
write-requires-clause-comes c =
    put_comes c.args.geometry.now ACTORS c.args.devices.now c.args.self.now c.args.step c.requires.whole c.requires.stands c.requires.next (puts (goal.at.write-requires-clause-comes c).In_default)

pub returns-in_ok-write-in_default-clause-stands : goal.returns-in_ok-write-in_default-clause-stands
returns-in_ok-write-in_default-clause-stands c =
    let done = c.in_ok-write-in_default.ensures in
    written_stands c.args.geometry.now ACTORS c.args.self.now c.write.new.self c.args.step (puts (goal.at.returns-in_ok-write-in_default-clause-stands c).In_default) c.requires.stands (is_device_step (want c.args.self.now.task) c.args.step c.requires.next)
    done.asked done.task done.geometry done.commit done.reading done.made

pub returns-in_ok-write-in_default-clause-does : goal.returns-in_ok-write-in_default-clause-does
returns-in_ok-write-in_default-clause-does c =
    let done = c.in_ok-write-in_default.ensures in
    puts_there (shape_of c.args.geometry.now ACTORS) ACTORS c.args.devices.now c.write.new.devices c.args.self.now c.write.new.self c.requires.there done.asked c.requires.whole c.requires.stands c.args.step (Stepped (Device c.args.step) Done)
    (puts (goal.at.returns-in_ok-write-in_default-clause-does c).In_default) (is_device_step (want c.args.self.now.task) c.args.step c.requires.next) c.requires.next refl done.task done.reading done.commit done.puts done.others

pub sync-requires-clause-comes : goal.sync-requires-clause-comes
sync-requires-clause-comes c =
    let self = c.args.self.now in
    sync_comes c.args.geometry.now ACTORS c.args.devices.now self c.in-Sync.device c.requires.whole c.requires.stands (is_device_step (want self.task) c.args.step c.requires.next ∙ ap (λ s. Device s) c.in-Sync.is)
