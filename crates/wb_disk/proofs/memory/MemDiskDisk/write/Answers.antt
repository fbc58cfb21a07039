use Rattle.std.proofs.Common.{◌∙◌, ap}
use Rattle.wb_disk.specs.Device.{written, added}
use Rattle.wb_disk.specs.Stored.{history, capacity_of}
use Rattle.wb_disk.proofs.Sectors.{at_place, map-set_same, histories-written, room_of_stored, DiffersOnlyAt-stored}
use Rattle.wb_disk.proofs.Noting.{noted-same, noted-stored}
use Rattle.wb_disk.proofs.memory.MemDiskDisk.write.Goals as goal

pub invariant_of-self : goal.invariant_of-self
invariant_of-self c =
    let ps = c.self.inside.sectors.items in
    let p = c.index_mut-pending.result.now in
    let here = at_place ps c.self.inside.faults c.args.at p c.args.self.now c.self.view_is c.requires c.index_mut-pending.ensures.value in
    rw c.insert.ensures (noted-stored ps c.self.inside.unsynced c.args.at p c.add.new.self c.self.invariant here)

pub invariant_of-self-in-Err : goal.invariant_of-self-in-Err
invariant_of-self-in-Err c =
    let ps = c.self.inside.sectors.items in
    let p = c.index_mut-pending.result.now in
    let here = at_place ps c.self.inside.faults c.args.at p c.args.self.now c.self.view_is c.requires c.index_mut-pending.ensures.value in
    noted-same ps c.self.inside.unsynced c.args.at p c.make_room.new.self c.self.invariant here c.make_room.ensures.contents

pub returns-in-Ok-clause-ok : goal.returns-in-Ok-clause-ok
returns-in-Ok-clause-ok c =
    let ps = c.self.inside.sectors.items in
    let p = c.index_mut-pending.result.now in
    let here = at_place ps c.self.inside.faults c.args.at p c.args.self.now c.self.view_is c.requires c.index_mut-pending.ensures.value in
    let more = c.add.ensures.contents ∙ ap (λ h. added h c.args.from.now) c.make_room.ensures.contents in
    histories-written ps c.args.at p c.add.new.self c.args.from.now here more
    ∙ ap (λ m. written m.contents c.args.at c.args.from.now) c.self.view_is

pub returns-in-Ok-clause-in_place : goal.returns-in-Ok-clause-in_place
returns-in-Ok-clause-in_place c room =
    let ps = c.self.inside.sectors.items in
    let p = c.index_mut-pending.result.now in
    let here = at_place ps c.self.inside.faults c.args.at p c.args.self.now c.self.view_is c.requires c.index_mut-pending.ensures.value in
    let stays = c.make_room.ensures.stays (room_of_stored ps c.self.inside.faults c.args.at p c.args.self.now c.self.view_is here room) in
    map-set_same capacity_of ps c.args.at p c.add.new.self here (c.add.ensures.capacity ∙ stays) ∙ ap (λ m. m.capacity) c.self.view_is

pub returns-in-Ok-clause-elsewhere : goal.returns-in-Ok-clause-elsewhere
returns-in-Ok-clause-elsewhere c =
    let ps = c.self.inside.sectors.items in
    let p = c.index_mut-pending.result.now in
    let here = at_place ps c.self.inside.faults c.args.at p c.args.self.now c.self.view_is c.requires c.index_mut-pending.ensures.value in
    DiffersOnlyAt-stored ps c.self.inside.faults c.args.at p c.add.new.self c.args.self.now c.self.view_is here

pub returns-in-Err-clause-err : goal.returns-in-Err-clause-err
returns-in-Err-clause-err c =
    let ps = c.self.inside.sectors.items in
    let p = c.index_mut-pending.result.now in
    let here = at_place ps c.self.inside.faults c.args.at p c.args.self.now c.self.view_is c.requires c.index_mut-pending.ensures.value in
    map-set_same history ps c.args.at p c.make_room.new.self here c.make_room.ensures.contents ∙ ap (λ m. m.contents) c.self.view_is

pub returns-in-Err-clause-room : goal.returns-in-Err-clause-room
returns-in-Err-clause-room c room =
    let ps = c.self.inside.sectors.items in
    let p = c.index_mut-pending.result.now in
    let here = at_place ps c.self.inside.faults c.args.at p c.args.self.now c.self.view_is c.requires c.index_mut-pending.ensures.value in
    c.in-Err.ensures.had (room_of_stored ps c.self.inside.faults c.args.at p c.args.self.now c.self.view_is here room)

pub returns-in-Err-clause-in_place : goal.returns-in-Err-clause-in_place
returns-in-Err-clause-in_place c room =
    let ps = c.self.inside.sectors.items in
    let p = c.index_mut-pending.result.now in
    let here = at_place ps c.self.inside.faults c.args.at p c.args.self.now c.self.view_is c.requires c.index_mut-pending.ensures.value in
    map-set_same capacity_of ps c.args.at p c.make_room.new.self here c.in-Err.ensures.err ∙ ap (λ m. m.capacity) c.self.view_is

pub returns-in-Err-clause-full : goal.returns-in-Err-clause-full
returns-in-Err-clause-full c =
    let ps = c.self.inside.sectors.items in
    let p = c.index_mut-pending.result.now in
    let here = at_place ps c.self.inside.faults c.args.at p c.args.self.now c.self.view_is c.requires c.index_mut-pending.ensures.value in
    map-set_same capacity_of ps c.args.at p c.make_room.new.self here c.in-Err.ensures.err ∙ ap (λ m. m.capacity) c.self.view_is

pub returns-in-Err-clause-elsewhere : goal.returns-in-Err-clause-elsewhere
returns-in-Err-clause-elsewhere c =
    let ps = c.self.inside.sectors.items in
    let p = c.index_mut-pending.result.now in
    let here = at_place ps c.self.inside.faults c.args.at p c.args.self.now c.self.view_is c.requires c.index_mut-pending.ensures.value in
    DiffersOnlyAt-stored ps c.self.inside.faults c.args.at p c.make_room.new.self c.args.self.now c.self.view_is here
