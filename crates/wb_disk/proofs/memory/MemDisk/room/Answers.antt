use Rattle.std.proofs.Common.{◌∙◌, ap}
use Rattle.std.proofs.lemmas.Result.{on_ok_weaker, on_err_weaker}
use Rattle.wb_disk.specs.Stored.{history}
use Rattle.wb_disk.proofs.Sectors.{at_place, map-set_same, shown-same, room_of_stored, HasRoom-stored, DiffersOnlyAt-stored}
use Rattle.wb_disk.proofs.Noting.{noted-same}
use Rattle.wb_disk.proofs.memory.MemDisk.room.Goals as goal

pub invariant_of-self : goal.invariant_of-self
invariant_of-self c =
    let ps = c.self.inside.sectors.items in
    let p = c.index_mut.result.now in
    let here = at_place ps c.self.inside.faults c.args.at p c.args.self.now c.self.view_is c.requires c.index_mut.ensures.value in
    noted-same ps c.self.inside.unsynced c.args.at p c.make_room.new.self c.self.invariant here c.make_room.ensures.contents

pub returns-clause-room : goal.returns-clause-room
returns-clause-room c =
    let ps = c.self.inside.sectors.items in
    let p = c.index_mut.result.now in
    let here = at_place ps c.self.inside.faults c.args.at p c.args.self.now c.self.view_is c.requires c.index_mut.ensures.value in
    on_ok_weaker c.make_room.result (HasRoom-stored ps c.self.inside.faults c.args.at p c.make_room.new.self here) c.make_room.ensures.room

pub returns-clause-contents : goal.returns-clause-contents
returns-clause-contents c =
    let ps = c.self.inside.sectors.items in
    let p = c.index_mut.result.now in
    let here = at_place ps c.self.inside.faults c.args.at p c.args.self.now c.self.view_is c.requires c.index_mut.ensures.value in
    map-set_same history ps c.args.at p c.make_room.new.self here c.make_room.ensures.contents ∙ ap (λ m. m.contents) c.self.view_is

pub returns-clause-elsewhere : goal.returns-clause-elsewhere
returns-clause-elsewhere c =
    let ps = c.self.inside.sectors.items in
    let p = c.index_mut.result.now in
    let here = at_place ps c.self.inside.faults c.args.at p c.args.self.now c.self.view_is c.requires c.index_mut.ensures.value in
    DiffersOnlyAt-stored ps c.self.inside.faults c.args.at p c.make_room.new.self c.args.self.now c.self.view_is here

pub returns-clause-had : goal.returns-clause-had
returns-clause-had c room =
    let ps = c.self.inside.sectors.items in
    let p = c.index_mut.result.now in
    let here = at_place ps c.self.inside.faults c.args.at p c.args.self.now c.self.view_is c.requires c.index_mut.ensures.value in
    c.make_room.ensures.had (room_of_stored ps c.self.inside.faults c.args.at p c.args.self.now c.self.view_is here room)

pub returns-clause-stays : goal.returns-clause-stays
returns-clause-stays c room =
    let ps = c.self.inside.sectors.items in
    let p = c.index_mut.result.now in
    let here = at_place ps c.self.inside.faults c.args.at p c.args.self.now c.self.view_is c.requires c.index_mut.ensures.value in
    let stays = c.make_room.ensures.stays (room_of_stored ps c.self.inside.faults c.args.at p c.args.self.now c.self.view_is here room) in
    shown-same ps c.self.inside.faults c.args.at p c.make_room.new.self c.args.self.now c.self.view_is here c.make_room.ensures.contents stays

pub returns-clause-err : goal.returns-clause-err
returns-clause-err c =
    let ps = c.self.inside.sectors.items in
    let p = c.index_mut.result.now in
    let here = at_place ps c.self.inside.faults c.args.at p c.args.self.now c.self.view_is c.requires c.index_mut.ensures.value in
    on_err_weaker c.make_room.result (shown-same ps c.self.inside.faults c.args.at p c.make_room.new.self c.args.self.now c.self.view_is here c.make_room.ensures.contents) c.make_room.ensures.err
