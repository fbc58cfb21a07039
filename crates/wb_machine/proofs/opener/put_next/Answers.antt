use Rattle.std.proofs.Common.{◌∙◌, ap, length, List, sym, subst}
use Rattle.wb_disk.specs.Device.{History}
use Rattle.wb_devices.specs.declared.devices.Devices.{Devices}
use Rattle.wb_machine.specs.Life.{WasPut}
use Rattle.wb_machine.specs.Serving.{ComesNext}
use Rattle.wb_machine.proofs.Performed.{as_put, never_put, put_beside, put_size, room_there, was_put_next}
use Rattle.wb_machine.proofs.opener.put_next.Goals as goal
use Rattle.wb_machine.proofs.opener.put_next.Goals.{After-make_room}

-- it comes next on the metadata where room was made too
comes : (c : After-make_room) → ComesNext c.args.commit.now c.args.step c.make_room.new.devices.metadata.contents
comes c = subst (λ (m : List History). ComesNext c.args.commit.now c.args.step m) (sym (ap (λ (d : Devices (List History)). d.metadata) c.make_room.ensures.contents)) c.requires.comes

pub returns-in-Done-clause-size : goal.returns-in-Done-clause-size
returns-in-Done-clause-size c = put_size c.make_room.new.devices c.perform.new.self c.args.step c.requires.puts c.perform.ensures.size
    ∙ ap (λ (d : Devices (List History)). length d.metadata) c.make_room.ensures.contents

pub returns-in-Done-clause-put : goal.returns-in-Done-clause-put
returns-in-Done-clause-put c =
    let mid = c.make_room.new.devices in
    let new = c.perform.new.self in
    let step = c.args.step in
    let at = comes (goal.at.returns-in-Done-clause-put c).After-make_room in
    let so = as_put mid new c.args.commit.now c.perform.new.commit step _ _ _ c.requires.puts c.in-Done.ensures.others c.in-Done.ensures.goes (c.in-Done.ensures.did tt) (c.in-Done.ensures.how tt) in
    let done = was_put_next mid.metadata.contents new.metadata.contents c.args.commit.now c.perform.new.commit step _ _ at so.1 so.2 in
    (done.0, subst (λ (m : List History). WasPut c.args.commit.now step m new.metadata.contents) (ap (λ (d : Devices (List History)). d.metadata) c.make_room.ensures.contents) done.1)

pub returns-in-Done-clause-others : goal.returns-in-Done-clause-others
returns-in-Done-clause-others c =
    let mid = c.make_room.new.devices in
    let so = as_put mid c.perform.new.self c.args.commit.now c.perform.new.commit c.args.step _ _ _ c.requires.puts c.in-Done.ensures.others c.in-Done.ensures.goes (c.in-Done.ensures.did tt) (c.in-Done.ensures.how tt) in
    put_beside c.args.devices.now mid c.perform.new.self c.make_room.ensures.contents so.0

pub returns-in-Fault-clause-err : goal.returns-in-Fault-clause-err
returns-in-Fault-clause-err c =
    let mid = c.make_room.new.devices in
    let at = comes (goal.at.returns-in-Fault-clause-err c).After-make_room in
    let so = as_put mid c.perform.new.self c.args.commit.now c.perform.new.commit c.args.step _ _ _ c.requires.puts c.in-Fault.ensures.others c.in-Fault.ensures.goes (c.in-Fault.ensures.did tt) (c.in-Fault.ensures.how tt) in
    absurd (never_put mid.metadata c.args.commit.now c.args.step mid.metadata.contents c.perform.new.self.metadata.contents c.requires.puts at (room_there mid c.args.commit.now c.args.step c.requires.puts c.in_ok-make_room.ensures.room) so.3)
