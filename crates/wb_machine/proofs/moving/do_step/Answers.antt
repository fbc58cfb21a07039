use Rattle.std.proofs.Common.{◌≡◌, sym, subst, ◌∙◌, ap, List, length, arith}
use Rattle.std.proofs.lemmas.List.{with_items_is}
use Rattle.wb_disk.specs.Device.{Content as Bytes}
use Rattle.wb_devices.specs.declared.devices.Devices.{Devices}
use Rattle.wb_disk.specs.Device.{History}
use Rattle.wb_machine.specs.Life.{contents_of}
use Rattle.wb_machine.specs.Serving.{DoesOn, FittedTo, IsDoable, Moves, read_by}
use Rattle.wb_machine.proofs.Performed.{as_many, does_so}
use Rattle.wb_machine.proofs.moving.do_step.Goals as goal

pub returns-in-Done-clause-ok : goal.returns-in-Done-clause-ok
returns-in-Done-clause-ok c =
    let mid = c.make_room.new.devices in
    let commit = c.args.commit.now in
    let job = c.args.job.now in
    let buffer = c.args.buffer.now in
    let step = c.args.step in
    let held = c.as_mut_slice.result.now in
    let same : contents_of mid ≡ contents_of c.args.devices.now = c.make_room.ensures.contents in
    let can = subst (λ (d : Devices (List History)). IsDoable d commit job step) (sym same) c.requires in
    let moves = subst (λ (m : List Bytes). Moves job buffer step m) (sym c.as_mut_slice.ensures.value) c.in_ok-moved.ensures.ok in
    let fit = subst (λ (m : List Bytes). FittedTo m (contents_of mid) step c.fitted-there.result) (c.as_slice.ensures.value ∙ sym c.as_mut_slice.ensures.value) (subst (λ (d : Devices (List History)). FittedTo c.as_slice.result.now d step c.fitted-there.result) (sym same) c.fitted-there.ensures) in
    let does = does_so mid c.perform.new.self commit c.perform.new.commit job buffer held c.perform.new.moved step c.fitted-there.result can moves fit c.in-Done.ensures.buffer c.in-Done.ensures.others (c.in-Done.ensures.did tt) c.in-Done.ensures.goes in
    let read_is = c.read_by.ensures ∙ ap (λ (m : List Bytes). read_by step m) (with_items_is c.in_ok-moved.moved c.perform.new.moved (omega (arith, as_many c.fitted-there.result held c.perform.new.moved c.in-Done.ensures.buffer, ap length c.as_mut_slice.ensures.value, c.in_ok-moved.moved.ok))) in
    subst (λ (d : Devices (List History)). DoesOn d commit job buffer step c.read_by.result.items (contents_of c.perform.new.self) c.perform.new.commit) same
    (subst (λ (read : List Bytes). DoesOn (contents_of mid) commit job buffer step read (contents_of c.perform.new.self) c.perform.new.commit) (sym read_is) does)
