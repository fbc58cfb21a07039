use Rattle.std.proofs.Common.{◌≡◌, sym, subst, List}
use Rattle.wb_disk.specs.Device.{Content as Bytes, History}
use Rattle.wb_devices.specs.declared.devices.Devices.{Devices}
use Rattle.wb_machine.specs.Life.{contents_of}
use Rattle.wb_machine.specs.Serving.{FailsAt, FittedTo, IsDoable}
use Rattle.wb_machine.proofs.Performed.{falters_so}
use Rattle.wb_machine.proofs.moving.fail_step.Goals as goal

pub returns-clause-failed : goal.returns-clause-failed
returns-clause-failed c =
    let mid = c.make_room.new.devices in
    let commit = c.args.commit.now in
    let job = c.args.job.now in
    let buffer = c.args.buffer.now in
    let step = c.args.step in
    let same : contents_of mid ≡ contents_of c.args.devices.now = c.make_room.ensures.contents in
    let can = subst (λ (d : Devices (List History)). IsDoable d commit job step) (sym same) c.requires in
    let fit = subst (λ (m : List Bytes). FittedTo m (contents_of mid) step c.fitted-there.result) c.as_slice.ensures.value (subst (λ (d : Devices (List History)). FittedTo c.as_slice.result.now d step c.fitted-there.result) (sym same) c.fitted-there.ensures) in
    subst (λ (d : Devices (List History)). FailsAt c.args.choice.now d commit job buffer step (contents_of c.falter.new.devices) c.end.new.commit) same
    (falters_so mid c.falter.new.devices commit c.falter.new.commit c.end.new.commit job buffer c.in_ok-moved.moved.items step c.fitted-there.result c.args.choice.now can c.in_ok-moved.ensures.ok fit c.in_ok-make_room.ensures.room c.in_ok-falter.ensures.others c.in_ok-falter.ensures.goes c.in_ok-falter.ensures.reads c.in_ok-falter.ensures.how c.end.ensures)
