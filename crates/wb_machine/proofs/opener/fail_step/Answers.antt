use Rattle.std.proofs.Common.{◌≡◌, List, sym, subst}
use Rattle.wb_disk.specs.Device.{History}
use Rattle.wb_devices.specs.declared.devices.Devices.{Devices}
use Rattle.wb_machine.specs.Life.{FailsOn, contents_of}
use Rattle.wb_machine.specs.Serving.{PutComes}
use Rattle.wb_machine.proofs.Performed.{opening_faltered, still}
use Rattle.wb_machine.proofs.opener.fail_step.Goals as goal

pub returns-clause-failed : goal.returns-clause-failed
returns-clause-failed c =
    let mid = c.make_room.new.devices in
    let commit = c.args.commit.now in
    let step = c.args.step in
    let same : contents_of mid ≡ contents_of c.args.devices.now = c.make_room.ensures.contents in
    let comes = subst (λ (d : Devices (List History)). PutComes step commit d.metadata) (sym same) c.requires.comes in
    subst (λ (d : Devices (List History)). FailsOn commit step c.args.choice.now d (contents_of c.falter.new.devices)) same
    (opening_faltered mid c.falter.new.devices commit step c.new.result.items c.args.choice.now c.requires.next comes c.in_ok-make_room.ensures.room c.in_ok-falter.ensures.others c.in_ok-falter.ensures.how c.in_default.not-ReadMetadata)

pub returns-clause-commit : goal.returns-clause-commit
returns-clause-commit c = still _ c.args.commit.now c.falter.new.commit c.args.step c.in_ok-falter.ensures.goes
