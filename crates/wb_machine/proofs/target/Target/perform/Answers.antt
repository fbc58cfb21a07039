use Rattle.std.proofs.Common.{refl, subst}
use Rattle.wb_promise.specs.Happenings.{Awaits}
use Rattle.wb_machine.specs.Life.{contents_of}
use Rattle.wb_machine.specs.Serving.{IsPossible}
use Rattle.wb_machine.proofs.Doing.{going, performs_desk, performs_device, performs_end, performs_word}
use Rattle.wb_machine.proofs.target.Target.perform.Goals as goal

pub returns-in-Cell-clause-ok : goal.returns-in-Cell-clause-ok
returns-in-Cell-clause-ok c =
    let devices = contents_of c.args.devices.now in
    let took = c.take.ensures in
    rw c.in-Cell.is (performs_word devices c.args.self.now c.args.actor c.args.held.now c.args.seen.now c.args.share.now c.args.buffer.now devices c.take.new.self c.args.job.now c.in-Cell.step c.take.result c.new.result.items took.gives c.new.ensures.items refl took.crew took.desk took.commit took.failed)

pub returns-in_ok-read-in-Device-clause-ok : goal.returns-in_ok-read-in-Device-clause-ok
returns-in_ok-read-in-Device-clause-ok c =
    rw c.in-Device.is (performs_device (contents_of c.args.devices.now) c.args.self.now c.args.actor c.args.held.now c.args.seen.now c.args.share.now c.args.buffer.now (contents_of c.do_step.new.devices) _ c.args.job.now c.in-Device.step c.in_ok-read-in-Device.read.items c.do_step.new.commit
    c.in_ok-read-in-Device.ensures.ok refl c.requires.failed)

pub returns-in-Desk-clause-ok : goal.returns-in-Desk-clause-ok
returns-in-Desk-clause-ok c =
    let devices = contents_of c.args.devices.now in
    let can = subst (λ next. IsPossible devices c.args.self.now.commit c.args.job.now next) c.in-Desk.is c.requires.possible in
    rw c.in-Desk.is (performs_desk devices c.args.self.now c.args.actor c.args.held.now c.args.seen.now c.args.share.now c.args.buffer.now devices _ c.args.job.now c.in-Desk.step c.ask-got.result c.new-in-Desk.result.items c.ask-got.new.desk c.ask-got.new.commit
    (c.ask-got.ensures.asked c.args.job.now can) c.new-in-Desk.ensures.items refl refl refl refl refl c.requires.failed)

pub returns-in-End-clause-ok : goal.returns-in-End-clause-ok
returns-in-End-clause-ok c =
    let devices = contents_of c.args.devices.now in
    let can = subst (λ next. IsPossible devices c.args.self.now.commit c.args.job.now next) c.in-End.is c.requires.possible in
    rw c.in-End.is (performs_end devices c.args.self.now c.args.actor c.args.held.now c.args.seen.now c.args.share.now c.args.buffer.now devices _ c.args.job.now c.in-End.field-0 c.new-in-End.result.items can c.new-in-End.ensures.items refl refl c.requires.failed)

pub ask-got-requires-clause-goes_on : goal.ask-got-requires-clause-goes_on
ask-got-requires-clause-goes_on c = going c.args.self.now.desk c.args.share.now c.in-Desk.step (subst (λ next. ¬ Awaits c.args.self.now.desk c.args.share.now next) c.in-Desk.is c.requires.goes_on)

pub returns-in-Cell-clause-share : goal.returns-in-Cell-clause-share
returns-in-Cell-clause-share c = rw c.in-Cell.is refl

pub returns-in_ok-read-in-Device-clause-share : goal.returns-in_ok-read-in-Device-clause-share
returns-in_ok-read-in-Device-clause-share c = rw c.in-Device.is refl

pub returns-in-Desk-clause-share : goal.returns-in-Desk-clause-share
returns-in-Desk-clause-share c = rw c.in-Desk.is c.ask-got.ensures.share

pub returns-in-End-clause-share : goal.returns-in-End-clause-share
returns-in-End-clause-share c = rw c.in-End.is refl
