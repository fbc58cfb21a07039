use Rattle.std.proofs.Common.{◌≡◌, ◌∙◌, sym, subst, refl}
use Rattle.std.specs.declared.alloc.Global.{Global}
use Rattle.wb_meta.specs.declared.read_steps.ReadSteps.{ReadSteps}
use Rattle.wb_devices.specs.Clean.{DidTell}
use Rattle.wb_disk.specs.Extents.{Reading, MayLand}
use Rattle.wb_devices.proofs.Cleaning.{did_open}
use Rattle.wb_devices.proofs.Stopping.{did_tell, never_stops}
use Rattle.wb_devices.proofs.opening.Opening.read.Goals as goal

pub returns-in-Ok-clause-goes_on : goal.returns-in-Ok-clause-goes_on
returns-in-Ok-clause-goes_on g c = c.has_come_in.ensures.on (g.D.Disk.size c.args.disk.now) c.in-Ok.ensures.on

pub returns-in-Ok-clause-did : goal.returns-in-Ok-clause-did
returns-in-Ok-clause-did g c = did_open c.args.mode g.D.Disk.tells c.args.self.now.geometry c.args.left c.args.self.now.reading c.in-Some.steps c.in-Ok.steps _ _ _ c.args.self.now.commit _ _ _ (sym c.take.ensures.value ∙ c.in-Some.is) c.in-Ok.ensures.read c.in-Ok.ensures.no_fault c.has_come_in.ensures.come c.in-Ok.ensures.one_more c.has_come_in.ensures.generation

pub returns-in-Ok-clause-told : goal.returns-in-Ok-clause-told
returns-in-Ok-clause-told g c was tells never present =
    let same : c.in-Some.steps ≡ was = let e = sym (sym c.take.ensures.value ∙ c.in-Some.is) ∙ present in cc in
    subst (λ (w : ReadSteps Global). DidTell c.args.mode c.args.self.now.geometry (g.D.Disk.size c.args.disk.now) c.args.left w (g.D.Disk.contents c.args.disk.now) c.args.self.now.commit c.has_come_in.result c.has_come_in.new.self.reading c.has_come_in.new.self.commit) same
    (did_tell c.args.mode c.args.self.now.geometry (g.D.Disk.size c.args.disk.now) c.args.left c.in-Some.steps c.in-Ok.steps (g.D.Disk.contents c.args.disk.now) c.args.self.now.commit c.has_come_in.new.self.commit c.has_come_in.result c.has_come_in.new.self.reading (c.in-Ok.ensures.read tells) c.in-Ok.ensures.on c.has_come_in.ensures.come c.in-Ok.ensures.one_more c.has_come_in.ensures.generation c.has_come_in.ensures.more)

pub returns-in-Err-clause-told : goal.returns-in-Err-clause-told
returns-in-Err-clause-told g c was tells never present =
    let same : c.in-Some.steps ≡ was = let e = sym (sym c.take.ensures.value ∙ c.in-Some.is) ∙ present in cc in
    subst (λ (w : ReadSteps Global). DidTell c.args.mode c.args.self.now.geometry (g.D.Disk.size c.args.disk.now) c.args.left w (g.D.Disk.contents c.args.disk.now) c.args.self.now.commit c.got_of_refusal.result c.take.new.self c.args.self.now.commit) same
    (never_stops c.args.mode c.args.self.now.geometry (g.D.Disk.size c.args.disk.now) c.args.left c.in-Some.steps (g.D.Disk.contents c.args.disk.now) c.args.self.now.commit c.args.self.now.commit c.got_of_refusal.result c.take.new.self c.in-Err.refusal (MayLand (g.D.Disk.falters c.args.disk.now Reading)) (c.in-Err.ensures.refused tells) c.in-Err.ensures.kinds (c.in-Err.ensures.how tells) never c.got_of_refusal.ensures.is c.take.ensures.after refl)
