use Rattle.std.proofs.Common.{◌≡◌, ◌∙◌, true, false, ap, sym}
use Rattle.std.proofs.lemmas.Bool.{OnTrue_at}
use Rattle.wb_target.specs.Making.{IsMadeOnce, MadeFirst, is_due, WasNotMade}
use Rattle.wb_target.proofs.Leading.{led_on}
use Rattle.wb_target.proofs.making.MakingStageStage.perform.Goals.{then-is_due+else-not-make, else-is_due}
use Rattle.wb_target.proofs.making.MakingStageStage.perform.Goals as goal

pub returns-clause-led : goal.returns-clause-led
returns-clause-led g c =
    let old = c.args.self.now in
    let want = c.args.want.now in
    let before = c.if-is_due.self in
    let due = is_due old.made want in
    let made = MadeFirst g.P.Policy.begun g.P.Policy.with_setting old want before.made in
    let once = IsMadeOnce old.made want before.made in
    let not = WasNotMade g.P.Policy.with_setting old.keys.now old.stage.opening old.made before.made in
    elim c.if-is_due.branch [
      | then-is_due+else-not-make w ↦
          let yes : due ≡ true = sym c.is_due.ensures ∙ w.if-is_due.true in
          led_on due made once (before.keys ≡ old.keys) not g.D.Disk.tells g.D.Disk.size g.D.Disk.contents g.D.Disk.faults old.stage before.stage c.perform.new.self want c.perform.result
          (record {
            others = λ no. absurd (let both : true ≡ false = sym yes ∙ no in cc);
            devices = ap (λ m. m.stage.devices) w.self-is ∙ w.make.ensures.devices;
            commit = ap (λ m. m.stage.opening.commit) w.self-is ∙ w.make.ensures.commit;
            geometry = ap (λ m. m.stage.opening.geometry) w.self-is ∙ w.make.ensures.geometry;
          })
          (ap (λ m. m.stage.mode) w.self-is ∙ w.make.ensures.mode) (ap (λ m. m.keys) w.self-is ∙ w.make.ensures.keys) c.perform.ensures.led
          (λ so. let is = OnTrue_at w.if-not-make.false w.make.ensures.made in (is.0, ap (λ m. m.made) w.self-is ∙ is.1, is.2))
          (λ no. absurd (let both : true ≡ false = sym yes ∙ no in cc))
      | else-is_due w ↦
          let no : due ≡ false = sym c.is_due.ensures ∙ w.if-is_due.false in
          led_on due made once (before.keys ≡ old.keys) not g.D.Disk.tells g.D.Disk.size g.D.Disk.contents g.D.Disk.faults old.stage before.stage c.perform.new.self want c.perform.result
          (record {
            others = λ so. ap (λ m. m.stage) w.self-is;
            devices = ap (λ m. m.stage.devices) w.self-is;
            commit = ap (λ m. m.stage.opening.commit) w.self-is;
            geometry = ap (λ m. m.stage.opening.geometry) w.self-is;
          })
          (ap (λ m. m.stage.mode) w.self-is) (ap (λ m. m.keys) w.self-is) c.perform.ensures.led
          (λ yes. absurd (let both : true ≡ false = sym yes ∙ no in cc))
          (λ so. ap (λ m. m.made) w.self-is)
    ]
