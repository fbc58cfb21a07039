use Rattle.std.proofs.Common.{refl, sym, subst}
use Rattle.wb_types.specs.Extents.{pieces}
use Rattle.wb_tasks.specs.Plan.{Plan, want, Fits}
use Rattle.wb_tasks.specs.declared.block.Work.TheVariants.{Write, Displace, Invalidate}
use Rattle.wb_tasks.specs.declared.step.Got.TheVariants.{Word}
use Rattle.wb_tasks.proofs.Views.{part_of, left_by_holding, looks_first}
use Rattle.wb_tasks.proofs.block.BlockTaskSteps.after_look.Goals as goal

pub returns-in-Write-default : goal.returns-in-Write-default
returns-in-Write-default c = left_by_holding c.self.inside Write c.writing-self-inside.result c.args.word c.in-Acquires.is c.self.view_is c.requires c.after_look.ensures c.access_of-access.ensures c.is_write.ensures c.in-Write-default.is-0 c.in-Holds.is (c.writing-self-inside.ensures (part_of c.self.inside) refl)

pub returns-in-Displace-default : goal.returns-in-Displace-default
returns-in-Displace-default c = left_by_holding c.self.inside Displace c.displacing-self-inside.result c.args.word c.in-Acquires.is c.self.view_is c.requires c.after_look.ensures c.access_of-access.ensures c.is_write.ensures c.in-Displace-default.is-0 c.in-Holds.is (c.displacing-self-inside.ensures (part_of c.self.inside) c.in-Holds.dirty)

pub returns-in-Invalidate-default : goal.returns-in-Invalidate-default
returns-in-Invalidate-default c = left_by_holding c.self.inside Invalidate c.invalidating-self-inside.result c.args.word c.in-Acquires.is c.self.view_is c.requires c.after_look.ensures c.access_of-access.ensures c.is_write.ensures c.in-Invalidate-default.is-0 c.in-Holds.is (c.invalidating-self-inside.ensures (part_of c.self.inside) c.in-Holds.dirty)

pub returns-in_default : goal.returns-in_default
returns-in_default c =
    let t = c.self.inside in
    absurd (looks_first t.work _ t.phase (pieces t.longest t.left) c.args.word c.in_default.not-Acquires (subst (λ (s : Plan). Fits (want s) (Word c.args.word)) (sym c.self.view_is) c.requires))
