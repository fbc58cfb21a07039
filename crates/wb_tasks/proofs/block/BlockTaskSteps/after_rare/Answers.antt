use Rattle.wb_types.specs.Extents.{pieces}
use Rattle.wb_tasks.proofs.Views.{by_view, lost}
use Rattle.wb_tasks.proofs.block.BlockTaskSteps.after_rare.Goals as goal

pub returns : goal.returns
returns c =
    let t = c.self.inside in
    by_view _ _ _ c.args._got c.self.view_is c.requires.fits (lost t.work _ t.phase (pieces t.longest t.left) c.args._got c.requires.rare)
