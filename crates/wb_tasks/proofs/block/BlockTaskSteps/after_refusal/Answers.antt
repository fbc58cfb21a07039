use Rattle.wb_types.specs.Extents.{pieces}
use Rattle.wb_tasks.specs.declared.step.Got.TheVariants.{Refused}
use Rattle.wb_tasks.proofs.Views.{part_of, by_view, after_refused_entry}
use Rattle.wb_tasks.proofs.block.BlockTaskSteps.after_refusal.Goals as goal

pub returns : goal.returns
returns c =
    let t = c.self.inside in
    let part = part_of t in
    by_view _ _ _ (Refused c.args.refusal) c.self.view_is c.requires (rw c.has_order.ensures (after_refused_entry t.work part t.phase (pieces t.longest t.left) c.args.refusal))
