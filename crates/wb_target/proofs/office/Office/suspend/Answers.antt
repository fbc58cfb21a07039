use Rattle.std.proofs.Common.{◌∙◌, List, false, inr, sym, ap, subst, replicate}
use Rattle.wb_types.specs.declared.number.OBlock.{OBlock}
use Rattle.wb_tasks.specs.Tables.{Suspending}
use Rattle.wb_tasks.specs.Plan.{table}
use Rattle.wb_tasks.specs.Ready.{AreBelow}
use Rattle.wb_target.specs.Offices.{OfficeState}
use Rattle.wb_target.specs.Suspends.{mapped_blocks}
use Rattle.wb_target.proofs.Desking.{blocks_there}
use Rattle.wb_target.proofs.Suspends.{as_seen, below, was}
use Rattle.wb_target.proofs.office.Office.suspend.Goals as goal

pub run_suspend-answer-requires-clause-begun : goal.run_suspend-answer-requires-clause-begun
run_suspend-answer-requires-clause-begun g c =
    let self = c.self.inside in
    let blocks = c.in-Ok.ensures.blocks ∙ ap (λ (office : OfficeState g.row.P.Denot). mapped_blocks office.desk.tree office.desk.geometry.cache_blocks) (sym c.self.view_is) in
    (c.in-Ok.blocks.items, c.most_nodes.result, c.suspend-task.ensures, subst (λ (all : List OBlock). AreBelow self.seats.watch.geometry.origin_blocks all) (sym blocks) (below self.seats.watch.geometry.origin_blocks self.desk.tree self.desk.geometry.cache_blocks (blocks_there g.P.Policy.knows self.desk _ c.self.invariant c.see_desk.ensures)))

pub returns-in-Done-clause-suspended : goal.returns-in-Done-clause-suspended
returns-in-Done-clause-suspended g c =
    let self = c.self.inside in
    let blocks = c.in-Ok.ensures.blocks ∙ ap (λ (office : OfficeState g.row.P.Denot). mapped_blocks office.desk.tree office.desk.geometry.cache_blocks) (sym c.self.view_is) in
    as_seen g.D.Disk.tells g.D.Disk.size g.D.Disk.contents g.D.Disk.faults g.P.Policy.hint_of g.P.Policy.with_entry g.P.Policy.without_entry _ _ c.self.view_is (was g.D.Disk.tells g.D.Disk.size g.D.Disk.contents g.D.Disk.faults g.P.Policy.hint_of g.P.Policy.with_entry g.P.Policy.without_entry self.seats.watch.pass self.desk self.seats.watch.geometry.origin_blocks c.most_nodes.result _ _ _ _ _ _ c.run_suspend-answer.ensures.ran
    (c.suspend-task.ensures ∙ ap (λ (all : List OBlock). table (Suspending all c.most_nodes.result)) blocks) (c.as_mut_slice.ensures.value ∙ c.in-Ok-no_bits.ensures ∙ ap (λ geometry. replicate geometry.cache_blocks false) c.geometry-geometry.ensures) c.in-Done.is)

pub returns-clause-refused : goal.returns-clause-refused
returns-clause-refused g c =
    let self = c.self.inside in
    let blocks = c.in-Ok.ensures.blocks ∙ ap (λ (office : OfficeState g.row.P.Denot). mapped_blocks office.desk.tree office.desk.geometry.cache_blocks) (sym c.self.view_is) in
    inr (inr (as_seen g.D.Disk.tells g.D.Disk.size g.D.Disk.contents g.D.Disk.faults g.P.Policy.hint_of g.P.Policy.with_entry g.P.Policy.without_entry _ _ c.self.view_is (was g.D.Disk.tells g.D.Disk.size g.D.Disk.contents g.D.Disk.faults g.P.Policy.hint_of g.P.Policy.with_entry g.P.Policy.without_entry self.seats.watch.pass self.desk self.seats.watch.geometry.origin_blocks c.most_nodes.result _ _ _ _ _ _ c.run_suspend-answer.ensures.ran
    (c.suspend-task.ensures ∙ ap (λ (all : List OBlock). table (Suspending all c.most_nodes.result)) blocks) (c.as_mut_slice.ensures.value ∙ c.in-Ok-no_bits.ensures ∙ ap (λ geometry. replicate geometry.cache_blocks false) c.geometry-geometry.ensures) c.in-Refused.is)))
