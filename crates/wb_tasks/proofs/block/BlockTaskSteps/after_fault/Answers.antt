use Rattle.std.proofs.Common.{inl, inr, ap}
use Rattle.wb_types.specs.Extents.{pieces}
use Rattle.wb_types.specs.declared.mode.Dev.{Dev}
use Rattle.wb_types.specs.declared.refusal.Refusal.TheVariants.{Io}
use Rattle.wb_tasks.specs.declared.block.Phase.TheVariants.{Reads, Writes, Mirrors, Copies, Puts, Releases, SetsFailed}
use Rattle.wb_tasks.specs.declared.step.Answer.TheVariants.{Refused as Refuses}
use Rattle.wb_tasks.proofs.Views.{part_of, left_by_fault, FailsTo}
use Rattle.wb_tasks.proofs.block.BlockTaskSteps.after_fault.Goals as goal

pub returns-in-Writes : goal.returns-in-Writes
returns-in-Writes c =
    let t = c.self.inside in
    let part = part_of t in
    let fails : FailsTo t.work part (Writes c.in-Writes.place) _ = (c.written_by-to.result.0, c.written_by-to.result.1, c.written_by-to.ensures, ap (λ (device : Dev). SetsFailed device) c.device_at.ensures) in
    left_by_fault t.work part t.phase (Writes c.in-Writes.place) _ (pieces t.longest t.left) _ c.in-Writes.is c.self.view_is fails c.requires

pub returns-in-Puts : goal.returns-in-Puts
returns-in-Puts c =
    let t = c.self.inside in
    let part = part_of t in
    let fails = ap (λ (device : Dev). SetsFailed device) c.device_at-in-Puts.ensures in
    elim c.in-Puts.is [
      | inl w ↦ left_by_fault t.work part t.phase (Puts w.0 c.in-Puts.place w.1) _ (pieces t.longest t.left) _ w.2 c.self.view_is fails c.requires
      | inr w ↦ left_by_fault t.work part t.phase (Mirrors c.in-Puts.place w.0) _ (pieces t.longest t.left) _ w.1 c.self.view_is fails c.requires
    ]

pub returns-in-Reads : goal.returns-in-Reads
returns-in-Reads c =
    let t = c.self.inside in
    let part = part_of t in
    let fails : FailsTo t.work part (Reads c.in-Reads.place) _ = λ i. Releases (c.has_order.ensures i) (Refuses (Io (c.device_at-in-Reads.ensures i))) in
    elim c.in-Reads.is [
      | inl e ↦ left_by_fault t.work part t.phase _ _ (pieces t.longest t.left) _ e c.self.view_is fails c.requires
      | inr w ↦ left_by_fault t.work part t.phase (Copies c.in-Reads.place w.0) _ (pieces t.longest t.left) _ w.1 c.self.view_is fails c.requires
    ]
