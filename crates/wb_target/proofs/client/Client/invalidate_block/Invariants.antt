use Rattle.std.proofs.Common.{[]}
use Rattle.wb_types.specs.declared.refusal.Refusal.TheVariants.{Busy}
use Rattle.wb_tasks.specs.declared.step.Answer.TheVariants.{Refused as Refuses}
use Rattle.wb_target.specs.Works.{WasAsked}
use Rattle.wb_target.specs.Invalidates.{LeavesTheRest, WasInvalidated}
use Rattle.wb_target.proofs.Tries.{SoFar}
use Rattle.wb_target.proofs.client.Client.invalidate_block.Given as goal

abbrev pub invariant-loop : goal.invariant-loop
invariant-loop g l = record {
  rest : LeavesTheRest l.fn.self l.self;
  tried : SoFar (λ s t. WasInvalidated (WasAsked g.P.Policy.with_entry g.P.Policy.without_entry []) l.fn.self.port.geometry.origin_blocks l.fn.self.port.geometry.block l.fn.block s (Refuses Busy) t) l.fn.self.port.hand l.self.port.hand;
}
