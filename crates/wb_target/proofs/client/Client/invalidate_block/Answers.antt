use Rattle.std.proofs.Common.{[], ◌∙◌, subst}
use Rattle.wb_types.specs.declared.geometry.Geometry.{Geometry}
use Rattle.wb_types.specs.declared.refusal.Refusal.{Refusal}
use Rattle.wb_types.specs.declared.refusal.Refusal.TheVariants.{Busy}
use Rattle.wb_tasks.specs.declared.step.Answer.TheVariants.{Done as Finished, Refused as Refuses}
use Rattle.wb_target.specs.Works.{WasAsked}
use Rattle.wb_target.specs.Invalidates.{WasInvalidated}
use Rattle.wb_target.proofs.Tries.{again}
use Rattle.wb_target.proofs.Invalidates.{failed_alone}
use Rattle.wb_target.proofs.client.Client.invalidate_block.Goals as goal

pub loop-preserved : goal.loop-preserved
loop-preserved g c = record {
  rest = (c.loop.invariant.rest.0, c.invalidate_port.ensures.geometry ∙ c.loop.invariant.rest.1, c.invalidate_port.ensures.devices ∙ c.loop.invariant.rest.2, c.invalidate_port.ensures.accesses ∙ c.loop.invariant.rest.3);
  tried = again (λ s t. WasInvalidated (WasAsked g.P.Policy.with_entry g.P.Policy.without_entry []) c.args.self.now.port.geometry.origin_blocks c.args.self.now.port.geometry.block c.args.block s (Refuses Busy) t) c.args.self.now.port.hand c.loop.self.port.hand c.invalidate_port.new.port.hand c.loop.invariant.tried
      (subst (λ (refusal : Refusal). WasInvalidated (WasAsked g.P.Policy.with_entry g.P.Policy.without_entry []) c.args.self.now.port.geometry.origin_blocks c.args.self.now.port.geometry.block c.args.block c.loop.self.port.hand (Refuses refusal) c.invalidate_port.new.port.hand) c.if-is_busy.ensures.busy
      (subst (λ (geometry : Geometry). WasInvalidated (WasAsked g.P.Policy.with_entry g.P.Policy.without_entry []) geometry.origin_blocks geometry.block c.args.block c.loop.self.port.hand (Refuses c.in-Err.refusal) c.invalidate_port.new.port.hand) c.loop.invariant.rest.1 c.in-Err.ensures.refused));
}

pub returns-else-is_busy-clause-refused : goal.returns-else-is_busy-clause-refused
returns-else-is_busy-clause-refused g c =
    let was = subst (λ (geometry : Geometry). WasInvalidated (WasAsked g.P.Policy.with_entry g.P.Policy.without_entry []) geometry.origin_blocks geometry.block c.args.block c.loop.self.port.hand (Refuses c.in-Err.refusal) c.invalidate_port.new.port.hand) c.loop.invariant.rest.1 c.in-Err.ensures.refused in
    let alone = failed_alone (WasAsked g.P.Policy.with_entry g.P.Policy.without_entry []) _ _ c.args.block c.in-Err.refusal _ _ c.if-is_busy.ensures.other was in (
      alone,
      record {
        tries = c.loop.invariant.tried.0;
        before = c.loop.self.port.hand;
        tried = c.loop.invariant.tried.1;
        ended = subst (λ (refusal : Refusal). WasInvalidated (WasAsked g.P.Policy.with_entry g.P.Policy.without_entry []) c.args.self.now.port.geometry.origin_blocks c.args.self.now.port.geometry.block c.args.block c.loop.self.port.hand (Refuses refusal) c.invalidate_port.new.port.hand) alone was;
      },
    )

pub returns-in-Ok-clause-done : goal.returns-in-Ok-clause-done
returns-in-Ok-clause-done g c = record {
  tries = c.loop.invariant.tried.0;
  before = c.loop.self.port.hand;
  tried = c.loop.invariant.tried.1;
  ended = subst (λ (geometry : Geometry). WasInvalidated (WasAsked g.P.Policy.with_entry g.P.Policy.without_entry []) geometry.origin_blocks geometry.block c.args.block c.loop.self.port.hand Finished c.invalidate_port.new.port.hand) c.loop.invariant.rest.1 c.in-Ok.ensures.done;
}
