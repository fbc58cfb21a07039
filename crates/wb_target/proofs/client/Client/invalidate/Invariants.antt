use Rattle.std.proofs.Common.{[], drop}
use Rattle.std.specs.List.{flat_map}
use Rattle.wb_tasks.specs.declared.step.Answer.TheVariants.{Done as Finished}
use Rattle.wb_port.specs.Hands.{saw_fail_word}
use Rattle.wb_target.specs.Works.{WasAsked}
use Rattle.wb_target.specs.Invalidates.{WasFound, InvalidationCame, LeavesTheRest, range_places}
use Rattle.wb_target.proofs.Invalidates.{EmptiedTo}
use Rattle.wb_target.proofs.client.Client.invalidate.Given as goal

abbrev pub invariant-loop-range : goal.invariant-loop-range
invariant-loop-range g l = record {
  rest : LeavesTheRest l.fn.self l.self;
  emptied : EmptiedTo (WasFound g.row.P.Denot l.fn.self.port.geometry.origin_blocks) (InvalidationCame (WasAsked g.P.Policy.with_entry g.P.Policy.without_entry []) l.fn.self.port.geometry Finished) (flat_map range_places l.ranges) (flat_map range_places (drop l.range-index l.ranges)) (saw_fail_word 0 l.fn.self.port.hand) l.self.port.hand;
}
