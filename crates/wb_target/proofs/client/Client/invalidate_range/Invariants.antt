use Rattle.std.proofs.Common.{[], ◌-◌}
use Rattle.wb_tasks.specs.declared.step.Answer.TheVariants.{Done as Finished}
use Rattle.wb_target.specs.Works.{WasAsked}
use Rattle.wb_target.specs.Invalidates.{WasFound, InvalidationCame, LeavesTheRest, range_places, from_place}
use Rattle.wb_target.proofs.Invalidates.{EmptiedTo}
use Rattle.wb_target.proofs.client.Client.invalidate_range.Given as goal

abbrev pub invariant-loop-at : goal.invariant-loop-at
invariant-loop-at g l = record {
  rest : LeavesTheRest l.fn.self l.self;
  emptied : EmptiedTo (WasFound g.row.P.Denot l.fn.self.port.geometry.origin_blocks) (InvalidationCame (WasAsked g.P.Policy.with_entry g.P.Policy.without_entry []) l.fn.self.port.geometry Finished) (range_places l.fn.range) (from_place l.at (l.fn.range.end.0 - l.at)) l.fn.self.port.hand l.self.port.hand;
}

abbrev pub decreases-loop-at : goal.decreases-loop-at
decreases-loop-at g l = l.fn.range.end.0 - l.at
