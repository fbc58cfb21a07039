use Rattle.std.proofs.Common.{◌∙◌, ◌+◌, [], List, drop, slice_index_or, refl, sym, subst}
use Rattle.std.proofs.lemmas.List.{drop_all, drop_more}
use Rattle.std.specs.List.{flat_map}
use Rattle.wb_meta.proofs.Loaded.{IfErr-handed}
use Rattle.wb_types.specs.declared.geometry.Geometry.{Geometry}
use Rattle.wb_types.specs.declared.message.CBlockRange.{CBlockRange}
use Rattle.wb_types.specs.declared.refusal.Refusal.TheVariants.{Failed}
use Rattle.wb_tasks.specs.declared.step.Answer.TheVariants.{Done as Finished, Refused as Refuses}
use Rattle.wb_port.specs.Hands.{saw_fail_word}
use Rattle.wb_target.specs.Works.{WasAsked}
use Rattle.wb_target.specs.Invalidates.{InvalidationCame, WasFound, HaveLeftCache, HaveFailed, range_places, HadFailed, Stopped}
use Rattle.wb_target.proofs.Invalidates.{EmptiedTo, emptied_more, emptied_all, emptied_stops, not_begun, rest_on}
use Rattle.wb_target.proofs.client.Client.invalidate.Goals as goal

-- a range without a block
abbrev empty_range : CBlockRange
empty_range = record { begin = record { 0 = 0 }; end = record { 0 = 0 } }

pub returns-then-has_failed-clause-refused : goal.returns-then-has_failed-clause-refused
returns-then-has_failed-clause-refused g c =
    let set = c.if-has_failed.ensures.set in
    HadFailed refl c.in_ok-may_invalidate.ensures.ok.0 (sym c.mode.ensures ∙ c.in_ok-may_invalidate.ensures.ok.1) set.0 set.1 set.2

pub returns-in_err-may_invalidate-clause-refused : goal.returns-in_err-may_invalidate-clause-refused
returns-in_err-may_invalidate-clause-refused g c = IfErr-handed c.from_residual.result c.in_err-may_invalidate.field-0.0 _ c.from_residual.ensures.1 (not_begun g.row.P.Denot (WasAsked g.P.Policy.with_entry g.P.Policy.without_entry []) c.args.self.now.port.geometry c.args.ranges.now c.in_err-may_invalidate.field-0.0 c.mode.result c.args.self.now.port.hand c.mode.ensures c.in_err-may_invalidate.ensures.refused)

pub loop-range-preserved : goal.loop-range-preserved
loop-range-preserved g c = record {
  rest = rest_on c.args.self.now c.loop-range.self c.invalidate_range.new.self c.loop-range.invariant.rest c.invalidate_range.ensures.rest;
  emptied = emptied_more (WasFound g.row.P.Denot c.args.self.now.port.geometry.origin_blocks) (InvalidationCame (WasAsked g.P.Policy.with_entry g.P.Policy.without_entry []) c.args.self.now.port.geometry Finished) (flat_map range_places c.args.ranges.now) (range_places (slice_index_or c.args.ranges.now c.loop-range.range-index empty_range)) (flat_map range_places (drop (c.loop-range.range-index + 1) c.args.ranges.now)) (saw_fail_word 0 c.args.self.now.port.hand) c.loop-range.self.port.hand c.invalidate_range.new.self.port.hand
      (subst (λ (left : List CBlockRange). EmptiedTo (WasFound g.row.P.Denot c.args.self.now.port.geometry.origin_blocks) (InvalidationCame (WasAsked g.P.Policy.with_entry g.P.Policy.without_entry []) c.args.self.now.port.geometry Finished) (flat_map range_places c.args.ranges.now) (flat_map range_places left) (saw_fail_word 0 c.args.self.now.port.hand) c.loop-range.self.port.hand) (drop_more c.args.ranges.now c.loop-range.range-index empty_range c.loop-range-test.true) c.loop-range.invariant.emptied)
      (subst (λ (geometry : Geometry). HaveLeftCache g.row.P.Denot (WasAsked g.P.Policy.with_entry g.P.Policy.without_entry []) geometry (range_places (slice_index_or c.args.ranges.now c.loop-range.range-index empty_range)) c.loop-range.self.port.hand c.invalidate_range.new.self.port.hand) c.loop-range.invariant.rest.1 c.in_ok-invalidate_range.ensures.left);
}

pub returns-clause-invalidated : goal.returns-clause-invalidated
returns-clause-invalidated g c = record {
  there = c.in_ok-may_invalidate.ensures.ok.0;
  passes = sym c.mode.ensures ∙ c.in_ok-may_invalidate.ensures.ok.1;
  left = emptied_all (WasFound g.row.P.Denot c.args.self.now.port.geometry.origin_blocks) (InvalidationCame (WasAsked g.P.Policy.with_entry g.P.Policy.without_entry []) c.args.self.now.port.geometry Finished) (flat_map range_places c.args.ranges.now) (saw_fail_word 0 c.args.self.now.port.hand) c.loop-range.self.port.hand
      (subst (λ (left : List CBlockRange). EmptiedTo (WasFound g.row.P.Denot c.args.self.now.port.geometry.origin_blocks) (InvalidationCame (WasAsked g.P.Policy.with_entry g.P.Policy.without_entry []) c.args.self.now.port.geometry Finished) (flat_map range_places c.args.ranges.now) (flat_map range_places left) (saw_fail_word 0 c.args.self.now.port.hand) c.loop-range.self.port.hand) (drop_all c.loop-range.range-index c.args.ranges.now c.loop-range-test.false) c.loop-range.invariant.emptied);
}

pub returns-in_err-invalidate_range-clause-refused : goal.returns-in_err-invalidate_range-clause-refused
returns-in_err-invalidate_range-clause-refused g c =
    let here = c.in_err-invalidate_range.ensures.refused in
    IfErr-handed c.from_residual-in_err-invalidate_range.result c.in_err-invalidate_range.field-0.0 _ c.from_residual-in_err-invalidate_range.ensures.1 (Stopped here.0 c.in_ok-may_invalidate.ensures.ok.0 (sym c.mode.ensures ∙ c.in_ok-may_invalidate.ensures.ok.1) (
    emptied_stops (WasFound g.row.P.Denot c.args.self.now.port.geometry.origin_blocks) (InvalidationCame (WasAsked g.P.Policy.with_entry g.P.Policy.without_entry []) c.args.self.now.port.geometry Finished) (InvalidationCame (WasAsked g.P.Policy.with_entry g.P.Policy.without_entry []) c.args.self.now.port.geometry (Refuses Failed)) (flat_map range_places c.args.ranges.now) (range_places (slice_index_or c.args.ranges.now c.loop-range.range-index empty_range)) (flat_map range_places (drop (c.loop-range.range-index + 1) c.args.ranges.now)) (saw_fail_word 0 c.args.self.now.port.hand) c.loop-range.self.port.hand c.invalidate_range.new.self.port.hand
    (subst (λ (left : List CBlockRange). EmptiedTo (WasFound g.row.P.Denot c.args.self.now.port.geometry.origin_blocks) (InvalidationCame (WasAsked g.P.Policy.with_entry g.P.Policy.without_entry []) c.args.self.now.port.geometry Finished) (flat_map range_places c.args.ranges.now) (flat_map range_places left) (saw_fail_word 0 c.args.self.now.port.hand) c.loop-range.self.port.hand) (drop_more c.args.ranges.now c.loop-range.range-index empty_range c.loop-range-test.true) c.loop-range.invariant.emptied)
    (subst (λ (geometry : Geometry). HaveFailed g.row.P.Denot (WasAsked g.P.Policy.with_entry g.P.Policy.without_entry []) geometry (range_places (slice_index_or c.args.ranges.now c.loop-range.range-index empty_range)) c.loop-range.self.port.hand c.invalidate_range.new.self.port.hand) c.loop-range.invariant.rest.1 here.1)
    ))
