use Rattle.std.proofs.Common.{refl, sym, ap, ◌∙◌}
use Rattle.wb_tasks.specs.Tables.{place_read}
use Rattle.wb_port.proofs.Onward.{ready_now, ready_after, goes_on}
use Rattle.wb_tasks.specs.declared.step.Got.TheVariants.{Word}
use Rattle.wb_words.specs.SharedWords.{place_in, dirty_in}
use Rattle.wb_port.proofs.Onward.{after_number_read, after_number_write, after_deferred, after_last}
use Rattle.wb_port.proofs.straight.number.Goals as goal

pub look-number-requires : goal.look-number-requires
look-number-requires g c = ready_now g.S.Stage.ready g.S.Stage.led _ _ _ c.requires.stays refl tt

pub read-requires-clause-stays : goal.read-requires-clause-stays
read-requires-clause-stays g c = ready_after g.S.Stage.ready g.S.Stage.led _ _ _ (Word c.look-number.result) _ _ c.requires.stays refl tt c.look-number.ensures (after_number_read c.args.way c.args.part (place_in c.args.seal) c.place_read.result (dirty_in c.args.seal) c.look-number.result c.in-Reads.is (c.place_read.ensures ∙ ap (place_read c.args.part.mode) c.place_in-place.ensures))

pub give_back-requires : goal.give_back-requires
give_back-requires g c = record { stays = ready_after g.S.Stage.ready g.S.Stage.led _ _ _ (Word c.look-number.result) _ _ c.requires.stays refl tt c.look-number.ensures (after_last c.args.way c.args.part (place_in c.args.seal) (dirty_in c.args.seal) c.look-number.result c.in-Writes.is c.if-number.true) }

pub returns-then-number : goal.returns-then-number
returns-then-number g c = goes_on g.S.Stage.led _ _ _ (Word c.look-number.result) _ _ _ _ refl tt c.look-number.ensures (after_last c.args.way c.args.part (place_in c.args.seal) (dirty_in c.args.seal) c.look-number.result c.in-Writes.is c.if-number.true) c.give_back.ensures

pub dirty-requires-clause-stays : goal.dirty-requires-clause-stays
dirty-requires-clause-stays g c = ready_after g.S.Stage.ready g.S.Stage.led _ _ _ (Word c.look-number.result) _ _ c.requires.stays refl tt c.look-number.ensures (after_number_write c.args.way c.args.part (place_in c.args.seal) c.place_in-place.result (dirty_in c.args.seal) c.is_dirty.result c.look-number.result c.in-Writes.is c.place_in-place.ensures c.is_dirty.ensures c.if-number.false (sym c.if-is_deferred.ensures))

pub returns-in-Reads : goal.returns-in-Reads
returns-in-Reads g c = goes_on g.S.Stage.led _ _ _ (Word c.look-number.result) _ _ _ _ refl tt c.look-number.ensures (after_number_read c.args.way c.args.part (place_in c.args.seal) c.place_read.result (dirty_in c.args.seal) c.look-number.result c.in-Reads.is (c.place_read.ensures ∙ ap (place_read c.args.part.mode) c.place_in-place.ensures)) c.read.ensures

pub returns-else-is_deferred : goal.returns-else-is_deferred
returns-else-is_deferred g c = goes_on g.S.Stage.led _ _ _ (Word c.look-number.result) _ _ _ _ refl tt c.look-number.ensures (after_number_write c.args.way c.args.part (place_in c.args.seal) c.place_in-place.result (dirty_in c.args.seal) c.is_dirty.result c.look-number.result c.in-Writes.is c.place_in-place.ensures c.is_dirty.ensures c.if-number.false (sym c.if-is_deferred.ensures)) c.dirty.ensures

pub give_back-requires-then-is_deferred : goal.give_back-requires-then-is_deferred
give_back-requires-then-is_deferred g c = record { stays = ready_after g.S.Stage.ready g.S.Stage.led _ _ _ (Word c.look-number.result) _ _ c.requires.stays refl tt c.look-number.ensures (after_deferred c.args.way c.args.part (place_in c.args.seal) c.place_in-place.result (dirty_in c.args.seal) c.look-number.result c.in-Writes.is c.place_in-place.ensures c.if-number.false (sym c.if-is_deferred.ensures)) }

pub returns-then-is_deferred : goal.returns-then-is_deferred
returns-then-is_deferred g c = goes_on g.S.Stage.led _ _ _ (Word c.look-number.result) _ _ _ _ refl tt c.look-number.ensures (after_deferred c.args.way c.args.part (place_in c.args.seal) c.place_in-place.result (dirty_in c.args.seal) c.look-number.result c.in-Writes.is c.place_in-place.ensures c.if-number.false (sym c.if-is_deferred.ensures)) c.give_back-then-is_deferred.ensures
