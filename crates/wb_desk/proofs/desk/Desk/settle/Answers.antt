use Rattle.std.proofs.Common.{List, refl, sym, subst}
use Rattle.std.proofs.lemmas.List.{drop_all, drop_more}
use Rattle.wb_types.specs.declared.number.OBlock.{OBlock}
use Rattle.wb_desk.specs.Settling.{AreSettled}
use Rattle.wb_desk.proofs.Safe.{none_decided, decided_then}
use Rattle.wb_desk.proofs.desk.Desk.settle.Goals as goal

pub loop-block-init : goal.loop-block-init
loop-block-init g c = record { calls = none_decided g.P.Policy.knows c.args.self.now c.args.self.now refl; settled = λ new h. h }

pub loop-block-preserved : goal.loop-block-preserved
loop-block-preserved g c = record {
  calls = decided_then g.P.Policy.knows c.args.self.now c.loop-block.self c.settle_one.new.self c.loop-block.invariant.calls c.settle_one.ensures.calls;
  settled = λ new h. c.loop-block.invariant.settled new
      (subst (λ (xs : List OBlock). AreSettled g.P.Policy.ordered g.P.Policy.settled c.loop-block.self xs new) (sym (drop_more c.args.blocks.now c.loop-block.block-index (record { 0 = 0 }) c.loop-block-test.true))
      (c.settle_one.new.self, c.settle_one.ensures.settled, h));
}

pub returns-clause-settled : goal.returns-clause-settled
returns-clause-settled g c = c.loop-block.invariant.settled c.loop-block.self
    (subst (λ (xs : List OBlock). AreSettled g.P.Policy.ordered g.P.Policy.settled c.loop-block.self xs c.loop-block.self) (sym (drop_all c.loop-block.block-index c.args.blocks.now c.loop-block-test.false)) refl)
