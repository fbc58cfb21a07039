use Rattle.std.proofs.Common.{rules, arith, refl}
use Rattle.std.proofs.lemmas.Grind.{common_steps}
use Rattle.wb_dialogue.proofs.Showing.{some_more, all_shown}
use Rattle.wb_dialogue.proofs.shown.show.Goals as goal

pub loop-rest-preserved : goal.loop-rest-preserved
loop-rest-preserved c =
    let sent = c.loop-rest.invariant.shown in
    record {
      numbered = search rules;
      shown = some_more _ _ _ sent.0 _ c.loop-rest.sector _ _ _ c.split_at.result.0.now c.split_at.result.1.now _ (search rules) refl sent.1 sent.2 c.lay-start.ensures.laid (grind (arith, common_steps));
    }

pub returns : goal.returns
returns c =
    let sent = c.loop-rest.invariant.shown in
    record { shown = (sent.0, all_shown sent.0 c.loop-rest.sector c.args.first c.loop-rest.rest.now c.args.contents.now (search rules) sent.2, sent.1) }
