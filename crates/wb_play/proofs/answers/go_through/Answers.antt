use Rattle.std.proofs.Common.{rules, arith, ◌+◌, ◌∙◌, ◌++◌, [], refl, sym, ap, append_assoc, append-nil}
use Rattle.std.proofs.lemmas.Result.{err_from_is_err_and}
use Rattle.wb_play.proofs.Answering.{went_on, stopped_on}
use Rattle.wb_play.proofs.answers.go_through.Goals as goal

pub loop-first-init : goal.loop-first-init
loop-first-init g c = record {
  within = search (rules, arith);
  inside = search rules;
  sizes = search rules;
  so_far = ([], ([], refl), sym (append-nil _));
}

pub loop-first-preserved : goal.loop-first-preserved
loop-first-preserved g c =
    let before = c.loop-first.invariant.so_far in
    let part = c.in_ok-do_part.ensures.done in
    record {
      within = search (rules, arith);
      inside = search rules;
      sizes = search rules;
      so_far = (
        before.0 ++ part.0,
        went_on g.C.Served.did c.args.deed c.in_ok-end.end _ c.loop-first.client c.do_part.new.client _ c.loop-first.first c.first_part-part.result.count before.0 part.0 _ c.first_part-part.ensures.count refl c.first_part-part.ensures.first part.1 before.1,
        part.2 ∙ ap (λ text. text ++ part.0) before.2 ∙ append_assoc _ before.0 part.0,
      );
    }

pub returns-in_err-do_part-clause-refused : goal.returns-in_err-do_part-clause-refused
returns-in_err-do_part-clause-refused g c =
    let before = c.loop-first.invariant.so_far in
    let p = err_from_is_err_and c.from_residual-in_err-do_part.result c.from_residual-in_err-do_part.ensures.1 in
    rw (p.1, p.2) (stopped_on g.C.Served.did g.C.Served.met c.args.deed c.args.at.0 (c.args.at.0 + c.args.count) c.in_ok-end.end c.args.client.now c.loop-first.client c.do_part.new.client c.first_part-part.result.first c.loop-first.first c.first_part-part.result.count before.0 _ _ c.first_part-part.ensures.count refl c.first_part-part.ensures.first c.in_ok-end.ensures.end c.in_err-do_part.ensures.refused before.1)
