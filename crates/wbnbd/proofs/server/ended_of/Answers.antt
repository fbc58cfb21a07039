use Rattle.std.proofs.Common.{◌≡◌, ◌∙◌, None, Some, Ok, Result, ap, subst, sym}
use Rattle.std.specs.Prelude.{IfErr}
use Rattle.wb_types.specs.declared.refusal.Refusal.{Refusal}
use Rattle.wbnbd.specs.Endings.{EndedWell}
use Rattle.wbnbd.proofs.Ending.{one_more, one_served, where_none}
use Rattle.wbnbd.proofs.server.ended_of.Goals.{in-Ok+in-Served+in_default+in-Err-flushed, in-Ok+in-Served+in_default+in_default-flushed, in-Ok+in-Worked, in-Err+then-is_some, in-Err+else-is_some}
use Rattle.wbnbd.proofs.server.ended_of.Goals as goal

pub loop-one-preserved : goal.loop-one-preserved
loop-one-preserved c =
    let told = c.args.told.now in
    let i = c.loop-one.one-index in
    let old = c.loop-one.invariant in
    elim c.match-one.branch [
      | in-Ok+in-Served+in_default+in-Err-flushed w ↦ record {
        well = λ none. absurd (let both : Some w.in-Err-flushed.refusal ≡ None = sym w.refused-is ∙ none in cc);
        served = λ none. one_served told i _ _ _ c.loop-one-test.true (w.in-Ok.is ∙ ap Ok w.in-Served.is);
      }
      | in-Ok+in-Served+in_default+in_default-flushed w ↦ record {
        well = λ none. one_more told i _ c.loop-one-test.true
            (subst EndedWell (sym (w.in-Ok.is ∙ ap Ok w.in-Served.is)) (where_none _ _ w.in_default.is w.break_of.ensures, subst (λ (x : Result (Unit {0}) Refusal). IfErr x (λ refusal. ⊥)) (sym w.in_default-flushed.is) tt))
            (old.well (sym w.refused-is ∙ none));
        served = λ none. one_served told i _ _ _ c.loop-one-test.true (w.in-Ok.is ∙ ap Ok w.in-Served.is);
      }
      | in-Ok+in-Worked w ↦ record {
        well = λ none. one_more told i _ c.loop-one-test.true (subst EndedWell (sym (w.in-Ok.is ∙ ap Ok w.in-Worked.is)) tt) (old.well (sym w.refused-is ∙ none));
        served = λ none. old.served (sym w.unserved-is ∙ none);
      }
      | in-Err+then-is_some w ↦ record {
        well = λ none. one_more told i _ c.loop-one-test.true (subst EndedWell (sym w.in-Err.is) tt) (old.well (sym w.refused-is ∙ none));
        served = λ none. absurd (let both : Some w.in-Err.refusal ≡ None = sym w.unserved-is ∙ none in cc);
      }
      | in-Err+else-is_some w ↦ record {
        well = λ none. one_more told i _ c.loop-one-test.true (subst EndedWell (sym w.in-Err.is) tt) (old.well (sym w.refused-is ∙ none));
        served = λ none. old.served (sym w.unserved-is ∙ none);
      }
    ]
