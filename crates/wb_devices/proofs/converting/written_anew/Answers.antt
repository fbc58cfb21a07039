use Rattle.std.proofs.Common.{arith, ◌+◌, subst, sym, ◌∙◌}
use Rattle.wb_tree.specs.Mapping.{Mapping}
use Rattle.wb_devices.proofs.Anew.{IsAnewTo, anew_done, anew_passed, anew_set}
use Rattle.wb_devices.proofs.converting.written_anew.Goals as goal
use Rattle.wb_devices.proofs.converting.written_anew.Goals.{in-Some+in_ok-set, in_default}

pub loop-number-preserved : goal.loop-number-preserved
loop-number-preserved g c =
    let tree = c.args.tree.now in
    let number = c.loop-number.number in
    let anew = c.loop-number.anew in
    elim c.match-get.branch [
      | in-Some+in_ok-set w ↦ subst (λ (t : Mapping). IsAnewTo tree (number + 1) t) (sym w.anew-is)
          (anew_set tree anew w.set.new.self number w.in-Some.entry w.clean_entry.result (omega (arith, c.requires.size, c.loop-number-test.true)) c.loop-number.invariant (sym c.get.ensures.entry ∙ w.in-Some.is) w.clean_entry.ensures w.in_ok-set.ensures.entries w.set.ensures.edited)
      | in_default w ↦ subst (λ (t : Mapping). IsAnewTo tree (number + 1) t) (sym w.anew-is)
          (anew_passed tree anew number c.loop-number.invariant (sym c.get.ensures.entry ∙ w.in_default.is))
    ]

pub returns-clause-anew : goal.returns-clause-anew
returns-clause-anew g c = anew_done c.args.tree.now c.loop-number.anew c.loop-number.number (omega (arith, c.requires.size, c.loop-number-test.false)) c.loop-number.invariant
