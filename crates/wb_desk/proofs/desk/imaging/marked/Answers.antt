use Rattle.std.proofs.Common.{◌∙◌, sym, arith}
use Rattle.wb_desk.proofs.Marking.{none_marked, one_passed, one_marked, up_to_all, all_marked, marked_mapping}
use Rattle.wb_desk.proofs.desk.imaging.marked.Goals.{in-Some+in_ok-set, in_default}
use Rattle.wb_desk.proofs.desk.imaging.marked.Goals as goal

pub loop-c-init : goal.loop-c-init
loop-c-init g c = none_marked _ _ _ _ _ _ c.in_ok-marked.ensures.same c.requires.mapping c.copied.ensures.sound

pub loop-c-preserved : goal.loop-c-preserved
loop-c-preserved g c = elim c.match-get.branch [
  | in-Some+in_ok-set w ↦ rw w.marked-is (one_marked _ _ _ _ _ _ _ w.in-Some.entry _ _ c.loop-c.invariant (omega (arith, c.loop-c-test.true))
      (sym c.get.ensures.entry ∙ w.in-Some.is) (sym w.bit_of.ensures) (sym w.hint.ensures.value) w.hint.ensures.at_most w.in_ok-set.ensures.entries w.set.ensures.same w.set.ensures.stays_off w.set.ensures.edited w.set.ensures.sound)
  | in_default w ↦ rw w.marked-is (one_passed _ _ _ _ _ _ c.loop-c.invariant (sym c.get.ensures.entry ∙ w.in_default.is))
]

pub returns-clause-marked : goal.returns-clause-marked
returns-clause-marked g c = all_marked _ _ _ _ _ (up_to_all _ _ _ _ _ _ c.loop-c.auto.c-end (omega (arith, c.loop-c-test.false)) c.loop-c.invariant) c.requires.mapping.size

pub returns-clause-mapping : goal.returns-clause-mapping
returns-clause-mapping g c = marked_mapping _ _ c.args.tree.now _ _ (up_to_all _ _ _ _ _ _ c.loop-c.auto.c-end (omega (arith, c.loop-c-test.false)) c.loop-c.invariant) c.requires.mapping.size _ c.requires.mapping
