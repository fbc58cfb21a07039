use Rattle.std.proofs.Common.{◌∙◌, sym}
use Rattle.wb_desk.proofs.Seen.{seen_later, seen_one, there}
use Rattle.wb_tests_desk.proofs.desk.ticks.seen.Goals.{then-eq+in-Some+in_ok-push, then-eq+in_default, else-eq}
use Rattle.wb_tests_desk.proofs.desk.ticks.seen.Goals as goal

pub loop-c-preserved : goal.loop-c-preserved
loop-c-preserved g c = elim c.if-eq.branch [
  | then-eq+in-Some+in_ok-push w ↦ rw (w.seen-is, w.in_ok-push.ensures.items) (seen_one _ (record { 0 = c.loop-c.c }) w.in-Some.entry.origin _ (there _ c.loop-c.c w.in-Some.entry (sym w.entry.ensures ∙ w.in-Some.is)) c.loop-c.invariant)
  | then-eq+in_default w ↦ rw w.seen-is (seen_later _ _ _ c.loop-c.invariant)
  | else-eq w ↦ rw w.seen-is (seen_later _ _ _ c.loop-c.invariant)
]
