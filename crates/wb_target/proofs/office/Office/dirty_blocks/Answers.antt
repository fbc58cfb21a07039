use Rattle.std.proofs.Common.{◌∙◌, subst}
use Rattle.std.specs.Prelude.{IfSome}
use Rattle.wb_desk.specs.Desks.{holdings}
use Rattle.wb_policy.specs.Law.{IsMappedAt}
use Rattle.wb_desk.proofs.Seen.{seen_later, seen_one}
use Rattle.wb_target.proofs.office.Office.dirty_blocks.Goals.{in-Some+in_ok-push, in_default}
use Rattle.wb_target.proofs.office.Office.dirty_blocks.Goals as goal

pub loop-c-preserved : goal.loop-c-preserved
loop-c-preserved g c = elim c.match-dirty_at.branch [
  | in-Some+in_ok-push w ↦ record {
    desk = c.dirty_at.ensures.desk ∙ c.loop-c.invariant.desk;
    seen = rw (w.dirty-is, w.in_ok-push.ensures.items) (seen_one _ (record { 0 = c.loop-c.c }) w.in-Some.block _
        (subst (λ desk. IsMappedAt (holdings desk) w.in-Some.block.0 c.loop-c.c) c.loop-c.invariant.desk
        (subst (λ found. IfSome found (λ block. IsMappedAt (holdings c.loop-c.self.desk) block.0 c.loop-c.c)) w.in-Some.is c.dirty_at.ensures.mapped))
        c.loop-c.invariant.seen);
  }
  | in_default w ↦ record {
    desk = c.dirty_at.ensures.desk ∙ c.loop-c.invariant.desk;
    seen = rw w.dirty-is (seen_later _ _ _ c.loop-c.invariant.seen);
  }
]
