use Rattle.std.proofs.Common.{◌≡◌}
use Rattle.wb_target.proofs.target.Target.ask.Given as goal

abbrev pub invariant-loop : goal.invariant-loop
invariant-loop g l = record {
  commit : l.commit ≡ l.fn.commit;
  share : l.share ≡ l.fn.share;
}
