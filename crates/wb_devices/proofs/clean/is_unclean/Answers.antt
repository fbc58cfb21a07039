use Rattle.std.proofs.lemmas.Bool.{OnTrue_at, OnTrue_from}
use Rattle.wb_devices.proofs.clean.is_unclean.Goals as goal

pub returns-clause-unclean : goal.returns-clause-unclean
returns-clause-unclean c = OnTrue_from c.is_left_unclean.result _ (λ yes. record {
  state = c.in-Done.state;
  all_read = c.in-Done.is;
  fits = c.if-not-are_same_sizes.ensures.same;
  unclean = OnTrue_at yes c.is_left_unclean.ensures.unclean;
})
