use Rattle.std.proofs.Common.{◌∙◌}
use Rattle.wb_nbd.proofs.Zeros.{as_many}
use Rattle.wb_nbd.proofs.performing.write_zeros.Goals as goal

pub write_again-requires-clause-zeros : goal.write_again-requires-clause-zeros
write_again-requires-clause-zeros g c = as_many c.as_slice.result.now _ (c.as_slice.ensures.value ∙ c.in_ok-zeros.ensures.zeros)
