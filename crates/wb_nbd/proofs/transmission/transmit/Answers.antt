use Rattle.wb_nbd.specs.Talking.{still, further}
use Rattle.wb_nbd.proofs.transmission.transmit.Goals as goal

pub loop-init : goal.loop-init
loop-init g c = still

pub returns-in-Ok-false-clause-ended : goal.returns-in-Ok-false-clause-ended
returns-in-Ok-false-clause-ended g c = (_, c.loop.invariant, c.in-Ok-false.ensures.end c.in-Ok-false.field-0-test)

pub returns-in-Err-clause-broken : goal.returns-in-Err-clause-broken
returns-in-Err-clause-broken g c different = (_, c.loop.invariant, c.in-Err.ensures.broken different)

pub loop-preserved : goal.loop-preserved
loop-preserved g c = further c.loop.invariant (c.in-Ok-true.ensures.turn c.in-Ok-true.field-0-test)
