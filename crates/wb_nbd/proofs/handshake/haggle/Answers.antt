use Rattle.wb_nbd.specs.Talking.{still, further}
use Rattle.wb_nbd.proofs.handshake.haggle.Goals as goal

pub loop-init : goal.loop-init
loop-init g c = still

pub loop-preserved : goal.loop-preserved
loop-preserved g c = further c.loop.invariant (rw c.in-Ok-None.field-0-is at c.in-Ok-None.ensures)
