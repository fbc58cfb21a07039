use Rattle.std.proofs.KnownBytes.{Appends-kept}
use Rattle.wb_nbd.proofs.answer.write_error.Goals as goal

pub returns : goal.returns
returns g c =
    record { sent = Appends-kept _ _ _ _ (rw c.number.ensures at c.in_ok-write_header.ensures.sent) c.flush.ensures.bytes }
