use Rattle.std.proofs.KnownBytes.{Appends-trans, Appends-kept}
use Rattle.wb_nbd.proofs.answer.write_content.Goals as goal

pub returns : goal.returns
returns g c =
    let a = Appends-trans _ _ _ _ _ c.in_ok-write_header.ensures.sent (rw c.as_flattened.ensures.value at c.in_ok-write_all.ensures.bytes) in
    record { sent = Appends-kept _ _ _ _ a c.flush.ensures.bytes }
