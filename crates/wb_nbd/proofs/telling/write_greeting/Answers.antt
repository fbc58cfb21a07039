use Rattle.std.proofs.KnownBytes.{Appends-trans, Appends-kept}
use Rattle.wb_nbd.proofs.telling.write_greeting.Goals as goal

pub returns : goal.returns
returns g c =
    Appends-kept _ _ _ _ (Appends-trans _ _ _ _ _ (Appends-trans _ _ _ _ _ c.in_ok-write_u64.ensures.bytes c.in_ok-write_u64-2.ensures.bytes) c.in_ok-write_u16.ensures.bytes) c.flush.ensures.bytes
