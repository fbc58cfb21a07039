use Rattle.std.proofs.KnownBytes.{Appends-trans}
use Rattle.wb_nbd.proofs.telling.write_reply_start.Goals as goal

pub returns : goal.returns
returns g c =
    Appends-trans _ _ _ _ _ (Appends-trans _ _ _ _ _ (Appends-trans _ _ _ _ _ c.in_ok-write_u64.ensures.bytes c.in_ok-write_u32.ensures.bytes) c.in_ok-write_u32-2.ensures.bytes) c.in_ok-write_u32-3.ensures.bytes
