use Rattle.std.proofs.KnownBytes.{Appends-trans}
use Rattle.wb_nbd.proofs.answer.write_header.Goals as goal

pub returns : goal.returns
returns g c = record {
  sent =
      Appends-trans _ _ _ _ _ (Appends-trans _ _ _ _ _ c.in_ok-write_u32.ensures.bytes c.in_ok-write_u32-2.ensures.bytes) c.in_ok-write_u64.ensures.bytes;
}
