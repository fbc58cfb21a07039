use Rattle.std.proofs.Common.{◌-◌, drop, refl, arith}
use borrow.Rule.Slice.PartMut.{mid_of}
use Rattle.byteorder.specs.Endian.{little_bytes}
use Rattle.wb_format.proofs.Numbers.{put-number, put-after, put-sector, little_bytes-below}
use Rattle.wb_format.proofs.bytes.put_u32.Goals as goal

pub returns-clause-number : goal.returns-clause-number
returns-clause-number c =
    put-number c.args.content.now c.write_u32.new.buf c.args.offset 4 c.args.number _ (drop 4 (mid_of c.args.offset (512 - c.args.offset) c.args.content.now)) (omega arith) (omega arith) c.write_u32.ensures

pub returns-clause-after : goal.returns-clause-after
returns-clause-after c =
    put-after c.args.content.now c.write_u32.new.buf (little_bytes 4 c.args.number) c.args.offset 4 c.told-content c.requires refl c.write_u32.ensures

pub returns-clause-bytes : goal.returns-clause-bytes
returns-clause-bytes c =
    put-sector c.args.content.now c.write_u32.new.buf (little_bytes 4 c.args.number) c.args.offset 4 (record { size = c.told-content; bytes = c.fits-content }) c.requires refl (little_bytes-below 0 4 c.args.number) c.write_u32.ensures
