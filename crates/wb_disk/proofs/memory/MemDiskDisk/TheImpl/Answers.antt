use Rattle.std.proofs.Common.{rules}
use Rattle.wb_disk.proofs.Falters.{write_how, extent_how}
use Rattle.wb_disk.proofs.memory.MemDiskDisk.TheImpl.Goals as goal

-- the trait names what is left of each sector, a failure here the front of the extent that was written
pub write_extent-tells : goal.write_extent-tells
write_extent-tells c = search (rules, extent_how, c.ensures.room)

pub write-tells : goal.write-tells
write-tells c = record {
  size = c.ensures.size;
  ok = λ _. c.ensures.ok;
  no_fault = λ _. c.ensures.no_fault;
  cause = λ _. c.ensures.cause;
  how = λ _. write_how c.result c.args.self.now c.new.self.now.contents c.args.at c.args.from.now c.ensures.err c.ensures.room;
  fails = λ h. absurd h;
}
