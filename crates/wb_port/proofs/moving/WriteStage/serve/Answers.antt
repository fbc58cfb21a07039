use Rattle.std.proofs.Common.{refl}
use Rattle.wb_port.proofs.Ranging.{never_range}
use Rattle.wb_port.proofs.Serves.{write_same_hand, write_kept, write_ready, write_idle, write_ok, write_err}
use Rattle.wb_port.proofs.moving.WriteStage.serve.Goals as goal

pub serve_part-requires-clause-stays : goal.serve_part-requires-clause-stays
serve_part-requires-clause-stays g c steps mid first leads step = write_ready g.D.Disk.tells g.D.Disk.size g.D.Disk.contents g.D.Disk.faults c.args.block_sectors c.args.block c.args.sectors _ steps c.args.self.now mid refl leads c.requires.some c.requires.of c.requires.inside c.requires.size c.requires.block c.requires.at c.requires.idle first

pub returns-clause-same_hand : goal.returns-clause-same_hand
returns-clause-same_hand g c = let run = c.serve_part.ensures in write_same_hand g.D.Disk.tells g.D.Disk.size g.D.Disk.contents g.D.Disk.faults c.args.block_sectors c.args.block c.args.sectors _ run.0 c.args.self.now c.serve_part.new.stage refl run.2

pub returns-clause-written : goal.returns-clause-written
returns-clause-written g c = let run = c.serve_part.ensures in write_ok g.D.Disk.tells g.D.Disk.size g.D.Disk.contents g.D.Disk.faults c.args.block_sectors c.args.block c.args.sectors _ run.0 c.args.self.now c.serve_part.new.stage refl run.2 c.serve_part.result c.answered.result c.requires.unmoved c.requires.fits c.requires.inside run.1 c.answered.ensures.done

pub returns-clause-refused : goal.returns-clause-refused
returns-clause-refused g c = let run = c.serve_part.ensures in write_err g.D.Disk.tells g.D.Disk.size g.D.Disk.contents g.D.Disk.faults c.args.block_sectors c.args.block c.args.sectors _ run.0 c.args.self.now c.serve_part.new.stage refl run.2 c.serve_part.result c.answered.result run.1 c.answered.ensures.refused c.requires.unmoved

pub returns-clause-at : goal.returns-clause-at
returns-clause-at g c = let run = c.serve_part.ensures in (write_kept g.D.Disk.tells g.D.Disk.size g.D.Disk.contents g.D.Disk.faults c.args.block_sectors c.args.block c.args.sectors _ run.0 c.args.self.now c.serve_part.new.stage refl run.2).at

pub returns-clause-size : goal.returns-clause-size
returns-clause-size g c = let run = c.serve_part.ensures in (write_kept g.D.Disk.tells g.D.Disk.size g.D.Disk.contents g.D.Disk.faults c.args.block_sectors c.args.block c.args.sectors _ run.0 c.args.self.now c.serve_part.new.stage refl run.2).size

pub returns-clause-idle : goal.returns-clause-idle
returns-clause-idle g c = let run = c.serve_part.ensures in write_idle g.D.Disk.tells g.D.Disk.size g.D.Disk.contents g.D.Disk.faults c.args.block_sectors c.args.block c.args.sectors _ run.0 c.args.self.now c.serve_part.new.stage refl run.2 c.serve_part.result c.requires.block c.requires.idle run.1

pub returns-clause-never_range : goal.returns-clause-never_range
returns-clause-never_range g c = let run = c.serve_part.ensures in never_range _ _ run.0 c.serve_part.result c.answered.result refl run.1 c.answered.ensures.refused

pub returns-clause-mode : goal.returns-clause-mode
returns-clause-mode g c = let run = c.serve_part.ensures in (write_kept g.D.Disk.tells g.D.Disk.size g.D.Disk.contents g.D.Disk.faults c.args.block_sectors c.args.block c.args.sectors _ run.0 c.args.self.now c.serve_part.new.stage refl run.2).mode
