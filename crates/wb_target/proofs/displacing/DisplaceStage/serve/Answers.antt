use Rattle.std.proofs.Common.{[]}
use Rattle.wb_target.specs.Works.{WasAsked}
use Rattle.wb_target.proofs.Displaces.{ready, same_hand, at_words, same_size, idle_then, displaced}
use Rattle.wb_target.proofs.displacing.DisplaceStage.serve.Goals as goal

pub perform_part-requires-clause-stays : goal.perform_part-requires-clause-stays
perform_part-requires-clause-stays g c steps mid first leads step = ready g.D.Disk.tells g.D.Disk.size g.D.Disk.contents g.D.Disk.faults (WasAsked g.P.Policy.with_entry g.P.Policy.without_entry []) c.args.block_sectors c.args.block c.args.sectors steps c.args.self.now mid leads c.requires.some c.requires.of c.requires.inside c.requires.size c.requires.passes c.requires.block c.requires.at c.requires.idle first

pub returns-clause-same_hand : goal.returns-clause-same_hand
returns-clause-same_hand g c = let run = c.perform_part.ensures in same_hand g.D.Disk.tells g.D.Disk.size g.D.Disk.contents g.D.Disk.faults (WasAsked g.P.Policy.with_entry g.P.Policy.without_entry []) c.args.block_sectors c.args.block c.args.sectors run.0 c.args.self.now c.perform_part.new.stage run.2

pub returns-clause-displaced : goal.returns-clause-displaced
returns-clause-displaced g c = let run = c.perform_part.ensures in displaced g.D.Disk.tells g.D.Disk.size g.D.Disk.contents g.D.Disk.faults (WasAsked g.P.Policy.with_entry g.P.Policy.without_entry []) c.args.block_sectors c.args.block c.args.sectors c.perform_part.result c.args.self.now c.perform_part.new.stage run c.requires.unmoved

pub returns-clause-at : goal.returns-clause-at
returns-clause-at g c = let run = c.perform_part.ensures in at_words g.D.Disk.tells g.D.Disk.size g.D.Disk.contents g.D.Disk.faults (WasAsked g.P.Policy.with_entry g.P.Policy.without_entry []) c.args.block_sectors c.args.block c.args.sectors run.0 c.args.self.now c.perform_part.new.stage run.2

pub returns-clause-size : goal.returns-clause-size
returns-clause-size g c = let run = c.perform_part.ensures in same_size g.D.Disk.tells g.D.Disk.size g.D.Disk.contents g.D.Disk.faults (WasAsked g.P.Policy.with_entry g.P.Policy.without_entry []) c.args.block_sectors c.args.block c.args.sectors run.0 c.args.self.now c.perform_part.new.stage run.2

pub returns-clause-idle : goal.returns-clause-idle
returns-clause-idle g c = let run = c.perform_part.ensures in idle_then g.D.Disk.tells g.D.Disk.size g.D.Disk.contents g.D.Disk.faults (WasAsked g.P.Policy.with_entry g.P.Policy.without_entry []) c.args.block_sectors c.args.block c.args.sectors run.0 c.args.self.now c.perform_part.new.stage run.2 c.perform_part.result c.requires.block c.requires.idle run.1
