use Rattle.wb_target.proofs.Tasks.{same_hand, same_size, same_buffer, same_commit, same_share, at_words, ready, idle_then, performed}
use Rattle.wb_target.specs.Works.{AskedSharing}
use Rattle.wb_target.proofs.working.WorkStage.run.Goals as goal

pub drive-requires : goal.drive-requires
drive-requires g c steps mid first leads step = let b = c.requires.begun in ready g.D.Disk.tells g.D.Disk.size g.D.Disk.contents g.D.Disk.faults (AskedSharing g.P.Policy.with_entry g.P.Policy.without_entry) g.G.Gate.answers _ b.0 steps c.args.self.now mid b.1 leads b.2 b.3 c.requires.at c.requires.idle first

pub returns-clause-performed : goal.returns-clause-performed
returns-clause-performed g c = let b = c.requires.begun in let run = c.drive.ensures.run in performed g.D.Disk.tells g.D.Disk.size g.D.Disk.contents g.D.Disk.faults (AskedSharing g.P.Policy.with_entry g.P.Policy.without_entry) g.G.Gate.answers _ b.0 run.0 c.args.self.now c.drive.new.stage b.1 run.3 c.drive.result c.requires.unshared run.2

pub returns-clause-same_hand : goal.returns-clause-same_hand
returns-clause-same_hand g c = let b = c.requires.begun in let run = c.drive.ensures.run in same_hand g.D.Disk.tells g.D.Disk.size g.D.Disk.contents g.D.Disk.faults (AskedSharing g.P.Policy.with_entry g.P.Policy.without_entry) g.G.Gate.answers _ b.0 run.0 c.args.self.now c.drive.new.stage b.1 run.3

pub returns-clause-same_buffer : goal.returns-clause-same_buffer
returns-clause-same_buffer g c = let b = c.requires.begun in let run = c.drive.ensures.run in same_buffer g.D.Disk.tells g.D.Disk.size g.D.Disk.contents g.D.Disk.faults (AskedSharing g.P.Policy.with_entry g.P.Policy.without_entry) g.G.Gate.answers _ b.0 run.0 c.args.self.now c.drive.new.stage b.1 run.3

pub returns-clause-at : goal.returns-clause-at
returns-clause-at g c = let b = c.requires.begun in let run = c.drive.ensures.run in at_words g.D.Disk.tells g.D.Disk.size g.D.Disk.contents g.D.Disk.faults (AskedSharing g.P.Policy.with_entry g.P.Policy.without_entry) g.G.Gate.answers _ b.0 run.0 c.args.self.now c.drive.new.stage b.1 run.3

pub returns-clause-idle : goal.returns-clause-idle
returns-clause-idle g c = let b = c.requires.begun in let run = c.drive.ensures.run in idle_then g.D.Disk.tells g.D.Disk.size g.D.Disk.contents g.D.Disk.faults (AskedSharing g.P.Policy.with_entry g.P.Policy.without_entry) g.G.Gate.answers _ b.0 run.0 c.args.self.now c.drive.new.stage b.1 run.3 c.drive.result b.2 c.requires.idle run.2

pub returns-clause-same_commit : goal.returns-clause-same_commit
returns-clause-same_commit g c = let b = c.requires.begun in let run = c.drive.ensures.run in same_commit g.D.Disk.tells g.D.Disk.size g.D.Disk.contents g.D.Disk.faults (AskedSharing g.P.Policy.with_entry g.P.Policy.without_entry) g.G.Gate.answers _ b.0 run.0 c.args.self.now c.drive.new.stage b.1 run.3

pub returns-clause-same_share : goal.returns-clause-same_share
returns-clause-same_share g c = let b = c.requires.begun in let run = c.drive.ensures.run in same_share g.D.Disk.tells g.D.Disk.size g.D.Disk.contents g.D.Disk.faults (AskedSharing g.P.Policy.with_entry g.P.Policy.without_entry) g.G.Gate.answers _ b.0 run.0 c.args.self.now c.drive.new.stage b.1 run.3

pub returns-clause-block : goal.returns-clause-block
returns-clause-block g c = let b = c.requires.begun in let run = c.drive.ensures.run in same_size g.D.Disk.tells g.D.Disk.size g.D.Disk.contents g.D.Disk.faults (AskedSharing g.P.Policy.with_entry g.P.Policy.without_entry) g.G.Gate.answers _ b.0 run.0 c.args.self.now c.drive.new.stage b.1 run.3
