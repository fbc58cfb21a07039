use Rattle.std.proofs.Common.{refl}
use Rattle.wb_target.proofs.Suspends.{ran, suspend_ready, keeps_watch, keeps_desk, keeps_devices, keeps_words, keeps_cache}
use Rattle.wb_target.proofs.suspending.SuspendStage.run.Goals as goal

pub drive-requires : goal.drive-requires
drive-requires g c steps mid first leads step = let b = c.requires.begun in suspend_ready g.D.Disk.tells g.D.Disk.size g.D.Disk.contents g.D.Disk.faults g.P.Policy.hint_of g.P.Policy.with_entry g.P.Policy.without_entry b.0 b.1 _ c.args.self.now b.2 b.3 c.requires.bits steps mid first leads

pub returns-clause-same_watch : goal.returns-clause-same_watch
returns-clause-same_watch g c = let run = c.drive.ensures.run in keeps_watch g.D.Disk.tells g.D.Disk.size g.D.Disk.contents g.D.Disk.faults g.P.Policy.hint_of g.P.Policy.with_entry g.P.Policy.without_entry c.args.self.now c.drive.new.stage run.0 run.3

pub returns-clause-same_desk : goal.returns-clause-same_desk
returns-clause-same_desk g c = let run = c.drive.ensures.run in keeps_desk g.D.Disk.tells g.D.Disk.size g.D.Disk.contents g.D.Disk.faults g.P.Policy.hint_of g.P.Policy.with_entry g.P.Policy.without_entry c.args.self.now c.drive.new.stage run.0 run.3

pub returns-clause-same_devices : goal.returns-clause-same_devices
returns-clause-same_devices g c = let run = c.drive.ensures.run in keeps_devices g.D.Disk.tells g.D.Disk.size g.D.Disk.contents g.D.Disk.faults g.P.Policy.hint_of g.P.Policy.with_entry g.P.Policy.without_entry c.args.self.now c.drive.new.stage run.0 run.3

pub returns-clause-words : goal.returns-clause-words
returns-clause-words g c = let run = c.drive.ensures.run in keeps_words g.D.Disk.tells g.D.Disk.size g.D.Disk.contents g.D.Disk.faults g.P.Policy.hint_of g.P.Policy.with_entry g.P.Policy.without_entry c.args.self.now c.drive.new.stage run.0 run.3

pub returns-clause-cache : goal.returns-clause-cache
returns-clause-cache g c = let run = c.drive.ensures.run in keeps_cache g.D.Disk.tells g.D.Disk.size g.D.Disk.contents g.D.Disk.faults g.P.Policy.hint_of g.P.Policy.with_entry g.P.Policy.without_entry c.args.self.now c.drive.new.stage run.0 run.3

pub returns-clause-ran : goal.returns-clause-ran
returns-clause-ran g c = let run = c.drive.ensures.run in ran g.D.Disk.tells g.D.Disk.size g.D.Disk.contents g.D.Disk.faults g.P.Policy.hint_of g.P.Policy.with_entry g.P.Policy.without_entry _ _ _ _ c.args.self.now c.drive.new.stage refl refl (run.0, run.2, run.3) _ _ _ refl refl c.requires.unbegun refl
