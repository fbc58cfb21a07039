use Rattle.std.proofs.Common.{[]}
use Rattle.wb_target.specs.Works.{WasAsked}
use Rattle.wb_target.proofs.Invalidates.{ready, same_hand, at_words, same_size, same_mode, same_devices, idle_then, invalidated}
use Rattle.wb_target.proofs.invalidating.InvalidateStage.empty.Goals as goal

pub invalidate_on-requires-clause-stays : goal.invalidate_on-requires-clause-stays
invalidate_on-requires-clause-stays g c steps mid first leads step = ready (WasAsked g.P.Policy.with_entry g.P.Policy.without_entry []) c.args.block_sectors c.args.block steps c.args.self.now mid leads c.requires.block c.requires.at c.requires.idle first

pub returns-clause-same_hand : goal.returns-clause-same_hand
returns-clause-same_hand g c = let run = c.invalidate_on.ensures in same_hand (WasAsked g.P.Policy.with_entry g.P.Policy.without_entry []) c.args.block_sectors c.args.block run.0 c.args.self.now c.invalidate_on.new.stage run.2

pub returns-clause-at : goal.returns-clause-at
returns-clause-at g c = let run = c.invalidate_on.ensures in at_words (WasAsked g.P.Policy.with_entry g.P.Policy.without_entry []) c.args.block_sectors c.args.block run.0 c.args.self.now c.invalidate_on.new.stage run.2

pub returns-clause-size : goal.returns-clause-size
returns-clause-size g c = let run = c.invalidate_on.ensures in same_size (WasAsked g.P.Policy.with_entry g.P.Policy.without_entry []) c.args.block_sectors c.args.block run.0 c.args.self.now c.invalidate_on.new.stage run.2

pub returns-clause-mode : goal.returns-clause-mode
returns-clause-mode g c = let run = c.invalidate_on.ensures in same_mode (WasAsked g.P.Policy.with_entry g.P.Policy.without_entry []) c.args.block_sectors c.args.block run.0 c.args.self.now c.invalidate_on.new.stage run.2

pub returns-clause-devices : goal.returns-clause-devices
returns-clause-devices g c = let run = c.invalidate_on.ensures in same_devices (WasAsked g.P.Policy.with_entry g.P.Policy.without_entry []) c.args.block_sectors c.args.block run.0 c.args.self.now c.invalidate_on.new.stage run.2

pub returns-clause-invalidated : goal.returns-clause-invalidated
returns-clause-invalidated g c = invalidated (WasAsked g.P.Policy.with_entry g.P.Policy.without_entry []) c.args.block_sectors c.args.block c.invalidate_on.result c.args.self.now c.invalidate_on.new.stage c.invalidate_on.ensures

pub returns-clause-idle : goal.returns-clause-idle
returns-clause-idle g c = let run = c.invalidate_on.ensures in idle_then (WasAsked g.P.Policy.with_entry g.P.Policy.without_entry []) c.args.block_sectors c.args.block run.0 c.args.self.now c.invalidate_on.new.stage run.2 c.invalidate_on.result c.requires.block c.requires.idle run.1
