use Rattle.std.proofs.Common.{rules}
use Rattle.wb_dialogue.proofs.Pieces.{once_more}
use Rattle.wb_dialogue.proofs.printing.print_past.Goals as goal

pub loop-preserved : goal.loop-preserved
loop-preserved g c = once_more (g.W.Write.contents c.args.writer.now) (g.W.Write.contents c.loop.writer) (g.W.Write.contents c.send.new.writer) (g.W.Write.contents c.send-in-loop.new.writer) c.loop.counter c.args.client c.loop.invariant (search rules) (search rules)
