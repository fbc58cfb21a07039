use Rattle.std.proofs.Common.{true, false, sym}
use Rattle.wb_tasks.proofs.Views.{left_by_writing}
use Rattle.wb_tasks.proofs.block.writing.Goals as goal

pub returns-in-Some : goal.returns-in-Some
returns-in-Some c part same = left_by_writing part c.args.mode c.args.place c.in-Some.c c.args.dirty true same c.in-Some.is (sym c.if-is_deferred.ensures) (c.if-is_due.ensures part.block c.in-Some.c)

pub returns-in_default : goal.returns-in_default
returns-in_default c part same = left_by_writing part c.args.mode c.args.place c.in-Some.c c.args.dirty false same c.in-Some.is (sym c.if-is_deferred.ensures) (c.if-is_due.ensures part.block c.in-Some.c)
