use Rattle.std.proofs.Common.{◌≡◌, length}
use Rattle.std.specs.Io.KnownBytes.{Consumes}
use Rattle.wb_nbd.specs.Replies.{joined_sectors}
use Rattle.wb_nbd.proofs.job.take_content.Given as goal

abbrev pub invariant-loop : goal.invariant-loop
invariant-loop g l = (length l.content.items ≡ l.counter) × Consumes (g.R.Read.remaining l.fn.reader) (g.R.Read.remaining l.reader) (joined_sectors l.content.items)
