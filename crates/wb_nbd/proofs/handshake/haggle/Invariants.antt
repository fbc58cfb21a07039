use Rattle.std.proofs.Common.{None}
use Rattle.wb_nbd.specs.Talking.{Chain}
use Rattle.wb_nbd.specs.Handshakes.{OptionTurn, lines}
use Rattle.wb_nbd.proofs.handshake.haggle.Given as goal

abbrev pub invariant-loop : goal.invariant-loop
invariant-loop g l = Chain (OptionTurn l.fn.terms l.fn.brief None) (lines (g.R.Read.remaining l.fn.reader) (g.W.Write.contents l.fn.writer)) (lines (g.R.Read.remaining l.reader) (g.W.Write.contents l.writer))
