use Rattle.wb_nbd.specs.Talking.{Chain, Turn, stand}
use Rattle.wb_nbd.proofs.transmission.transmit.Given as goal

abbrev pub invariant-loop : goal.invariant-loop
invariant-loop g l = Chain (Turn g.E.Export.size g.E.Export.acts) (stand l.fn.export (g.R.Read.remaining l.fn.reader) (g.W.Write.contents l.fn.writer)) (stand l.export (g.R.Read.remaining l.reader) (g.W.Write.contents l.writer))
