use Rattle.std.specs.Io.KnownBytes.{Appends}
use Rattle.wb_dialogue.specs.Leading.{led_by, repeated, want_of_memory}
use Rattle.wb_dialogue.proofs.printing.print_past.Given as goal

abbrev pub invariant-loop : goal.invariant-loop
invariant-loop g l = Appends (g.W.Write.contents l.fn.writer) (g.W.Write.contents l.writer) (repeated l.counter (led_by l.client want_of_memory))
