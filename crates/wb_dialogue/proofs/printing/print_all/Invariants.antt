use Rattle.std.proofs.Common.{◌≡◌, ◌++◌, ℕ, List, length}
use Rattle.std.specs.Io.KnownBytes.{Appends}
use Rattle.wb_dialogue.specs.Joining.{all_printed}
use Rattle.wb_dialogue.proofs.printing.print_all.Given as goal

-- what was printed, and what is left
abbrev pub invariant-loop-told : goal.invariant-loop-told
invariant-loop-told g l = (sent : List ℕ) × Appends (g.W.Write.contents l.fn.writer) (g.W.Write.contents l.writer) sent × (sent ++ all_printed l.rest ≡ all_printed l.all)

abbrev pub decreases-loop-told : goal.decreases-loop-told
decreases-loop-told g l = length l.rest
