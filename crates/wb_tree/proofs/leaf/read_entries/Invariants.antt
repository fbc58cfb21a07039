use Rattle.wb_tree.proofs.Reading.LeafSteps.{IsPassed}
use Rattle.wb_tree.proofs.leaf.read_entries.Given as goal

abbrev pub invariant-loop-j : goal.invariant-loop-j
invariant-loop-j l = IsPassed l.root l.leaf l.words l.fn.entries l.fn.mapped l.entries l.mapped l.j
