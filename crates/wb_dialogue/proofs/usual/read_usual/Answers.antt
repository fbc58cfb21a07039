use Rattle.std.proofs.Common.{sym}
use Rattle.wb_dialogue.proofs.Three.{says-three}
use Rattle.wb_dialogue.proofs.usual.read_usual.Goals as goal

pub returns-then-is_empty-clause-words : goal.returns-then-is_empty-clause-words
returns-then-is_empty-clause-words c = (says-three c.in_ok-behind.ensures c.in_ok-numbers.ensures c.in_ok-at.ensures c.in_ok-behind-2.ensures c.in_ok-count.ensures (sym c.if-is_empty.ensures)).0

pub returns-then-is_empty-clause-text : goal.returns-then-is_empty-clause-text
returns-then-is_empty-clause-text c = (says-three c.in_ok-behind.ensures c.in_ok-numbers.ensures c.in_ok-at.ensures c.in_ok-behind-2.ensures c.in_ok-count.ensures (sym c.if-is_empty.ensures)).1
