use Rattle.std.proofs.Common.{rules, inl, inr, refl}
use Rattle.wb_dialogue.proofs.Pieces.{told_behind}
use Rattle.wb_dialogue.proofs.queue.Queue.tell.Goals as goal

pub returns-then-is_ok-2-clause-told : goal.returns-then-is_ok-2-clause-told
returns-then-is_ok-2-clause-told c = inr (inl (refl, told_behind _ c.add.new.self.text.items c.add-else-is_ok.new.self.text.items _ c.add.new.self.client _ (search rules) (search rules) (search rules) (search rules), search rules))
