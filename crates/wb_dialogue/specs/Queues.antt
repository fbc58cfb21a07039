-- What becomes of the lines that a client beside the first is asked.
use Rattle.std.specs.Prelude.{◌≡◌, ◌+◌, ◌++◌, ℕ, List, [], ◌∷◌, length}
use Rattle.wb_dialogue.specs.declared.queue.Asked.{Asked}
use Rattle.wb_dialogue.specs.declared.queue.Queue.{Queue}
use Rattle.wb_dialogue.specs.Leading.{led_by, capped_sum}

-- a line waits behind the others; none was refused before it
abbrev pub IsTakenIn : Queue → Asked → Queue → Type 0
IsTakenIn old asked new = (new.waiting.items ≡ old.waiting.items ++ asked ∷ []) × (new.told.text.items ≡ old.told.text.items) × (old.told.past ≡ 0) × (new.told.past ≡ 0)

-- a line was refused, behind all that wait
abbrev pub IsTurnedAway : Queue → Queue → Type 0
IsTurnedAway old new = (new.waiting.items ≡ old.waiting.items) × (new.told.text.items ≡ old.told.text.items) × (new.told.past ≡ capped_sum old.told.past 1)

-- the line at hand is answered so
abbrev pub IsLineAnswered : Queue → List ℕ → Queue → Type 0
IsLineAnswered old answer new = (new.waiting.items ≡ old.waiting.items) × (new.told.text.items ≡ old.told.text.items ++ led_by old.told.client answer) × (new.told.past ≡ old.told.past)

-- the line at hand, and all that wait, are refused
abbrev pub AreLinesGivenUp : Queue → Queue → Type 0
AreLinesGivenUp old new = (new.waiting.items ≡ []) × (new.told.text.items ≡ old.told.text.items) × (new.told.past ≡ capped_sum old.told.past (length old.waiting.items + 1))
