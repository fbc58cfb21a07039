use Rattle.std.proofs.Common.{◌≡◌, [], ◌==◌, if◌then◌else◌}
use Rattle.wb_words.specs.SharedWords.{word_at, with_cell, taken}
use Rattle.wb_words.specs.declared.card.Hold.TheVariants.{Held}
use Rattle.wb_words.specs.Cards.{holding, losing}
use Rattle.wb_cells.specs.Moves.{SeatMoves}
use Rattle.wb_cells.proofs.table.WordTable.take.Given as goal

abbrev pub ghosts-exchange : goal.ghosts-exchange
ghosts-exchange a = record { then = λ st m x. SeatMoves [] a._actor (λ c d. d ≡ (if x == a.old then holding (Held a._access a.block) c else losing a.block x c)) (λ was now. (x ≡ word_at was.cells a.block) × (now ≡ (if x == a.old then with_cell was a.block (taken a._access a.old) else was))) m }
