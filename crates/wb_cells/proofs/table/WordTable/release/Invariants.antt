use Rattle.std.proofs.Common.{◌≡◌, []}
use Rattle.wb_words.specs.SharedWords.{word_at, with_cell, given_back}
use Rattle.wb_words.specs.declared.card.Hold.TheVariants.{Nothing}
use Rattle.wb_words.specs.Cards.{holding}
use Rattle.wb_cells.specs.Moves.{SeatMoves}
use Rattle.wb_cells.proofs.table.WordTable.release.Given as goal

abbrev pub ghosts-subtract : goal.ghosts-subtract
ghosts-subtract a = record { then = λ st m x. SeatMoves [] a._actor (λ c d. d ≡ holding Nothing c) (λ was now. now ≡ with_cell was a.block (given_back a._access (word_at was.cells a.block))) m }
