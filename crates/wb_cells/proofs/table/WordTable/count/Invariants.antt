use Rattle.std.proofs.Common.{◌≡◌, []}
use Rattle.wb_words.specs.SharedWords.{counted}
use Rattle.wb_words.specs.Cards.{counting}
use Rattle.wb_cells.specs.Moves.{SeatMoves}
use Rattle.wb_cells.proofs.table.WordTable.count.Given as goal

abbrev pub ghosts-add_count : goal.ghosts-add_count
ghosts-add_count a = record { then = λ st m x. SeatMoves [] a._actor (λ c d. d ≡ counting a.kind c) (λ was now. now ≡ counted was a.kind) m }
