use Rattle.std.proofs.Common.{◌≡◌, []}
use Rattle.wb_words.specs.declared.word.Word.TheVariants.{Fail}
use Rattle.wb_words.specs.SharedWords.{value_of, HasBits}
use Rattle.wb_words.specs.Cards.{looked}
use Rattle.wb_words.specs.Looks.{Finds}
use Rattle.wb_cells.specs.Moves.{SeatMoves}
use Rattle.wb_cells.proofs.table.WordTable.look.Given as goal

abbrev pub ghosts-load : goal.ghosts-load
ghosts-load a = record { then = λ st m x. SeatMoves [] a._actor (λ c d. (d ≡ looked a.word x c) × Finds a.word x c × (a.word ≡ Fail → HasBits x m.0.fail)) (λ was now. (x ≡ value_of was a.word) × (now ≡ was)) m }
