use Rattle.std.proofs.Common.{◌≡◌, bit_or, [], ◌∷◌}
use Rattle.wb_words.specs.declared.word.Word.TheVariants.{Fail}
use Rattle.wb_words.specs.SharedWords.{put, bit_word}
use Rattle.wb_words.specs.Cards.{failing}
use Rattle.wb_cells.specs.Moves.{SeatMoves}
use Rattle.wb_cells.proofs.table.WordTable.fail.Given as goal

abbrev pub ghosts-set_bit : goal.ghosts-set_bit
ghosts-set_bit a = record { then = λ st m x. SeatMoves (a._bit ∷ []) a._actor (λ c d. d ≡ failing a._bit c) (λ was now. now ≡ put was Fail (bit_or was.fail (bit_word a._bit))) m }
