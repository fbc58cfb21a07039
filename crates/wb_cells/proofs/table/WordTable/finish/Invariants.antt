use Rattle.std.proofs.Common.{◌≡◌, []}
use Rattle.wb_words.specs.declared.word.Word.TheVariants.{Number}
use Rattle.wb_words.specs.SharedWords.{word_at, one_more}
use Rattle.wb_words.specs.SharedWords.{put}
use Rattle.wb_words.specs.Cards.{finishing}
use Rattle.wb_cells.specs.Moves.{SeatMoves}
use Rattle.wb_cells.proofs.table.WordTable.finish.Given as goal

abbrev pub ghosts-add_write : goal.ghosts-add_write
ghosts-add_write a = record { then = λ st m x. SeatMoves [] a._actor (λ c d. d ≡ finishing a.block c) (λ was now. now ≡ put was (Number a.block) (one_more (word_at was.numbers a.block))) m }
