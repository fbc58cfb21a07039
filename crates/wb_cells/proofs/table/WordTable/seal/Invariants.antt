use Rattle.std.proofs.Common.{◌≡◌, []}
use Rattle.wb_words.specs.declared.word.Word.TheVariants.{Seal as SealWord}
use Rattle.wb_words.specs.SharedWords.{put}
use Rattle.wb_words.specs.Cards.{sealing}
use Rattle.wb_cells.specs.Moves.{SeatMoves}
use Rattle.wb_cells.proofs.table.WordTable.seal.Given as goal

abbrev pub ghosts-store : goal.ghosts-store
ghosts-store a = record { then = λ st m x. SeatMoves [] a._actor (λ c d. d ≡ sealing a.block a.seal c) (λ was now. now ≡ put was (SealWord a.block) a.seal) m }
