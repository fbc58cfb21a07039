-- What a step gives, and what it makes of the words and of its actor's card.
use Rattle.std.specs.Prelude.{ℕ, ◌==◌, if◌then◌else◌}
use Rattle.std.specs.Int.Bits.{bit_or}
use Rattle.wb_words.specs.declared.word.FailBit.TheVariants.{Failed, Suspended}
use Rattle.wb_words.specs.declared.word.Word.TheVariants.{Seal as SealWord, Number, Fail}
use Rattle.wb_words.specs.declared.card.Hold.TheVariants.{Nothing, Held}
use Rattle.wb_words.specs.declared.card.Card.{Card}
use Rattle.wb_words.specs.declared.step.CellStep.{CellStep}
use Rattle.wb_words.specs.declared.step.CellStep.TheVariants.{Look, Take, Release, Seal, Finish, Count, SetFailed, SetSuspended}
use Rattle.wb_words.specs.declared.step.CellResult.{CellResult}
use Rattle.wb_words.specs.declared.step.CellResult.TheVariants.{Done, Word as Found, Lost}
use Rattle.wb_words.specs.SharedWords.{Words, word_at, value_of, with_cell, taken, given_back, put, one_more, counted, seal_word}
use Rattle.wb_words.specs.Cards.{looked, losing, holding, sealing, finishing, counting, failing}

-- an exchange is won where the lock word that was seen stands there still
abbrev pub result_of : Words → CellStep → CellResult
result_of words (Look word) = Found (value_of words word)
result_of words (Take access block seen) = if word_at words.cells block == seen then Done else Lost
result_of words step = Done

-- the word that a look or an exchange finds
abbrev pub found_by : Words → CellStep → ℕ
found_by words (Look word) = value_of words word
found_by words (Take access block seen) = word_at words.cells block
found_by words step = 0

abbrev pub words_after : Words → CellStep → Words
words_after words (Look word) = words
words_after words (Take access block seen) = if word_at words.cells block == seen then with_cell words block (taken access seen) else words
words_after words (Release access block) = with_cell words block (given_back access (word_at words.cells block))
words_after words (Seal block place dirty) = put words (SealWord block) (seal_word place dirty)
words_after words (Finish block) = put words (Number block) (one_more (word_at words.numbers block))
words_after words (Count kind) = counted words kind
words_after words SetFailed = put words Fail (bit_or words.fail 1)
words_after words SetSuspended = put words Fail (bit_or words.fail 2)

abbrev pub card_after : Words → CellStep → Card → Card
card_after words (Look word) card = looked word (value_of words word) card
card_after words (Take access block seen) card = if word_at words.cells block == seen then holding (Held access block) card else losing block (word_at words.cells block) card
card_after words (Release access block) card = holding Nothing card
card_after words (Seal block place dirty) card = sealing block (seal_word place dirty) card
card_after words (Finish block) card = finishing block card
card_after words (Count kind) card = counting kind card
card_after words SetFailed card = failing Failed card
card_after words SetSuspended card = failing Suspended card
