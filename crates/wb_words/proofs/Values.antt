-- Words by their names, and with another value of one of them.
use Rattle.std.proofs.Common.{◌≡◌, ◌≢◌, ℕ, ◌<◌, List, length, set, sym, ap, refl, ◌∙◌, get_or, get_or-set_same, get_or-set_other}
use Rattle.std.proofs.lemmas.Option.{unwrap_or-slice_get}
use lib.Seq.{set-get_or}
use Rattle.wb_types.specs.declared.number.OBlock.{OBlock}
use Rattle.wb_words.specs.declared.word.Kind.{Kind}
use Rattle.wb_words.specs.declared.word.Kind.TheVariants.{ReadHit, ReadMiss, WriteHit, WriteMiss}
use Rattle.wb_words.specs.declared.word.Word.{Word as WordName}
use Rattle.wb_words.specs.declared.word.Word.TheVariants.{Cell as LockWord, Seal as SealWord, Number, Count as CountWord, Fail}
use Rattle.wb_words.specs.SharedWords.{Words, word_at, value_of, counted, count_in, one_more, put}

-- the word of a block in a list
pub word_at_is : (ws : List ℕ) (b : OBlock) → word_at ws b ≡ get_or ws b.0 0
word_at_is ws b = unwrap_or-slice_get ws b.0 0

pub word_at_set : (ws : List ℕ) (b : OBlock) (x : ℕ) → b.0 < length ws → word_at (set ws b.0 x) b ≡ x
word_at_set ws b x inside = word_at_is (set ws b.0 x) b ∙ get_or-set_same ws b.0 x 0 inside

pub word_at_else : (ws : List ℕ) (a b : OBlock) (x : ℕ) → a.0 ≢ b.0 → word_at (set ws b.0 x) a ≡ word_at ws a
word_at_else ws a b x ne = word_at_is (set ws b.0 x) a ∙ (get_or-set_other ws b.0 a.0 x 0 ne ∙ sym (word_at_is ws a))

pub set_word_at : (ws : List ℕ) (b : OBlock) → set ws b.0 (word_at ws b) ≡ ws
set_word_at ws b = ap (set ws b.0) (word_at_is ws b) ∙ set-get_or ws b.0 0

-- putting what stands there changes nothing
pub put_same : (w : Words) (word : WordName) → put w word (value_of w word) ≡ w
put_same w (LockWord b) = ap (λ (l : List ℕ). record w { cells = l }) (set_word_at w.cells b)
put_same w (SealWord b) = ap (λ (l : List ℕ). record w { seals = l }) (set_word_at w.seals b)
put_same w (Number b) = ap (λ (l : List ℕ). record w { numbers = l }) (set_word_at w.numbers b)
put_same w (CountWord ReadHit) = refl
put_same w (CountWord ReadMiss) = refl
put_same w (CountWord WriteHit) = refl
put_same w (CountWord WriteMiss) = refl
put_same w Fail = refl

pub put_count : (w : Words) (kind : Kind) → put w (CountWord kind) (one_more (count_in w kind)) ≡ counted w kind
put_count w ReadHit = refl
put_count w ReadMiss = refl
put_count w WriteHit = refl
put_count w WriteMiss = refl
