-- Whether a bit of the fail word is set, after a step on the shared words.
use Rattle.std.proofs.Common.{◌≡◌, ◌≤◌, ◌==◌, ◌||◌, ℕ, zero, suc, Bool, true, false, refl, ap, ◌∙◌, arith, bit_or, if◌then◌else◌}
use Rattle.std.proofs.lemmas.Nat.{le_or_r}
use Rattle.wb_types.specs.declared.number.OBlock.{OBlock}
use Rattle.wb_words.specs.declared.word.Kind.{Kind}
use Rattle.wb_words.specs.declared.word.Kind.TheVariants.{ReadHit}
use Rattle.wb_words.specs.declared.step.CellStep.{CellStep}
use Rattle.wb_words.specs.declared.step.CellStep.TheVariants.{Take, Count, SetFailed, SetSuspended}
use Rattle.wb_words.specs.SharedWords.{Words, counted, flag, taken, with_cell, word_at}
use Rattle.wb_words.specs.Effects.{words_after}
use Rattle.wb_machine.specs.Serving.{sets_bit}

or_false : (b : Bool) → b || false ≡ b
or_false true = refl
or_false false = refl

or_true : (b : Bool) → b || true ≡ true
or_true true = refl
or_true false = refl

flagged : (n : ℕ) → 1 ≤ n → true ≡ flag n
flagged zero h = absurd (omega (arith, h))
flagged (suc n) h = refl

bit_flags : (x b : ℕ) → 1 ≤ b → true ≡ flag (bit_or x b)
bit_flags x b h = flagged (bit_or x b) (let more = le_or_r x b in omega (arith, h, more))

takes : (b : Bool) (words : Words) (block : OBlock) (cell : ℕ) → words.fail ≡ (if b then with_cell words block cell else words).fail
takes true words block cell = refl
takes false words block cell = refl

counts : (words : Words) (kind : Kind) → words.fail ≡ (counted words kind).fail
counts words ReadHit = refl
counts words kind = refl

-- the flag as it is kept beside the words
pub flag_after : (words : Words) (step : CellStep) (was : Bool) → was ≡ flag words.fail → was || sets_bit step ≡ flag (words_after words step).fail
flag_after words (Take access block seen) was e = or_false was ∙ e ∙ ap flag (takes (word_at words.cells block == seen) words block (taken access seen))
flag_after words (Count kind) was e = or_false was ∙ e ∙ ap flag (counts words kind)
flag_after words SetFailed was e = or_true was ∙ bit_flags words.fail 1 (omega arith)
flag_after words SetSuspended was e = or_true was ∙ bit_flags words.fail 2 (omega arith)
flag_after words step was e = or_false was ∙ e
