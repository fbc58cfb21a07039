-- What agrees after a step on the shared words, and what an abstract actor has with so much to come.
use Rattle.std.proofs.Common.{bit_or, mul_comm, arith, length, set, ◌%◌, ◌+◌, ◌≡◌, ◌≢◌, ◌<◌, ◌==◌, ◌∙◌, cond, inl, inr, ℕ, zero, suc, Bool, true, false, List, ◌∷◌, Option, Some, refl, sym, ap, subst}
use Rattle.std.proofs.lemmas.Bool.{eqb-true, eq-eqb, cases_eq}
use Rattle.std.proofs.lemmas.Nat.{mod-mul-add}
use Rattle.wb_words.proofs.Values.{word_at_set, word_at_else}
use Rattle.wb_contents.specs.Volume.{changed}
use Rattle.wb_contents.proofs.Positions.{changed_same, changed_other}
use Rattle.wb_types.specs.declared.number.OBlock.{OBlock}
use Rattle.wb_types.specs.declared.number.CBlock.{CBlock}
use Rattle.wb_types.specs.declared.refusal.Refusal.{Refusal}
use Rattle.wb_types.specs.declared.refusal.Refusal.TheVariants.{Failed, Io}
use Rattle.wb_words.specs.declared.word.Access.{Access}
use Rattle.wb_words.specs.declared.word.Word.TheVariants.{Seal as SealWord, Number}
use Rattle.wb_words.specs.declared.card.Hold.TheVariants.{Held as HoldsBlock}
use Rattle.wb_words.specs.declared.card.Card.{Card}
use Rattle.wb_words.specs.declared.step.CellStep.TheVariants.{Look, Seal, SetFailed}
use Rattle.wb_words.specs.SharedWords.{Words, word_at, flag, counted, place_in, dirty_in, fail_word, seal_word, place_number}
use Rattle.wb_words.specs.Cards.{looked, is_own_seal}
use Rattle.wb_words.specs.declared.word.Kind.{Kind}
use Rattle.wb_words.specs.declared.word.Kind.TheVariants.{ReadHit}
use Rattle.wb_words.specs.Effects.{words_after}
use Rattle.wb_tasks.specs.Plan.{Plan}
use Rattle.wb_tasks.specs.declared.step.Answer.TheVariants.{Refused as Refuses}
use Rattle.wb_tasks.specs.declared.step.Want.{Want}
use Rattle.wb_tasks.specs.declared.step.Want.TheVariants.{Cell}
use Rattle.wb_link.specs.Tables.{Seal as SealThere, Job as AbstractJob, Flushing as FlushingFor, Finished as AnsweredDone}
use Rattle.wb_link.specs.World.{Shared}
use Rattle.wb_refines.specs.Translation.{answer_for, number_of}
use Rattle.wb_refines.specs.Models.{SealAgrees, WordsAgree, held_of, held_for, SawSeal, SameImages, SameElse}

-- what is shared but the words is the same whatever these are
pub words_else : (s : Shared) (seals : ℕ → SealThere) (fail : Bool) → SameElse s (record s { seals = seals; fail = fail })
words_else s seals fail = record { origin = refl; cache = refl; images = record { mapping = refl; blocks = refl; live = refl; mode = refl; committing = refl; began = refl; ended = refl; broken = refl; committed = refl; running = refl; root_written = refl; committed_clean = refl; running_clean = refl } }

-- nothing is changed
pub same_else : (s : Shared) → SameElse s s
same_else s = words_else s s.seals s.fail

pub same_images : (s : Shared) → SameImages s s
same_images s = (same_else s).images

pub flag_of : (n : ℕ) (t : Bool) → (n == 0) ≡ t → flag n ≡ cond t false true
flag_of zero true e = refl
flag_of zero false e = absurd (cc)
flag_of (suc n) false e = refl
flag_of (suc n) true e = let bad : suc n ≡ zero = eqb-true (suc n) 0 e in absurd (cc)

-- who holds a block knows its seal once it was looked at
pub own_seal : (access : Access) (block : OBlock) (seal : ℕ) (card : Card) → card.hold ≡ HoldsBlock access block → (looked (SealWord block) seal card).seal ≡ Some seal
own_seal access block seal card h = ap (λ v. cond (is_own_seal v (SealWord block)) (Some seal) card.seal) h ∙ ap (λ t. cond t (Some seal) card.seal) (eq-eqb block.0 block.0 refl)

-- the next of these steps is no look at a seal or a number, nor does it set the failed bit
abbrev pub IsPlain : List Want → Type 0
IsPlain (Cell (Look (SealWord block)) ∷ ws) = ⊥
IsPlain (Cell (Look (Number block)) ∷ ws) = ⊥
IsPlain (Cell SetFailed ∷ ws) = ⊥
IsPlain ws = Unit {0}

pub held_plain : (ws : List Want) (card : Card) → IsPlain ws → held_for ws card ≡ held_of card.hold
held_plain (Cell (Look (SealWord block)) ∷ ws) card p = absurd p
held_plain (Cell (Look (Number block)) ∷ ws) card p = absurd p
held_plain (Cell SetFailed ∷ ws) card p = absurd p
held_plain ws card p = refl

pub saw_plain : (plan : Plan) (ws : List Want) (card : Card) → IsPlain ws → SawSeal plan ws card
saw_plain plan (Cell (Look (SealWord block)) ∷ ws) card p = absurd p
saw_plain plan (Cell (Look (Number block)) ∷ ws) card p = absurd p
saw_plain plan (Cell SetFailed ∷ ws) card p = absurd p
saw_plain plan ws card p = tt

-- a target serves no more once one of its two bits was set
pub flag_set : (suspends : Bool) (n failures suspensions : ℕ) → n ≡ fail_word failures suspensions → flag (bit_or n (cond suspends 2 1)) ≡ true
flag_set suspends n f z e = ap (λ v. flag (bit_or v (cond suspends 2 1))) e ∙ by_bits suspends (flag f) (flag z)
  where
    by_bits : (s p q : Bool) → flag (bit_or (cond p 1 0 + cond q 2 0) (cond s 2 1)) ≡ true
    by_bits true true true = refl
    by_bits true true false = refl
    by_bits true false true = refl
    by_bits true false false = refl
    by_bits false true true = refl
    by_bits false true false = refl
    by_bits false false true = refl
    by_bits false false false = refl

pub refused_undone : (job : AbstractJob) (refusal : Refusal) → answer_for job (Refuses refusal) ≢ AnsweredDone
refused_undone job Failed e = absurd (cc)
refused_undone job (Io device) e = absurd (cc)
refused_undone (FlushingFor order) refusal e = absurd (cc)
refused_undone job refusal e = absurd (cc)

-- the dirty bit of a seal
pub tells_dirty : (place : Option CBlock) (dirty : Bool) → dirty_in (seal_word place dirty) ≡ dirty
tells_dirty place true = ap flag (ap (λ v. (v + 1) % 2) (mul_comm 2 (place_number place)) ∙ mod-mul-add (place_number place) 2 1 (omega arith))
tells_dirty place false = ap flag (ap (λ v. (v + 0) % 2) (mul_comm 2 (place_number place)) ∙ mod-mul-add (place_number place) 2 0 (omega arith))

pub counted_agree : (words : Words) (kind : Kind) (s : Shared) → WordsAgree words s → WordsAgree (counted words kind) s
counted_agree words ReadHit s w = record { fail = w.fail; seals = w.seals }
counted_agree words kind s w = record { fail = w.fail; seals = w.seals }

-- words and world agree after a block is sealed
pub sealed_agree : (words : Words) (s : Shared) (block : OBlock) (place : Option CBlock) (dirty : Bool) → block.0 < length words.seals → place_in (seal_word place dirty) ≡ place → WordsAgree words s →
    WordsAgree (words_after words (Seal block place dirty)) (record s { seals = changed s.seals block.0 (record { location = number_of place; dirty = dirty }) })
sealed_agree words s block place dirty inside tells w = record { fail = w.fail; seals = λ other. elim (cases_eq other.0 block.0) [ inl e ↦ here other e | inr n ↦ there other n ] }
  where
    here : (other : OBlock) → other.0 ≡ block.0 → SealAgrees (word_at (set words.seals block.0 (seal_word place dirty)) other) (changed s.seals block.0 (record { location = number_of place; dirty = dirty }) other.0)
    here other e = subst (λ (v : OBlock). SealAgrees (word_at (set words.seals block.0 (seal_word place dirty)) v) (changed s.seals block.0 (record { location = number_of place; dirty = dirty }) v.0)) (λ i. record { 0 = sym e i })
        (subst (λ (v : ℕ). SealAgrees v (changed s.seals block.0 (record { location = number_of place; dirty = dirty }) block.0)) (sym (word_at_set words.seals block (seal_word place dirty) inside))
        (subst (λ (v : SealThere). SealAgrees (seal_word place dirty) v) (sym (changed_same s.seals block.0 (record { location = number_of place; dirty = dirty })))
        (record { location = ap number_of (sym tells); dirty = λ c k. sym (tells_dirty place dirty) })))

    there : (other : OBlock) → other.0 ≢ block.0 → SealAgrees (word_at (set words.seals block.0 (seal_word place dirty)) other) (changed s.seals block.0 (record { location = number_of place; dirty = dirty }) other.0)
    there other n = subst (λ (v : ℕ). SealAgrees v (changed s.seals block.0 (record { location = number_of place; dirty = dirty }) other.0)) (sym (word_at_else words.seals other block (seal_word place dirty) n))
        (subst (λ (v : SealThere). SealAgrees (word_at words.seals other) v) (sym (changed_other s.seals block.0 other.0 (record { location = number_of place; dirty = dirty }) n)) (w.seals other))
