use Rattle.std.proofs.Common.{◌/◌, ℕ, false, inl, inr, replicate, refl, sym, ap, ◌∙◌, arith}
use Rattle.std.proofs.lemmas.Bool.{cases_eq, false≢true}
use Rattle.std.proofs.lemmas.List.Quantifiers.{position-Some}
use Rattle.wb_bits.proofs.Chosen.{none_left, none_of}
use Rattle.wb_bits.proofs.Cleared.{fewer_left}
use Rattle.wb_bits.proofs.bit_set.BitSet.clear.Goals as goal

pub clear_word-requires : goal.clear_word-requires
clear_word-requires c =
    let at = position-Some (λ b. b) c.loop-i.self c.in-Some.i false (sym c.least.ensures ∙ c.in-Some.is) in
    omega (arith, at.0)

pub loop-i-smaller : goal.loop-i-smaller
loop-i-smaller c =
    let at = position-Some (λ b. b) c.loop-i.self c.in-Some.i false (sym c.least.ensures ∙ c.in-Some.is) in
    fewer_left c.loop-i.self c.clear_word.new.self c.in-Some.i c.clear_word.ensures.size
    (λ j there. elim (cases_eq (j / 64) (c.in-Some.i / 64)) [
      | inl e ↦ absurd (false≢true (sym (c.clear_word.ensures.cleared j e) ∙ there))
      | inr n ↦ sym (c.clear_word.ensures.others j n) ∙ there
    ])
    at.1 (c.clear_word.ensures.cleared c.in-Some.i refl)

pub returns : goal.returns
returns c = none_left c.loop-i.self (sym c.least.ensures ∙ none_of c.least.result c.in_default.not-Some) ∙ ap (λ (n : ℕ). replicate n false) c.loop-i.invariant
