use Rattle.std.proofs.Common.{ℕ, List, sym, ap, subst, ◌∙◌}
use Rattle.std.specs.List.{position}
use Rattle.wb_bits.specs.BitWords.{least_in}
use Rattle.wb_bits.specs.Summary.{Sums}
use Rattle.wb_bits.specs.declared.bit_set.Above.TheVariants.{Nothing, Summary}
use Rattle.wb_bits.proofs.Least.{least_alone, least_above, none_above}
use Rattle.wb_bits.proofs.bit_set.BitSet.+least.Goals as goal

pub returns-in-Nothing : goal.returns-in-Nothing
returns-in-Nothing t c = let s : Sums c.self.inside.words.items Nothing = subst (Sums c.self.inside.words.items) c.in-Nothing.is c.self.invariant.summed in
    c.least_in.ensures ∙ ap (λ (l : List ℕ). least_in l 0) c.deref.ensures.value ∙ least_alone c.self.inside.bound c.self.inside.words.items c.self.invariant.bounded s ∙ ap (position (λ b. b)) c.self.view_is

pub returns-in-Some : goal.returns-in-Some
returns-in-Some t c = let s : Sums c.self.inside.words.items (Summary c.in-Summary.above) = subst (Sums c.self.inside.words.items) c.in-Summary.is c.self.invariant.summed in
    c.least_in-in-Some.ensures ∙ ap (λ (l : List ℕ). least_in l c.in-Some.word) c.deref-in-Some.ensures.value
    ∙ least_above c.self.inside.bound c.self.inside.words.items c.in-Some.word c.self.invariant.bounded (sym (sym c.in-Some.is ∙ c.least.ensures ∙ ap (position (λ b. b)) (c.deref-in-Summary.ensures ∙ s.1)))
    ∙ ap (position (λ b. b)) c.self.view_is

pub returns-in-None : goal.returns-in-None
returns-in-None t c = let s : Sums c.self.inside.words.items (Summary c.in-Summary.above) = subst (Sums c.self.inside.words.items) c.in-Summary.is c.self.invariant.summed in
    sym (none_above c.self.inside.bound c.self.inside.words.items (sym (sym c.in-None.is ∙ c.least.ensures ∙ ap (position (λ b. b)) (c.deref-in-Summary.ensures ∙ s.1)))) ∙ ap (position (λ b. b)) c.self.view_is
