use Rattle.std.proofs.Common.{◌≡◌, ◌+◌, ◌/◌, ◌∙◌, ℕ, List, Bool, Some, false, get_or, sym, ap, subst, arith}
use Rattle.std.proofs.lemmas.List.{get_or_past}
use Rattle.std.proofs.lemmas.Option.{IfSome_then}
use Rattle.wb_bits.specs.BitWords.{is_member, least_in}
use Rattle.wb_bits.specs.Summary.{Sums}
use Rattle.wb_bits.specs.Deeper.{length-members}
use Rattle.wb_bits.specs.Leasts.{IsLeastFrom}
use Rattle.wb_bits.specs.declared.bit_set.Above.TheVariants.{Nothing, Summary}
use Rattle.wb_bits.proofs.Onward.{absent, first_of, found_behind, least_in-behind, least_of_set, none_alone, none_behind, none_of_set}
use Rattle.wb_bits.proofs.bit_set.BitSet.+least_from.Goals.{Else-is_some, In-Summary}
use Rattle.wb_bits.proofs.bit_set.BitSet.+least_from.Goals as goal

pub returns-then-from-self-clause-none : goal.returns-then-from-self-clause-none
returns-then-from-self-clause-none t c i onward = ap (λ (s : List Bool). get_or s i false) (sym c.self.view_is)
    ∙ get_or_past _ i false (omega (arith, onward, c.if-from-self.true, length-members c.self.inside.bound c.self.inside.words.items))

pub returns-then-is_some-clause-found : goal.returns-then-is_some-clause-found
returns-then-is_some-clause-found t c = IfSome_then c.least_in_from-here.result c.least_in_from-here.ensures.found (λ at found.
    subst (λ (s : List Bool). IsLeastFrom (λ i. get_or s i false) c.args.from at) c.self.view_is
    (least_of_set c.self.inside.bound c.self.inside.words.items c.args.from at c.self.invariant.bounded (subst (λ (ws : List ℕ). IsLeastFrom (is_member ws) c.args.from at) c.deref.ensures.value found)))

pub returns-in-Nothing-clause-none : goal.returns-in-Nothing-clause-none
returns-in-Nothing-clause-none t c i onward =
    let s : Sums c.self.inside.words.items Nothing = subst (Sums c.self.inside.words.items) c.in-Nothing.is c.self.invariant.summed in
    ap (λ (s : List Bool). get_or s i false) (sym c.self.view_is)
    ∙ none_of_set c.self.inside.bound c.self.inside.words.items c.args.from
    (none_alone c.self.inside.words.items c.args.from s (λ j past same. ap (λ (ws : List ℕ). is_member ws j) (sym c.deref.ensures.value) ∙ absent c.least_in_from-here.result (sym c.if-is_some.false ∙ c.is_some.ensures) c.least_in_from-here.ensures.none j past same)) i onward

pub returns-in-Some-clause-found : goal.returns-in-Some-clause-found
returns-in-Some-clause-found t c =
    let s : Sums c.self.inside.words.items (Summary c.in-Summary.above) = subst (Sums c.self.inside.words.items) c.in-Summary.is c.self.invariant.summed in
    let above = subst (λ (s : List Bool). IsLeastFrom (λ i. get_or s i false) (c.args.from / 64 + 1) c.in-Some.next) (c.deref-in-Summary.ensures ∙ s.1) c.in-Some.ensures.found in
    let is : c.least_in.result ≡ Some (first_of c.self.inside.words.items c.in-Some.next) =
    c.least_in.ensures ∙ ap (λ (ws : List ℕ). least_in ws c.in-Some.next) c.deref-in-Some.ensures.value ∙ least_in-behind c.self.inside.words.items (c.args.from / 64 + 1) c.in-Some.next above in
    rw is (subst (λ (s : List Bool). IsLeastFrom (λ i. get_or s i false) c.args.from (first_of c.self.inside.words.items c.in-Some.next)) c.self.view_is
    (least_of_set c.self.inside.bound c.self.inside.words.items c.args.from (first_of c.self.inside.words.items c.in-Some.next) c.self.invariant.bounded
    (found_behind c.self.inside.words.items c.args.from c.in-Some.next c.self.invariant.bounded.fits
    (λ j past same. ap (λ (ws : List ℕ). is_member ws j) (sym c.deref.ensures.value) ∙ absent c.least_in_from-here.result (sym c.if-is_some.false ∙ c.is_some.ensures) c.least_in_from-here.ensures.none j past same) above)))

pub returns-in-Some-clause-none : goal.returns-in-Some-clause-none
returns-in-Some-clause-none t c =
    let s : Sums c.self.inside.words.items (Summary c.in-Summary.above) = subst (Sums c.self.inside.words.items) c.in-Summary.is c.self.invariant.summed in
    let above = subst (λ (s : List Bool). IsLeastFrom (λ i. get_or s i false) (c.args.from / 64 + 1) c.in-Some.next) (c.deref-in-Summary.ensures ∙ s.1) c.in-Some.ensures.found in
    let is : c.least_in.result ≡ Some (first_of c.self.inside.words.items c.in-Some.next) =
    c.least_in.ensures ∙ ap (λ (ws : List ℕ). least_in ws c.in-Some.next) c.deref-in-Some.ensures.value ∙ least_in-behind c.self.inside.words.items (c.args.from / 64 + 1) c.in-Some.next above in
    rw is tt

pub returns-in-None-clause-none : goal.returns-in-None-clause-none
returns-in-None-clause-none t c i onward =
    let s : Sums c.self.inside.words.items (Summary c.in-Summary.above) = subst (Sums c.self.inside.words.items) c.in-Summary.is c.self.invariant.summed in
    ap (λ (s : List Bool). get_or s i false) (sym c.self.view_is)
    ∙ none_of_set c.self.inside.bound c.self.inside.words.items c.args.from
    (none_behind c.self.inside.words.items c.args.from
    (λ j past same. ap (λ (ws : List ℕ). is_member ws j) (sym c.deref.ensures.value) ∙ absent c.least_in_from-here.result (sym c.if-is_some.false ∙ c.is_some.ensures) c.least_in_from-here.ensures.none j past same)
    (λ k behind. ap (λ (s : List Bool). get_or s k false) (sym (c.deref-in-Summary.ensures ∙ s.1)) ∙ c.in-None.ensures.none k behind)) i onward
