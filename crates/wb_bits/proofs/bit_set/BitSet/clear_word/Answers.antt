use Rattle.std.proofs.Common.{◌≡◌, ◌∙◌, List, Bool, false, length, get_or, set, refl, sym, ap, subst, arith}
use Rattle.std.proofs.lemmas.List.{length-set, length-map}
use Rattle.wb_bits.specs.BitWords.{is_used, members}
use Rattle.wb_bits.specs.Summary.{Sums}
use Rattle.wb_bits.specs.Deeper.{length-members}
use Rattle.wb_bits.specs.declared.bit_set.Above.TheVariants.{Nothing, Summary}
use Rattle.wb_bits.proofs.Members.{used-set, used_zero}
use Rattle.wb_bits.proofs.Cleared.{IsCleared, word_cleared}
use Rattle.wb_bits.proofs.bit_set.BitSet.clear_word.Goals as goal
use Rattle.wb_bits.proofs.bit_set.BitSet.clear_word.Goals.{Joined-self, in-Nothing, in-Summary}

pub index_mut-requires : goal.index_mut-requires
index_mut-requires c =
    let l : length c.args.self.now ≡ c.self.inside.bound = ap length (sym c.self.view_is) ∙ length-members c.self.inside.bound c.self.inside.words.items in
    omega (arith, c.requires, c.self.invariant.bounded.enough, c.self.inside.words.ok.0)

pub remove-requires : goal.remove-requires
remove-requires c =
    let l : length c.args.self.now ≡ c.self.inside.bound = ap length (sym c.self.view_is) ∙ length-members c.self.inside.bound c.self.inside.words.items in
    let s : Sums c.self.inside.words.items (Summary c.in-Summary.above) = subst (Sums c.self.inside.words.items) c.in-Summary.is c.self.invariant.summed in
    let e : length c.deref_mut.result.now ≡ length c.self.inside.words.items = ap length c.deref_mut.ensures.value ∙ ap length s.1 ∙ length-map c.self.inside.words.items is_used in
    omega (arith, c.requires, c.self.invariant.bounded.enough)

-- the word is zero
zero : (c : Joined-self) → IsCleared c.self.inside.bound c.self.inside.words.items c.args.at
zero c =
    let l : length c.args.self.now ≡ c.self.inside.bound = ap length (sym c.self.view_is) ∙ length-members c.self.inside.bound c.self.inside.words.items in
    word_cleared c.self.inside.bound c.self.inside.words.items c.args.at (omega (arith, c.requires, c.self.invariant.bounded.enough)) c.self.invariant.bounded

-- the list that the words are then
left : (c : Joined-self) → members c.match-self.self-inside.bound c.match-self.self-inside.words.items ≡ members c.self.inside.bound (set c.self.inside.words.items c.args.at 0)
left c = elim c.match-self.branch [
  | in-Nothing w ↦ rw w.self-inside-is refl
  | in-Summary w ↦ rw w.self-inside-is refl
]

pub invariant_of-self : goal.invariant_of-self
invariant_of-self c = elim c.match-self.branch [
  | in-Nothing w ↦ let s : Sums c.self.inside.words.items Nothing = subst (Sums c.self.inside.words.items) w.in-Nothing.is c.self.invariant.summed in
      rw (w.self-inside-is, w.in-Nothing.is) (record { bounded = (zero c).bounded; summed = omega (arith, s, length-set c.self.inside.words.items c.args.at 0) })
  | in-Summary w ↦ let s : Sums c.self.inside.words.items (Summary w.in-Summary.above) = subst (Sums c.self.inside.words.items) w.in-Summary.is c.self.invariant.summed in
      rw w.self-inside-is (record {
        bounded = (zero c).bounded;
        summed = (
          omega (arith, s.0, length-set c.self.inside.words.items c.args.at 0),
          w.remove.ensures ∙ ap (λ (l : List Bool). set l c.args.at false) (w.deref_mut.ensures.value ∙ s.1)
              ∙ sym (used-set c.self.inside.words.items c.args.at 0 false used_zero),
        );
      })
]

pub returns-clause-size : goal.returns-clause-size
returns-clause-size c = ap length (left c) ∙ length-members c.self.inside.bound (set c.self.inside.words.items c.args.at 0)
    ∙ sym (length-members c.self.inside.bound c.self.inside.words.items) ∙ ap length c.self.view_is

pub returns-clause-cleared : goal.returns-clause-cleared
returns-clause-cleared c i e = ap (λ (l : List Bool). get_or l i false) (left c) ∙ (zero c).cleared i e

pub returns-clause-others : goal.returns-clause-others
returns-clause-others c i n = ap (λ (l : List Bool). get_or l i false) (left c) ∙ (zero c).others i n ∙ ap (λ (l : List Bool). get_or l i false) c.self.view_is
