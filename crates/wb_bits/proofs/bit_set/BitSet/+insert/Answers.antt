use Rattle.std.proofs.Common.{◌≡◌, ◌/◌, ◌%◌, ℕ, List, Bool, true, length, get_or, set, sym, ap, subst, ◌∙◌, arith}
use Rattle.std.proofs.lemmas.Bool.{false≢true}
use Rattle.std.proofs.lemmas.List.{length-set, length-map, get_or_read}
use Rattle.wb_bits.specs.BitWords.{is_used}
use Rattle.wb_bits.specs.Summary.{Sums}
use Rattle.wb_bits.specs.Deeper.{length-members}
use Rattle.wb_bits.specs.declared.bit_set.Above.TheVariants.{Nothing, Summary}
use Rattle.wb_bits.proofs.Members.{within, Writes, written, used-set, used-same, used_by_bit, used_zero}
use Rattle.wb_bits.proofs.bit_set.BitSet.+insert.Goals as goal
use Rattle.wb_bits.proofs.bit_set.BitSet.+insert.Goals.{Joined-self, in-Nothing, in-Summary+then-before-eq0, in-Summary+else-before-eq0}

pub index-before-requires : goal.index-before-requires
index-before-requires t c = let w = within c.self.inside c.args.self.now c.args.i c.self.view_is c.requires c.self.invariant in omega (arith, w.word, c.self.inside.words.ok.0)

pub index_mut-requires : goal.index_mut-requires
index_mut-requires t c = let w = within c.self.inside c.args.self.now c.args.i c.self.view_is c.requires c.self.invariant in omega (arith, w.word, c.self.inside.words.ok.0)

pub insert-requires : goal.insert-requires
insert-requires t c =
    let w = within c.self.inside c.args.self.now c.args.i c.self.view_is c.requires c.self.invariant in
    let s : Sums c.self.inside.words.items (Summary c.in-Summary.above) = subst (Sums c.self.inside.words.items) c.in-Summary.is c.self.invariant.summed in
    let e : length c.deref_mut.result.now ≡ length c.self.inside.words.items = ap length c.deref_mut.ensures.value ∙ ap length s.1 ∙ length-map c.self.inside.words.items is_used in
    let n = c.self.invariant.bounded.no_more in
    let l : length c.args.self.now ≡ c.self.inside.bound = ap length (sym c.self.view_is) ∙ length-members c.self.inside.bound c.self.inside.words.items in
    (omega (arith, s.0, c.decreases), omega (arith, w.word))

-- the write
writes : (t : ℕ) (c : Joined-self t) → Writes c.self.inside.bound c.self.inside.words.items c.args.i c.with_bit.result true
writes t c = let w = within c.self.inside c.args.self.now c.args.i c.self.view_is c.requires c.self.invariant in
    written c.self.inside.bound c.self.inside.words.items c.args.i c.index-before.result.now c.with_bit.result true w.bound c.index-before.ensures c.with_bit.ensures.differs c.with_bit.ensures.fits c.self.invariant.bounded

length_after : (t : ℕ) (c : Joined-self t) → length (set c.self.inside.words.items (c.args.i / 64) c.with_bit.result) ≡ length c.self.inside.words.items
length_after t c = length-set c.self.inside.words.items (c.args.i / 64) c.with_bit.result

-- it has a member
some : (t : ℕ) (c : Joined-self t) → is_used c.with_bit.result ≡ true
some t c = used_by_bit c.with_bit.result (c.args.i % 64) c.with_bit.ensures.differs.here

pub invariant_of-self : goal.invariant_of-self
invariant_of-self t c = elim c.match-self.branch [
  | in-Nothing w ↦ let s : Sums c.self.inside.words.items Nothing = subst (Sums c.self.inside.words.items) w.in-Nothing.is c.self.invariant.summed in
      rw (w.self-inside-is, w.in-Nothing.is) (record { bounded = (writes t c).bounded; summed = omega (arith, s, length_after t c) })
  | in-Summary+then-before-eq0 w ↦ let s : Sums c.self.inside.words.items (Summary w.in-Summary.above) = subst (Sums c.self.inside.words.items) w.in-Summary.is c.self.invariant.summed in
      rw w.self-inside-is (record {
        bounded = (writes t c).bounded;
        summed = (
          omega (arith, s.0, length_after t c),
          w.insert.ensures ∙ ap (λ (l : List Bool). set l (c.args.i / 64) true) (w.deref_mut.ensures.value ∙ s.1)
              ∙ sym (used-set c.self.inside.words.items (c.args.i / 64) c.with_bit.result true (some t c)),
        );
      })
  | in-Summary+else-before-eq0 w ↦ let s : Sums c.self.inside.words.items (Summary w.in-Summary.above) = subst (Sums c.self.inside.words.items) w.in-Summary.is c.self.invariant.summed in
      rw w.self-inside-is (record {
        bounded = (writes t c).bounded;
        summed = (
          omega (arith, s.0, length_after t c),
          s.1 ∙ sym (used-same c.self.inside.words.items (c.args.i / 64) c.with_bit.result (λ z. false≢true (sym used_zero ∙ ap is_used (sym z) ∙ some t c))
              (λ z. absurd (w.if-before-eq0.false (get_zero t c z)))),
        );
      })
]
  where
    get_zero : (t : ℕ) (c : Joined-self t) → get_or c.self.inside.words.items (c.args.i / 64) 0 ≡ 0 → c.index-before.result.now ≡ 0
    get_zero t c z = let w = within c.self.inside c.args.self.now c.args.i c.self.view_is c.requires c.self.invariant in
        get_or_read c.self.inside.words.items (c.args.i / 64) c.index-before.result.now w.word c.index-before.ensures 0 ∙ z

pub returns : goal.returns
returns t c = elim c.match-self.branch [
  | in-Nothing w ↦ rw w.self-inside-is ((writes t c).list ∙ ap (λ (l : List Bool). set l c.args.i true) c.self.view_is)
  | in-Summary+then-before-eq0 w ↦ rw w.self-inside-is ((writes t c).list ∙ ap (λ (l : List Bool). set l c.args.i true) c.self.view_is)
  | in-Summary+else-before-eq0 w ↦ rw w.self-inside-is ((writes t c).list ∙ ap (λ (l : List Bool). set l c.args.i true) c.self.view_is)
]
