use Rattle.std.proofs.Common.{◌≡◌, ℕ, false, length, replicate, map, sym, ap, subst, ◌∙◌, arith}
use Rattle.std.proofs.lemmas.Grind.{common_steps}
use Rattle.std.proofs.lemmas.List.{length-replicate}
use Rattle.wb_bits.specs.BitWords.{IsBounded, members, is_used}
use Rattle.wb_bits.proofs.Least.{zeros, members-none, bounded-none, used-none}
use Rattle.wb_bits.proofs.bit_set.BitSet.+new.Goals as goal

pub invariant_of-result : goal.invariant_of-result
invariant_of-result t c =
    let e : c.in_ok-words.words.items ≡ zeros c.div_ceil-count.result = grind (arith, common_steps) in
    let b : IsBounded c.args.bound (zeros c.div_ceil-count.result) = bounded-none c.args.bound c.div_ceil-count.result c.requires (omega arith) (omega arith) in
    let s : c.in_ok-above.above.value ≡ replicate c.div_ceil-count.result false = c.in_ok-above.ensures.ok ∙ c.in_ok-new.ensures in
    record {
      bounded = subst (IsBounded c.args.bound) (sym e) b;
      summed = (omega (arith, ap length e, length-replicate {A = ℕ} c.div_ceil-count.result 0), s ∙ used-none c.div_ceil-count.result ∙ ap (map is_used) (sym e));
    }

pub invariant_of-result-else-count-gt1 : goal.invariant_of-result-else-count-gt1
invariant_of-result-else-count-gt1 t c =
    let e : c.in_ok-words.words.items ≡ zeros c.div_ceil-count.result = grind (arith, common_steps) in
    let b : IsBounded c.args.bound (zeros c.div_ceil-count.result) = bounded-none c.args.bound c.div_ceil-count.result c.requires (omega arith) (omega arith) in
    record {
      bounded = subst (IsBounded c.args.bound) (sym e) b;
      summed = omega (arith, ap length e, length-replicate {A = ℕ} c.div_ceil-count.result 0);
    }

pub returns-in_ok-above : goal.returns-in_ok-above
returns-in_ok-above t c =
    let e : c.in_ok-words.words.items ≡ zeros c.div_ceil-count.result = grind (arith, common_steps) in
    ap (members c.args.bound) e ∙ members-none c.args.bound c.div_ceil-count.result

pub returns-else-count-gt1 : goal.returns-else-count-gt1
returns-else-count-gt1 t c =
    let e : c.in_ok-words.words.items ≡ zeros c.div_ceil-count.result = grind (arith, common_steps) in
    ap (members c.args.bound) e ∙ members-none c.args.bound c.div_ceil-count.result
