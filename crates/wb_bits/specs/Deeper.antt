-- That the sets above a set get smaller, so that walking up them ends.
use Rattle.std.specs.Prelude.{◌≡◌, ◌≤◌, ℕ, List, length, max}
use Rattle.std.proofs.Common.{arith, ap, ◌∙◌}
use Rattle.std.proofs.lemmas.List.{length-map}
use Rattle.std.proofs.lemmas.List.FromFn.{length-map-range_with_len}
use Rattle.wb_bits.specs.BitWords.{is_used, is_member, members, IsBounded}
use Rattle.wb_bits.specs.Summary.{Sums}
use Rattle.wb_bits.specs.declared.bit_set.Above.{Above}
use Rattle.wb_bits.specs.declared.bit_set.Above.TheVariants.{Nothing, Summary}
use Rattle.wb_bits.specs.declared.bit_set.BitSet.TheDeep.{deep-Above}

pub length-members : (bound : ℕ) (words : List ℕ) → length (members bound words) ≡ bound
unfolding members
length-members bound words = length-map-range_with_len (is_member words) 0 bound

-- the set above is smaller
pub above_smaller : (bound : ℕ) (words : List ℕ) (above : Above) → IsBounded bound words → Sums words above → max (deep-Above above) 0 ≤ length (members bound words)
above_smaller bound words Nothing b s = omega arith
above_smaller bound words (Summary above) b s = omega (arith, b.no_more, s.0, length-members bound words, ap length s.1 ∙ length-map words is_used)
