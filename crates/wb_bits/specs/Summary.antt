-- What the words of a set of numbers, and the sets above it, tell of its members.
use Rattle.std.specs.Prelude.{◌≡◌, ◌≤◌, ◌<◌, ℕ, List, Bool, length, map}
use Rattle.wb_bits.specs.BitWords.{is_used, IsBounded, members}
use Rattle.wb_bits.specs.declared.bit_set.Above.{Above}
use Rattle.wb_bits.specs.declared.bit_set.Above.TheVariants.{Nothing, Summary}
use Rattle.wb_bits.specs.declared.bit_set.BitSet.TheInside.{Inside}

-- more than one word has a set above it: which words are used
abbrev pub Sums : List ℕ → Above → Type 0
Sums words Nothing = length words ≤ 1
Sums words (Summary above) = (1 < length words) × (above.value ≡ map is_used words)

pub record IsSummed (a : Inside) : Type 0 where
  pub bounded : IsBounded a.bound a.words.items
  pub summed : Sums a.words.items a.above

abbrev pub members_of : Inside → List Bool
members_of a = members a.bound a.words.items
