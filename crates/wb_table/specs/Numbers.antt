-- Words that spell numbers and bytes.
use Rattle.std.specs.Prelude.{◌≡◌, ◌<◌, ◌/◌, ◌%◌, ◌^◌, ℕ, List, [], ◌∷◌, length, IsTrue}
use Rattle.std.specs.List.{list_all}
use Rattle.std.specs.Str.Parse.{digits_value}
use Rattle.std.specs.Char.{is_ascii_digit, digit_char}

-- A word of one or more decimal digits, leading zeros allowed, spells its value, below 2 ^ 64.
pub record SpellsNumber (word : List ℕ) (number : ℕ) : Type 0 where
  pub filled : 0 < length word
  pub digits : IsTrue (list_all is_ascii_digit word)
  pub value : digits_value 10 word ≡ number
  pub fits : number < 2 ^ 64

-- Two hexadecimal digits, lower case, spell a byte.
pub record SpellsByte (word : List ℕ) (byte : ℕ) : Type 0 where
  pub fits : byte < 256
  pub digits : word ≡ digit_char (byte / 16) ∷ digit_char (byte % 16) ∷ []
