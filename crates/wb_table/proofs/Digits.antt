-- What `parse` reads of digits alone.
use Rattle.std.proofs.Common.{◌≡◌, ◌<◌, ◌^◌, ℕ, List, Result, Ok, Err, IfNone, rules, true, subst, sym}
use Rattle.std.specs.List.{list_all}
use Rattle.std.specs.Char.{is_ascii_digit}
use Rattle.std.specs.Result.{result_ok}
use Rattle.std.specs.Str.Parse.{ParsesUnsigned, digits_value}
use Rattle.std.proofs.lemmas.Str.Parse.{IsNumeralModel, numerals_by_value, parse_digits}
use Rattle.wb_table.specs.Numbers.{SpellsNumber}

-- digits alone, and their value, are those of `parse`
digits : IsNumeralModel (λ ds. list_all is_ascii_digit ds ≡ true) (digits_value 10)
digits = numerals_by_value _ (search rules)

pub SpellsNumber-not_parsed : {E : Type 0} (word : List ℕ) (r : Result ℕ E) → ParsesUnsigned 64 10 word r → list_all is_ascii_digit word ≡ true → IfNone (result_ok r) ((number : ℕ) → SpellsNumber word number → ⊥)
SpellsNumber-not_parsed {E} word (Ok n) h d = tt
SpellsNumber-not_parsed {E} word (Err e) h d =
    λ number s. parse_digits digits {E = E} 64 word (Err e) h d (s.filled, subst (λ m. m < 2 ^ 64) (sym s.value) s.fits)
