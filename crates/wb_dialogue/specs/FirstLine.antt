-- What a reader has read ahead.
use Rattle.std.specs.Prelude.{◌≡◌, ◌==◌, ◌++◌, ◌∷◌, ℕ, List, Bool, false}
use Rattle.std.specs.List.{list_any}

-- whether a line breaks in these bytes
abbrev pub has_break : List ℕ → Bool
has_break bytes = list_any (λ byte. byte == 10) bytes

-- the first line of bytes that have its break, without it
pub record IsFirstLine (line bytes : List ℕ) : Type 0 where
  pub rest : List ℕ
  pub unbroken : has_break line ≡ false
  pub cut : bytes ≡ line ++ 10 ∷ rest
