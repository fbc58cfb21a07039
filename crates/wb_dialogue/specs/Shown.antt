-- What is printed of sectors that were read: a line for each.
use Rattle.std.specs.Prelude.{◌≡◌, ◌+◌, ◌++◌, ℕ, List, [], ◌∷◌, codes, decimal}
use Rattle.wb_table.specs.Numbers.{SpellsByte}
use Rattle.wb_dialogue.specs.Fill.{Shows}
use Rattle.wb_dialogue.specs.declared.fill.Fill.{Fill}
use Rattle.wb_dialogue.specs.declared.fill.Fill.TheVariants.{Uniform, Mixed}

-- what fills a sector, in a word: the one by which a write would fill it so, or `mixed`
abbrev pub NamesFill : List ℕ → Fill → Type 0
NamesFill word (Uniform byte) = SpellsByte word byte
NamesFill word Mixed = word ≡ codes "mixed"

-- a line `<sector> <fill>` of this content
pub record IsLineOf (line : List ℕ) (sector : ℕ) (content : List ℕ) : Type 0 where
  pub fill : Fill
  pub word : List ℕ
  pub shows : Shows fill content
  pub names : NamesFill word fill
  pub spelled : line ≡ decimal sector ++ 32 ∷ word ++ 10 ∷ []

-- a line for each content, the first of this sector
abbrev pub AreLinesOf : List ℕ → ℕ → List (List ℕ) → Type 0
AreLinesOf text sector [] = text ≡ []
AreLinesOf text sector (content ∷ contents) =
    (line : List ℕ) × (rest : List ℕ) × IsLineOf line sector content × AreLinesOf rest (sector + 1) contents × (text ≡ line ++ rest)
