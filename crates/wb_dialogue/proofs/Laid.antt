-- A line, from its end to its beginning.
use Rattle.std.proofs.Common.{◌≡◌, ◌<◌, ◌/◌, ◌%◌, ◌^◌, ◌++◌, ℕ, List, [], ◌∷◌, refl, sym, ap, subst, ◌∙◌, append_assoc, codes, decimal, arith}
use Rattle.std.proofs.lemmas.Fmt.{IsAscii-decimal}
use Rattle.std.proofs.lemmas.Str.{IsAscii-append}
use Rattle.std.proofs.lemmas.Str.Ascii.{IsAscii-nil, IsAscii-cons}
use Rattle.std.specs.Char.{digit_char}
use Rattle.std.specs.Str.{IsAscii}
use Rattle.wb_dialogue.specs.Fill.{Shows}
use Rattle.wb_dialogue.specs.Shown.{IsLineOf, NamesFill}
use Rattle.wb_dialogue.specs.declared.fill.Fill.{Fill}
use Rattle.wb_dialogue.specs.declared.fill.Fill.TheVariants.{Uniform, Mixed}

-- two digits in front of what was there
pub byte_laid : (fill : Fill) (byte high low : ℕ) (before between after : List ℕ) → fill ≡ Uniform byte → byte < 256 → high ≡ digit_char (byte / 16) → high < 128 → low ≡ digit_char (byte % 16) → low < 128 → between ≡ low ∷ before → after ≡ high ∷ between → (word : List ℕ) × NamesFill word fill × IsAscii word × (after ≡ word ++ before)
byte_laid fill byte high low before between after is f h hs l ls b a =
    let word : high ∷ low ∷ [] ≡ digit_char (byte / 16) ∷ digit_char (byte % 16) ∷ [] = cc in
    (high ∷ low ∷ [], subst (λ (it : Fill). NamesFill (high ∷ low ∷ []) it) (sym is) (record { fits = f; digits = word }), IsAscii-cons high (low ∷ []) hs (IsAscii-cons low [] ls IsAscii-nil), a ∙ ap (λ t. high ∷ t) b)

-- five letters
pub mixed_laid : (fill : Fill) (before one two three four after : List ℕ) → fill ≡ Mixed → one ≡ 100 ∷ before → two ≡ 101 ∷ one → three ≡ 120 ∷ two → four ≡ 105 ∷ three → after ≡ 109 ∷ four → (word : List ℕ) × NamesFill word fill × IsAscii word × (after ≡ word ++ before)
mixed_laid fill before one two three four after is d e x i m = (
  codes "mixed",
  subst (λ (it : Fill). NamesFill (codes "mixed") it) (sym is) refl,
  IsAscii-cons 109 (105 ∷ 120 ∷ 101 ∷ 100 ∷ []) (omega arith) (IsAscii-cons 105 (120 ∷ 101 ∷ 100 ∷ []) (omega arith) (IsAscii-cons 120 (101 ∷ 100 ∷ []) (omega arith) (IsAscii-cons 101 (100 ∷ []) (omega arith) (IsAscii-cons 100 [] (omega arith) IsAscii-nil)))),
  m ∙ ap (λ t. 109 ∷ t) (i ∙ ap (λ t. 105 ∷ t) (x ∙ ap (λ t. 120 ∷ t) (e ∙ ap (λ t. 101 ∷ t) d))),
)

-- a whole line
pub line_laid : (sector : ℕ) (content word before broken named spaced after : List ℕ) (fill : Fill) → sector < 2 ^ 64 → Shows fill content → NamesFill word fill → IsAscii word → broken ≡ 10 ∷ before → named ≡ word ++ broken → spaced ≡ 32 ∷ named → after ≡ decimal sector ++ spaced → (line : List ℕ) × IsLineOf line sector content × IsAscii line × (after ≡ line ++ before)
line_laid sector content word before broken named spaced after fill f s n w b e p a =
    let front : List ℕ = decimal sector ++ 32 ∷ word in
    let line : List ℕ = front ++ 10 ∷ [] in
    let ascii : IsAscii line = IsAscii-append front (10 ∷ []) (IsAscii-append (decimal sector) (32 ∷ word) (IsAscii-decimal sector f) (IsAscii-cons 32 word (omega arith) w)) (IsAscii-cons 10 [] (omega arith) IsAscii-nil) in
    let tail : spaced ≡ (32 ∷ word) ++ (10 ∷ before) = p ∙ ap (λ t. 32 ∷ t) (e ∙ ap (λ t. word ++ t) b) in
    let joined : line ++ before ≡ decimal sector ++ ((32 ∷ word) ++ (10 ∷ before)) = append_assoc front (10 ∷ []) before ∙ append_assoc (decimal sector) (32 ∷ word) (10 ∷ before) in
    let whole : after ≡ line ++ before = a ∙ ap (λ t. decimal sector ++ t) tail ∙ sym joined in
    (line, record { fill = fill; word = word; shows = s; names = n; spelled = refl }, ascii, whole)
