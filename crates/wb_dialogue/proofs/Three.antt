-- A line of three words, one space between two, of which the latter two spell numbers.
use Rattle.std.proofs.Common.{refl, ◌≡◌, ◌∷◌, ◌++◌, ◌<◌, ◌≤◌, ◌∙◌, [], ℕ, Bool, List, codes, length, filter, cond, eqb, true, false, ap, sym, subst, arith, rules, ⊎_elim}
use Rattle.std.specs.List.{list_all, onto_first, slice_index}
use Rattle.std.specs.Char.{is_ascii_digit}
use Rattle.std.specs.Str.{IsAscii, IsUtf8}
use Rattle.std.proofs.lemmas.Bool.{lt-ltb, cases_order, eqb-true}
use Rattle.std.proofs.lemmas.List.{append-nil, get_or_past, nil_from_length}
use Rattle.std.proofs.lemmas.List.Splits.{slice_split_at, slice_split_none, slice_split-cons_yes, slice_split-cons_no}
use Rattle.std.proofs.lemmas.List.Sums.{AllPass-from_list_all}
use Rattle.std.proofs.lemmas.Str.{IsAscii-append, IsUtf8-from_ascii}
use Rattle.std.proofs.lemmas.Str.Ascii.{IsAscii-cons}
use Rattle.wb_table.specs.Words.{is_filled, words_of}
use Rattle.wb_table.specs.Comments.{IsComment}
use Rattle.wb_table.specs.Numbers.{SpellsNumber}
use Rattle.wb_table.specs.Sectors.{SpellsSectors}

abbrev pub is_space : ℕ → Bool
is_space b = eqb b 32

-- a part that is a word
filter-filled : (part : List ℕ) (parts : List (List ℕ)) → 0 < length part → filter is_filled (part ∷ parts) ≡ part ∷ filter is_filled parts
filter-filled part parts h = ap (λ b. cond b (part ∷ filter is_filled parts) (filter is_filled parts)) (lt-ltb 0 (length part) h)

-- a digit is no space
digit-not_space : (b : ℕ) → is_ascii_digit b ≡ true → is_space b ≡ false
digit-not_space b h = search rules

-- and is ASCII
digit-ascii : (b : ℕ) → is_ascii_digit b ≡ true → b < 128
digit-ascii b h = search rules

past-ascii : (d : List ℕ) (k : ℕ) → length d ≤ k → slice_index d k < 128
past-ascii d k h = omega (arith, get_or_past d k 0 h)

-- a number is ASCII
ascii-digits : (d : List ℕ) → list_all is_ascii_digit d ≡ true → IsAscii d
ascii-digits d h = λ k.
    ⊎_elim (λ e. past-ascii d k (omega (arith, e)))
    (λ t. ⊎_elim (λ l. digit-ascii _ (AllPass-from_list_all is_ascii_digit d h k 0 l)) (λ l. past-ascii d k (omega (arith, l))) t) (cases_order k (length d))

-- its words
words_of-three : (d e : List ℕ) (m n : ℕ) → SpellsNumber d m → SpellsNumber e n → words_of (114 ∷ 32 ∷ d ++ 32 ∷ e) ≡ codes "r" ∷ d ∷ e ∷ []
words_of-three d e m n sd se =
    let digits-d = AllPass-from_list_all is_ascii_digit d sd.digits in
    let digits-e = AllPass-from_list_all is_ascii_digit e se.digits in
    let first = slice_split-cons_no is_space 114 (32 ∷ d ++ 32 ∷ e) refl ∙ ap (onto_first 114) (slice_split-cons_yes is_space 32 (d ++ 32 ∷ e) refl) in
    let second = slice_split_at is_space d 32 e (λ k x h. digit-not_space _ (digits-d k x h)) refl in
    let last = slice_split_none is_space e (λ k x h. digit-not_space _ (digits-e k x h)) in
    ap (filter is_filled) (first ∙ ap (λ parts. (114 ∷ []) ∷ parts) (second ∙ ap (λ parts. d ∷ parts) last))
    ∙ ap (λ words. (114 ∷ []) ∷ words) (filter-filled d (e ∷ []) sd.filled ∙ ap (λ words. d ∷ words) (filter-filled e [] se.filled))

-- it is a text
IsUtf8-three : (d e : List ℕ) (m n : ℕ) → SpellsNumber d m → SpellsNumber e n → IsUtf8 (114 ∷ 32 ∷ d ++ 32 ∷ e)
IsUtf8-three d e m n sd se =
    let rest : IsAscii (d ++ 32 ∷ e) = IsAscii-append d (32 ∷ e) (ascii-digits d sd.digits) (IsAscii-cons 32 e (omega arith) (ascii-digits e se.digits)) in
    IsUtf8-from_ascii _ (IsAscii-cons 114 (32 ∷ d ++ 32 ∷ e) (omega arith) (IsAscii-cons 32 (d ++ 32 ∷ e) (omega arith) rest))

-- the line by its parts, one behind the other
line-three : (line one numbers d two last e rest : List ℕ) → line ≡ 114 ∷ one → one ≡ 32 ∷ numbers → numbers ≡ d ++ two → two ≡ 32 ∷ last → last ≡ e ++ rest → rest ≡ [] → line ≡ 114 ∷ 32 ∷ d ++ 32 ∷ e
line-three line one numbers d two last e rest h₁ h₂ h₃ h₄ h₅ h₆ =
    h₁ ∙ ap (λ t. 114 ∷ t) (h₂ ∙ ap (λ t. 32 ∷ t) (h₃ ∙ ap (λ t. d ++ t) (h₄ ∙ ap (λ t. 32 ∷ t) (h₅ ∙ ap (λ t. e ++ t) h₆ ∙ append-nil e))))

-- what such a line says, by its parts, with nothing behind them
pub says-three : {line one numbers two last rest : List ℕ} {at count : ℕ} → line ≡ 114 ∷ one → one ≡ 32 ∷ numbers → (word : List ℕ) × (numbers ≡ word ++ two) × SpellsNumber word at → two ≡ 32 ∷ last
    → (word : List ℕ) × (last ≡ word ++ rest) × SpellsNumber word count → eqb (length rest) 0 ≡ true
    → ((words : List (List ℕ)) × (words_of line ≡ codes "r" ∷ words) × SpellsSectors words at count) × (IsUtf8 line × ¬ IsComment line)
says-three h₁ h₂ a h₄ b h₆ =
    let is = line-three _ _ _ _ _ _ _ _ h₁ h₂ a.1 h₄ b.1 (nil_from_length _ (eqb-true _ 0 h₆)) in
    ((a.0 ∷ b.0 ∷ [], ap words_of is ∙ words_of-three a.0 b.0 _ _ a.2 b.2, (a.2, b.2)), (subst IsUtf8 (sym is) (IsUtf8-three a.0 b.0 _ _ a.2 b.2), rw is (search rules)))
