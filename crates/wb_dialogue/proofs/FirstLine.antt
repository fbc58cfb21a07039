-- Where the first line of bytes ends.
use Rattle.std.proofs.Common.{◌≡◌, ◌==◌, ◌<◌, ◌++◌, ◌∷◌, ℕ, List, Bool, true, false, Some, None, length, length-take-le, take, drop, suc, get_or, get_or-take, sym, ap, subst, ◌∙◌, ⊎_elim, arith}
use Rattle.std.proofs.Math.Seq.{split_at}
use Rattle.std.proofs.lemmas.Bool.{cases_Bool, eqb-true}
use Rattle.std.proofs.lemmas.List.Elements.{All-from_get_or}
use Rattle.std.proofs.lemmas.List.Folds.{list_any_none}
use Rattle.memchr.specs.Find.{is_byte, IsFirstByte}
use Rattle.wb_dialogue.specs.FirstLine.{IsFirstLine, has_break}

-- what is not the one is the other
not_true : (b : Bool) → ¬ (b ≡ true) → b ≡ false
not_true b other = ⊎_elim (λ yes. absurd (other yes)) (λ no. no) (cases_Bool b)

-- no byte is a break
unbroken : (bytes : List ℕ) → ((k : ℕ) → k < length bytes → ¬ ((get_or bytes k 0 == 10) ≡ true)) → has_break bytes ≡ false
unbroken bytes none = list_any_none (λ byte. byte == 10) bytes (All-from_get_or (λ byte. (byte == 10) ≡ false) bytes 0 (λ k within. not_true (get_or bytes k 0 == 10) (none k within)))

pub no_line : (bytes : List ℕ) → IsFirstByte (is_byte 10) bytes None → has_break bytes ≡ false
no_line bytes none = unbroken bytes (λ k within. none k (omega arith) within)

pub first_line : (bytes : List ℕ) (end : ℕ) → IsFirstByte (is_byte 10) bytes (Some end) → IsFirstLine (take end bytes) bytes
first_line bytes end (first, is) =
    let within : end < length bytes = first.high in
    let long : length (take end bytes) ≡ end = length-take-le end bytes (omega (arith, within)) in
    let cut : bytes ≡ take end bytes ++ get_or bytes end 0 ∷ drop (suc end) bytes = split_at bytes end 0 within in
    record {
      rest = drop (suc end) bytes;
      unbroken = unbroken (take end bytes) (λ k less.
          let before : k < end = omega (arith, less, long) in
          λ yes. first.before k (omega arith) before (ap (λ byte. byte == 10) (sym (get_or-take end bytes k 0 before)) ∙ yes));
      cut = subst (λ (byte : ℕ). bytes ≡ take end bytes ++ byte ∷ drop (suc end) bytes) (eqb-true (get_or bytes end 0) 10 is) cut;
    }
