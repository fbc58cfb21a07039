-- What is printed piece by piece.
use Rattle.std.proofs.Common.{arith, ◌≡◌, ◌+◌, ◌++◌, ℕ, suc, zero, List, ◌∷◌, sym, ap, subst, ◌∙◌, append_assoc, append-nil}
use Rattle.std.specs.Prelude.{Option, None, Some}
use Rattle.std.specs.Io.KnownBytes.{Appends}
use Rattle.wb_dialogue.specs.declared.told.Told.{Told}
use Rattle.wb_dialogue.specs.Leading.{repeated, led_by, lead_of, want_of_memory}
use Rattle.wb_dialogue.specs.Joining.{printed, all_printed}

-- one piece behind another
pub appends_both : (a b c : Option (List ℕ)) (x y : List ℕ) → Appends a b x → Appends b c y → Appends a c (x ++ y)
appends_both None b c x y p q = tt
appends_both (Some xs) None c x y p q = absurd p
appends_both (Some xs) (Some ys) None x y p q = absurd q
appends_both (Some xs) (Some ys) (Some zs) x y p q = q ∙ ap (λ l. l ++ y) p ∙ append_assoc xs x y

-- a text behind so many of it
pub repeated_behind : (n : ℕ) (text : List ℕ) → repeated n text ++ text ≡ text ++ repeated n text
repeated_behind zero text = sym (append-nil text)
repeated_behind (suc n) text = append_assoc text (repeated n text) text ∙ ap (λ l. text ++ l) (repeated_behind n text)

-- what leads a line and the line, behind so many lines
pub once_more : (a b c d : Option (List ℕ)) (n client : ℕ) → Appends a b (repeated n (led_by client want_of_memory)) → Appends b c (lead_of client) → Appends c d want_of_memory → Appends a d (repeated (n + 1) (led_by client want_of_memory))
once_more a b c d n client p q r =
    let line : List ℕ = led_by client want_of_memory in
    let more : suc n ≡ n + 1 = omega arith in
    subst (λ (l : List ℕ). Appends a d l) (repeated_behind n line ∙ ap (λ m. repeated m line) more) (appends_both a b d (repeated n line) line p (appends_both b c d (lead_of client) want_of_memory q r))

-- what one client has told, behind that of others
pub one_of_all : (a b c : Option (List ℕ)) (sent : List ℕ) (told : Told) (rest : List Told) (all : List ℕ) → Appends a b sent → Appends b c (printed told) → sent ++ all_printed (told ∷ rest) ≡ all → (more : List ℕ) × Appends a c more × (more ++ all_printed rest ≡ all)
one_of_all a b c sent told rest all p q e = (sent ++ printed told, appends_both a b c sent (printed told) p q, append_assoc sent (printed told) (all_printed rest) ∙ e)

-- an answer that is added at the second try
pub told_behind : (old first second noted : List ℕ) (named client : ℕ) → first ≡ old → second ≡ first ++ led_by named want_of_memory → named ≡ client → noted ≡ second → noted ≡ old ++ led_by client want_of_memory
told_behind old first second noted named client p q e r = r ∙ q ∙ ap (λ l. l ++ led_by named want_of_memory) p ∙ ap (λ k. old ++ led_by k want_of_memory) e
