-- How those who were told of have ended, one after the other.
use Rattle.std.proofs.Common.{◌≡◌, ◌∙◌, ◌<◌, ◌+◌, ℕ, suc, List, ◌∷◌, Option, Some, None, Result, Ok, ap, drop, drop-cons, get_or, length, subst}
use native.Mathlib.Numerals.{unary_clauses}
use Rattle.std.specs.Prelude.{All, IfNone}
use Rattle.std.proofs.lemmas.Option.{slice_get-get_or}
use Rattle.std.proofs.lemmas.List.Elements.{All-cons, All-same}
use Rattle.wb_types.specs.declared.refusal.Refusal.{Refusal}
use Rattle.wb_nbd.specs.declared.broken.Broken.{Broken}
use Rattle.wbnbd.specs.Endings.{DidServe, EndedWell}
use Rattle.wbnbd.specs.declared.beside.Told.{Told}
use Rattle.wbnbd.specs.declared.beside.Told.TheVariants.{Served}

-- where one did well, all did if those behind it did
pub one_more : (told : List (Result Told Refusal)) (i : ℕ) (d : Result Told Refusal) → i < length told → EndedWell (get_or told i d) → (All EndedWell (drop i told) → All EndedWell told) → All EndedWell (drop (i + 1) told) → All EndedWell told
one_more told i d inside well on rest = on (All-same EndedWell (drop i told) (get_or told i d ∷ drop (suc i) told) (drop-cons told i d inside) (All-cons EndedWell (get_or told i d) (drop (suc i) told) well (simp unary_clauses at rest)))

-- one that served is there
pub one_served : (told : List (Result Told Refusal)) (i : ℕ) (connection : Result (Unit {0}) Broken) (flushed : Result (Unit {0}) Refusal) (d : Result Told Refusal) → i < length told → get_or told i d ≡ Ok (Served connection flushed) → DidServe told
one_served told i connection flushed d inside is = (i, connection, flushed, slice_get-get_or told i d inside ∙ ap Some is)

-- what a call that gave none promises then
pub where_none : {T : Type 0} (r : Option T) (Q : Type 0) → r ≡ None → IfNone r Q → Q
where_none r Q is so = subst (λ (x : Option _). IfNone x Q) is so
