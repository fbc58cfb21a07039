-- Tries that were refused as busy, one after the other.
use Rattle.std.proofs.Common.{List, [], ◌∷◌, ◌++◌, refl, sym, subst}
use Rattle.wb_target.specs.Tries.{Tried}

-- tries so far, from the one state to the other
abbrev pub SoFar : {S : Type 0} → (S → S → Type 0) → S → S → Type 0
SoFar {S} busy old new = (tries : List S) × Tried busy old tries new

tried_again : {S : Type 0} (busy : S → S → Type 0) (old : S) (tries : List S) (mid new : S) → Tried busy old tries mid → busy mid new → Tried busy old (tries ++ new ∷ []) new
tried_again {S} busy old [] mid new e b = (subst (λ (s : S). busy s new) (sym e) b, refl)
tried_again busy old (next ∷ tries) mid new t b = (t.0, tried_again busy next tries mid new t.1 b)

pub again : {S : Type 0} (busy : S → S → Type 0) (old mid new : S) → SoFar busy old mid → busy mid new → SoFar busy old new
again busy old mid new so b = (so.0 ++ new ∷ [], tried_again busy old so.0 mid new so.1 b)
