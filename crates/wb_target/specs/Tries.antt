-- What is tried again while it is busy.
use Rattle.std.specs.Prelude.{◌≡◌, List, [], ◌∷◌}

-- Tries that were refused as busy led, one after the other, from the one state to the other: the states after each of them.
abbrev pub Tried : {S : Type 0} → (S → S → Type 0) → S → List S → S → Type 0
Tried busy old [] new = old ≡ new
Tried busy old (next ∷ tries) new = busy old next × Tried busy next tries new

-- After such tries, if any, it ended otherwise.
pub record EndedAfter {S : Type 0} (busy ends : S → S → Type 0) (old new : S) : Type 0 where
  pub tries : List S
  pub before : S
  pub tried : Tried busy old tries before
  pub ended : ends before new
