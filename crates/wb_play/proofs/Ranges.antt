-- What lies inside an origin is not refused for its range.
use Rattle.std.proofs.Common.{◌≡◌, ◌<◌, ◌≤◌, ◌+◌, ℕ, subst, sym}
use Rattle.wb_opened.specs.Inside.{IsInside}

pub not_refused : (first many count sectors : ℕ) → many ≡ count → 0 < count → first + count ≤ sectors → ¬ IsInside first many sectors → ⊥
not_refused first many count sectors e some within o = o (subst (λ (n : ℕ). IsInside first n sectors) (sym e) (record { some = some; within = within }))
