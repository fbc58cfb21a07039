-- What raising, setting and halving do to what stands at one place.
use Rattle.std.proofs.Common.{◌≡◌, ◌≤◌, ◌<◌, ◌≢◌, inl, inr, ◌+◌, ℕ, min, Bool, true, false, List, length, get_or, set, refl, ◌∙◌, arith}
use Rattle.std.proofs.lemmas.List.{get_or-set_same, get_or-set_other}
use Rattle.std.proofs.lemmas.Bool.{cases_eq, cases_lt}
use Rattle.wb_sketch.specs.Frequencies.{raised_at}
use Rattle.wb_sketch.proofs.Counters.{raised_at-yes, raised_at-more, raised_at-full}

pub raised_at-other : (least place : ℕ) (row : List ℕ) (other : ℕ) → other ≢ place → get_or (raised_at least place row) other 0 ≡ get_or row other 0
raised_at-other least place row other ne =
    elim (cases_eq (get_or row place 0) least) [
      | inl e ↦ elim (cases_lt least 15) [
        | inl l ↦ rw (raised_at-yes least place row e l) (get_or-set_other row place other (least + 1) 0 ne)
        | inr l ↦ rw (raised_at-full least place row l) refl
      ]
      | inr d ↦ rw (raised_at-more least place row d) refl
    ]

-- the counter of a block rises at least as far as its least counter does
pub raised_at-rises : (least place : ℕ) (row : List ℕ) → place < length row → least ≤ get_or row place 0 → min 15 (least + 1) ≤ get_or (raised_at least place row) place 0
raised_at-rises least place row w h =
    elim (cases_eq (get_or row place 0) least) [
      | inl e ↦ elim (cases_lt least 15) [
        | inl l ↦ rw (raised_at-yes least place row e l, get_or-set_same row place (least + 1) 0 w) (omega arith)
        | inr l ↦ rw (raised_at-full least place row l) (omega arith)
      ]
      | inr d ↦ rw (raised_at-more least place row d) (omega arith)
    ]

-- and no farther than to one more, or 15
pub raised_at-bounded : (least place : ℕ) (row : List ℕ) (n : ℕ) → place < length row → get_or row place 0 ≤ n → n ≤ 15 → get_or (raised_at least place row) place 0 ≤ min 15 (n + 1)
raised_at-bounded least place row n w h m =
    elim (cases_eq (get_or row place 0) least) [
      | inl e ↦ elim (cases_lt least 15) [
        | inl l ↦ rw (raised_at-yes least place row e l, get_or-set_same row place (least + 1) 0 w) (omega arith)
        | inr l ↦ rw (raised_at-full least place row l) (omega arith)
      ]
      | inr d ↦ rw (raised_at-more least place row d) (omega arith)
    ]

pub raised_at-keeps : (least place : ℕ) (row : List ℕ) (other : ℕ) → place < length row → get_or row other 0 ≤ get_or (raised_at least place row) other 0
raised_at-keeps least place row other w =
    elim (cases_eq other place) [
      | inl s ↦ rw s (elim (cases_eq (get_or row place 0) least) [
        | inl e ↦ elim (cases_lt least 15) [
          | inl l ↦ rw (raised_at-yes least place row e l, get_or-set_same row place (least + 1) 0 w) (omega arith)
          | inr l ↦ rw (raised_at-full least place row l) (omega arith)
        ]
        | inr d ↦ rw (raised_at-more least place row d) (omega arith)
      ])
      | inr n ↦ rw (raised_at-other least place row other n) (omega arith)
    ]

pub set-at : (bits : List Bool) (place : ℕ) → place < length bits → get_or (set bits place true) place false ≡ true
set-at bits place w = get_or-set_same bits place true false w

pub set-keeps : (bits : List Bool) (place other : ℕ) → place < length bits → get_or bits other false ≡ true → get_or (set bits place true) other false ≡ true
set-keeps bits place other w h =
    elim (cases_eq other place) [
      | inl s ↦ rw s (set-at bits place w)
      | inr n ↦ get_or-set_other bits place other true false n ∙ h
    ]
