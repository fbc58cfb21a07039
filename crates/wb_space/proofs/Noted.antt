-- Notes of places: they keep the bound, and flag the places that are noted and no others.
use Rattle.std.proofs.Common.{◌≡◌, ◌<◌, ℕ, zero, suc, List, [], ◌∷◌, Bool, true, false, length, get_or, set, refl, sym, ap, ◌∙◌, arith, inl, inr, get_or-set_same, get_or-set_other}
use Rattle.std.specs.Prelude.{◌⊎◌, Contains, slice_index_or}
use Rattle.std.proofs.lemmas.Bool.{cases_eq, cases_lt}
use Rattle.std.proofs.lemmas.List.{length-set, length-replicate, set_past}
use Rattle.wb_types.specs.declared.number.Place.{Place}
use Rattle.wb_space.specs.Places.{noted, place, unused}

pub length-noted : (ps : List Place) (uses : List Bool) → length (noted ps uses) ≡ length uses
length-noted [] uses = refl
length-noted (p ∷ ps) uses = length-noted ps (set uses p.0 true) ∙ length-set uses p.0 true

pub length-noted_alone : (ps : List Place) (count : ℕ) → length (noted ps (unused count)) ≡ count
length-noted_alone ps count = length-noted ps (unused count) ∙ length-replicate {A = Bool} count false

pub flag_stays : (flags : List Bool) (p at : ℕ) → get_or flags at false ≡ true → get_or (set flags p true) at false ≡ true
flag_stays flags p at e = elim (cases_eq at p) [
  | inl q ↦ elim (cases_lt p (length flags)) [
    | inl l ↦ ap (λ (k : ℕ). get_or (set flags p true) k false) q ∙ get_or-set_same flags p true false l
    | inr past ↦ ap (λ (xs : List Bool). get_or xs at false) (set_past flags p true past) ∙ e
  ]
  | inr n ↦ get_or-set_other flags p at true false n ∙ e
]

pub flags_stay : (ps : List Place) (flags : List Bool) (at : ℕ) → get_or flags at false ≡ true → get_or (noted ps flags) at false ≡ true
flags_stay [] flags at e = e
flags_stay (p ∷ ps) flags at e = flags_stay ps (set flags p.0 true) at (flag_stays flags p.0 at e)

flagged_at : (ps : List Place) (flags : List Bool) (p : Place) (k : ℕ) → k < length ps → slice_index_or ps k p ≡ p → p.0 < length flags → get_or (noted ps flags) p.0 false ≡ true
flagged_at [] flags p k l e within = absurd (omega arith)
flagged_at (q ∷ ps) flags p zero l e within = flags_stay ps (set flags q.0 true) p.0
    (ap (λ (x : Place). get_or (set flags x.0 true) p.0 false) e ∙ get_or-set_same flags p.0 true false within)
flagged_at (q ∷ ps) flags p (suc k) l e within = flagged_at ps (set flags q.0 true) p k (omega arith) e (omega (arith, length-set flags q.0 true))

-- a place that was noted is flagged
pub flagged : (ps : List Place) (flags : List Bool) (p : Place) → Contains ps p → p.0 < length flags → get_or (noted ps flags) p.0 false ≡ true
flagged ps flags p has within = flagged_at ps flags p has.0 has.1 has.2 within

-- and one that is flagged was noted, or was flagged before
pub noted_or : (ps : List Place) (flags : List Bool) (k : ℕ) → get_or (noted ps flags) k false ≡ true → Contains ps (place k) ⊎ (get_or flags k false ≡ true)
noted_or [] flags k e = inr e
noted_or (p ∷ ps) flags k e = elim (noted_or ps (set flags p.0 true) k e) [
  | inl has ↦ let inside = has.1 in inl (suc has.0, omega (arith, inside), has.2)
  | inr was ↦ elim (cases_eq k p.0) [
    | inl same ↦ inl (0, omega arith, ap place (sym same))
    | inr other ↦ inr (sym (get_or-set_other flags p.0 k true false other) ∙ was)
  ]
]
