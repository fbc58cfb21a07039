-- What a commit that is told what changed makes of the places, and which have left.
use Rattle.std.proofs.Common.{◌≡◌, ◌<◌, ◌&&◌, ℕ, zero, suc, Option, Some, None, List, [], ◌∷◌, Bool, true, false, not, length, get_or, set, refl, sym, ap, ◌∙◌, arith, inl, inr, get_or-set_same, get_or-set_other}
use Rattle.std.specs.Prelude.{◌↔◌, ◌⊎◌, Contains}
use Rattle.std.proofs.lemmas.Bool.{cases_Bool, cases_eq, cases_lt, false≢true}
use Rattle.std.proofs.lemmas.List.{ext_get_or, get_or_past, length-replicate, length-set, set_past}
use Rattle.wb_types.specs.declared.number.Place.{Place}
use Rattle.wb_space.specs.Places.{HaveLeft, cleared_places, noted, noted_known, place, unused, without}
use Rattle.wb_space.proofs.Noted.{flag_stays, flagged, flags_stay, length-noted, length-noted_alone, noted_or}
use Rattle.wb_space.proofs.Differing.{get_or-unused, get_or-without, length-without}

same_truth : (a b : Bool) → (a ≡ true → b ≡ true) → (b ≡ true → a ≡ true) → a ≡ b
same_truth true b to from = sym (to refl)
same_truth false true to from = from refl
same_truth false false to from = refl

both : (a b : Bool) → (a && not b) ≡ true → (a ≡ true) × (b ≡ false)
both true false e = (refl, refl)
both true true e = absurd cc
both false b e = absurd cc

inside_flags : (flags : List Bool) (k : ℕ) → get_or flags k false ≡ true → k < length flags
inside_flags flags k e = elim (cases_lt k (length flags)) [
  | inl l ↦ l
  | inr past ↦ absurd (false≢true (sym (get_or_past flags k false past) ∙ e))
]

-- Where no place stands that was not there before or was added, the image has the places at which something stands.
pub changed_places : (Old New : Place → Type 0) (added used : List Place) (committed left : List Bool) → HaveLeft Old committed left
    → ((p : Place) → Old p → p.0 < length committed → get_or committed p.0 false ≡ true) → ((p : Place) → Contains used p ↔ New p)
    → ((p : Place) → Old p → New p) → ((p : Place) → Contains added p → New p) → ((p : Place) → New p → Old p ⊎ Contains added p)
    → noted added (without left committed) ≡ noted used (unused (length committed))
changed_places Old New added used committed left h known are stays stands comes =
    ext_get_or false (noted added (without left committed)) (noted used (unused (length committed))) (sizes ∙ sym (length-noted_alone used (length committed)))
    (λ k l. same_truth (get_or (noted added (without left committed)) k false) (get_or (noted used (unused (length committed))) k false)
    (λ e. there k (omega (arith, l, sizes)) (to k e))
    (λ e. elim (comes (place k) (from k e)) [
      | inl old ↦ flags_stay added (without left committed) k
          (get_or-without left committed k ∙ ap (λ b. b && not (get_or left k false)) (known (place k) old (omega (arith, l, sizes))) ∙ ap (λ b. true && not b) (h.stands (place k) old))
      | inr new ↦ flagged added (without left committed) (place k) new (omega (arith, l, sizes, length-without left committed))
    ]))
  where
    sizes : length (noted added (without left committed)) ≡ length committed
    sizes = length-noted added (without left committed) ∙ length-without left committed

    there : (k : ℕ) → k < length committed → New (place k) → get_or (noted used (unused (length committed))) k false ≡ true
    there k l new = flagged used (unused (length committed)) (place k) ((are (place k)).1 new) (omega (arith, l, length-replicate {A = Bool} (length committed) false))

    to : (k : ℕ) → get_or (noted added (without left committed)) k false ≡ true → New (place k)
    to k e = elim (noted_or added (without left committed) k e) [
      | inl has ↦ stands (place k) has
      | inr was ↦
          let kept = both (get_or committed k false) (get_or left k false) (sym (get_or-without left committed k) ∙ was) in
          stays (place k) (h.rest k kept.0 kept.1)
    ]

    from : (k : ℕ) → get_or (noted used (unused (length committed))) k false ≡ true → New (place k)
    from k e = elim (noted_or used (unused (length committed)) k e) [
      | inl has ↦ (are (place k)).0 has
      | inr was ↦ absurd (false≢true (sym (get_or-unused (length committed) k) ∙ was))
    ]

-- ---- places at an opening

length-cleared : (ps : List Place) (flags : List Bool) → length (cleared_places ps flags) ≡ length flags
length-cleared [] flags = refl
length-cleared (p ∷ ps) flags = length-cleared ps (set flags p.0 false) ∙ length-set flags p.0 false

flag_goes : (flags : List Bool) (p at : ℕ) → get_or flags at false ≡ false → get_or (set flags p false) at false ≡ false
flag_goes flags p at e = elim (cases_eq at p) [
  | inl q ↦ elim (cases_lt p (length flags)) [
    | inl l ↦ ap (λ (k : ℕ). get_or (set flags p false) k false) q ∙ get_or-set_same flags p false false l
    | inr past ↦ ap (λ (xs : List Bool). get_or xs at false) (set_past flags p false past) ∙ e
  ]
  | inr n ↦ get_or-set_other flags p at false false n ∙ e
]

flag_gone : (flags : List Bool) (p : ℕ) → get_or (set flags p false) p false ≡ false
flag_gone flags p = elim (cases_lt p (length flags)) [
  | inl l ↦ get_or-set_same flags p false false l
  | inr past ↦ get_or_past (set flags p false) p false (omega (arith, past, length-set flags p false))
]

stay_gone : (ps : List Place) (flags : List Bool) (k : ℕ) → get_or flags k false ≡ false → get_or (cleared_places ps flags) k false ≡ false
stay_gone [] flags k e = e
stay_gone (p ∷ ps) flags k e = stay_gone ps (set flags p.0 false) k (flag_goes flags p.0 k e)

gone_at : (ps : List Place) (flags : List Bool) (p : Place) (k : ℕ) → k < length ps → get_or ps k p ≡ p → get_or (cleared_places ps flags) p.0 false ≡ false
gone_at [] flags p k l e = absurd (omega arith)
gone_at (q ∷ ps) flags p zero l e = stay_gone ps (set flags q.0 false) p.0 (ap (λ (x : Place). get_or (set flags x.0 false) p.0 false) e ∙ flag_gone flags p.0)
gone_at (q ∷ ps) flags p (suc k) l e = gone_at ps (set flags q.0 false) p k (omega arith) e

cleared_or : (ps : List Place) (flags : List Bool) (k : ℕ) → get_or flags k false ≡ true → get_or (cleared_places ps flags) k false ≡ false → Contains ps (place k)
cleared_or [] flags k was gone = absurd (false≢true (sym gone ∙ was))
cleared_or (p ∷ ps) flags k was gone = elim (cases_eq k p.0) [
  | inl same ↦ (0, omega arith, ap place (sym same))
  | inr other ↦
      let has = cleared_or ps (set flags p.0 false) k (get_or-set_other flags p.0 k false false other ∙ was) gone in
      let inside = has.1 in
      (suc has.0, omega (arith, inside), has.2)
]

-- what an opening finds used, but for the places at which something stands, has left
pub opened_left : (Stands : Place → Type 0) (known used : List Place) (count : ℕ) → ((p : Place) → Contains known p ↔ Stands p)
    → HaveLeft Stands (noted used (unused count)) (cleared_places known (noted used (unused count)))
opened_left Stands known used count are = record {
  size = length-cleared known (noted used (unused count));
  stands = λ p is. let has = (are p).1 is in gone_at known (noted used (unused count)) p has.0 has.1 has.2;
  rest = λ k there none. (are (place k)).0 (cleared_or known (noted used (unused count)) k there none);
}

-- ---- places that are told

length-noted_known : (ps : List (Option Place)) (flags : List Bool) → length (noted_known ps flags) ≡ length flags
length-noted_known [] flags = refl
length-noted_known (None ∷ ps) flags = length-noted_known ps flags
length-noted_known (Some p ∷ ps) flags = length-noted_known ps (set flags p.0 true) ∙ length-set flags p.0 true

known_stay : (ps : List (Option Place)) (flags : List Bool) (k : ℕ) → get_or flags k false ≡ true → get_or (noted_known ps flags) k false ≡ true
known_stay [] flags k e = e
known_stay (None ∷ ps) flags k e = known_stay ps flags k e
known_stay (Some p ∷ ps) flags k e = known_stay ps (set flags p.0 true) k (flag_stays flags p.0 k e)

behind : (o : Option Place) (ps : List (Option Place)) (p : Place) → Contains ps (Some p) → Contains (o ∷ ps) (Some p)
behind o ps p has = let inside = has.1 in (suc has.0, omega (arith, inside), has.2)

-- one that is not told is as it was
not_told : (ps : List (Option Place)) (flags : List Bool) (k : ℕ) → (Contains ps (Some (place k)) → ⊥) → get_or (noted_known ps flags) k false ≡ get_or flags k false
not_told [] flags k off = refl
not_told (None ∷ ps) flags k off = not_told ps flags k (λ has. off (behind None ps (place k) has))
not_told (Some p ∷ ps) flags k off =
    not_told ps (set flags p.0 true) k (λ has. off (behind (Some p) ps (place k) has))
    ∙ get_or-set_other flags p.0 k true false (λ same. off (0, omega arith, ap (λ (n : ℕ). Some (place n)) (sym same)))

told_at : (ps : List (Option Place)) (flags : List Bool) (p : Place) (k : ℕ) → k < length ps → get_or ps k (Some p) ≡ Some p → p.0 < length flags → get_or (noted_known ps flags) p.0 false ≡ true
told_at [] flags p k l e within = absurd (omega arith)
told_at (None ∷ ps) flags p zero l e within = absurd cc
told_at (Some q ∷ ps) flags p zero l e within = known_stay ps (set flags q.0 true) p.0 (ap (λ (x : Place). get_or (set flags x.0 true) p.0 false) (same q p e) ∙ get_or-set_same flags p.0 true false within)
  where
    same : (q p : Place) → (let a : Option Place = Some q in a) ≡ Some p → q ≡ p
    same q p e = cc
told_at (None ∷ ps) flags p (suc k) l e within = told_at ps flags p k (omega arith) e within
told_at (Some q ∷ ps) flags p (suc k) l e within = told_at ps (set flags q.0 true) p k (omega arith) e (omega (arith, length-set flags q.0 true))

-- what stood stands, but for what is told, which has left with it
pub more_left : (Old New : Place → Type 0) (above : List (Option Place)) (image left : List Bool) → ((p : Place) → New p ↔ (Old p × (Contains above (Some p) → ⊥))) → HaveLeft Old image left
    → HaveLeft New image (noted_known above left)
more_left Old New above image left are h = record {
  size = length-noted_known above left ∙ h.size;
  stands = λ p is. let was = (are p).0 is in not_told above left p.0 was.1 ∙ h.stands p was.0;
  rest = λ k there none. (are (place k)).1 (
    h.rest k there (still k none),
    λ has. false≢true (sym none ∙ told_at above left (place k) has.0 has.1 has.2 (omega (arith, inside_flags image k there, h.size))),
  );
}
  where
    still : (k : ℕ) → get_or (noted_known above left) k false ≡ false → get_or left k false ≡ false
    still k none = elim (cases_Bool (get_or left k false)) [
      | inl was ↦ absurd (false≢true (sym none ∙ known_stay above left k was))
      | inr none_there ↦ none_there
    ]
