-- Part by part a request comes to its end.
use Rattle.std.proofs.Common.{◌≡◌, ◌≤◌, ◌<◌, ◌+◌, ◌-◌, ◌%◌, ◌++◌, ◌∙◌, ℕ, suc, min, List, Option, Some, None, length, take, drop, refl, sym, ap, subst, arith}
use Rattle.std.proofs.lemmas.List.{take-take, drop-take, drop-drop, length-drop, length-take-le, length-append}
use borrow.Rule.Slice.PartMut.{put_mid}
use Rattle.wb_types.specs.declared.extent.Extent.{Extent}
use Rattle.wb_types.specs.declared.refusal.Refusal.{Refusal}
use Rattle.wb_disk.specs.Device.{Content}
use Rattle.wb_target.specs.Blocking.{CameTo, InParts}

-- So many parts of a request were done, up to this place of its slice: what comes of the rest, comes of the whole.
abbrev pub ComeTo : {H : Type 0} → (Option Refusal → Extent → H × List Content → H × List Content → Type 0) → ℕ → ℕ → H → List Content → ℕ → ℕ → H → List Content → Type 0
ComeTo {H} came block_sectors first old slice done from now out =
    (end : Option Refusal) (more : ℕ) (new : H) (slice' : List Content) → take from slice' ≡ take from out → InParts came block_sectors end more (first + from) now (drop from out) new (drop from slice')
    → InParts came block_sectors end (done + more) first old slice new slice'

module _ {H : Type 0} (came : Option Refusal → Extent → H × List Content → H × List Content → Type 0) (block_sectors first : ℕ) (old : H) (slice : List Content) where
  module _ (done from : ℕ) (now : H) (out : List Content) (come : ComeTo came block_sectors first old slice done from now out)
      (mid : H) (out' : List Content) (k : ℕ) (fits : k ≡ min (block_sectors - (first + from) % block_sectors) (length (drop from out))) (some : 0 < length (drop from out))
      (before : take from out' ≡ take from out) (behind : drop (from + k) out' ≡ drop (from + k) out) where
    abbrev part : ℕ → Extent
    part n = record { first = first + from; count = n }

    -- one part more
    pub one_more : CameTo came None (part k) (now, take k (drop from out)) (mid, take k (drop from out')) → ComeTo came block_sectors first old slice (done + 1) (from + k) mid out'
    one_more came_to end more new slice' same h =
        let many : done + suc more ≡ done + 1 + more = omega arith in
        let here : take k (drop from out') ≡ take k (drop from slice') = sym (drop-take from k out') ∙ (ap (λ (xs : List Content). drop from xs) (sym same) ∙ drop-take from k slice') in
        let fronts : take from slice' ≡ take from out = sym (take-take from (from + k) slice' (omega arith)) ∙ (ap (λ (xs : List Content). take from xs) same ∙ (take-take from (from + k) out' (omega arith) ∙ before)) in
        let later : InParts came block_sectors end more (first + from + k) mid (drop k (drop from out)) new (drop k (drop from slice')) =
        subst (λ (xs : List Content). InParts came block_sectors end more (first + from + k) mid xs new (drop k (drop from slice'))) (sym (drop-drop k from out))
        (subst (λ (xs : List Content). InParts came block_sectors end more (first + from + k) mid (drop (from + k) out) new xs) (sym (drop-drop k from slice'))
        (subst (λ (xs : List Content). InParts came block_sectors end more (first + from + k) mid xs new (drop (from + k) slice')) behind
        (let at : first + (from + k) ≡ first + from + k = omega arith in subst (λ (n : ℕ). InParts came block_sectors end more n mid (drop (from + k) out') new (drop (from + k) slice')) at h))) in
        let one : CameTo came None (part k) (now, take k (drop from out)) (mid, take k (drop from slice')) = subst (λ (xs : List Content). CameTo came None (part k) (now, take k (drop from out)) (mid, xs)) here came_to in
        let both = subst (λ (n : ℕ). CameTo came None (part n) (now, take n (drop from out)) (mid, take n (drop from slice')) × InParts came block_sectors end more (first + from + n) mid (drop n (drop from out)) new (drop n (drop from slice'))) fits (one, later) in
        subst (λ (n : ℕ). InParts came block_sectors end n first old slice new slice') many (come end (suc more) new slice' fronts (some, (mid, both.0, both.1)))

    -- or the next part is refused
    pub stopped : (refusal : Refusal) → CameTo came (Some refusal) (part k) (now, take k (drop from out)) (mid, take k (drop from out')) → InParts came block_sectors (Some refusal) done first old slice mid out'
    stopped refusal came_to =
        let many : done + 0 ≡ done = omega arith in
        let rest : drop k (drop from out') ≡ drop k (drop from out) = drop-drop k from out' ∙ (behind ∙ sym (drop-drop k from out)) in
        let both = subst (λ (n : ℕ). CameTo came (Some refusal) (part n) (now, take n (drop from out)) (mid, take n (drop from out')) × (drop n (drop from out') ≡ drop n (drop from out))) fits (came_to, rest) in
        subst (λ (n : ℕ). InParts came block_sectors (Some refusal) n first old slice mid out') many (come (Some refusal) 0 mid out' before (some, both.0, both.1))

  -- nothing is left
  pub all_done : (done from : ℕ) (now : H) (out : List Content) → length out ≤ from → ComeTo came block_sectors first old slice done from now out → InParts came block_sectors None done first old slice now out
  all_done done from now out end come =
      let many : done + 0 ≡ done = omega arith in
      let none : length (drop from out) ≡ 0 = omega (arith, length-drop from out) in
      subst (λ (n : ℕ). InParts came block_sectors None n first old slice now out) many (come None 0 now out refl (none, refl, refl))

-- ---- a part's place in the slice

pub taken : (from end : ℕ) (out : List Content) → from < end → end ≤ length out → length (take (end - from) (drop from out)) ≡ end - from
taken from end out later within = length-take-le (end - from) (drop from out) (omega (arith, length-drop from out, later, within))

-- a slice of which a part was overwritten by as many
pub placed_many : (from end : ℕ) (out ys : List Content) → from < end → end ≤ length out → length ys ≡ end - from → length (put_mid from (end - from) out ys) ≡ length out
placed_many from end out ys later within many =
    let rest : List Content = drop (end - from) (drop from out) in
    let whole : length (put_mid from (end - from) out ys) ≡ length (take from out) + length (ys ++ rest) = length-append (take from out) (ys ++ rest) in
    let behind : length (ys ++ rest) ≡ length ys + length rest = length-append ys rest in
    let before : length (take from out) ≡ from = length-take-le from out (omega (arith, later, within)) in
    let left : length rest ≡ length (drop from out) - (end - from) = length-drop (end - from) (drop from out) in
    let all : length (drop from out) ≡ length out - from = length-drop from out in
    omega (arith, whole, behind, before, left, all, many, later, within)

as_long : (from many end : ℕ) → end ≡ from + many → end - from ≡ many
as_long from many end is = omega (arith, is)

module _ {H : Type 0} (came : Option Refusal → Extent → H × List Content → H × List Content → Type 0) (b first : ℕ) (old : H) (slice : List Content) (done from : ℕ) (now : H) (out : List Content)
    (come : ComeTo came b first old slice done from now out) (mid : H) (out' ys : List Content) (size end : ℕ) (same_size : size ≡ b) (is : end ≡ from + min (size - (first + from) % size) (length out - from)) (later : from < end) (within : end ≤ length out)
    (before : take from out' ≡ take from out) (behind : drop end out' ≡ drop end out) (there : take (end - from) (drop from out') ≡ ys) where
  abbrev had : List Content
  had = take (end - from) (drop from out)

  abbrev here : ℕ → Extent
  here n = record { first = first + from; count = n }

  fits : end - from ≡ min (b - (first + from) % b) (length (drop from out))
  fits = as_long from _ end is ∙ (ap (λ (s : ℕ). min (s - (first + from) % s) (length out - from)) same_size ∙ ap (λ (n : ℕ). min (b - (first + from) % b) n) (sym (length-drop from out)))

  some : 0 < length (drop from out)
  some = let all : length (drop from out) ≡ length out - from = length-drop from out in omega (arith, all, later, within)

  up_to : end ≡ from + (end - from)
  up_to = omega (arith, later)

  behind_it : drop (from + (end - from)) out' ≡ drop (from + (end - from)) out
  behind_it = subst (λ (n : ℕ). drop n out' ≡ drop n out) up_to behind

  came_here : (r : Option Refusal) → CameTo came r (here (length had)) (now, had) (mid, ys) → CameTo came r (here (end - from)) (now, had) (mid, take (end - from) (drop from out'))
  came_here r h =
      subst (λ (n : ℕ). CameTo came r (here n) (now, had) (mid, take (end - from) (drop from out'))) (taken from end out later within)
      (subst (λ (xs : List Content). CameTo came r (here (length had)) (now, had) (mid, xs)) (sym there) h)

  pub part_done : CameTo came None (here (length had)) (now, had) (mid, ys) → ComeTo came b first old slice (done + 1) end mid out'
  part_done h =
      subst (λ (n : ℕ). ComeTo came b first old slice (done + 1) n mid out') (sym up_to)
      (one_more came b first old slice done from now out come mid out' (end - from) fits some before behind_it (came_here None h))

  pub part_refused : (refusal : Refusal) → CameTo came (Some refusal) (here (length had)) (now, had) (mid, ys) → InParts came b (Some refusal) done first old slice mid out'
  part_refused refusal h = stopped came b first old slice done from now out come mid out' (end - from) fits some before behind_it refusal (came_here (Some refusal) h)
