-- What a target shows of one sector.
use Rattle.std.proofs.Common.{◌≡◌, ◌∙◌, ◌≤◌, ◌<◌, ◌+◌, ◌*◌, ◌/◌, ◌%◌, ℕ, zero, suc, List, [], Option, Some, None, refl, sym, ap, arith, length, map, slice_get, unwrap_or}
use Rattle.std.proofs.lemmas.List.{length-map}
use Rattle.std.proofs.lemmas.Option.{slice_get-map, slice_get_past}
use Rattle.std.proofs.Math.Nat.{add-mul, mul-le-mul_right, mul_comm}
use Rattle.std.specs.Prelude.{option_map}
use Rattle.wb_types.specs.Extents.{rising}
use Rattle.wb_types.specs.declared.entry.Entry.{Entry}
use Rattle.wb_disk.specs.Device.{Content as Bytes}
use Rattle.wb_promise.specs.States.{Shape, block_size, sector_count}
use Rattle.wb_promise.specs.Headline.{content_of, place_of, shown_by}
use Rattle.wb_contents.proofs.Lists.{there_is as there}
use Rattle.wb_types.proofs.Cutting.{length_rising}

rising_at : (first n i : ℕ) → i < n → slice_get (rising first n) i ≡ Some (first + i)
rising_at first zero i l = absurd (omega (arith, l))
rising_at first (suc n) zero l = let same : first ≡ first + 0 = omega arith in ap (λ (v : ℕ). Some v) same
rising_at first (suc n) (suc i) l = rising_at (first + 1) n i (omega (arith, l)) ∙ (let same : first + 1 + i ≡ first + suc i = omega arith in ap (λ (v : ℕ). Some v) same)

module _ (shape : Shape) (entries : List (Option Entry)) (cache origin : List Bytes) (at : ℕ) where
  abbrev f : ℕ → Bytes
  f = λ k. unwrap_or (content_of shape (place_of entries (k / block_size shape)) cache origin k) []

  pub past_all : sector_count shape ≤ at → None ≡ slice_get (shown_by shape entries cache origin) at
  past_all l = sym (slice_get_past (map f (rising 0 (sector_count shape))) at (let many = length-map (rising 0 (sector_count shape)) f ∙ length_rising 0 (sector_count shape) in omega (arith, many, l)))

  -- a content that is there
  shows : at < sector_count shape → (content : Option Bytes) → content ≡ content_of shape (place_of entries (at / block_size shape)) cache origin at → (x : Bytes) → content_of shape (place_of entries (at / block_size shape)) cache origin at ≡ Some x → content ≡ slice_get (shown_by shape entries cache origin) at
  shows l content e x is =
      e ∙ is ∙ sym (slice_get-map f (rising 0 (sector_count shape)) at ∙ ap (λ (o : Option ℕ). option_map f o) (rising_at 0 (sector_count shape) at l) ∙ (let same : 0 + at ≡ at = omega arith in ap (λ (k : ℕ). Some (f k)) same) ∙ ap (λ (o : Option Bytes). Some (unwrap_or o [])) is)

  pub shown_there : at < sector_count shape → (content : Option Bytes) → content ≡ content_of shape (place_of entries (at / block_size shape)) cache origin at →
      length origin ≡ sector_count shape → ((c : ℕ) → place_of entries (at / block_size shape) ≡ Some c → c * block_size shape + at % block_size shape < length cache) → content ≡ slice_get (shown_by shape entries cache origin) at
  shown_there l content e many inside = by_place (place_of entries (at / block_size shape)) refl
    where
      by_place : (p : Option ℕ) → place_of entries (at / block_size shape) ≡ p → content ≡ slice_get (shown_by shape entries cache origin) at
      by_place None is = let x = there origin at (omega (arith, l, many)) in shows l content e x.0 (ap (λ (p : Option ℕ). content_of shape p cache origin at) is ∙ x.1)
      by_place (Some c) is = let x = there cache (c * block_size shape + at % block_size shape) (inside c is) in shows l content e x.0 (ap (λ (p : Option ℕ). content_of shape p cache origin at) is ∙ x.1)

-- a sector of a block of the cache is there
pub inside_cache : (c many block r : ℕ) → c < many → r < block → c * block + r < block * many
inside_cache c many block r l s =
    let more : (1 + c) * block ≡ 1 * block + c * block = add-mul 1 c block in
    let under : (1 + c) * block ≤ many * block = mul-le-mul_right block (omega (arith, l)) in
    let turn : many * block ≡ block * many = mul_comm many block in
    omega (arith, more, under, turn, s)
