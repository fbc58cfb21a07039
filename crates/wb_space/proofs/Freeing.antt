-- Which places are free, by the set that is kept of them.
use Rattle.std.proofs.Common.{◌≡◌, ◌<◌, ◌&&◌, ℕ, List, Bool, true, false, not, length, map, get_or, refl, sym, ◌∙◌}
use Rattle.std.proofs.lemmas.List.{get_or-map}
use Rattle.wb_space.specs.Places.{is_free_place}

and_same : (b : Bool) → (b && b) ≡ b
and_same true = refl
and_same false = refl

-- where both images are one, what it does not use
pub free_of_one : (uses : List Bool) (k : ℕ) → k < length uses → get_or (map not uses) k false ≡ is_free_place (record { committed = uses; running = uses }) k
free_of_one uses k l = get_or-map not uses k false false l ∙ sym (and_same (not (get_or uses k false)))
