-- What neighbouring sectors hold.
use Rattle.std.proofs.Common.{◌≡◌, ◌∙◌, ◌+◌, ℕ, suc, List, [], ◌∷◌, ◌++◌, Some, map, length, take, drop, get_or, refl, sym, ap}
use Rattle.std.specs.List.{slice_get}
use Rattle.std.proofs.Math.Seq.{drop-cons, take-add}
use Rattle.std.proofs.lemmas.List.{drop-drop}
use Rattle.std.proofs.lemmas.Option.{slice_get_within, slice_get-get_or}
use Rattle.wb_disk.specs.Device.{Content, History, newest}
use Rattle.wb_disk.specs.Extents.{GivesEach}
use Rattle.wb_meta.proofs.Sectors.{given_there}
use Rattle.wb_checks.specs.Samples.{held_from}

-- from an element on
pub drop_at : (xs : List Content) (at : ℕ) (x : Content) → slice_get xs at ≡ Some x → drop at xs ≡ x ∷ drop (suc at) xs
drop_at xs at x there =
    let inside = slice_get_within xs at x there in
    let same : get_or xs at x ≡ x = let e = slice_get-get_or xs at x inside in cc in
    drop-cons xs at x inside ∙ ap (λ (y : Content). y ∷ drop (suc at) xs) same

-- what reads gave is what the sectors hold
pub gives_held : (device : List History) (at : ℕ) (contents : List Content) → GivesEach device at contents → contents ≡ held_from device at (length contents)
gives_held device at [] gives = refl
gives_held device at (c ∷ cs) gives =
    let here = drop_at (map newest device) at c (given_there device at c gives.0) in
    let rest = gives_held device (suc at) cs gives.1 in
    ap (λ (r : List Content). c ∷ r) rest ∙ sym (ap (λ (d : List Content). take (suc (length cs)) d) here)

-- so many, and so many more
pub held_more : (device : List History) (first a b : ℕ) → held_from device first (a + b) ≡ held_from device first a ++ held_from device (first + a) b
held_more device first a b =
    take-add a b (drop first (map newest device)) ∙ ap (λ (d : List Content). take a (drop first (map newest device)) ++ take b d) (drop-drop a first (map newest device))
