-- What a change of one stored sector does to the disk that callers see.
use Rattle.std.proofs.Common.{◌≡◌, ◌<◌, ◌+◌, ℕ, zero, suc, List, [], ◌∷◌, Some, length, get_or, take, drop, map, refl, sym, ◌∙◌, ap, arith, slice_set, slice_index, subst}
use Rattle.std.proofs.lemmas.Grind.{common_steps}
use Rattle.std.proofs.lemmas.List.{map-set, length-map, drop-set-lt, drop-drop}
use Rattle.std.proofs.lemmas.Option.{slice_get-map, slice_get-get_or}
use Rattle.std.specs.Option.{option_map}
use Rattle.std.specs.List.{slice_get}
use Rattle.wb_disk.specs.Device.{Content, History, newest, added, written, grown, ReadGives}
use Rattle.wb_disk.specs.Memory.{Memory, HasRoom, DiffersOnlyAt, later_count}
use Rattle.wb_disk.specs.Stored.{history, histories, capacity_of, capacities}
use Rattle.wb_disk.specs.declared.pending.Pending.{Pending}
use Rattle.wb_types.proofs.Lists.{slice_get-set}

-- a list that shows the same after one of its elements changed
pub map-set_same : {X Y : Type 0} (f : X → Y) (xs : List X) (i : ℕ) (x y : X) → slice_get xs i ≡ Some x → f y ≡ f x → map f (slice_set xs i y) ≡ map f xs
map-set_same f [] i x y e h = refl
map-set_same f (z ∷ xs) zero x y e h = let g : z ≡ x = cc in ap (λ first. first ∷ map f xs) (h ∙ sym (ap f g))
map-set_same f (z ∷ xs) (suc i) x y e h = ap (λ rest. f z ∷ rest) (map-set_same f xs i x y e h)

-- one sector written
pub histories-written : (ps : List Pending) (i : ℕ) (p q : Pending) (c : Content) → slice_get ps i ≡ Some p → history q ≡ added (history p) c → histories (slice_set ps i q) ≡ written (histories ps) i c
histories-written ps i p q c e h =
    map-set history ps i q
    ∙ ap (λ new. slice_set (histories ps) i new) h
    ∙ sym (ap (λ found. grown found c (histories ps) i) (slice_get-map history ps i ∙ ap (option_map history) e))

-- what a read gives
pub Gives-newest : (ps : List Pending) (device : List History) (i : ℕ) (p : Pending) → histories ps ≡ device → slice_get ps i ≡ Some p → ReadGives device i (newest (history p))
Gives-newest ps device i p v e = (history p, ap (λ d. slice_get d i) (sym v) ∙ slice_get-map history ps i ∙ ap (option_map history) e, refl)

-- a number of one stored sector, as the list of all shows it
pub slice_index-map : {X : Type 0} (f : X → ℕ) (xs : List X) (i : ℕ) (x : X) → slice_get xs i ≡ Some x → slice_index (map f xs) i ≡ f x
slice_index-map f [] i x e = absurd (cc)
slice_index-map f (y ∷ xs) zero x e = cc
slice_index-map f (y ∷ xs) (suc i) x e = slice_index-map f xs i x e

-- how many later contents a stored sector has, likewise
pub slice_index-later_count : (ps : List Pending) (i : ℕ) (p : Pending) → slice_get ps i ≡ Some p → slice_index (map later_count (histories ps)) i ≡ later_count (history p)
slice_index-later_count [] i p e = absurd (cc)
slice_index-later_count (q ∷ ps) zero p e = let g : q ≡ p = cc in ap (λ s. later_count (history s)) g
slice_index-later_count (q ∷ ps) (suc i) p e = slice_index-later_count ps i p e

-- a change of one element changes one number
pub DiffersOnlyAt-set : {X : Type 0} (f : X → ℕ) (xs : List X) (i : ℕ) (x y : X) → slice_get xs i ≡ Some x → DiffersOnlyAt i (map f xs) (map f (slice_set xs i y))
DiffersOnlyAt-set f [] i x y e = refl
DiffersOnlyAt-set f (z ∷ xs) zero x y e = refl
DiffersOnlyAt-set f (z ∷ xs) (suc i) x y e = ap (λ rest. f z ∷ rest) (DiffersOnlyAt-set f xs i x y e)

-- the disk that callers see, of stored sectors and a count of faults
abbrev pub shown : List Pending → ℕ → Memory
shown ps faults = record { contents = histories ps; faults = faults; capacity = capacities ps }

-- two disks that show the same parts
pub same_shown : (qs : List Pending) (contents : List History) (faults : ℕ) (capacity : List ℕ) → histories qs ≡ contents → capacities qs ≡ capacity → shown qs faults ≡ record { contents = contents; faults = faults; capacity = capacity }
same_shown qs contents faults capacity h k = cc

-- what stands at a place, as an index into the list tells it
pub at_place : (ps : List Pending) (faults i : ℕ) (p : Pending) (disk : Memory) → shown ps faults ≡ disk → i < length disk.contents → p ≡ get_or ps i p → slice_get ps i ≡ Some p
at_place ps faults i p disk v b e =
    let many : length disk.contents ≡ length ps = ap (λ m. length m.contents) (sym v) ∙ length-map ps history in
    grind (arith, common_steps, slice_get-get_or)

-- room, as the stored sector tells it
pub room_of_stored : (ps : List Pending) (faults i : ℕ) (p : Pending) (disk : Memory) → shown ps faults ≡ disk → slice_get ps i ≡ Some p → HasRoom disk i → later_count (history p) < capacity_of p
room_of_stored ps faults i p disk v e h =
    let P : Memory → Type 0 = λ m. HasRoom m i in
    let seen : slice_index (map later_count (histories ps)) i < slice_index (capacities ps) i = subst P (sym v) h in
    let count : slice_index (map later_count (histories ps)) i ≡ later_count (history p) = slice_index-later_count ps i p e in
    let most : slice_index (capacities ps) i ≡ capacity_of p = slice_index-map capacity_of ps i p e in
    omega arith

-- a stored sector that has room gives it to the disk that callers see
pub HasRoom-stored : (ps : List Pending) (faults i : ℕ) (p q : Pending) → slice_get ps i ≡ Some p → later_count (history q) < capacity_of q → HasRoom (shown (slice_set ps i q) faults) i
HasRoom-stored ps faults i p q e h =
    let here : slice_get (slice_set ps i q) i ≡ Some q = slice_get-set ps i p q e in
    let count : slice_index (map later_count (histories (slice_set ps i q))) i ≡ later_count (history q) = slice_index-later_count (slice_set ps i q) i q here in
    let most : slice_index (capacities (slice_set ps i q)) i ≡ capacity_of q = slice_index-map capacity_of (slice_set ps i q) i q here in
    omega arith

-- a change of a stored sector that callers do not see
pub shown-same : (ps : List Pending) (faults i : ℕ) (p q : Pending) (disk : Memory) → shown ps faults ≡ disk → slice_get ps i ≡ Some p → history q ≡ history p → capacity_of q ≡ capacity_of p → shown (slice_set ps i q) faults ≡ disk
shown-same ps faults i p q disk v e h k =
    rw (map-set_same history ps i p q e h, map-set_same capacity_of ps i p q e k) v

-- a change of one stored sector changes the capacity of no other
pub DiffersOnlyAt-stored : (ps : List Pending) (faults i : ℕ) (p q : Pending) (disk : Memory) → shown ps faults ≡ disk → slice_get ps i ≡ Some p → DiffersOnlyAt i disk.capacity (capacities (slice_set ps i q))
DiffersOnlyAt-stored ps faults i p q disk v e =
    let P : Memory → Type 0 = λ m. DiffersOnlyAt i m.capacity (capacities (slice_set ps i q)) in
    subst P v (DiffersOnlyAt-set capacity_of ps i p q e)

-- a loop over a list that has replaced each element before i, and comes one further
pub mapped_more : {X Y : Type 0} (f g : X → Y) (xs ys : List X) (i : ℕ) (x z : X) → slice_get xs i ≡ Some x → drop i xs ≡ drop i ys → map f (take i xs) ≡ map g (take i ys) → f z ≡ g x → map f (take (suc i) (slice_set xs i z)) ≡ map g (take (suc i) ys)
mapped_more f g [] ys i x z e d m h = absurd (cc)
mapped_more f g (a ∷ xs) [] zero x z e d m h = absurd (cc)
mapped_more f g (a ∷ xs) [] (suc i) x z e d m h = absurd (cc)
mapped_more f g (a ∷ xs) (b ∷ ys) zero x z e d m h = cc
mapped_more f g (a ∷ xs) (b ∷ ys) (suc i) x z e d m h =
    let first : f a ≡ g b = cc in
    let rest : map f (take i xs) ≡ map g (take i ys) = cc in
    ap (λ y. y ∷ map f (take (suc i) (slice_set xs i z))) first ∙ ap (λ zs. g b ∷ zs) (mapped_more f g xs ys i x z e d rest h)

-- such a loop has not yet touched what lies beyond
pub drop-set_more : {X : Type 0} (xs ys : List X) (i : ℕ) (z : X) → drop i xs ≡ drop i ys → drop (i + 1) (slice_set xs i z) ≡ drop (i + 1) ys
drop-set_more xs ys i z e =
    let below : i < i + 1 = omega arith in
    drop-set-lt (i + 1) xs i z below ∙ sym (drop-drop 1 i xs) ∙ ap (λ zs. drop 1 zs) e ∙ drop-drop 1 i ys

-- one list function after another
pub map-map : {X Y Z : Type 0} (f : Y → Z) (g : X → Y) (xs : List X) → map (λ x. f (g x)) xs ≡ map f (map g xs)
map-map f g [] = refl
map-map f g (x ∷ xs) = ap (λ rest. f (g x) ∷ rest) (map-map f g xs)

-- a change of all sectors that leaves the count of faults and the capacities
pub shown-changed : (change : List History → List History) (ps qs : List Pending) (faults : ℕ) (disk : Memory) → shown ps faults ≡ disk → histories qs ≡ change (histories ps) → capacities qs ≡ capacities ps → shown qs faults ≡ record { contents = change disk.contents; faults = disk.faults; capacity = disk.capacity }
shown-changed change ps qs faults disk v h k =
    let P : Memory → Type 0 = λ m. shown qs faults ≡ record { contents = change m.contents; faults = m.faults; capacity = m.capacity } in
    subst P v (same_shown qs (change (histories ps)) faults (capacities ps) h k)
