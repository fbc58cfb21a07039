-- Places of which none stands twice, when one more is reached.
use Rattle.std.proofs.Common.{◌≡◌, ◌≤◌, ◌<◌, ◌+◌, ◌-◌, ◌==◌, ◌||◌, ℕ, zero, suc, get_or, Bool, true, false, cond, nat_eq, List, [], ◌∷◌, ◌++◌, length, map, refl, sym, ◌∙◌, ap, subst, arith}
use Rattle.std.specs.Prelude.{Contains, IfSome, Option}
use Rattle.std.specs.List.{AllByRecursion, IsDistinct, list_any}
use Rattle.std.proofs.lemmas.Bool.Decides.{nat_tests}
use Rattle.std.proofs.lemmas.List.{map-append, length-map, length-append}
use Rattle.std.proofs.lemmas.Map.Steps.{length-le_from_distinct_below}
use Rattle.wb_types.specs.declared.number.Place.{Place}
use Rattle.wb_format.specs.declared.root.Root.{Root}
use Rattle.wb_format.specs.declared.node.Node.{Node}
use Rattle.wb_format.specs.Layout.{IsOfVersion}
use Rattle.wb_tree.specs.declared.placed.PlacedNode.{PlacedNode}
use Rattle.wb_tree.specs.Reading.{Nodes, is_reached, tree_read}
use Rattle.wb_tree.specs.Loading.{IsFresh}
use Rattle.wb_dirty.specs.ImageLoading.{ImageLoading, mapping_outcome}
use Rattle.wb_meta.proofs.Telling.{told_more, told_none}
use Rattle.wb_meta.specs.States.{places_of}
use Rattle.wb_meta.specs.Reads.{AreApartPlaces, AreStepsOn, IsImageOn, sectors_read}
use Rattle.wb_meta.specs.declared.read_steps.ReadSteps.{ReadSteps}
use Rattle.wb_meta.specs.declared.read_steps.ReadSteps.TheVariants.{Begun, FirstSlotRead, RootFound, Done as AllRead}

-- what holds of all holds of one of them
all_at : {X : Type 0} (P : X → Type 0) (xs : List X) (k : ℕ) (x : X) → AllByRecursion P xs → k < length xs → get_or xs k x ≡ x → P x
all_at P [] k x all inside e = absurd (omega (arith, inside))
all_at P (y ∷ xs) zero x all inside e = subst P e all.0
all_at P (y ∷ xs) (suc k) x all inside e = all_at P xs k x all.1 (omega (arith, inside)) e

pub all_contained : {X : Type 0} (P : X → Type 0) (xs : List X) (x : X) → AllByRecursion P xs → Contains xs x → P x
all_contained P xs x all has = all_at P xs has.0 x all has.1 has.2

all_pushed : {X : Type 0} (P : X → Type 0) (xs : List X) (x : X) → AllByRecursion P xs → P x → AllByRecursion P (xs ++ x ∷ [])
all_pushed P [] x all p = (p, tt)
all_pushed P (y ∷ xs) x all p = (all.0, all_pushed P xs x all.1 p)

-- a list of which no element is equal to one after it, and an element that is equal to none
distinct_pushed : {X : Type 0} (same : X → X → Bool) (xs : List X) (x : X) → IsDistinct same xs → AllByRecursion (λ y. same y x ≡ false) xs → IsDistinct same (xs ++ x ∷ [])
unfolding IsDistinct
distinct_pushed same [] x distinct new = (tt, tt)
distinct_pushed same (y ∷ xs) x distinct new = (all_pushed (λ z. same y z ≡ false) xs x distinct.0 new.0, distinct_pushed same xs x distinct.1 new.1)

unread_parts : (here : Bool) (rest : Bool) → cond here true rest ≡ false → (here ≡ false) × (rest ≡ false)
unread_parts true rest e = absurd cc
unread_parts false rest e = (refl, e)

-- a place that was not reached is equal to none that was
unread_apart : (place : Place) (nodes : List PlacedNode) → is_reached place.0 nodes ≡ false → AllByRecursion (λ (other : Place). (other.0 == place.0) ≡ false) (places_of nodes)
unread_apart place [] e = tt
unread_apart place (node ∷ nodes) e =
    let w = unread_parts (nat_eq node.place.0 place.0) (is_reached place.0 nodes) e in
    (w.0, unread_apart place nodes w.1)

-- the first of these places are apart too
all_front : {X : Type 0} (P : X → Type 0) (xs ys : List X) → AllByRecursion P (xs ++ ys) → AllByRecursion P xs
all_front P [] ys all = tt
all_front P (x ∷ xs) ys all = (all.0, all_front P xs ys all.1)

distinct_front : {X : Type 0} (same : X → X → Bool) (xs ys : List X) → IsDistinct same (xs ++ ys) → IsDistinct same xs
unfolding IsDistinct
distinct_front same [] ys distinct = tt
distinct_front same (x ∷ xs) ys distinct = (all_front (λ y. same x y ≡ false) xs ys distinct.0, distinct_front same xs ys distinct.1)

pub apart_front : (sectors : ℕ) (nodes front back : List PlacedNode) → nodes ≡ front ++ back → AreApartPlaces sectors (places_of nodes) → AreApartPlaces sectors (places_of front)
apart_front sectors nodes front back is apart =
    let P : List Place → Type 0 = λ places. AreApartPlaces sectors places in
    let both = subst P (ap (λ (ns : List PlacedNode). places_of ns) is ∙ map-append (λ (n : PlacedNode). n.place) front back) apart in
    record {
      from = all_front _ (places_of front) (places_of back) both.from;
      to = all_front _ (places_of front) (places_of back) both.to;
      apart = distinct_front _ (places_of front) (places_of back) both.apart;
    }

pub places_pushed : (nodes : List PlacedNode) (node : PlacedNode) → places_of (nodes ++ node ∷ []) ≡ places_of nodes ++ node.place ∷ []
places_pushed nodes node = map-append (λ (n : PlacedNode). n.place) nodes (node ∷ [])

-- one place more that was not reached
pub apart_pushed : (sectors : ℕ) (nodes : List PlacedNode) (node : PlacedNode) → AreApartPlaces sectors (places_of nodes) → 2 ≤ node.place.0 → node.place.0 < sectors → is_reached node.place.0 nodes ≡ false
    → AreApartPlaces sectors (places_of (nodes ++ node ∷ []))
apart_pushed sectors nodes node was from to unread =
    let P : List Place → Type 0 = λ places. AreApartPlaces sectors places in
    subst P (sym (places_pushed nodes node)) (record {
      from = all_pushed _ (places_of nodes) node.place was.from from;
      to = all_pushed _ (places_of nodes) node.place was.to to;
      apart = distinct_pushed _ (places_of nodes) node.place was.apart (unread_apart node.place nodes unread);
    })

abbrev numbers : List Place → List ℕ
numbers places = map (λ (p : Place). p.0) places

all_numbers : (place : ℕ) (places : List Place) → AllByRecursion (λ (other : Place). nat_eq place other.0 ≡ false) places → AllByRecursion (λ n. nat_eq place n ≡ false) (numbers places)
all_numbers place [] all = tt
all_numbers place (p ∷ places) all = (all.0, all_numbers place places all.1)

distinct_numbers : (places : List Place) → IsDistinct (λ (a b : Place). a.0 == b.0) places → IsDistinct nat_eq (numbers places)
unfolding IsDistinct
distinct_numbers [] distinct = tt
distinct_numbers (p ∷ places) distinct = (all_numbers p.0 places distinct.0, distinct_numbers places distinct.1)

is_here : (q n : ℕ) (rest : Bool) (sectors : ℕ) → n < sectors → (rest ≡ true → q < sectors) → (nat_eq q n || rest) ≡ true → q < sectors
is_here q n rest sectors here there e = grind (arith, nat_tests)

numbers_below : (sectors : ℕ) (places : List Place) → AllByRecursion (λ (p : Place). p.0 < sectors) places → (q : ℕ) → list_any (nat_eq q) (numbers places) ≡ true → q < sectors
numbers_below sectors [] all q e = absurd cc
numbers_below sectors (p ∷ places) all q e = is_here q p.0 (list_any (nat_eq q) (numbers places)) sectors all.0 (numbers_below sectors places all.1 q) e

-- a device has no more places than sectors
pub length-apart : (sectors : ℕ) (places : List Place) → AreApartPlaces sectors places → length places ≤ sectors
length-apart sectors places apart =
    let count = length-le_from_distinct_below (numbers places) sectors (distinct_numbers places apart.apart) (numbers_below sectors places apart.to) in
    let same : length (numbers places) ≡ length places = length-map places (λ (p : Place). p.0) in
    omega (arith, count, same)

behind : (k : ℕ) (places : List Place) → k < 2 → AllByRecursion (λ (p : Place). 2 ≤ p.0) places → AllByRecursion (λ n. nat_eq k n ≡ false) (numbers places)
behind k [] small all = tt
behind k (p ∷ places) small all = (let far = all.0 in grind (arith, nat_tests), behind k places small all.1)

both_slots : (places : List Place) → IsDistinct nat_eq (numbers places) → AllByRecursion (λ (p : Place). 2 ≤ p.0) places → IsDistinct nat_eq (0 ∷ 1 ∷ numbers places)
unfolding IsDistinct
both_slots places distinct from = ((refl, behind 0 places (omega arith) from), (behind 1 places (omega arith) from, distinct))

-- the two slots are none of them
pub slots-apart : (sectors : ℕ) (places : List Place) → 2 ≤ sectors → AreApartPlaces sectors places → 2 + length places ≤ sectors
slots-apart sectors places two apart =
    let rest = numbers_below sectors places apart.to in
    let second : (q : ℕ) → list_any (nat_eq q) (1 ∷ numbers places) ≡ true → q < sectors = λ q e. is_here q 1 (list_any (nat_eq q) (numbers places)) sectors (omega (arith, two)) (rest q) e in
    let count = length-le_from_distinct_below (0 ∷ 1 ∷ numbers places) sectors (both_slots places (distinct_numbers places apart.apart) apart.from) (λ q e. is_here q 0 (list_any (nat_eq q) (1 ∷ numbers places)) sectors (omega (arith, two)) (second q) e) in
    let same : length (numbers places) ≡ length places = length-map places (λ (p : Place). p.0) in
    omega (arith, count, same)

-- so no reading has read more sectors than there are
pub read-sectors : {A : Type 0} (sectors : ℕ) (steps : ReadSteps A) → 2 ≤ sectors → AreStepsOn sectors steps → sectors_read steps ≤ sectors
read-sectors sectors (Begun alloc global) two on = omega arith
read-sectors sectors (FirstSlotRead alloc global first) two on = omega (arith, two)
read-sectors sectors (RootFound global root loader nodes) two on =
    let count = slots-apart sectors (places_of loader.found.reached) two on.0.used in
    let same : length (places_of loader.found.reached) ≡ length loader.found.reached = length-map loader.found.reached (λ (n : PlacedNode). n.place) in
    omega (arith, count, same)
read-sectors sectors (AllRead state) two on = on.1

pub length_pushed : (nodes : List PlacedNode) (node : PlacedNode) → length (nodes ++ node ∷ []) ≡ length nodes + 1
length_pushed nodes node = length-append nodes (node ∷ [])

-- where a node is still to be read, not all sectors were read
pub room_left : (sectors : ℕ) (nodes : List PlacedNode) (node : PlacedNode) → AreApartPlaces sectors (places_of (nodes ++ node ∷ [])) → length nodes < sectors
room_left sectors nodes node apart =
    let count = length-apart sectors (places_of (nodes ++ node ∷ [])) apart in
    let same : length (places_of (nodes ++ node ∷ [])) ≡ length (nodes ++ node ∷ []) = length-map (nodes ++ node ∷ []) (λ (n : PlacedNode). n.place) in
    let more = length_pushed nodes node in
    omega (arith, count, same, more)

-- the places of the tree that is read, with one node more
used_pushed : (sectors : ℕ) (root : Root) (l : ImageLoading) (node : PlacedNode) → IsImageOn sectors root l → IsFresh l.root l.found.reached node.place → AreApartPlaces sectors (places_of (l.found.reached ++ node ∷ []))
used_pushed sectors root l node on fresh =
    let size : l.root.geometry.meta_sectors ≡ sectors = ap (λ (r : Root). r.geometry.meta_sectors) on.root_is ∙ on.size in
    let Q : ℕ → Type 0 = λ n. node.place.0 < n in
    apart_pushed sectors l.found.reached node on.used fresh.behind (subst Q size fresh.inside) fresh.unread

-- the tree that is read, with one node more
pub tree_pushed : (sectors : ℕ) (root : Root) (l more : ImageLoading) (node : PlacedNode) (is : Option Node) → IsImageOn sectors root l → IsFresh l.root l.found.reached node.place → IfSome is (IsOfVersion root.version)
    → more.root ≡ l.root → more.found.reached ≡ l.found.reached ++ node ∷ [] → ((nodes : Nodes) → nodes node.place.0 ≡ is → mapping_outcome more nodes ≡ mapping_outcome l nodes) → IsImageOn sectors root more
tree_pushed sectors root l more node is on fresh has same reached goes =
    let P : List PlacedNode → Type 0 = λ nodes. AreApartPlaces sectors (places_of nodes) in
    record {
      size = on.size;
      root_is = same ∙ on.root_is;
      used = subst P (sym reached) (used_pushed sectors root l node on fresh);
      told = told_more root l more node is on.told fresh.unread has reached goes;
    }

-- and with less left
pub fewer_left : (sectors : ℕ) (root : Root) (l more : ImageLoading) (node : PlacedNode) → IsImageOn sectors root l → IsFresh l.root l.found.reached node.place
    → more.found.reached ≡ l.found.reached ++ node ∷ [] → sectors - length more.found.reached < sectors - length l.found.reached
fewer_left sectors root l more node on fresh reached =
    let room = room_left sectors l.found.reached node (used_pushed sectors root l node on fresh) in
    let count : length more.found.reached ≡ length l.found.reached + 1 = ap (λ (nodes : List PlacedNode). length nodes) reached ∙ length_pushed l.found.reached node in
    omega (arith, room, count)

-- the tree of which nothing was read
pub tree_begun : (sectors : ℕ) (root : Root) (l : ImageLoading) → root.geometry.meta_sectors ≡ sectors → l.root ≡ root → l.found.reached ≡ [] → ((nodes : Nodes) → mapping_outcome l nodes ≡ tree_read root nodes)
    → IsImageOn sectors root l
unfolding IsDistinct
tree_begun sectors root l size same nothing begun =
    let P : List PlacedNode → Type 0 = λ nodes. AreApartPlaces sectors (places_of nodes) in
    record { size = size; root_is = same; used = subst P (sym nothing) (record { from = tt; to = tt; apart = tt }); told = told_none root l begun }
