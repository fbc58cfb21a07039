-- The nodes of a tree with the places that they are given.
use Rattle.std.proofs.lemmas.Bool.{cases_Bool, false_from_ne_true}
use Rattle.std.proofs.Common.{◌≡◌, ◌≤◌, ◌<◌, ◌∙◌, ◌&&◌, sym, ap, subst, refl, ℕ, suc, Bool, true, false, cond, nat_eq, ◌==◌, List, [], ◌∷◌, ◌++◌, Option, Some, None, map, take, length, arith, inl, inr}
use Rattle.std.specs.Prelude.{◌⊎◌, IsSome, slice_get}
use Rattle.std.proofs.lemmas.Bool.Decides.{nat_tests}
use Rattle.wb_types.specs.declared.number.Place.{Place}
use Rattle.wb_tree.specs.declared.placed.PlacedNode.{PlacedNode}
use Rattle.wb_tree.specs.Mapping.{NodeName, place_in}
use Rattle.wb_tree.specs.Planning.{placed}
use Rattle.wb_tree.specs.Fields.{AreApart as AreKnownApart}
use Rattle.wb_tree.proofs.Nodes.Names.{has, had_right, AreApart, same_name}
use Rattle.wb_types.proofs.Truth.{yes}
use Rattle.wb_types.proofs.Truth.{either_false}

-- what is not listed has no place
pub placed-none : (nodes : List NodeName) (places : List Place) (level index : ℕ) → has nodes level index ≡ false → place_in (placed nodes places) level index ≡ None
placed-none [] places level index h = refl
placed-none (node ∷ nodes) [] level index h = refl
placed-none (node ∷ nodes) (place ∷ places) level index h = go ((node.level == level) && (node.index == index)) (has nodes level index) h (placed-none nodes places level index)
  where
    go : (b r : Bool) → cond b true r ≡ false → (r ≡ false → place_in (placed nodes places) level index ≡ None) → cond b (Some place) (place_in (placed nodes places) level index) ≡ None
    go true r h f = absurd cc
    go false r h f = f h

-- what is listed has one
pub placed-some : (nodes : List NodeName) (places : List Place) (level index : ℕ) → length nodes ≤ length places → has nodes level index ≡ true → IsSome (place_in (placed nodes places) level index)
placed-some [] places level index long h = absurd cc
placed-some (node ∷ nodes) [] level index long h = absurd (omega arith)
placed-some (node ∷ nodes) (place ∷ places) level index long h = go ((node.level == level) && (node.index == index)) (has nodes level index) h (placed-some nodes places level index (omega arith))
  where
    go : (b r : Bool) → cond b true r ≡ true → (r ≡ true → IsSome (place_in (placed nodes places) level index)) → IsSome (cond b (Some place) (place_in (placed nodes places) level index))
    go true r h f = refl
    go false r h f = f h

-- what has a place is listed
pub placed-had : (nodes : List NodeName) (places : List Place) (level index : ℕ) (place : Place) → place_in (placed nodes places) level index ≡ Some place → has nodes level index ≡ true
placed-had nodes places level index place h = elim (cases_Bool (has nodes level index)) [
  | inl listed ↦ listed
  | inr none ↦ let e = placed-none nodes places level index none in absurd cc
]

-- the places in the order of the nodes
abbrev pub places_of : List PlacedNode → List NodeName → List (Option Place)
places_of known nodes = map (λ node. place_in known node.level node.index) nodes

flip_one : (a b : ℕ) → nat_eq a b ≡ nat_eq b a
flip_one a b = grind (arith, nat_tests)

pub flip : (a b c d : ℕ) → ((b == a) && (d == c)) ≡ false → ((a == b) && (c == d)) ≡ false
flip a b c d h = ap (λ (t : Bool). t && (c == d)) (flip_one a b) ∙ (ap (λ (t : Bool). (b == a) && t) (flip_one c d) ∙ h)

-- a node in front that is none of these changes no place of theirs
places-skip : (front : PlacedNode) (known : List PlacedNode) (nodes : List NodeName) → has nodes front.level front.index ≡ false → places_of (front ∷ known) nodes ≡ places_of known nodes
places-skip front known [] h = refl
places-skip front known (node ∷ nodes) h =
    let a = either_false ((node.level == front.level) && (node.index == front.index)) (has nodes front.level front.index) h in
    let flipped : ((front.level == node.level) && (front.index == node.index)) ≡ false = flip front.level node.level front.index node.index a.0 in
    let here : place_in (front ∷ known) node.level node.index ≡ place_in known node.level node.index = rw flipped refl in
    let rest : places_of (front ∷ known) nodes ≡ places_of known nodes = places-skip front known nodes a.1 in
    ap (λ (o : Option Place). o ∷ places_of (front ∷ known) nodes) here ∙ ap (λ (os : List (Option Place)). place_in known node.level node.index ∷ os) rest

-- the places of the nodes are those that they were given, in order
pub placed-looked : (nodes : List NodeName) (places : List Place) → AreApart nodes → length nodes ≤ length places → places_of (placed nodes places) nodes ≡ map Some (take (length nodes) places)
placed-looked [] places apart long = refl
placed-looked (node ∷ nodes) [] apart long = absurd (omega arith)
placed-looked (node ∷ nodes) (place ∷ places) apart long =
    let front : PlacedNode = record { level = node.level; index = node.index; place = place } in
    let rest : places_of (front ∷ placed nodes places) nodes ≡ map Some (take (length nodes) places) = places-skip front (placed nodes places) nodes apart.0 ∙ placed-looked nodes places apart.1 (omega arith) in
    let here : place_in (front ∷ placed nodes places) node.level node.index ≡ Some place = rw (yes node.level, yes node.index) refl in
    ap (λ (o : Option Place). o ∷ places_of (front ∷ placed nodes places) nodes) here ∙ ap (λ (os : List (Option Place)). Some place ∷ os) rest

-- ---- a place by the position of its node

-- a listed node and its place, by their position
pub record IsPlaced (nodes : List NodeName) (places : List Place) (level index : ℕ) (place : Place) : Type 0 where
  pub at : ℕ
  pub node : slice_get nodes at ≡ Some (record { level = level; index = index })
  pub there : slice_get places at ≡ Some place

-- a place is found at the first node or behind it
pub either_place : (b : Bool) (first : Place) (rest : Option Place) (place : Place) → cond b (Some first) rest ≡ Some place → ((b ≡ true) × (first ≡ place)) ⊎ (rest ≡ Some place)
either_place true first rest place h = let e : first ≡ place = cc in inl (refl, e)
either_place false first rest place h = inr h

-- a place that is found stands at the position of its node
pub placed-is : (nodes : List NodeName) (places : List Place) (level index : ℕ) (place : Place) → place_in (placed nodes places) level index ≡ Some place → IsPlaced nodes places level index place
placed-is [] places level index place h = absurd cc
placed-is (node ∷ nodes) [] level index place h = absurd cc
placed-is (node ∷ nodes) (first ∷ places) level index place h =
    elim (either_place ((node.level == level) && (node.index == index)) first (place_in (placed nodes places) level index) place h) [
      | inl here ↦ record { at = 0; node = ap Some (same_name node level index here.0); there = ap Some here.1 }
      | inr later ↦ let k = placed-is nodes places level index place later in record { at = suc k.at; node = k.node; there = k.there }
    ]

first_had : (node : NodeName) (rest : List NodeName) → has (node ∷ rest) node.level node.index ≡ true
first_had node rest = rw (yes node.level, yes node.index) refl

-- the node behind these has the place behind theirs
pub placed-behind : (front rest : List NodeName) (node : NodeName) (places : List Place) → AreApart (front ++ node ∷ rest) → length front < length places
    → place_in (placed (front ++ node ∷ rest) places) node.level node.index ≡ slice_get places (length front)
placed-behind [] rest node [] apart long = absurd (omega arith)
placed-behind [] rest node (place ∷ places) apart long = rw (yes node.level, yes node.index) refl
placed-behind (first ∷ front) rest node [] apart long = absurd (omega arith)
placed-behind (first ∷ front) rest node (place ∷ places) apart long =
    let there : has (front ++ node ∷ rest) node.level node.index ≡ true = had_right front (node ∷ rest) node.level node.index (first_had node rest) in
    let other : ((first.level == node.level) && (first.index == node.index)) ≡ false =
    false_from_ne_true ((first.level == node.level) && (first.index == node.index)) (λ t.
    let same = same_name first node.level node.index t in
    let listed : has (front ++ node ∷ rest) first.level first.index ≡ true = subst (λ (n : NodeName). has (front ++ node ∷ rest) n.level n.index ≡ true) (sym same) there in
    absurd cc) in
    rw other (placed-behind front rest node places apart.1 (omega arith))

-- nodes that stand apart do so with their places
pub placed-apart : (nodes : List NodeName) (places : List Place) → AreApart nodes → AreKnownApart (placed nodes places)
placed-apart [] places apart = tt
placed-apart (node ∷ nodes) [] apart = tt
placed-apart (node ∷ nodes) (place ∷ places) apart = (placed-none nodes places node.level node.index apart.0, placed-apart nodes places apart.1)

-- the places past the last node are not taken
pub placed-take : (nodes : List NodeName) (places : List Place) → placed nodes (take (length nodes) places) ≡ placed nodes places
placed-take [] places = refl
placed-take (node ∷ nodes) [] = refl
placed-take (node ∷ nodes) (place ∷ places) = ap (λ (ks : List PlacedNode). record { level = node.level; index = node.index; place = place } ∷ ks) (placed-take nodes places)
