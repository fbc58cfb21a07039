-- Nodes of which none comes twice, with their places.
use Rattle.std.proofs.Common.{◌≡◌, ◌∙◌, ◌&&◌, ◌==◌, sym, ap, subst, refl, ℕ, zero, suc, Bool, true, false, cond, List, [], ◌∷◌, Option, Some, None, map, arith, inl, inr}
use Rattle.std.specs.Prelude.{◌↔◌, Contains, slice_get}
use Rattle.std.proofs.lemmas.Bool.{eqb-true, cases_Bool}
use Rattle.std.proofs.lemmas.Option.{slice_get-get_or}
use Rattle.wb_types.specs.declared.number.Place.{Place}
use Rattle.wb_tree.specs.declared.placed.PlacedNode.{PlacedNode}
use Rattle.wb_tree.specs.Mapping.{Mapping, IsSound, IsPlaceOf, place_in}
use Rattle.wb_tree.specs.Fields.{AreApart}
use Rattle.wb_tree.proofs.Nodes.Placing.{either_place}
use Rattle.wb_types.proofs.Truth.{and_true, yes}

-- the places of nodes, in their order
abbrev pub places : List PlacedNode → List Place
places known = map (λ node. node.place) known

pub same_names : (a b c d : ℕ) → ((a == b) && (c == d)) ≡ true → (a ≡ b) × (c ≡ d)
same_names a b c d h = let both = and_true (a == b) (c == d) h in (eqb-true a b both.0, eqb-true c d both.1)

pub none_or_some : (o : Option Place) (place : Place) → o ≡ None → o ≡ Some place → ⊥
none_or_some o place a b = absurd cc

-- a node in front changes no place of the others
pub known-behind : (node : PlacedNode) (known : List PlacedNode) (level index : ℕ) (place : Place) → place_in known node.level node.index ≡ None → place_in known level index ≡ Some place
    → place_in (node ∷ known) level index ≡ Some place
known-behind node known level index place apart h = elim (cases_Bool ((node.level == level) && (node.index == index))) [
  | inl same ↦
      let e = same_names node.level level node.index index same in
      let none : place_in known level index ≡ None = subst (λ i. place_in known level i ≡ None) e.1 (subst (λ l. place_in known l node.index ≡ None) e.0 apart) in
      absurd (none_or_some (place_in known level index) place none h)
  | inr other ↦ rw other h
]

-- a node at its position, found by its name
pub record IsKnownAt (known : List PlacedNode) (at : ℕ) (place : Place) : Type 0 where
  pub node : PlacedNode
  pub there : slice_get known at ≡ Some node
  pub found : place_in known node.level node.index ≡ Some place

-- a place stands at the position of a node that is found there
pub known-at : (known : List PlacedNode) → AreApart known → (at : ℕ) (place : Place) → slice_get (places known) at ≡ Some place → IsKnownAt known at place
known-at [] apart at place h = absurd cc
known-at (node ∷ known) apart zero place h = record { node = node; there = refl; found = rw (yes node.level, yes node.index) h }
known-at (node ∷ known) apart (suc at) place h =
    let k = known-at known apart.1 at place h in
    record { node = k.node; there = k.there; found = known-behind node known k.node.level k.node.index place apart.0 k.found }

-- a node that is listed is found
pub found_some : (known : List PlacedNode) (at : ℕ) (node : PlacedNode) → slice_get known at ≡ Some node → place_in known node.level node.index ≡ None → ⊥
found_some [] at node h none = absurd cc
found_some (first ∷ known) zero node h none =
    let e : first ≡ node = cc in
    let none' : place_in (first ∷ known) first.level first.index ≡ None = subst (λ (n : PlacedNode). place_in (first ∷ known) n.level n.index ≡ None) (sym e) none in
    let some : place_in (first ∷ known) first.level first.index ≡ Some first.place = rw (yes first.level, yes first.index) refl in
    none_or_some (place_in (first ∷ known) first.level first.index) first.place none' some
found_some (first ∷ known) (suc at) node h none = found_some known at node h (skipped ((first.level == node.level) && (first.index == node.index)) first.place (place_in known node.level node.index) none)
  where
    skipped : (b : Bool) (place : Place) (rest : Option Place) → cond b (Some place) rest ≡ None → rest ≡ None
    skipped true place rest h = absurd cc
    skipped false place rest h = h

-- a name stands at one position
one_position : (known : List PlacedNode) → AreApart known → (i j : ℕ) (a b : PlacedNode) → slice_get known i ≡ Some a → slice_get known j ≡ Some b → a.level ≡ b.level → a.index ≡ b.index → i ≡ j
one_position [] apart i j a b p q l x = absurd cc
one_position (node ∷ known) apart zero zero a b p q l x = refl
one_position (node ∷ known) apart zero (suc j) a b p q l x =
    let e : node ≡ a = cc in
    let none : place_in known b.level b.index ≡ None =
    subst (λ i. place_in known b.level i ≡ None) x (subst (λ k. place_in known k a.index ≡ None) l (subst (λ (n : PlacedNode). place_in known n.level n.index ≡ None) e apart.0)) in
    absurd (found_some known j b q none)
one_position (node ∷ known) apart (suc i) zero a b p q l x =
    let e : node ≡ b = cc in
    let none : place_in known a.level a.index ≡ None =
    subst (λ i. place_in known a.level i ≡ None) (sym x) (subst (λ k. place_in known k b.index ≡ None) (sym l) (subst (λ (n : PlacedNode). place_in known n.level n.index ≡ None) e apart.0)) in
    absurd (found_some known i a p none)
one_position (node ∷ known) apart (suc i) (suc j) a b p q l x = ap suc (one_position known apart.1 i j a b p q l x)

-- a place that is found is listed
place_listed : (known : List PlacedNode) (level index : ℕ) (place : Place) → place_in known level index ≡ Some place → Contains (places known) place
place_listed [] level index place h = absurd cc
place_listed (node ∷ known) level index place h = elim (either_place ((node.level == level) && (node.index == index)) node.place (place_in known level index) place h) [
  | inl here ↦ (0, omega arith, here.1)
  | inr later ↦ let k = place_listed known level index place later in (suc k.0, omega (arith, k.1), k.2)
]

-- ---- the places that an image tells

-- the places of the known nodes are those at which a node stands
pub used-are : (m : Mapping) → AreApart m.known → (place : Place) → Contains (places m.known) place ↔ IsPlaceOf m place
used-are m apart place = (
  λ h.
      let k = known-at m.known apart h.0 place (slice_get-get_or (places m.known) h.0 place h.1 ∙ ap Some h.2) in
      record { level = k.node.level; index = k.node.index; known = k.found },
  λ h. place_listed m.known h.level h.index place h.known,
)

-- none of them comes twice
pub used-once : (m : Mapping) → AreApart m.known → IsSound m → (i j : ℕ) (place : Place) → slice_get (places m.known) i ≡ Some place → slice_get (places m.known) j ≡ Some place → i ≡ j
used-once m apart sound i j place p q =
    let a = known-at m.known apart i place p in
    let b = known-at m.known apart j place q in
    let same = sound.apart a.node.level a.node.index b.node.level b.node.index place a.found b.found in
    one_position m.known apart i j a.node b.node a.there b.there same.0 same.1
