-- Lists of nodes with their places: which places they name, one list behind another.
use Rattle.std.proofs.Common.{◌≡◌, ◌<◌, ◌&&◌, ◌∙◌, sym, ap, refl, ℕ, zero, suc, length, get_or, Bool, true, false, cond, nat_eq, ◌==◌, List, [], ◌∷◌, ◌++◌, Option, Some, None, arith, inl, inr}
use Rattle.std.proofs.lemmas.Bool.{eqb-true, cases_Bool, false_from_ne_true}
use Rattle.std.specs.Prelude.{◌⊎◌, IsSome}
use Rattle.wb_types.specs.declared.number.Place.{Place}
use Rattle.wb_tree.specs.declared.placed.PlacedNode.{PlacedNode}
use Rattle.wb_tree.specs.Mapping.{place_in}
use Rattle.wb_tree.specs.Reading.{is_reached}
use Rattle.wb_tree.specs.Fields.{AreApart}
use Rattle.wb_types.proofs.Truth.{and_true, yes}
use Rattle.wb_types.proofs.Truth.{either_true, either_false}

-- no place comes twice
abbrev pub PlacesApart : List PlacedNode → Type 0
PlacesApart [] = Unit {0}
PlacesApart (node ∷ nodes) = (is_reached node.place.0 nodes ≡ false) × PlacesApart nodes

-- the test of one node
abbrev pub is_named : PlacedNode → ℕ → ℕ → Bool
is_named node level index = (node.level == level) && (node.index == index)

pub named-itself : (node : PlacedNode) → is_named node node.level node.index ≡ true
named-itself node = rw (yes node.level, yes node.index) refl

pub named-is : (node : PlacedNode) (level index : ℕ) → is_named node level index ≡ true → (node.level ≡ level) × (node.index ≡ index)
named-is node level index h = let both = and_true (node.level == level) (node.index == index) h in (eqb-true _ _ both.0, eqb-true _ _ both.1)

pub unnamed : (node : PlacedNode) (level index : ℕ) → ((node.level ≡ level) → (node.index ≡ index) → ⊥) → is_named node level index ≡ false
unnamed node level index h = false_from_ne_true _ (λ t. let both = named-is node level index t in h both.0 both.1)

-- the first node
pub place_in-first : (node : PlacedNode) (nodes : List PlacedNode) (level index : ℕ) → is_named node level index ≡ true → place_in (node ∷ nodes) level index ≡ Some node.place
place_in-first node nodes level index e = rw e refl

pub place_in-later : (node : PlacedNode) (nodes : List PlacedNode) (level index : ℕ) → is_named node level index ≡ false → place_in (node ∷ nodes) level index ≡ place_in nodes level index
place_in-later node nodes level index e = rw e refl

-- a node is the first, or one behind it
pub place_in-cases : (node : PlacedNode) (nodes : List PlacedNode) (level index : ℕ) (place : Place) → place_in (node ∷ nodes) level index ≡ Some place
    → ((node.level ≡ level) × (node.index ≡ index) × (node.place ≡ place)) ⊎ (place_in nodes level index ≡ Some place)
place_in-cases node nodes level index place h = elim (cases_Bool (is_named node level index)) [
  | inl first ↦
      let both = named-is node level index first in
      let e : ◌≡◌ {A = Option Place} (Some node.place) (Some place) = sym (place_in-first node nodes level index first) ∙ h in
      let same : node.place ≡ place = cc in
      inl (both.0, both.1, same)
  | inr later ↦ inr (sym (place_in-later node nodes level index later) ∙ h)
]

pub option_cases : (o : Option Place) → ((place : Place) × (o ≡ Some place)) ⊎ (o ≡ None)
option_cases None = inr refl
option_cases (Some place) = inl (place, refl)

pub some_of : (o : Option Place) → IsSome o → (place : Place) × (o ≡ Some place)
some_of None h = absurd cc
some_of (Some place) h = (place, refl)

pub is_some_of : (o : Option Place) (place : Place) → o ≡ Some place → IsSome o
is_some_of o place e = rw e refl

-- ---- one list behind another

pub place_in-append_none : (xs ys : List PlacedNode) (level index : ℕ) → place_in xs level index ≡ None → place_in (xs ++ ys) level index ≡ place_in ys level index
place_in-append_none [] ys level index h = refl
place_in-append_none (x ∷ xs) ys level index h = go (is_named x level index) h (place_in-append_none xs ys level index)
  where
    go : (b : Bool) → cond b (Some x.place) (place_in xs level index) ≡ None → (place_in xs level index ≡ None → place_in (xs ++ ys) level index ≡ place_in ys level index)
        → cond b (Some x.place) (place_in (xs ++ ys) level index) ≡ place_in ys level index
    go true h f = absurd cc
    go false h f = f h

pub place_in-append_some : (xs ys : List PlacedNode) (level index : ℕ) (place : Place) → place_in xs level index ≡ Some place → place_in (xs ++ ys) level index ≡ Some place
place_in-append_some [] ys level index place h = absurd cc
place_in-append_some (x ∷ xs) ys level index place h = go (is_named x level index) h (place_in-append_some xs ys level index place)
  where
    go : (b : Bool) → cond b (Some x.place) (place_in xs level index) ≡ Some place → (place_in xs level index ≡ Some place → place_in (xs ++ ys) level index ≡ Some place)
        → cond b (Some x.place) (place_in (xs ++ ys) level index) ≡ Some place
    go true h f = h
    go false h f = f h

pub place_in-append_cases : (xs ys : List PlacedNode) (level index : ℕ) (place : Place) → place_in (xs ++ ys) level index ≡ Some place
    → (place_in xs level index ≡ Some place) ⊎ ((place_in xs level index ≡ None) × (place_in ys level index ≡ Some place))
place_in-append_cases xs ys level index place h = elim (option_cases (place_in xs level index)) [
  | inl some ↦
      let e : ◌≡◌ {A = Option Place} (Some some.0) (Some place) = sym (place_in-append_some xs ys level index some.0 some.1) ∙ h in
      inl (some.1 ∙ e)
  | inr none ↦ inr (none, sym (place_in-append_none xs ys level index none) ∙ h)
]

pub some-append_left : (xs ys : List PlacedNode) (level index : ℕ) → IsSome (place_in xs level index) → IsSome (place_in (xs ++ ys) level index)
some-append_left xs ys level index h =
    let some = some_of (place_in xs level index) h in
    is_some_of _ some.0 (place_in-append_some xs ys level index some.0 some.1)

pub some-append_right : (xs ys : List PlacedNode) (level index : ℕ) → IsSome (place_in ys level index) → IsSome (place_in (xs ++ ys) level index)
some-append_right xs ys level index h = elim (option_cases (place_in xs level index)) [
  | inl some ↦ is_some_of _ some.0 (place_in-append_some xs ys level index some.0 some.1)
  | inr none ↦ let some = some_of (place_in ys level index) h in is_some_of _ some.0 (place_in-append_none xs ys level index none ∙ some.1)
]

pub is_reached-append : (place : ℕ) (xs ys : List PlacedNode) → is_reached place (xs ++ ys) ≡ cond (is_reached place xs) true (is_reached place ys)
is_reached-append place [] ys = refl
is_reached-append place (x ∷ xs) ys = go (x.place.0 == place) (is_reached place xs) (is_reached place ys) (is_reached place (xs ++ ys)) (is_reached-append place xs ys)
  where
    go : (b r s t : Bool) → t ≡ cond r true s → cond b true t ≡ cond (cond b true r) true s
    go true r s t e = refl
    go false r s t e = e

both_false : (a b : Bool) → a ≡ false → b ≡ false → cond a true b ≡ false
both_false a b e f = rw (e, f) refl

pub reached-cases : (place : ℕ) (xs ys : List PlacedNode) → is_reached place (xs ++ ys) ≡ true → (is_reached place xs ≡ true) ⊎ (is_reached place ys ≡ true)
reached-cases place xs ys h = either_true _ _ (sym (is_reached-append place xs ys) ∙ h)

pub unreached-both : (place : ℕ) (xs ys : List PlacedNode) → is_reached place (xs ++ ys) ≡ false → (is_reached place xs ≡ false) × (is_reached place ys ≡ false)
unreached-both place xs ys h = either_false _ _ (sym (is_reached-append place xs ys) ∙ h)

pub unreached-append : (place : ℕ) (xs ys : List PlacedNode) → is_reached place xs ≡ false → is_reached place ys ≡ false → is_reached place (xs ++ ys) ≡ false
unreached-append place xs ys a b = is_reached-append place xs ys ∙ both_false _ _ a b

pub reached-first : (node : PlacedNode) (nodes : List PlacedNode) (place : ℕ) → is_reached place (node ∷ nodes) ≡ true → (node.place.0 ≡ place) ⊎ (is_reached place nodes ≡ true)
reached-first node nodes place h = elim (either_true (node.place.0 == place) (is_reached place nodes) h) [
  | inl here ↦ inl (eqb-true _ _ here)
  | inr later ↦ inr later
]

-- a place that is named was reached
pub place_in-reached : (nodes : List PlacedNode) (level index : ℕ) (place : Place) → place_in nodes level index ≡ Some place → is_reached place.0 nodes ≡ true
place_in-reached [] level index place h = absurd cc
place_in-reached (node ∷ nodes) level index place h = elim (place_in-cases node nodes level index place h) [
  | inl first ↦ let e : nat_eq node.place.0 place.0 ≡ true = ap (λ (p : Place). nat_eq node.place.0 p.0) (sym first.2) ∙ yes node.place.0 in rw e refl
  | inr later ↦ go (node.place.0 == place.0) (is_reached place.0 nodes) (place_in-reached nodes level index place later)
]
  where
    go : (b r : Bool) → r ≡ true → cond b true r ≡ true
    go true r e = refl
    go false r e = e

-- one place is that of one node
pub one_name : (nodes : List PlacedNode) (level index level' index' : ℕ) (place : Place) → PlacesApart nodes → place_in nodes level index ≡ Some place → place_in nodes level' index' ≡ Some place
    → (level ≡ level') × (index ≡ index')
one_name [] level index level' index' place apart h h' = absurd cc
one_name (node ∷ nodes) level index level' index' place apart h h' =
    let clash = λ (l i : ℕ) (there : place_in nodes l i ≡ Some place) (same : node.place ≡ place).
    let r = place_in-reached nodes l i place there in
    let e : is_reached place.0 nodes ≡ false = ap (λ (p : Place). is_reached p.0 nodes) (sym same) ∙ apart.0 in
    let both : true ≡ false = sym r ∙ e in both in
    elim (place_in-cases node nodes level index place h) [
      | inl first ↦ elim (place_in-cases node nodes level' index' place h') [
        | inl again ↦ (sym first.0 ∙ again.0, sym first.1 ∙ again.1)
        | inr later ↦ absurd (let e = clash level' index' later first.2 in cc)
      ]
      | inr later ↦ elim (place_in-cases node nodes level' index' place h') [
        | inl again ↦ absurd (let e = clash level index later again.2 in cc)
        | inr last ↦ one_name nodes level index level' index' place apart.1 later last
      ]
    ]

pub apart-append : (xs ys : List PlacedNode) → PlacesApart xs → PlacesApart ys → ((place : ℕ) → is_reached place ys ≡ true → is_reached place xs ≡ false) → PlacesApart (xs ++ ys)
apart-append [] ys a b f = b
apart-append (x ∷ xs) ys a b f =
    let none : is_reached x.place.0 ys ≡ false = false_from_ne_true _ (λ r.
    let e = f x.place.0 r in
    let first : is_reached x.place.0 (x ∷ xs) ≡ true = rw (yes x.place.0) refl in
    let both : true ≡ false = sym first ∙ e in
    cc) in
    (unreached-append x.place.0 xs ys a.0 none, apart-append xs ys a.1 b (λ place r. (unreached-both place (x ∷ []) xs (f place r)).1))

pub names-append : (xs ys : List PlacedNode) → AreApart xs → AreApart ys → ((level index : ℕ) (place : Place) → place_in xs level index ≡ Some place → place_in ys level index ≡ None) → AreApart (xs ++ ys)
names-append [] ys a b f = b
names-append (x ∷ xs) ys a b f =
    let none : place_in ys x.level x.index ≡ None = f x.level x.index x.place (place_in-first x xs x.level x.index (named-itself x)) in (
      place_in-append_none xs ys x.level x.index a.0 ∙ none,
      names-append xs ys a.1 b (λ level index place h.
          let some : IsSome (place_in (x ∷ xs) level index) = some-append_right (x ∷ []) xs level index (is_some_of _ place h) in
          let s = some_of _ some in
          f level index s.0 s.1),
    )

-- ---- the nodes of a list, one by one

-- a node that is named is one of them
pub record IsMember (nodes : List PlacedNode) (level index : ℕ) (place : Place) : Type 0 where
  pub number : ℕ
  pub inside : number < length nodes
  pub same_level : (d : PlacedNode) → (get_or nodes number d).level ≡ level
  pub same_index : (d : PlacedNode) → (get_or nodes number d).index ≡ index

pub place_in-member : (nodes : List PlacedNode) (level index : ℕ) (place : Place) → place_in nodes level index ≡ Some place → IsMember nodes level index place
place_in-member [] level index place h = absurd cc
place_in-member (node ∷ nodes) level index place h = elim (place_in-cases node nodes level index place h) [
  | inl first ↦ record { number = 0; inside = omega arith; same_level = λ d. first.0; same_index = λ d. first.1 }
  | inr later ↦
      let m = place_in-member nodes level index place later in
      let i = m.inside in
      record { number = suc m.number; inside = omega arith; same_level = m.same_level; same_index = m.same_index }
]

-- in a list in which no node comes twice, each is found
pub member-named : (nodes : List PlacedNode) (k : ℕ) (d : PlacedNode) → AreApart nodes → k < length nodes → place_in nodes (get_or nodes k d).level (get_or nodes k d).index ≡ Some (get_or nodes k d).place
member-named [] k d apart inside = absurd (omega arith)
member-named (node ∷ nodes) zero d apart inside = place_in-first node nodes node.level node.index (named-itself node)
member-named (node ∷ nodes) (suc k) d apart inside =
    let later = member-named nodes k d apart.1 (omega arith) in
    let it : PlacedNode = get_or nodes k d in
    let other : is_named node (get_or nodes k d).level (get_or nodes k d).index ≡ false = false_from_ne_true _ (λ t.
    let same = named-is node (get_or nodes k d).level (get_or nodes k d).index t in
    let none : place_in nodes (get_or nodes k d).level (get_or nodes k d).index ≡ None = ap (λ l. place_in nodes l (get_or nodes k d).index) (sym same.0) ∙ (ap (λ i. place_in nodes node.level i) (sym same.1) ∙ apart.0) in
    let both : ◌≡◌ {A = Option Place} (Some (get_or nodes k d).place) None = sym later ∙ none in
    cc) in
    place_in-later node nodes (get_or nodes k d).level (get_or nodes k d).index other ∙ later
