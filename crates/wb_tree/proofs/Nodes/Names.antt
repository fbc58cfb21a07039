-- The nodes of a tree, in the order of an image: which they are, and that none comes twice.
use Rattle.std.proofs.Common.{◌≡◌, ◌≤◌, ◌<◌, ◌+◌, ◌-◌, ◌*◌, ◌/◌, ◌^◌, ◌&&◌, ◌∙◌, sym, ap, subst, refl, ℕ, zero, suc, Bool, true, false, cond, ◌==◌, List, [], ◌∷◌, ◌++◌, Option, arith, inl, inr}
use Rattle.std.specs.Prelude.{◌⊎◌, if◌then◌else◌}
use Rattle.std.specs.List.{AllByRecursion}
use Rattle.std.proofs.lemmas.Bool.{eqb-true, cases_lt, false_from_ne_true}
use Rattle.std.proofs.Math.Nat.{div-div-eq-div-mul, div-one, pow-suc}
use Rattle.wb_types.specs.declared.entry.Entry.{Entry}
use Rattle.wb_tree.specs.Mapping.{NodeName, exists, each_from, nodes_below}
use Rattle.wb_types.proofs.Truth.{and_true, yes}

-- what holds of the nodes of two lists holds of those of both together
pub AllByRecursion-append : (P : NodeName → Type 0) (xs ys : List NodeName) → AllByRecursion P xs → AllByRecursion P ys → AllByRecursion P (xs ++ ys)
AllByRecursion-append P [] ys p q = q
AllByRecursion-append P (x ∷ xs) ys p q = (p.0, AllByRecursion-append P xs ys p.1 q)

-- and so does what follows from it
pub AllByRecursion-weaker : (P Q : NodeName → Type 0) → ((node : NodeName) → P node → Q node) → (xs : List NodeName) → AllByRecursion P xs → AllByRecursion Q xs
AllByRecursion-weaker P Q f [] p = tt
AllByRecursion-weaker P Q f (x ∷ xs) p = (f x p.0, AllByRecursion-weaker P Q f xs p.1)

-- the node's ancestor of a level is one from a first on, before an end
pub record IsBelow (level first end : ℕ) (node : NodeName) : Type 0 where
  pub from : 1 ≤ node.level
  pub to : node.level ≤ level
  pub at_least : first ≤ node.index / 32 ^ (level - node.level)
  pub before : node.index / 32 ^ (level - node.level) < end

-- one level up
pub below_up : (level index : ℕ) (node : NodeName) → IsBelow level (32 * index) (32 * index + 32) node → IsBelow (suc level) index (index + 1) node
below_up level index node h =
    let h1 = h.from in
    let h2 = h.to in
    let h3 = h.at_least in
    let h4 = h.before in
    let power : suc level - node.level ≡ suc (level - node.level) = omega arith in
    let up : node.index / 32 ^ (suc level - node.level) ≡ node.index / 32 ^ (level - node.level) / 32 =
    ap (λ (p : ℕ). node.index / 32 ^ p) power ∙ (ap (λ (p : ℕ). node.index / p) (pow-suc 32 (level - node.level)) ∙ sym (div-div-eq-div-mul node.index (32 ^ (level - node.level)) 32)) in
    record { from = h1; to = omega arith; at_least = omega arith; before = omega arith }

-- of each of some children
pub each_from-below : (f : ℕ → List NodeName) (level : ℕ) → ((index : ℕ) → AllByRecursion (IsBelow level index (index + 1)) (f index)) → (count first : ℕ) → AllByRecursion (IsBelow level first (first + count)) (each_from f count first)
unfolding each_from
each_from-below f level each zero first = tt
each_from-below f level each (suc count) first =
    AllByRecursion-append (IsBelow level first (first + suc count)) (f first) (each_from f count (first + 1))
    (AllByRecursion-weaker (IsBelow level first (first + 1)) (IsBelow level first (first + suc count)) (λ node h. let b = h.before in record { from = h.from; to = h.to; at_least = h.at_least; before = omega arith }) (f first) (each first))
    (AllByRecursion-weaker (IsBelow level (first + 1) (first + 1 + count)) (IsBelow level first (first + suc count)) (λ node h. let a = h.at_least in let b = h.before in record { from = h.from; to = h.to; at_least = omega arith; before = omega arith }) (each_from f count (first + 1)) (each_from-below f level each count (first + 1)))

-- ---- the nodes at and below a node

if_exists : (P : List NodeName → Type 0) (b : Bool) (nodes : List NodeName) → P [] → (b ≡ true → P nodes) → P (cond b nodes [])
if_exists P true nodes none some = some refl
if_exists P false nodes none some = none

-- every node that is listed is the node or lies below it
pub nodes_below-below : (entries : List (Option Entry)) (level index : ℕ) → AllByRecursion (IsBelow level index (index + 1)) (nodes_below entries level index)
unfolding nodes_below
nodes_below-below entries zero index = tt
nodes_below-below entries (suc level) index =
    let self : NodeName = record { level = suc level; index = index } in
    let here : index / 32 ^ (suc level - suc level) ≡ index = let none : suc level - suc level ≡ 0 = omega arith in ap (λ k. index / 32 ^ k) none ∙ div-one index in
    if_exists (AllByRecursion (IsBelow (suc level) index (index + 1))) (exists entries (suc level) index) (each_from (nodes_below entries level) 32 (32 * index) ++ self ∷ []) tt (λ e.
    AllByRecursion-append (IsBelow (suc level) index (index + 1)) (each_from (nodes_below entries level) 32 (32 * index)) (self ∷ [])
    (AllByRecursion-weaker (IsBelow level (32 * index) (32 * index + 32)) (IsBelow (suc level) index (index + 1)) (below_up level index) (each_from (nodes_below entries level) 32 (32 * index))
    (each_from-below (nodes_below entries level) level (nodes_below-below entries level) 32 (32 * index)))
    (record { from = omega arith; to = omega arith; at_least = omega arith; before = omega arith }, tt))

-- ---- no node comes twice

-- a node is one of these
abbrev pub has : List NodeName → ℕ → ℕ → Bool
has [] level index = false
has (node ∷ nodes) level index = if (node.level == level) && (node.index == index) then true else has nodes level index

-- no name comes twice
abbrev pub AreApart : List NodeName → Type 0
AreApart [] = Unit {0}
AreApart (node ∷ nodes) = (has nodes node.level node.index ≡ false) × AreApart nodes

-- both tests of two are true
named : ℕ → ℕ → NodeName
named level index = record { level = level; index = index }

-- a node by its test
pub same_name : (node : NodeName) (level index : ℕ) → ((node.level == level) && (node.index == index)) ≡ true → node ≡ record { level = level; index = index }
unfolding named
same_name node level index h =
    let both = and_true (node.level == level) (node.index == index) h in
    let a = eqb-true _ _ both.0 in
    let b = eqb-true _ _ both.1 in
    let e : named node.level node.index ≡ named level index = cc in e

same_cases : (b r : Bool) → (b ≡ false) → r ≡ false → cond b true r ≡ false
same_cases b r e h = rw (e, h) refl

-- a node without a property that each of these has is none of these
pub has_not : (P : NodeName → Type 0) (nodes : List NodeName) (level index : ℕ) → AllByRecursion P nodes → (P (record { level = level; index = index }) → ⊥) → has nodes level index ≡ false
has_not P [] level index each none = refl
has_not P (node ∷ nodes) level index each none =
    same_cases ((node.level == level) && (node.index == index)) (has nodes level index)
    (false_from_ne_true _ (λ t. none (subst P (same_name node level index t) each.0)))
    (has_not P nodes level index each.1 none)

has-append_false : (xs ys : List NodeName) (level index : ℕ) → has xs level index ≡ false → has ys level index ≡ false → has (xs ++ ys) level index ≡ false
has-append_false [] ys level index p q = q
has-append_false (x ∷ xs) ys level index p q = go ((x.level == level) && (x.index == index)) (has xs level index) (has (xs ++ ys) level index) p (λ r. has-append_false xs ys level index r q)
  where
    go : (b r s : Bool) → cond b true r ≡ false → (r ≡ false → s ≡ false) → cond b true s ≡ false
    go true r s p f = absurd cc
    go false r s p f = f p

-- two lists without a common name
pub apart-append : (xs ys : List NodeName) → AreApart xs → AreApart ys → AllByRecursion (λ node. has ys node.level node.index ≡ false) xs → AreApart (xs ++ ys)
apart-append [] ys p q each = q
apart-append (x ∷ xs) ys p q each = (has-append_false xs ys x.level x.index p.0 each.0, apart-append xs ys p.1 q each.1)

pub each_from-apart : (f : ℕ → List NodeName) (level : ℕ) → ((index : ℕ) → AllByRecursion (IsBelow level index (index + 1)) (f index)) → ((index : ℕ) → AreApart (f index)) → (count first : ℕ) → AreApart (each_from f count first)
unfolding each_from
each_from-apart f level below each zero first = tt
each_from-apart f level below each (suc count) first =
    apart-append (f first) (each_from f count (first + 1)) (each first) (each_from-apart f level below each count (first + 1))
    (AllByRecursion-weaker (IsBelow level first (first + 1)) (λ node. has (each_from f count (first + 1)) node.level node.index ≡ false)
    (λ node h. has_not (IsBelow level (first + 1) (first + 1 + count)) (each_from f count (first + 1)) node.level node.index (each_from-below f level below count (first + 1))
    (λ other. let a = h.before in let b = other.at_least in absurd (omega arith)))
    (f first) (below first))

-- no node is listed twice
pub nodes_below-apart : (entries : List (Option Entry)) (level index : ℕ) → AreApart (nodes_below entries level index)
unfolding nodes_below
nodes_below-apart entries zero index = tt
nodes_below-apart entries (suc level) index =
    let self : NodeName = record { level = suc level; index = index } in
    let children : List NodeName = each_from (nodes_below entries level) 32 (32 * index) in
    if_exists AreApart (exists entries (suc level) index) (each_from (nodes_below entries level) 32 (32 * index) ++ self ∷ []) tt (λ e.
    apart-append (each_from (nodes_below entries level) 32 (32 * index)) (self ∷ []) (each_from-apart (nodes_below entries level) level (nodes_below-below entries level) (nodes_below-apart entries level) 32 (32 * index)) (refl, tt)
    (AllByRecursion-weaker (IsBelow level (32 * index) (32 * index + 32)) (λ node. has (self ∷ []) node.level node.index ≡ false)
    (λ node h. has_not (λ other. other.level ≡ suc level) (self ∷ []) node.level node.index (refl, tt) (λ same. let a = h.to in absurd (omega arith)))
    (each_from (nodes_below entries level) 32 (32 * index)) (each_from-below (nodes_below entries level) level (nodes_below-below entries level) 32 (32 * index))))

-- ---- the nodes that are listed exist, and those that exist below them are listed

each_from-each : (f : ℕ → List NodeName) (P : NodeName → Type 0) → ((index : ℕ) → AllByRecursion P (f index)) → (count first : ℕ) → AllByRecursion P (each_from f count first)
unfolding each_from
each_from-each f P each zero first = tt
each_from-each f P each (suc count) first = AllByRecursion-append P (f first) (each_from f count (first + 1)) (each first) (each_from-each f P each count (first + 1))

-- every node that is listed exists
pub nodes_below-exist : (entries : List (Option Entry)) (level index : ℕ) → AllByRecursion (λ node. exists entries node.level node.index ≡ true) (nodes_below entries level index)
unfolding nodes_below
nodes_below-exist entries zero index = tt
nodes_below-exist entries (suc level) index =
    let P : NodeName → Type 0 = λ node. exists entries node.level node.index ≡ true in
    let self : NodeName = record { level = suc level; index = index } in
    if_exists (AllByRecursion (λ node. exists entries node.level node.index ≡ true)) (exists entries (suc level) index) (each_from (nodes_below entries level) 32 (32 * index) ++ self ∷ []) tt (λ e.
    AllByRecursion-append P (each_from (nodes_below entries level) 32 (32 * index)) (self ∷ []) (each_from-each (nodes_below entries level) P (nodes_below-exist entries level) 32 (32 * index)) (e, tt))

pub either_had : (xs ys : List NodeName) (level index : ℕ) → has (xs ++ ys) level index ≡ true → (has xs level index ≡ true) ⊎ (has ys level index ≡ true)
either_had [] ys level index h = inr h
either_had (x ∷ xs) ys level index h = go ((x.level == level) && (x.index == index)) (has xs level index) (has (xs ++ ys) level index) h (either_had xs ys level index)
  where
    go : (b r s : Bool) → cond b true s ≡ true → (s ≡ true → (r ≡ true) ⊎ (has ys level index ≡ true)) → (cond b true r ≡ true) ⊎ (has ys level index ≡ true)
    go true r s h f = inl refl
    go false r s h f = f h

-- a node of the first of two lists
pub had_left : (xs ys : List NodeName) (level index : ℕ) → has xs level index ≡ true → has (xs ++ ys) level index ≡ true
had_left [] ys level index h = absurd cc
had_left (x ∷ xs) ys level index h = go ((x.level == level) && (x.index == index)) (has xs level index) (has (xs ++ ys) level index) h (had_left xs ys level index)
  where
    go : (b r s : Bool) → cond b true r ≡ true → (r ≡ true → s ≡ true) → cond b true s ≡ true
    go true r s h f = refl
    go false r s h f = f h

-- a node of the second of two lists
pub had_right : (xs ys : List NodeName) (level index : ℕ) → has ys level index ≡ true → has (xs ++ ys) level index ≡ true
had_right [] ys level index h = h
had_right (x ∷ xs) ys level index h = go ((x.level == level) && (x.index == index)) (has (xs ++ ys) level index) (had_right xs ys level index h)
  where
    go : (b s : Bool) → s ≡ true → cond b true s ≡ true
    go true s h = refl
    go false s h = h

-- a node of one of the lists
had_each : (f : ℕ → List NodeName) (count first which level index : ℕ) → first ≤ which → which < first + count → has (f which) level index ≡ true → has (each_from f count first) level index ≡ true
unfolding each_from
had_each f zero first which level index low high h = absurd (omega arith)
had_each f (suc count) first which level index low high h = elim (cases_lt first which) [
  | inl later ↦ had_right (f first) (each_from f count (first + 1)) level index (had_each f count (first + 1) which level index (omega arith) (omega arith) h)
  | inr here ↦
      let e : which ≡ first = omega arith in
      had_left (f first) (each_from f count (first + 1)) level index (subst (λ w. has (f w) level index ≡ true) e h)
]

record FromOne (f : ℕ → List NodeName) (count first level index : ℕ) : Type 0 where
  which : ℕ
  low : first ≤ which
  high : which < first + count
  there : has (f which) level index ≡ true

from_one : (f : ℕ → List NodeName) (count first level index : ℕ) → has (each_from f count first) level index ≡ true → FromOne f count first level index
unfolding each_from
from_one f zero first level index h = absurd cc
from_one f (suc count) first level index h = elim (either_had (f first) (each_from f count (first + 1)) level index h) [
  | inl here ↦ record { which = first; low = omega arith; high = omega arith; there = here }
  | inr later ↦ let one = from_one f count (first + 1) level index later in let a = one.low in let b = one.high in record { which = one.which; low = omega arith; high = omega arith; there = one.there }
]

-- a number is itself
-- a node that exists is listed at its own place
pub itself_had : (level index : ℕ) → has (record { level = level; index = index } ∷ []) level index ≡ true
itself_had level index = rw (yes level, yes index) refl

chosen : (b : Bool) (nodes : List NodeName) (level index : ℕ) → b ≡ true → has nodes level index ≡ true → has (cond b nodes []) level index ≡ true
chosen true nodes level index e h = h
chosen false nodes level index e h = absurd cc

-- a node that exists is listed at and below itself
pub nodes_below-itself : (entries : List (Option Entry)) (level index : ℕ) → 1 ≤ level → exists entries level index ≡ true → has (nodes_below entries level index) level index ≡ true
unfolding nodes_below
nodes_below-itself entries zero index some h = absurd (omega arith)
nodes_below-itself entries (suc level) index some h =
    chosen (exists entries (suc level) index) (each_from (nodes_below entries level) 32 (32 * index) ++ record { level = suc level; index = index } ∷ []) (suc level) index h
    (had_right (each_from (nodes_below entries level) 32 (32 * index)) (record { level = suc level; index = index } ∷ []) (suc level) index (itself_had (suc level) index))

-- with a node each child that exists is listed
abbrev pub IsClosed : List (Option Entry) → List NodeName → Type 0
IsClosed entries nodes = (level index child : ℕ) → 1 ≤ level → has nodes (level + 1) index ≡ true → child / 32 ≡ index → exists entries level child ≡ true → has nodes level child ≡ true

alone : (node : NodeName) (level index : ℕ) → has (node ∷ []) level index ≡ true → node ≡ record { level = level; index = index }
alone node level index h = same_name node level index (go ((node.level == level) && (node.index == index)) h)
  where
    go : (b : Bool) → cond b true false ≡ true → b ≡ true
    go true h = refl
    go false h = absurd cc

kids_closed : (entries : List (Option Entry)) (f : ℕ → List NodeName) → ((index : ℕ) → IsClosed entries (f index)) → (count first : ℕ) → IsClosed entries (each_from f count first)
kids_closed entries f each count first level index child some h e there =
    let one = from_one f count first (level + 1) index h in
    had_each f count first one.which level child one.low one.high (each one.which level index child some one.there e there)

with_parent : (entries : List (Option Entry)) (top place : ℕ) → IsClosed entries (each_from (nodes_below entries top) 32 (32 * place)) → IsClosed entries (each_from (nodes_below entries top) 32 (32 * place) ++ record { level = suc top; index = place } ∷ [])
with_parent entries top place kids level index child some h e there =
    elim (either_had (each_from (nodes_below entries top) 32 (32 * place)) (record { level = suc top; index = place } ∷ []) (level + 1) index h) [
      | inl below ↦ had_left (each_from (nodes_below entries top) 32 (32 * place)) (record { level = suc top; index = place } ∷ []) level child (kids level index child some below e there)
      | inr here ↦
          let same = alone (record { level = suc top; index = place }) (level + 1) index here in
          let a : suc top ≡ level + 1 = ap (λ (n : NodeName). n.level) same in
          let b : place ≡ index = ap (λ (n : NodeName). n.index) same in
          let c : level ≡ top = omega arith in
          let listed = nodes_below-itself entries level child some there in
          had_left (each_from (nodes_below entries top) 32 (32 * place)) (record { level = suc top; index = place } ∷ []) level child
          (had_each (nodes_below entries top) 32 (32 * place) child level child (omega arith) (omega arith) (subst (λ l. has (nodes_below entries l child) level child ≡ true) c listed))
    ]

none_closed : (entries : List (Option Entry)) → IsClosed entries []
none_closed entries level index child some h e there = absurd cc

-- with a node every child that exists is listed
pub nodes_below-closed : (entries : List (Option Entry)) (top place : ℕ) → IsClosed entries (nodes_below entries top place)
unfolding nodes_below
nodes_below-closed entries zero place = none_closed entries
nodes_below-closed entries (suc top) place =
    if_exists (IsClosed entries) (exists entries (suc top) place) (each_from (nodes_below entries top) 32 (32 * place) ++ record { level = suc top; index = place } ∷ [])
    (none_closed entries) (λ t. with_parent entries top place (kids_closed entries (nodes_below entries top) (nodes_below-closed entries top) 32 (32 * place)))
