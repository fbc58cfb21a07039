-- The names of the nodes that a set of dirty blocks needs: none comes twice, and what stands under them.
use Rattle.std.proofs.Common.{◌≡◌, ◌≤◌, ◌<◌, ◌+◌, ◌-◌, ◌*◌, ◌/◌, ◌^◌, ◌&&◌, ◌∙◌, sym, ap, subst, refl, ℕ, zero, suc, Bool, true, false, cond, ◌==◌, List, [], ◌∷◌, ◌++◌, Option, Some, length, map, get_or, arith}
use Rattle.std.specs.Prelude.{Contains, slice_get, option_map}
use Rattle.std.specs.List.{AllByRecursion}
use Rattle.std.proofs.lemmas.Bool.{eqb-true, false≢true}
use Rattle.std.proofs.lemmas.Option.{slice_get-get_or, slice_get-map}
use Rattle.std.proofs.Math.Nat.{div-one}
use Rattle.wb_types.specs.declared.number.Place.{Place}
use Rattle.wb_types.proofs.Truth.{yes, or_true}
use Rattle.wb_format.specs.declared.node.Node.{Node}
use Rattle.wb_format.specs.declared.root.Root.{Root}
use Rattle.wb_tree.specs.Mapping.{NodeName, each_from}
use Rattle.wb_tree.specs.Planning.{names}
use Rattle.wb_tree.proofs.Nodes.Names.{AllByRecursion-append, AllByRecursion-weaker, IsBelow, below_up, each_from-below, AreApart, has, has_not, same_name, apart-append, each_from-apart, had_right}
use Rattle.wb_dirty.specs.Reading.{is_among}
use Rattle.wb_dirty.specs.Planning.{has_dirty, dirty_below, StandsAt}
use Rattle.wb_dirty.specs.ReadBack.{MayBeRead}

-- ---- no name comes twice

if_any : (P : List NodeName → Type 0) (b : Bool) (nodes : List NodeName) → P [] → P nodes → P (cond b nodes [])
if_any P true nodes none some = some
if_any P false nodes none some = none

-- every node that is needed is the node or lies below it
dirty_below-below : (dirty : List Bool) (level index : ℕ) → AllByRecursion (IsBelow level index (index + 1)) (dirty_below dirty level index)
unfolding dirty_below
dirty_below-below dirty zero index = tt
dirty_below-below dirty (suc level) index =
    let self : NodeName = record { level = suc level; index = index } in
    let here : index / 32 ^ (suc level - suc level) ≡ index = let none : suc level - suc level ≡ 0 = omega arith in ap (λ k. index / 32 ^ k) none ∙ div-one index in
    if_any (AllByRecursion (IsBelow (suc level) index (index + 1))) (has_dirty dirty (suc level) index) (each_from (dirty_below dirty level) 32 (32 * index) ++ self ∷ []) tt
    (AllByRecursion-append (IsBelow (suc level) index (index + 1)) (each_from (dirty_below dirty level) 32 (32 * index)) (self ∷ [])
    (AllByRecursion-weaker (IsBelow level (32 * index) (32 * index + 32)) (IsBelow (suc level) index (index + 1)) (below_up level index) (each_from (dirty_below dirty level) 32 (32 * index))
    (each_from-below (dirty_below dirty level) level (dirty_below-below dirty level) 32 (32 * index)))
    (record { from = omega arith; to = omega arith; at_least = omega arith; before = omega arith }, tt))

open-apart : (dirty : List Bool) (level index : ℕ) → ((i : ℕ) → AreApart (dirty_below dirty level i)) → AreApart (each_from (dirty_below dirty level) 32 (32 * index) ++ record { level = suc level; index = index } ∷ [])
open-apart dirty level index below =
    let self : NodeName = record { level = suc level; index = index } in
    apart-append (each_from (dirty_below dirty level) 32 (32 * index)) (self ∷ []) (each_from-apart (dirty_below dirty level) level (dirty_below-below dirty level) below 32 (32 * index)) (refl, tt)
    (AllByRecursion-weaker (IsBelow level (32 * index) (32 * index + 32)) (λ node. has (self ∷ []) node.level node.index ≡ false)
    (λ node h. has_not (λ other. other.level ≡ suc level) (self ∷ []) node.level node.index (refl, tt) (λ same. let a = h.to in absurd (omega arith)))
    (each_from (dirty_below dirty level) 32 (32 * index)) (each_from-below (dirty_below dirty level) level (dirty_below-below dirty level) 32 (32 * index)))

-- no node is needed twice
pub dirty_below-apart : (dirty : List Bool) (level index : ℕ) → AreApart (dirty_below dirty level index)
unfolding dirty_below
dirty_below-apart dirty zero index = tt
dirty_below-apart dirty (suc level) index =
    if_any AreApart (has_dirty dirty (suc level) index) (each_from (dirty_below dirty level) 32 (32 * index) ++ record { level = suc level; index = index } ∷ []) tt (open-apart dirty level index (dirty_below-apart dirty level))

-- nor among children
pub dirty_each-apart : (dirty : List Bool) (level count first : ℕ) → AreApart (each_from (dirty_below dirty level) count first)
dirty_each-apart dirty level count first = each_from-apart (dirty_below dirty level) level (dirty_below-below dirty level) (dirty_below-apart dirty level) count first

-- nor is the parent of children among them
pub dirty_open-apart : (dirty : List Bool) (level index : ℕ) → 1 ≤ level → AreApart (each_from (dirty_below dirty (level - 1)) 32 (32 * index) ++ record { level = level; index = index } ∷ [])
dirty_open-apart dirty zero index from = absurd (omega (arith, from))
dirty_open-apart dirty (suc level) index from =
    let below : suc level - 1 ≡ level = omega arith in
    rw below (open-apart dirty level index (dirty_below-apart dirty level))

-- ---- a name of two lists

-- one that is in both comes twice
pub apart-not_both : (xs ys : List NodeName) (level index : ℕ) → AreApart (xs ++ ys) → has xs level index ≡ true → has ys level index ≡ true → ⊥
apart-not_both [] ys level index apart h g = false≢true h
apart-not_both (x ∷ xs) ys level index apart h g = by_name ((x.level == level) && (x.index == index)) refl h (λ t. apart-not_both xs ys level index apart.1 t g)
  where
    by_name : (b : Bool) → ((x.level == level) && (x.index == index)) ≡ b → cond b true (has xs level index) ≡ true → (has xs level index ≡ true → ⊥) → ⊥
    by_name true e t later =
        let name = same_name x level index e in
        false≢true (sym apart.0 ∙ (ap (λ (n : NodeName). has (xs ++ ys) n.level n.index) name ∙ had_right xs ys level index g))
    by_name false e t later = later t

-- a name by itself
pub had_only : (level index l i : ℕ) → has (record { level = level; index = index } ∷ []) l i ≡ true → (level ≡ l) × (index ≡ i)
had_only level index l i h = by_name ((level == l) && (index == i)) refl h
  where
    by_name : (b : Bool) → ((level == l) && (index == i)) ≡ b → cond b true false ≡ true → (level ≡ l) × (index ≡ i)
    by_name true e t =
        let name = same_name (record { level = level; index = index }) l i e in
        (ap (λ (n : NodeName). n.level) name, ap (λ (n : NodeName). n.index) name)
    by_name false e t = absurd (false≢true t)

-- ---- nodes at places

had_at : (nodes : List (Place × Node)) (k : ℕ) (node : Place × Node) → k < length nodes → get_or nodes k node ≡ node → has (names nodes) node.1.level node.1.index ≡ true
had_at [] k node below e = absurd (omega (arith, below))
had_at (x ∷ nodes) zero node below e =
    subst (λ (n : Place × Node). has (names (x ∷ nodes)) n.1.level n.1.index ≡ true) e (rw (yes x.1.level, yes x.1.index) refl)
had_at (x ∷ nodes) (suc k) node below e =
    or_true ((x.1.level == node.1.level) && (x.1.index == node.1.index)) (has (names nodes) node.1.level node.1.index) (had_at nodes k node (omega (arith, below)) e)

-- a node of some has its name among theirs
pub contained-had : (nodes : List (Place × Node)) (node : Place × Node) → Contains nodes node → has (names nodes) node.1.level node.1.index ≡ true
contained-had nodes node there = had_at nodes there.0 node there.1 there.2

same_at : (nodes : List (Place × Node)) (k j : ℕ) (one other : Place × Node) → AreApart (names nodes) → k < length nodes → j < length nodes → get_or nodes k one ≡ one → get_or nodes j other ≡ other
    → one.1.level ≡ other.1.level → one.1.index ≡ other.1.index → one ≡ other
same_at [] k j one other apart below less e f level index = absurd (omega (arith, below))
same_at (x ∷ nodes) zero zero one other apart below less e f level index = sym e ∙ f
same_at (x ∷ nodes) zero (suc j) one other apart below less e f level index =
    absurd (false≢true (sym apart.0 ∙ (ap (λ (n : Place × Node). has (names nodes) n.1.level n.1.index) e
    ∙ (ap (λ l. has (names nodes) l one.1.index) level ∙ (ap (λ i. has (names nodes) other.1.level i) index ∙ had_at nodes j other (omega (arith, less)) f)))))
same_at (x ∷ nodes) (suc k) zero one other apart below less e f level index =
    absurd (false≢true (sym apart.0 ∙ (ap (λ (n : Place × Node). has (names nodes) n.1.level n.1.index) f
    ∙ (ap (λ l. has (names nodes) l other.1.index) (sym level) ∙ (ap (λ i. has (names nodes) one.1.level i) (sym index) ∙ had_at nodes k one (omega (arith, below)) e)))))
same_at (x ∷ nodes) (suc k) (suc j) one other apart below less e f level index = same_at nodes k j one other apart.1 (omega (arith, below)) (omega (arith, less)) e f level index

-- a node of a name stands at one place
pub stands-once : (nodes : List (Place × Node)) (level index : ℕ) (one other : Place) → AreApart (names nodes) → StandsAt nodes level index one → StandsAt nodes level index other → one ≡ other
stands-once nodes level index one other apart a b =
    ap (λ (n : Place × Node). n.0) (same_at nodes a.there.0 b.there.0 (one, a.node) (other, b.node) apart a.there.1 b.there.1 a.there.2 b.there.2 (a.level_is ∙ sym b.level_is) (a.index_is ∙ sym b.index_is))

contained-at : (nodes : List (Place × Node)) (node : Place × Node) (there : Contains nodes node) → slice_get nodes there.0 ≡ Some node
contained-at nodes node there = slice_get-get_or nodes there.0 node there.1 ∙ ap Some there.2

pub contained-place : (nodes : List (Place × Node)) (node : Place × Node) (there : Contains nodes node) → slice_get (map (λ (n : Place × Node). n.0) nodes) there.0 ≡ Some node.0
contained-place nodes node there = slice_get-map (λ (n : Place × Node). n.0) nodes there.0 ∙ ap (option_map (λ (n : Place × Node). n.0)) (contained-at nodes node there)

some_same : (a b : Place × Node) → ◌≡◌ {A = Option (Place × Node)} (Some a) (Some b) → a ≡ b
some_same a b e = cc

-- and at a place stands one node
pub place-once : (root : Root) (reached : List Place) (nodes : List (Place × Node)) (level index level' index' : ℕ) (one other : Place) → MayBeRead root reached (map (λ (n : Place × Node). n.0) nodes)
    → StandsAt nodes level index one → StandsAt nodes level' index' other → one.0 ≡ other.0 → (level ≡ level') × (index ≡ index')
place-once root reached nodes level index level' index' one other may a b e =
    let made : ℕ → Place = λ n. record { 0 = n } in
    let same : one ≡ other = ap made e in
    let at : a.there.0 ≡ b.there.0 = may.apart a.there.0 b.there.0 other (contained-place nodes (one, a.node) a.there ∙ ap Some same) (contained-place nodes (other, b.node) b.there) in
    let all : (one, a.node) ≡ (other, b.node) =
    some_same (one, a.node) (other, b.node) (sym (contained-at nodes (one, a.node) a.there) ∙ (ap (λ k. slice_get nodes k) at ∙ contained-at nodes (other, b.node) b.there)) in
    (sym a.level_is ∙ (ap (λ (n : Place × Node). n.1.level) all ∙ b.level_is), sym a.index_is ∙ (ap (λ (n : Place × Node). n.1.index) all ∙ b.index_is))

-- ---- places among others

pub is_among-append : (number : ℕ) (xs ys : List Place) → is_among number (xs ++ ys) ≡ cond (is_among number xs) true (is_among number ys)
is_among-append number [] ys = refl
is_among-append number (x ∷ xs) ys = by_number (x.0 == number) (is_among-append number xs ys)
  where
    by_number : (b : Bool) → is_among number (xs ++ ys) ≡ cond (is_among number xs) true (is_among number ys) → cond b true (is_among number (xs ++ ys)) ≡ cond (cond b true (is_among number xs)) true (is_among number ys)
    by_number true later = refl
    by_number false later = later

among_at : (nodes : List (Place × Node)) (k : ℕ) (node : Place × Node) → k < length nodes → get_or nodes k node ≡ node → is_among node.0.0 (map (λ (n : Place × Node). n.0) nodes) ≡ true
among_at [] k node below e = absurd (omega (arith, below))
among_at (x ∷ nodes) zero node below e = subst (λ (n : Place × Node). is_among n.0.0 (map (λ (m : Place × Node). m.0) (x ∷ nodes)) ≡ true) e (rw (yes x.0.0) refl)
among_at (x ∷ nodes) (suc k) node below e = or_true (x.0.0 == node.0.0) (is_among node.0.0 (map (λ (n : Place × Node). n.0) nodes)) (among_at nodes k node (omega (arith, below)) e)

-- the place of a node is one of those of all
pub contained-among : (nodes : List (Place × Node)) (node : Place × Node) → Contains nodes node → is_among node.0.0 (map (λ (n : Place × Node). n.0) nodes) ≡ true
contained-among nodes node there = among_at nodes there.0 node there.1 there.2

-- and one of those is the place of a node
pub record HasNumber (nodes : List (Place × Node)) (number : ℕ) : Type 0 where
  pub node : Place × Node
  pub there : Contains nodes node
  pub is : node.0.0 ≡ number

pub among-contained : (nodes : List (Place × Node)) (number : ℕ) → is_among number (map (λ (n : Place × Node). n.0) nodes) ≡ true → HasNumber nodes number
among-contained [] number h = absurd (false≢true h)
among-contained (x ∷ nodes) number h = by_number (x.0.0 == number) refl h (among-contained nodes number)
  where
    by_number : (b : Bool) → (x.0.0 == number) ≡ b → cond b true (is_among number (map (λ (n : Place × Node). n.0) nodes)) ≡ true → (is_among number (map (λ (n : Place × Node). n.0) nodes) ≡ true → HasNumber nodes number)
        → HasNumber (x ∷ nodes) number
    by_number true e t later = record { node = x; there = (0, omega arith, refl); is = eqb-true _ _ e }
    by_number false e t later = let one = later t in record { node = one.node; there = (suc one.there.0, omega (arith, one.there.1), one.there.2); is = one.is }
