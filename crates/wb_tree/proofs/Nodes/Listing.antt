-- The list of a tree's nodes, one part after the other.
use Rattle.std.proofs.Common.{◌≡◌, ◌≤◌, ◌<◌, ◌+◌, ◌-◌, ◌*◌, ◌∙◌, sym, ap, refl, ℕ, zero, suc, Bool, true, false, cond, List, [], ◌∷◌, ◌++◌, Option, length, append_assoc, arith}
use Rattle.std.proofs.lemmas.List.{append-nil}
use Rattle.wb_types.specs.declared.entry.Entry.{Entry}
use Rattle.wb_tree.specs.Mapping.{NodeName, exists, each_from, nodes_below}
use Rattle.wb_tree.proofs.Nodes.Fronts.{begins_inside}
use Rattle.wb_tree.proofs.Reading.Steps.{index_below}

-- one list more
pub each_from-more : (f : ℕ → List NodeName) (count first : ℕ) → each_from f (count + 1) first ≡ each_from f count first ++ f (first + count)
unfolding each_from
each_from-more f zero first = let none : first + 0 ≡ first = omega arith in append-nil (f first) ∙ ap f (sym none)
each_from-more f (suc count) first =
    let next : first + 1 + count ≡ first + suc count = omega arith in
    let one : suc count + 1 ≡ suc (count + 1) = omega arith in
    ap (λ k. each_from f k first) one
    ∙ ap (λ (xs : List NodeName). f first ++ xs) (each_from-more f count (first + 1) ∙ ap (λ k. each_from f count (first + 1) ++ f k) next)
    ∙ sym (append_assoc (f first) (each_from f count (first + 1)) (f (first + suc count)))

-- lists up to some number, and the others
pub each_from-split : (f : ℕ → List NodeName) (few more first : ℕ) → each_from f (few + more) first ≡ each_from f few first ++ each_from f more (first + few)
unfolding each_from
each_from-split f zero more first =
    let none : zero + more ≡ more = omega arith in
    let here : first + zero ≡ first = omega arith in
    rw (none, here) refl
each_from-split f (suc few) more first =
    let one : suc few + more ≡ suc (few + more) = omega arith in
    let next : first + 1 + few ≡ first + suc few = omega arith in
    ap (λ k. each_from f k first) one
    ∙ (ap (λ (xs : List NodeName). f first ++ xs) (each_from-split f few more (first + 1) ∙ ap (λ k. each_from f few (first + 1) ++ each_from f more k) next)
    ∙ sym (append_assoc (f first) (each_from f few (first + 1)) (each_from f more (first + suc few))))

-- no child is listed yet
pub each_from-none : (front : List NodeName) (f : ℕ → List NodeName) (first : ℕ) → front ≡ front ++ each_from f 0 first
unfolding each_from
each_from-none front f first = sym (append-nil front)

-- ---- the nodes at and below a node

open_cond : (b : Bool) (nodes : List NodeName) → b ≡ true → cond b nodes [] ≡ nodes
open_cond true nodes e = refl
open_cond false nodes e = absurd cc

shut_cond : (b : Bool) (nodes : List NodeName) → b ≡ false → cond b nodes [] ≡ []
shut_cond true nodes e = absurd cc
shut_cond false nodes e = refl

-- a node that exists comes after what is listed of its children
pub nodes_below-open : (entries : List (Option Entry)) (level index : ℕ) → 1 ≤ level → exists entries level index ≡ true
    → nodes_below entries level index ≡ each_from (nodes_below entries (level - 1)) 32 (32 * index) ++ record { level = level; index = index } ∷ []
unfolding nodes_below
nodes_below-open entries zero index some e = absurd (omega arith)
nodes_below-open entries (suc level) index some e =
    let below : suc level - 1 ≡ level = omega arith in
    rw below (open_cond (exists entries (suc level) index) (each_from (nodes_below entries level) 32 (32 * index) ++ record { level = suc level; index = index } ∷ []) e)

-- nothing is listed at and below a node that does not exist
pub nodes_below-shut : (entries : List (Option Entry)) (level index : ℕ) → exists entries level index ≡ false → nodes_below entries level index ≡ []
unfolding nodes_below
nodes_below-shut entries zero index e = refl
nodes_below-shut entries (suc level) index e = shut_cond (exists entries (suc level) index) (each_from (nodes_below entries level) 32 (32 * index) ++ record { level = suc level; index = index } ∷ []) e

-- no node lies below a leaf
none_below : (entries : List (Option Entry)) (count first : ℕ) → each_from (nodes_below entries 0) count first ≡ []
unfolding each_from nodes_below
none_below entries zero first = refl
none_below entries (suc count) first = none_below entries count (first + 1)

-- a leaf has no children
pub leaf-children : (entries : List (Option Entry)) (level first : ℕ) → level ≡ 1 → each_from (nodes_below entries (level - 1)) 32 first ≡ []
leaf-children entries level first e = ap (λ l. each_from (nodes_below entries (l - 1)) 32 first) e ∙ none_below entries 32 first

-- ---- where a node begins

-- a node that exists has an index below the number of entries
pub exists-before : (entries : List (Option Entry)) (level index : ℕ) → exists entries level index ≡ true → index < length entries
exists-before entries level index e = index_below index level (length entries) (begins_inside entries level index e)
