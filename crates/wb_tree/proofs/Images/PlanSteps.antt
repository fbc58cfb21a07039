-- The nodes that are planned, one after the other.
use Rattle.std.proofs.Common.{◌≡◌, ◌≤◌, ◌<◌, ◌+◌, ◌-◌, ◌*◌, ◌/◌, ◌^◌, ◌&&◌, ◌==◌, ◌∙◌, sym, ap, subst, refl, ℕ, zero, suc, true, false, is_some, List, [], ◌∷◌, ◌++◌, Option, Some, None, map, replicate, take, length, append_assoc, arith, inl, inr}
use Rattle.std.specs.Prelude.{IsSome, slice_get, slice_index_or}
use Rattle.std.specs.List.{AllByRecursion}
use Rattle.std.proofs.lemmas.Bool.{cases_Bool}
use Rattle.std.proofs.lemmas.List.{length-append, length-map, map-append, take_more, length_push}
use Rattle.std.proofs.lemmas.List.Elements.{All-push}
use Rattle.std.proofs.lemmas.Option.{get_or_from_slice_get}
use Rattle.std.proofs.Math.Nat.{pow-succ'}
use Rattle.wb_types.specs.declared.number.Place.{Place}
use Rattle.wb_types.specs.declared.version.Version.{Version}
use Rattle.wb_types.specs.declared.version.Version.TheVariants.{One, Two}
use Rattle.wb_format.specs.declared.node.Node.{Node}
use Rattle.wb_types.specs.declared.entry.Entry.{Entry}
use Rattle.wb_format.specs.NodeWords.{IsInnerWord, entry_word, kept}
use Rattle.wb_tree.specs.Mapping.{Mapping, NodeName, IsSound, exists, each_from, nodes_below, nodes_of, changed, changed_of, place_in, place_of}
use Rattle.wb_tree.specs.Images.{kept_tree, name_of, word_at, place_word}
use Rattle.wb_tree.specs.Planning.{placed, planned, levels, changed_below, names, Begins, MayPlan, IsWritten, AreWritten}
use Rattle.wb_tree.proofs.Nodes.Names.{AreApart, has, has_not, nodes_below-exist, nodes_below-apart}
use Rattle.wb_tree.proofs.Nodes.Placing.{placed-none, placed-is, placed-behind}
use Rattle.wb_tree.proofs.Nodes.Listing.{each_from-more, each_from-split, nodes_below-open, nodes_below-shut, leaf-children}
use Rattle.wb_tree.proofs.Branching.Looks.{else_place, place_append}
use Rattle.wb_tree.proofs.Reading.PlacedLists.{place_in-append_none}

-- ---- the changed nodes among some

pub changed_of-append : (m : Mapping) (xs ys : List NodeName) → changed_of m (xs ++ ys) ≡ changed_of m xs ++ changed_of m ys
changed_of-append m [] ys = refl
changed_of-append m (x ∷ xs) ys = elim (cases_Bool (is_some (place_of m x.level x.index))) [
  | inl known ↦ rw known (changed_of-append m xs ys)
  | inr new ↦ rw new (ap (λ (zs : List NodeName). x ∷ zs) (changed_of-append m xs ys))
]

changed_of-each : (m : Mapping) (f : ℕ → List NodeName) (count first : ℕ) → changed_of m (each_from f count first) ≡ each_from (λ i. changed_of m (f i)) count first
unfolding each_from
changed_of-each m f zero first = refl
changed_of-each m f (suc count) first =
    changed_of-append m (f first) (each_from f count (first + 1)) ∙ ap (λ (xs : List NodeName). changed_of m (f first) ++ xs) (changed_of-each m f count (first + 1))

-- what holds of nodes holds of the changed ones
pub changed_of-all : (m : Mapping) (P : NodeName → Type 0) (nodes : List NodeName) → AllByRecursion P nodes → AllByRecursion P (changed_of m nodes)
changed_of-all m P [] all = tt
changed_of-all m P (node ∷ nodes) all = elim (cases_Bool (is_some (place_of m node.level node.index))) [
  | inl known ↦ rw known (changed_of-all m P nodes all.1)
  | inr new ↦ rw new (all.0, changed_of-all m P nodes all.1)
]

pub changed_of-has : (m : Mapping) (nodes : List NodeName) (level index : ℕ) → has nodes level index ≡ false → has (changed_of m nodes) level index ≡ false
changed_of-has m [] level index none = refl
changed_of-has m (node ∷ nodes) level index none = elim (cases_Bool ((node.level == level) && (node.index == index))) [
  | inl same ↦ absurd (let e : true ≡ false = (rw (← none) (rw same refl)) in cc)
  | inr other ↦
      let rest : has nodes level index ≡ false = rw (← none) (rw other refl) in
      elim (cases_Bool (is_some (place_of m node.level node.index))) [
        | inl known ↦ rw known (changed_of-has m nodes level index rest)
        | inr new ↦ rw (new, other) (changed_of-has m nodes level index rest)
      ]
]

pub changed_of-apart : (m : Mapping) (nodes : List NodeName) → AreApart nodes → AreApart (changed_of m nodes)
changed_of-apart m [] apart = tt
changed_of-apart m (node ∷ nodes) apart = elim (cases_Bool (is_some (place_of m node.level node.index))) [
  | inl known ↦ rw known (changed_of-apart m nodes apart.1)
  | inr new ↦ rw new (changed_of-has m nodes node.level node.index apart.0, changed_of-apart m nodes apart.1)
]

pub changed_of-few : (m : Mapping) (nodes : List NodeName) → length (changed_of m nodes) ≤ length nodes
changed_of-few m [] = omega arith
changed_of-few m (node ∷ nodes) = elim (cases_Bool (is_some (place_of m node.level node.index))) [
  | inl known ↦ rw known (omega (arith, changed_of-few m nodes))
  | inr new ↦ rw new (omega (arith, changed_of-few m nodes))
]

pub changed-apart : (m : Mapping) → AreApart (changed m (levels m))
changed-apart m = changed_of-apart m (nodes_of m.entries (levels m)) (nodes_below-apart m.entries (levels m) 0)

pub changed-exist : (m : Mapping) → AllByRecursion (λ node. exists m.entries node.level node.index ≡ true) (changed m (levels m))
changed-exist m = changed_of-all m (λ node. exists m.entries node.level node.index ≡ true) (nodes_of m.entries (levels m)) (nodes_below-exist m.entries (levels m) 0)

-- ---- the changed nodes at and below a node

-- nothing changed where nothing changed at any child
nothing_each : (m : Mapping) (f : ℕ → List NodeName) (count first : ℕ) → ((i : ℕ) → first ≤ i → i < first + count → changed_of m (f i) ≡ []) → changed_of m (each_from f count first) ≡ []
unfolding each_from
nothing_each m f zero first none = refl
nothing_each m f (suc count) first none =
    changed_of-append m (f first) (each_from f count (first + 1))
    ∙ (ap (λ (xs : List NodeName). xs ++ changed_of m (each_from f count (first + 1))) (none first (omega arith) (omega arith))
    ∙ nothing_each m f count (first + 1) (λ i low high. none i (omega arith) (omega arith)))

-- nothing changed at and below a child of a known node, if nothing changes below known nodes of its level
nothing_at : (m : Mapping) → IsSound m → (level : ℕ) → ((i : ℕ) (place : Place) → place_of m level i ≡ Some place → changed_below m level i ≡ []) → (index i : ℕ) (place : Place) → place_of m (suc level) index ≡ Some place → i / 32 ≡ index
    → changed_below m level i ≡ []
unfolding nodes_below
nothing_at m sound zero none index i place h below = refl
nothing_at m sound (suc level) none index i place h below = elim (cases_Bool (exists m.entries (suc level) i)) [
  | inl some ↦
      let up : suc (suc level) ≡ suc level + 1 = omega arith in
      told (place_of m (suc level) i) refl (sound.known_below (suc level) index i place (omega arith) (subst (λ l. place_of m l index ≡ Some place) up h) below some)
  | inr nothing ↦ ap (λ (ns : List NodeName). changed_of m ns) (nodes_below-shut m.entries (suc level) i nothing)
]
  where
    told : (o : Option Place) → place_of m (suc level) i ≡ o → IsSome o → changed_below m (suc level) i ≡ []
    told None e some = absurd cc
    told (Some there) e some = none i there e

-- at and below a known node nothing changed
pub known_below_nothing : (m : Mapping) → IsSound m → (level index : ℕ) (place : Place) → place_of m level index ≡ Some place → changed_below m level index ≡ []
unfolding nodes_below
known_below_nothing m sound zero index place h = refl
known_below_nothing m sound (suc level) index place h =
    let kids = nothing_each m (nodes_below m.entries level) 32 (32 * index) (λ i low high. nothing_at m sound level (λ i place h. known_below_nothing m sound level i place h) index i place h (omega arith)) in
    let self : changed_of m (record { level = suc level; index = index } ∷ []) ≡ [] = rw h refl in
    elim (cases_Bool (exists m.entries (suc level) index)) [
      | inl some ↦ rw some (
          changed_of-append m (each_from (nodes_below m.entries level) 32 (32 * index)) (record { level = suc level; index = index } ∷ [])
          ∙ (ap (λ (xs : List NodeName). xs ++ changed_of m (record { level = suc level; index = index } ∷ [])) kids ∙ self))
      | inr none ↦ rw none refl
    ]

-- at and below a node that does not exist there is none
pub shut_below : (m : Mapping) (level index : ℕ) → exists m.entries level index ≡ false → changed_below m level index ≡ []
shut_below m level index none = ap (λ (ns : List NodeName). changed_of m ns) (nodes_below-shut m.entries level index none)

-- a node that changed comes after what changed below its children
pub open_below : (m : Mapping) (level index : ℕ) → 1 ≤ level → exists m.entries level index ≡ true → place_of m level index ≡ None
    → changed_below m level index ≡ each_from (changed_below m (level - 1)) 32 (32 * index) ++ record { level = level; index = index } ∷ []
open_below m level index some e none =
    ap (λ (ns : List NodeName). changed_of m ns) (nodes_below-open m.entries level index some e)
    ∙ (changed_of-append m (each_from (nodes_below m.entries (level - 1)) 32 (32 * index)) (record { level = level; index = index } ∷ [])
    ∙ (ap (λ (ns : List NodeName). ns ++ changed_of m (record { level = level; index = index } ∷ [])) (changed_of-each m (nodes_below m.entries (level - 1)) 32 (32 * index))
    ∙ ap (λ (ns : List NodeName). each_from (changed_below m (level - 1)) 32 (32 * index) ++ ns) (rw none refl)))

-- below a leaf there is none
pub leaf_below : (m : Mapping) (level first : ℕ) → level ≡ 1 → each_from (changed_below m (level - 1)) 32 first ≡ []
leaf_below m level first e =
    sym (changed_of-each m (nodes_below m.entries (level - 1)) 32 first) ∙ ap (λ (ns : List NodeName). changed_of m ns) (leaf-children m.entries level first e)

-- ---- where the planned nodes stand

-- a known node stands where it stood
pub planned-known : (m : Mapping) (free : List Place) (level index : ℕ) (place : Place) → place_of m level index ≡ Some place → place_of (planned m free) level index ≡ Some place
unfolding planned
planned-known m free level index place h =
    place_append m.known (placed (changed m (levels m)) free) level index ∙ ap (λ o. else_place o (place_in (placed (changed m (levels m)) free) level index)) h

-- another where it was placed
pub planned-new : (m : Mapping) (free : List Place) (level index : ℕ) → place_of m level index ≡ None → place_of (planned m free) level index ≡ place_in (placed (changed m (levels m)) free) level index
unfolding planned
planned-new m free level index none = place_in-append_none m.known (placed (changed m (levels m)) free) level index none

-- what does not exist has no place
pub planned-none : (m : Mapping) (free : List Place) (level index : ℕ) → exists m.entries level index ≡ false → place_of m level index ≡ None → place_of (planned m free) level index ≡ None
planned-none m free level index nothing none =
    planned-new m free level index none
    ∙ placed-none (changed m (levels m)) free level index (has_not (λ node. exists m.entries node.level node.index ≡ true) (changed m (levels m)) level index (changed-exist m) (λ some. absurd cc))

-- ---- which node comes next

-- with two lists the nodes begin with the first
pub begins-front : (m : Mapping) (front more : List NodeName) → Begins m (front ++ more) → Begins m front
begins-front m front more h = record { rest = more ++ h.rest; is = h.is ∙ append_assoc front more h.rest }

-- and with any list that is the same
pub begins-same : (m : Mapping) (front front' : List NodeName) → front ≡ front' → Begins m front → Begins m front'
begins-same m front front' e h = subst (Begins m) e h

-- with the changed nodes at and below a node begin those of its children
pub begins-children : (m : Mapping) (front : List NodeName) (level index : ℕ) → 1 ≤ level → exists m.entries level index ≡ true → place_of m level index ≡ None
    → Begins m (front ++ changed_below m level index) → Begins m (front ++ each_from (changed_below m (level - 1)) 32 (32 * index))
begins-children m front level index some e none h =
    let children : List NodeName = each_from (changed_below m (level - 1)) 32 (32 * index) in
    let self : List NodeName = record { level = level; index = index } ∷ [] in
    begins-front m (front ++ children) self
    (begins-same m (front ++ changed_below m level index) (front ++ children ++ self) (ap (λ (ns : List NodeName). front ++ ns) (open_below m level index some e none) ∙ sym (append_assoc front children self)) h)

-- with the next child are written the children so far and that one
pub child-more : (front : List NodeName) (f : ℕ → List NodeName) (j first : ℕ) (written : List NodeName) → written ≡ front ++ each_from f j first
    → written ++ f (first + j) ≡ front ++ each_from f (j + 1) first
child-more front f j first written same =
    ap (λ (ns : List NodeName). ns ++ f (first + j)) same ∙ (append_assoc front (each_from f j first) (f (first + j)) ∙ ap (λ (ns : List NodeName). front ++ ns) (sym (each_from-more f j first)))

-- behind the children so far come the next child and the nodes below it
pub next-child : (m : Mapping) (front : List NodeName) (f : ℕ → List NodeName) (j first : ℕ) (written : List NodeName) → j < 32
    → Begins m (front ++ each_from f 32 first) → written ≡ front ++ each_from f j first → Begins m (written ++ f (first + j))
next-child m front f j first written below h same =
    let all : j + 1 + (31 - j) ≡ 32 = omega arith in
    let others : List NodeName = each_from f (31 - j) (first + (j + 1)) in
    let split : each_from f 32 first ≡ each_from f (j + 1) first ++ others = ap (λ k. each_from f k first) (sym all) ∙ each_from-split f (j + 1) (31 - j) first in
    let front' : Begins m (front ++ each_from f (j + 1) first) =
    begins-front m (front ++ each_from f (j + 1) first) others
    (begins-same m (front ++ each_from f 32 first) (front ++ each_from f (j + 1) first ++ others) (ap (λ (ns : List NodeName). front ++ ns) split ∙ sym (append_assoc front (each_from f (j + 1) first) others)) h) in
    begins-same m (front ++ each_from f (j + 1) first) (written ++ f (first + j)) (sym (child-more front f j first written same)) front'

-- behind the children that are written comes the node
pub next-node : (m : Mapping) (front : List NodeName) (level index : ℕ) (written : List NodeName) → 1 ≤ level → exists m.entries level index ≡ true → place_of m level index ≡ None
    → written ≡ front ++ each_from (changed_below m (level - 1)) 32 (32 * index)
    → written ++ record { level = level; index = index } ∷ [] ≡ front ++ changed_below m level index
next-node m front level index written some e none same =
    let children : List NodeName = each_from (changed_below m (level - 1)) 32 (32 * index) in
    let self : List NodeName = record { level = level; index = index } ∷ [] in
    ap (λ (ns : List NodeName). ns ++ self) same ∙ (append_assoc front children self ∙ ap (λ (ns : List NodeName). front ++ ns) (sym (open_below m level index some e none)))

-- the nodes that are written are fewer than the places
pub next-inside : (m : Mapping) (free : List Place) (front : List NodeName) (node : NodeName) → MayPlan m free → Begins m (front ++ node ∷ []) → length front < length free
next-inside m free front node may h =
    let all = ap (λ (ns : List NodeName). length ns) h.is in
    let enough = may.enough in
    omega (arith, length-append (front ++ node ∷ []) h.rest, length-append front (node ∷ []))

-- the next node is planned at the next place
pub next-place : (m : Mapping) (free : List Place) (front : List NodeName) (node : NodeName) → MayPlan m free → place_of m node.level node.index ≡ None → Begins m (front ++ node ∷ [])
    → place_of (planned m free) node.level node.index ≡ slice_get free (length front)
next-place m free front node may none h =
    let shape : changed m (levels m) ≡ front ++ node ∷ h.rest = h.is ∙ append_assoc front (node ∷ []) h.rest in
    let apart : AreApart (front ++ node ∷ h.rest) = subst AreApart shape (changed-apart m) in
    planned-new m free node.level node.index none
    ∙ (ap (λ (ns : List NodeName). place_in (placed ns free) node.level node.index) shape ∙ placed-behind front h.rest node free apart (next-inside m free front node may h))

-- nodes with one more stand at the first of the places
pub places-more : (free : List Place) (nodes : List (Place × Node)) (node : Place × Node) → map (λ n. n.0) nodes ≡ take (length nodes) free → length nodes < length free → slice_get free (length nodes) ≡ Some node.0
    → map (λ n. n.0) (nodes ++ node ∷ []) ≡ take (length (nodes ++ node ∷ [])) free
places-more free nodes node places inside there =
    map-append (λ (n : Place × Node). n.0) nodes (node ∷ [])
    ∙ (ap (λ (ps : List Place). ps ++ node.0 ∷ []) places
    ∙ (ap (λ (p : Place). take (length nodes) free ++ p ∷ []) (sym (get_or_from_slice_get free (length nodes) node.0 node.0 there))
    ∙ (sym (take_more free (length nodes) node.0 inside) ∙ ap (λ k. take k free) (sym (length_push nodes node)))))

-- a node more is written
pub written-more : (version : Version) (m : Mapping) (generation : ℕ) (free : List Place) (nodes : List (Place × Node)) (node : Place × Node) → AreWritten version m generation free nodes → length nodes < length free
    → slice_get free (length nodes) ≡ Some node.0 → IsWritten version m generation node → AreWritten version m generation free (nodes ++ node ∷ [])
written-more version m generation free nodes node h inside there one = record {
  places = places-more free nodes node h.places inside there;
  each = All-push (IsWritten version m generation) nodes node h.each one;
}

-- what is known when a node comes behind its children
pub record IsNext (m : Mapping) (free : List Place) (front : List NodeName) (level index : ℕ) (nodes : List (Place × Node)) : Type 0 where
  pub inside : length nodes < length free
  pub listed : names nodes ++ record { level = level; index = index } ∷ [] ≡ front ++ changed_below m level index
  pub place : place_of (planned m free) level index ≡ slice_get free (length nodes)

-- behind the nodes below it that node is next
pub next-is : (m : Mapping) (free : List Place) (front : List NodeName) (level index : ℕ) (nodes : List (Place × Node)) → MayPlan m free → 1 ≤ level
    → exists m.entries level index ≡ true → place_of m level index ≡ None → Begins m (front ++ changed_below m level index) → names nodes ≡ front ++ each_from (changed_below m (level - 1)) 32 (32 * index)
    → IsNext m free front level index nodes
next-is m free front level index nodes may some e none h same =
    let node : NodeName = record { level = level; index = index } in
    let listed : names nodes ++ node ∷ [] ≡ front ++ changed_below m level index = next-node m front level index (names nodes) some e none same in
    let begins : Begins m (names nodes ++ node ∷ []) = begins-same m (front ++ changed_below m level index) (names nodes ++ node ∷ []) (sym listed) h in
    let long : length (names nodes) ≡ length nodes = length-map nodes (λ (n : Place × Node). name_of n.1) in
    record {
      inside = omega (arith, next-inside m free (names nodes) node may begins);
      listed = listed;
      place = next-place m free (names nodes) node may none begins ∙ ap (λ k. slice_get free k) long;
    }

-- it is written there
pub next-written : (version : Version) (m : Mapping) (free : List Place) (front : List NodeName) (generation level index : ℕ) (nodes new : List (Place × Node)) (node : Place × Node)
    → IsNext m free front level index nodes → AreWritten version (planned m free) generation free nodes → new ≡ nodes ++ node ∷ []
    → node.1.level ≡ level → node.1.index ≡ index → IsWritten version (planned m free) generation node → AreWritten version (planned m free) generation free new
next-written version m free front generation level index nodes new node h written more a b one =
    let n : Mapping = planned m free in
    let here : place_of n node.1.level node.1.index ≡ place_of n level index = ap (λ l. place_of n l node.1.index) a ∙ ap (λ i. place_of n level i) b in
    let there : slice_get free (length nodes) ≡ Some node.0 = sym h.place ∙ (sym here ∙ one.stands) in
    subst (AreWritten version n generation free) (sym more) (written-more version n generation free nodes node written h.inside there one)

-- the names of the nodes with one more
pub names-pushed : (nodes new : List (Place × Node)) (node : Place × Node) → new ≡ nodes ++ node ∷ [] → names new ≡ names nodes ++ name_of node.1 ∷ []
names-pushed nodes new node more = ap names more ∙ map-append (λ (n : Place × Node). name_of n.1) nodes (node ∷ [])

-- ---- the words

-- nothing is kept of no entry
pub kept_none : (version : Version) → kept version None ≡ None
kept_none One = refl
kept_none Two = refl

pub kept_nones : (version : Version) (count : ℕ) → map (kept version) (replicate count None) ≡ replicate count None
kept_nones version zero = refl
kept_nones One (suc count) = ap (λ (entries : List (Option Entry)). None ∷ entries) (kept_nones One count)
kept_nones Two (suc count) = ap (λ (entries : List (Option Entry)). None ∷ entries) (kept_nones Two count)

-- what is kept of entries is kept of each
pub kept_at : (version : Version) (entries : List (Option Entry)) (block : ℕ) → slice_index_or (map (kept version) entries) block None ≡ kept version (slice_index_or entries block None)
kept_at version [] block = sym (kept_none version)
kept_at version (entry ∷ entries) zero = refl
kept_at version (entry ∷ entries) (suc block) = kept_at version entries block

-- the word of a leaf is that of its entry
pub leaf-word : (version : Version) (m : Mapping) (free : List Place) (level index j : ℕ) → level ≡ 1
    → word_at (kept_tree version (planned m free)) level index j ≡ entry_word (kept version (slice_index_or m.entries (32 * index + j) None))
unfolding planned
leaf-word version m free level index j e = ap (λ l. word_at (kept_tree version (planned m free)) l index j) e ∙ ap entry_word (kept_at version m.entries (32 * index + j))

-- the place of a node is a word of its parent
pub inner-word : (m : Mapping) (free : List Place) (level index : ℕ) (place : Option Place) (word : ℕ) → MayPlan m free → place ≡ place_of (planned m free) level index → word ≡ place_word place → word ≤ 4294967295 → IsInnerWord word
inner-word m free level index None word may is e fits = record { no_slot = λ same. absurd (omega arith); place = fits }
inner-word m free level index (Some place) word may is e fits = go (place_of m level index) refl
  where
    go : (o : Option Place) → place_of m level index ≡ o → IsInnerWord word
    go None none =
        let p = placed-is (changed m (levels m)) free level index place (sym (planned-new m free level index none) ∙ sym is) in
        let low = may.behind p.at place p.there in
        record { no_slot = λ same. absurd (omega arith); place = fits }
    go (Some there) known =
        let same : there ≡ place = (let e : Some there ≡ Some place = sym (planned-known m free level index there known) ∙ sym is in cc) in
        let low = may.known_behind place (record { level = level; index = index; known = known ∙ ap Some same }) in
        record { no_slot = λ same. absurd (omega arith); place = fits }

-- the index of a child
pub child-inside : (depth level index j : ℕ) → 2 ≤ level → level ≤ depth → index < 32 ^ (depth - level) → j < 32 → 32 * index + j < 32 ^ (depth - (level - 1))
child-inside depth level index j from to less below =
    let e : depth - (level - 1) ≡ suc (depth - level) = omega arith in
    subst (λ n. 32 * index + j < 32 ^ n) (sym e) (omega (arith, pow-succ' 32 (depth - level), less, below))
