-- The tree that was found, where every node that was reached has an entry below it: what holds of every tree holds of it, no
-- node counts as changed, and each is read as the tree has it.
use Rattle.std.proofs.Common.{◌≡◌, ◌≤◌, ◌<◌, ◌+◌, ◌*◌, ◌/◌, ◌^◌, ◌∙◌, sym, ap, subst, refl, ℕ, suc, true, List, [], ◌∷◌, Option, Some, None, Ok, length, get_or, take, drop, arith}
use Rattle.std.specs.Prelude.{IsSome, is_some, slice_index_or, All}
use Rattle.std.specs.List.{list_any, AllByRecursion}
use Rattle.std.proofs.lemmas.List.{get_or-take, get_or-drop, length-take}
use Rattle.std.proofs.lemmas.Nat.{div-mul-add}
use Rattle.wb_types.specs.declared.entry.Entry.{Entry}
use Rattle.wb_types.specs.Limits.{depth_of}
use Rattle.wb_format.specs.declared.root.Root.{Root}
use Rattle.wb_format.specs.declared.node.Node.{Node}
use Rattle.wb_tree.specs.declared.placed.PlacedNode.{PlacedNode}
use Rattle.wb_tree.specs.Mapping.{Mapping, NodeName, IsSound, AreInside, place_in, place_of, exists, nodes_of, changed, changed_of}
use Rattle.wb_tree.specs.Reading.{Found, Nodes, tree_read}
use Rattle.wb_tree.specs.Images.{AreRead, word_at, name_of}
use Rattle.wb_tree.specs.Loaded.{NodesHaveEntries, IsLoaded}
use Rattle.wb_tree.specs.Fields.{AreApart}
use Rattle.wb_tree.proofs.Nodes.Names.{IsBelow, nodes_below-below, nodes_below-exist}
use Rattle.wb_tree.proofs.Reading.RightNodes.{right_node}
use Rattle.wb_tree.proofs.Reading.PlacedLists.{one_name, place_in-reached, place_in-member, member-named}
use Rattle.wb_tree.proofs.Reading.LoaderSteps.{depth_range}
use Rattle.wb_tree.proofs.Nodes.Counting.{count-reached}
use Rattle.wb_tree.proofs.Reading.Grown.{tree_with}
use Rattle.wb_tree.proofs.Reading.KnownTree.{IsKnownTree, known_tree}

-- ---- a node that exists has an entry below it

record AnEntry (entries : List (Option Entry)) (index width : ℕ) : Type 0 where
  block : ℕ
  under : block / width ≡ index
  there : IsSome (slice_index_or entries block None)

record Somewhere (entries : List (Option Entry)) : Type 0 where
  number : ℕ
  inside : number < length entries
  there : IsSome (slice_index_or entries number None)

some_entry : (entries : List (Option Entry)) → list_any is_some entries ≡ true → Somewhere entries
some_entry [] h = absurd cc
some_entry (None ∷ entries) h = let w = some_entry entries h in let i = w.inside in record { number = suc w.number; inside = omega arith; there = w.there }
some_entry (Some entry ∷ entries) h = record { number = 0; inside = omega arith; there = refl }

entry_below : (entries : List (Option Entry)) (level index : ℕ) → exists entries level index ≡ true → AnEntry entries index (32 ^ level)
unfolding exists
entry_below entries level index h =
    let w = some_entry (take (32 ^ level) (drop (index * 32 ^ level) entries)) h in
    let i = w.inside in
    let less : w.number < 32 ^ level = omega (arith, length-take (32 ^ level) (drop (index * 32 ^ level) entries)) in
    record {
      block = index * 32 ^ level + w.number;
      under = div-mul-add index (32 ^ level) w.number less;
      there = ap (λ (o : Option Entry). is_some o) (sym (get_or-take (32 ^ level) (drop (index * 32 ^ level) entries) w.number None less ∙ get_or-drop (index * 32 ^ level) entries w.number None)) ∙ w.there;
    }

-- a node that exists was reached
reached_if : (root : Root) (nodes : Nodes) (found : Found) (level index : ℕ) → IsKnownTree root nodes found → 1 ≤ level → level ≤ depth_of root.geometry.cache_blocks → exists found.entries level index ≡ true
    → IsSome (place_in found.reached level index)
reached_if root nodes found level index h from to some =
    let w = entry_below found.entries level index some in
    subst (λ i. IsSome (place_in found.reached level i)) w.under (h.covered w.block w.there level from to)

pub loaded_sound : (root : Root) (nodes : Nodes) (found : Found) → IsKnownTree root nodes found → NodesHaveEntries found → IsSound (tree_with found found.reached)
loaded_sound root nodes found h whole = record {
  known_level = λ level index place e. let l = h.levels level index place e in let same = ap depth_of h.size in let to = l.1 in (l.0, omega (arith, same));
  known_exist = λ level index place e.
      let m = place_in-member found.reached level index place e in
      let node : PlacedNode = record { level = level; index = index; place = place } in
      ap (λ l. exists found.entries l index) (sym (m.same_level node)) ∙ (ap (λ i. exists found.entries (get_or found.reached m.number node).level i) (sym (m.same_index node)) ∙ whole m.number node m.inside);
  known_below = λ level index child place from e under some.
      let to = (h.levels (level + 1) index place e).1 in
      reached_if root nodes found level child h from (omega arith) some;
  apart = λ level index level' index' place e e'. one_name found.reached level index level' index' place h.apart e e';
}

-- nothing counts as changed
none_changed : (m : Mapping) (names : List NodeName) → ((name : NodeName) → IsBelow (depth_of (length m.entries)) 0 1 name → exists m.entries name.level name.index ≡ true → IsSome (place_of m name.level name.index))
    → AllByRecursion (IsBelow (depth_of (length m.entries)) 0 1) names → AllByRecursion (λ name. exists m.entries name.level name.index ≡ true) names → changed_of m names ≡ []
none_changed m [] known below some = refl
none_changed m (name ∷ names) known below some =
    let here : is_some (place_of m name.level name.index) ≡ true = known name below.0 some.0 in
    rw here (none_changed m names known below.1 some.1)

pub loaded_whole : (root : Root) (nodes : Nodes) (found : Found) → IsKnownTree root nodes found → changed (tree_with found found.reached) (depth_of root.geometry.cache_blocks) ≡ []
loaded_whole root nodes found h =
    let same : depth_of (length found.entries) ≡ depth_of root.geometry.cache_blocks = ap depth_of h.size in
    subst (λ depth. changed (tree_with found found.reached) depth ≡ []) same
    (none_changed (tree_with found found.reached) (nodes_of found.entries (depth_of (length found.entries)))
    (λ name below some. let to = below.to in reached_if root nodes found name.level name.index h below.from (omega (arith, same)) some)
    (nodes_below-below found.entries (depth_of (length found.entries)) 0) (nodes_below-exist found.entries (depth_of (length found.entries)) 0))

pub loaded_inside : (root : Root) (nodes : Nodes) (found : Found) → IsKnownTree root nodes found → AreInside root.geometry.meta_sectors (tree_with found found.reached)
loaded_inside root nodes found h place known = h.inside known.level known.index place known.known

-- ---- what was read

name_is : (node : Node) (level index : ℕ) → node.level ≡ level → node.index ≡ index → name_of node ≡ record { level = level; index = index }
name_is node level index a b =
    let named : ℕ → ℕ → NodeName = λ l i. record { level = l; index = i } in
    ap (λ l. named l node.index) a ∙ ap (λ i. named level i) b

pub loaded_read : (root : Root) (nodes : Nodes) (found : Found) → IsKnownTree root nodes found → AreRead nodes (tree_with found found.reached) root.generation
loaded_read root nodes found h level index place e =
    let w = h.right level index place e in
    let is = right_node root level index w.node w.right in
    record {
      node = w.node;
      reads = w.reads;
      right = record {
        mapping = is.mapping;
        name = name_is w.node level index is.level_is is.index_is;
        not_newer = is.not_newer;
        words = λ j lt. w.words j lt ∙ (ap (λ x. word_at (tree_with found found.reached) x index j) (sym is.level_is) ∙ ap (λ x. word_at (tree_with found found.reached) w.node.level x j) (sym is.index_is));
      };
    }

-- ---- a tree that is made of what was found

with_known : List (Option Entry) → List PlacedNode → Mapping
with_known entries known = record { entries = entries; known = known }

-- nothing is known
unknown_sound : (entries : List (Option Entry)) → IsSound (with_known entries [])
unfolding with_known
unknown_sound entries = record {
  known_level = λ level index place e. absurd cc;
  known_exist = λ level index place e. absurd cc;
  known_below = λ level index child place from e under some. absurd cc;
  apart = λ level index level' index' place e e'. absurd cc;
}

-- no node, or all that were reached, can be known
pub none_sound : (entries : List (Option Entry)) → IsSound (record { entries = entries; known = [] })
unfolding with_known
none_sound entries = unknown_sound entries

pub reached_apart : (root : Root) (nodes : Nodes) (found : Found) → tree_read root nodes ≡ Ok found → AreApart found.reached
reached_apart root nodes found reads = (known_tree root nodes found reads).once

pub reached_sound : (root : Root) (nodes : Nodes) (found : Found) → tree_read root nodes ≡ Ok found → NodesHaveEntries found → IsSound (record { entries = found.entries; known = found.reached })
reached_sound root nodes found reads whole = loaded_sound root nodes found (known_tree root nodes found reads) whole

-- what a tree knows that was made so
unknown_read : (entries : List (Option Entry)) (nodes : Nodes) (generation : ℕ) → AreRead nodes (with_known entries []) generation
unfolding with_known
unknown_read entries nodes generation level index place e = absurd cc

pub loaded_none : (root : Root) (told : Nodes) (found : Found) (m : Mapping) → tree_read root told ≡ Ok found → m.entries ≡ found.entries → m.known ≡ [] → (NodesHaveEntries found → ⊥) → IsLoaded root found m
unfolding with_known
loaded_none root told found m reads entries known broken =
    let tree : with_known m.entries [] ≡ m = ap (λ ks. with_known m.entries ks) (sym known) in
    subst (IsLoaded root found) tree (record {
      sound = unknown_sound m.entries;
      inside = λ place p. absurd (let e = p.known in cc);
      reached = λ place p. absurd (let e = p.known in cc);
      read = λ nodes reads. unknown_read m.entries nodes root.generation;
      few = count-reached root told found reads;
      none_changed = λ whole. absurd (broken whole);
    })

pub loaded_all : (root : Root) (told : Nodes) (found : Found) (m : Mapping) → tree_read root told ≡ Ok found → m.entries ≡ found.entries → m.known ≡ found.reached → NodesHaveEntries found → IsLoaded root found m
unfolding with_known
loaded_all root told found m reads entries known whole =
    let h = known_tree root told found reads in
    let tree : with_known found.entries found.reached ≡ m = ap (λ es. with_known es found.reached) (sym entries) ∙ ap (λ ks. with_known m.entries ks) (sym known) in
    subst (IsLoaded root found) tree (record {
      sound = loaded_sound root told found h whole;
      inside = loaded_inside root told found h;
      reached = λ place p. place_in-reached found.reached p.level p.index place p.known;
      read = λ nodes again. loaded_read root nodes found (known_tree root nodes found again);
      few = count-reached root told found reads;
      none_changed = λ w. loaded_whole root told found h;
    })

-- each node that was reached is of a level of a tree
pub reached_levels : (root : Root) (nodes : Nodes) (found : Found) → tree_read root nodes ≡ Ok found → All (λ node. node.level ≤ 4) found.reached
reached_levels root nodes found reads k d inside =
    let h = known_tree root nodes found reads in
    let to = (h.levels (get_or found.reached k d).level (get_or found.reached k d).index (get_or found.reached k d).place (member-named found.reached k d h.once inside)).1 in
    let four = (depth_range root.geometry.cache_blocks).1 in
    omega arith

-- the same nodes over the same entries
pub same_exist : (entries others : List (Option Entry)) (nodes same : List PlacedNode) → entries ≡ others → nodes ≡ same → All (λ node. exists entries node.level node.index ≡ true) nodes → All (λ node. exists others node.level node.index ≡ true) same
same_exist entries others nodes same e f h =
    subst (λ ns. All (λ (node : PlacedNode). exists others node.level node.index ≡ true) ns) f (subst (λ es. All (λ (node : PlacedNode). exists es node.level node.index ≡ true) nodes) e h)
