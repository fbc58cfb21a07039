-- A tree of which every node is known, and read as it is, is read without a fault.
use Rattle.std.proofs.Common.{◌≡◌, ◌≤◌, ◌<◌, ◌+◌, ◌*◌, ◌/◌, ◌^◌, ◌∙◌, sym, ap, subst, refl, ℕ, zero, suc, Bool, true, false, cond, List, [], ◌∷◌, ◌++◌, Option, Some, None, Ok, length, get_or, set, replicate, is_some, slice_index, All, arith, inl, inr, append_assoc, append-nil, mul-le-mul_right, mul_assoc, mul_comm, pow-suc, add-mul, one-mul, zero-mul, nat_eq, ltb, leb}
use Rattle.std.proofs.lemmas.Bool.{eqb-true, eq-eqb, le-leb, lt-ltb, leb-true, false≢true, false_from_ne_true, ne_eqb}
use Rattle.std.proofs.lemmas.List.{get_or_past}
use Rattle.std.proofs.Math.Nat.{one-le-pow}
use Rattle.std.proofs.lemmas.List.Elements.{All-nil, All-cons, All-head, All-tail, All-append}
use Rattle.std.proofs.lemmas.Bool.{eqb-true, cases_lt}
use Rattle.wb_types.specs.Limits.{depth_of}
use Rattle.wb_types.specs.declared.entry.Entry.{Entry}
use Rattle.wb_types.specs.declared.number.Place.{Place}
use Rattle.wb_types.specs.declared.number.OBlock.{OBlock}
use Rattle.wb_format.specs.declared.node.Node.{Node}
use Rattle.wb_format.specs.declared.root.Root.{Root}
use Rattle.wb_format.specs.NodeWords.{entry_word}
use Rattle.wb_tree.specs.declared.placed.PlacedNode.{PlacedNode}
use Rattle.wb_tree.specs.Mapping.{Mapping, NodeName, IsSound, IsMapping, AreInside, entry_at, place_of, exists, each_from, nodes_below, changed_of, changed}
use Rattle.wb_tree.specs.Reading.{Found, ReadOutcome, Nodes, ◌then◌, each_step, child_read, names_child, entry_read, entry_in, may_map, is_reached, is_node_of, reached_at, node_read, nothing_found, top_read, tree_read}
use Rattle.wb_tree.specs.Images.{place_word, word_at, IsNodeOf, AreRead}
use Rattle.wb_tree.specs.Whole.{node_first, reached_below, marked, found_of}
use Rattle.wb_tree.proofs.Nodes.Fronts.{shown, shown-none, shown-all, shown-set, shown-skip, marks_to, marks_to-none, marks_to-all, marks_to-set, marks_to-skip, unmarked, nothing_below, begins_inside}
use Rattle.wb_tree.proofs.Images.WordSpelling.{entry_in-word}
use Rattle.wb_tree.proofs.Reading.LoaderSteps.{found_same}
use Rattle.wb_tree.proofs.Reading.Steps.{child_read-named, entry_read-some}
use Rattle.wb_tree.proofs.Reading.NodeSteps.{read_above_leaves}
use Rattle.wb_types.proofs.Lists.{replicate_at}

-- a tree of which every node that is known is read as it is
pub record IsReadable (m : Mapping) (root : Root) (nodes : Nodes) : Type 0 where
  pub mapping : IsMapping root.geometry.cache_blocks root.geometry.origin_blocks m.entries
  pub sound : IsSound m
  pub inside : AreInside root.geometry.meta_sectors m
  pub read : AreRead nodes m root.generation

-- so much was found of the tree: these nodes, and the entries of the first so many cache blocks
pub record IsAt (root : Root) (m : Mapping) (start : ℕ) (reached : List PlacedNode) (found : Found) : Type 0 where
  pub reached_are : found.reached ≡ reached
  pub entries_are : found.entries ≡ shown start m.entries
  pub marks_are : found.mapped ≡ marks_to start m.entries (replicate root.geometry.origin_blocks false)

-- a reading has no fault, and what is found is so
pub record Comes (P : Found → Type 0) (reading : ReadOutcome) : Type 0 where
  pub found : Found
  pub ok : reading ≡ Ok found
  pub so : P found

Comes-same : (P : Found → Type 0) (a b : ReadOutcome) → a ≡ b → Comes P b → Comes P a
Comes-same P a b e h = record { found = h.found; ok = e ∙ h.ok; so = h.so }

Comes-weaker : (P Q : Found → Type 0) (reading : ReadOutcome) → ((found : Found) → P found → Q found) → Comes P reading → Comes Q reading
Comes-weaker P Q reading f h = record { found = h.found; ok = h.ok; so = f h.found h.so }

-- each of some steps goes on from what the one before came to
each_step-comes : (step : ℕ → Found → ReadOutcome) (P : ℕ → Found → Type 0) (count first : ℕ) (found : Found) → P first found
    → ((j : ℕ) (found : Found) → first ≤ j → j < first + count → P j found → Comes (P (suc j)) (step j found)) → Comes (P (first + count)) (each_step step count first found)
unfolding each_step
each_step-comes step P zero first found here each =
    let none : first ≡ first + 0 = omega arith in
    record { found = found; ok = refl; so = subst (λ n. P n found) none here }
each_step-comes step P (suc count) first found here each =
    let one = each first found (omega arith) (omega arith) here in
    let rest = each_step-comes step P count (suc first) one.found one.so (λ j f low high h. each j f (omega arith) (omega arith) h) in
    let end : suc first + count ≡ first + suc count = omega arith in
    record {
      found = rest.found;
      ok = ap (λ (r : ReadOutcome). r then each_step step count (suc first)) one.ok ∙ rest.ok;
      so = subst (λ n. P n rest.found) end rest.so;
    }

-- ---- entries

-- no entry lies in these cache blocks
skipped : (root : Root) (m : Mapping) (start count : ℕ) (reached : List PlacedNode) (found : Found) → IsAt root m start reached found
    → ((block : ℕ) → start ≤ block → block < start + count → get_or m.entries block None ≡ None) → IsAt root m (start + count) reached found
skipped root m start zero reached found h none = let e : start ≡ start + 0 = omega arith in subst (λ n. IsAt root m n reached found) e h
skipped root m start (suc count) reached found h none =
    let before = skipped root m start count reached found h (λ block low high. none block low (omega arith)) in
    let last = none (start + count) (omega arith) (omega arith) in
    let e : suc (start + count) ≡ start + suc count = omega arith in
    subst (λ n. IsAt root m n reached found) e (record {
      reached_are = before.reached_are;
      entries_are = before.entries_are ∙ sym (shown-skip (start + count) m.entries last);
      marks_are = before.marks_are ∙ sym (marks_to-skip (start + count) m.entries (replicate root.geometry.origin_blocks false) last);
    })

inside_of : (entries : List (Option Entry)) (block : ℕ) (entry : Entry) → get_or entries block None ≡ Some entry → block < length entries
inside_of entries block entry e = elim (cases_lt block (length entries)) [
  | inl inside ↦ inside
  | inr past ↦ absurd (cc (get_or_past entries block None past))
]

same_origin : (a b : Entry) → a.origin.0 ≡ b.origin.0 → a.origin ≡ b.origin
same_origin a b e = let made : ℕ → OBlock = λ n. record { 0 = n } in ap made e

may_be : (root : Root) (m : Mapping) (block : ℕ) (reached : List PlacedNode) (found : Found) (entry : Entry) → IsMapping root.geometry.cache_blocks root.geometry.origin_blocks m.entries
    → IsAt root m block reached found → get_or m.entries block None ≡ Some entry → may_map root found.mapped block entry ≡ true
may_be root m block reached found entry mapping h e =
    let within = mapping.within block entry e in
    let here : ltb block root.geometry.cache_blocks ≡ true = lt-ltb _ _ (let i = inside_of m.entries block entry e in let s = mapping.size in omega arith) in
    let there : ltb entry.origin.0 root.geometry.origin_blocks ≡ true = lt-ltb _ _ within.0 in
    let fresh : get_or found.mapped entry.origin.0 false ≡ false =
    ap (λ (marks : List Bool). get_or marks entry.origin.0 false) h.marks_are
    ∙ unmarked block m.entries (replicate root.geometry.origin_blocks false) entry.origin.0
    (λ other same below e' o. let b = mapping.once other block same entry e' e (same_origin same entry o) in absurd (omega arith))
    (replicate_at root.geometry.origin_blocks entry.origin.0 false) in
    rw (here, there, fresh) refl

-- the entry of one cache block
entry_whole : (root : Root) (m : Mapping) (here : Place) (block : ℕ) (reached : List PlacedNode) (found : Found) → IsMapping root.geometry.cache_blocks root.geometry.origin_blocks m.entries
    → IsAt root m block reached found → (o : Option Entry) → get_or m.entries block None ≡ o → Comes (IsAt root m (suc block) reached) (entry_read root here block o found)
entry_whole root m here block reached found mapping h None e = record {
  found = found;
  ok = refl;
  so = record {
    reached_are = h.reached_are;
    entries_are = h.entries_are ∙ sym (shown-skip block m.entries e);
    marks_are = h.marks_are ∙ sym (marks_to-skip block m.entries (replicate root.geometry.origin_blocks false) e);
  };
}
entry_whole root m here block reached found mapping h (Some entry) e =
    record {
      found = record { reached = found.reached; entries = set found.entries block (Some entry); mapped = set found.mapped entry.origin.0 true };
      ok = entry_read-some root here block (Some entry) entry found refl (may_be root m block reached found entry mapping h e);
      so = record {
        reached_are = h.reached_are;
        entries_are = ap (λ (entries : List (Option Entry)). set entries block (Some entry)) h.entries_are ∙ shown-set block m.entries (Some entry) e;
        marks_are = ap (λ (marks : List Bool). set marks entry.origin.0 true) h.marks_are ∙ marks_to-set block m.entries (replicate root.geometry.origin_blocks false) entry e;
      };
    }

-- ---- numbers

-- a node's cache blocks are those of its children
first_child : (index power : ℕ) → index * (power * 32) ≡ 32 * index * power
first_child index power = ap (λ n. index * n) (mul_comm power 32) ∙ (sym (mul_assoc index 32 power) ∙ ap (λ n. n * power) (mul_comm index 32))

starts : (index level : ℕ) → index * 32 ^ suc level ≡ (32 * index) * 32 ^ level
starts index level = ap (λ n. index * n) (pow-suc 32 level) ∙ first_child index (32 ^ level)

-- one node more
pub one_more : (n power : ℕ) → n * power + power ≡ (n + 1) * power
one_more n power = sym (add-mul n 1 power ∙ ap (λ k. n * power + k) (one-mul power))

-- ---- nodes

is_right : (root : Root) (m : Mapping) (level index : ℕ) (node : Node) → IsNodeOf m root.generation level index node → is_node_of root level index node ≡ true
is_right root m level index node h =
    let a : nat_eq node.level level ≡ true = eq-eqb _ _ (ap (λ (n : NodeName). n.level) h.name) in
    let b : nat_eq node.index index ≡ true = eq-eqb _ _ (ap (λ (n : NodeName). n.index) h.name) in
    let c : leb node.generation root.generation ≡ true = le-leb _ _ h.not_newer in
    rw (h.mapping, a, b, c) refl

right_word : (root : Root) (m : Mapping) (level index : ℕ) (node : Node) (j : ℕ) → IsNodeOf m root.generation level index node → j < 32 → slice_index node.words j ≡ word_at m level index j
right_word root m level index node j h below =
    h.words j below ∙ (ap (λ l. word_at m l node.index j) (ap (λ (n : NodeName). n.level) h.name) ∙ ap (λ i. word_at m level i j) (ap (λ (n : NodeName). n.index) h.name))

read_leaf : (root : Root) (nodes : Nodes) (index : ℕ) (here : Place) (node : Node) (found : Found) → nodes here.0 ≡ Some node → is_node_of root 1 index node ≡ true
    → node_read root nodes 1 index here found ≡ each_step (λ j. entry_read root here (32 * index + j) (entry_in (slice_index node.words j))) 32 0 (reached_at 1 index here found)
unfolding node_read
read_leaf root nodes index here node found e right = rw (e, right) refl

-- ---- the nodes that were reached

-- a node is one of the tree that was reached: of a level up to this one all its cache blocks were read
pub record IsBefore (m : Mapping) (level start : ℕ) (node : PlacedNode) : Type 0 where
  pub known : place_of m node.level node.index ≡ Some node.place
  pub past : node.level ≤ level → (node.index + 1) * 32 ^ node.level ≤ start

-- a node is one of the tree at or below a node, whose cache blocks end here
record IsWithin (m : Mapping) (level end : ℕ) (node : PlacedNode) : Type 0 where
  known : place_of m node.level node.index ≡ Some node.place
  to : node.level ≤ level
  past : (node.index + 1) * 32 ^ node.level ≤ end

within_more : (m : Mapping) (level level' end end' : ℕ) (node : PlacedNode) → level ≤ level' → end ≤ end' → IsWithin m level end node → IsWithin m level' end' node
within_more m level level' end end' node l e h = let a = h.to in let b = h.past in record { known = h.known; to = omega arith; past = omega arith }

each_from-all : (P : PlacedNode → Type 0) (f : ℕ → List PlacedNode) (count first : ℕ) → ((i : ℕ) → first ≤ i → i < first + count → All P (f i)) → All P (each_from f count first)
unfolding each_from
each_from-all P f zero first each = All-nil P
each_from-all P f (suc count) first each =
    All-append P (f first) (each_from f count (first + 1)) (each first (omega arith) (omega arith)) (each_from-all P f count (first + 1) (λ i low high. each i (omega arith) (omega arith)))

each_from-next : (f : ℕ → List PlacedNode) (count first : ℕ) → each_from f (suc count) first ≡ each_from f count first ++ f (first + count)
unfolding each_from
each_from-next f zero first = append-nil (f first) ∙ ap f (let e : first ≡ first + 0 = omega arith in e)
each_from-next f (suc count) first =
    let e : first + 1 + count ≡ first + suc count = omega arith in
    ap (λ (rest : List PlacedNode). f first ++ rest) (each_from-next f count (first + 1) ∙ ap (λ n. each_from f count (first + 1) ++ f n) e)
    ∙ sym (append_assoc (f first) (each_from f count (first + 1)) (f (first + suc count)))

-- a child ends where its parent does, or before
child_ends : (level index child : ℕ) → child < 32 * index + 32 → (child + 1) * 32 ^ level ≤ (index + 1) * 32 ^ suc level
child_ends level index child h =
    let a : child + 1 ≤ 32 * (index + 1) = omega arith in
    let b : (child + 1) * 32 ^ level ≤ 32 * (index + 1) * 32 ^ level = mul-le-mul_right (32 ^ level) a in
    let c = starts (index + 1) level in
    omega arith

node_first-within : (m : Mapping) (level index : ℕ) (below : List PlacedNode) (o : Option Place) → place_of m level index ≡ o
    → All (IsWithin m level ((index + 1) * 32 ^ level)) below → All (IsWithin m level ((index + 1) * 32 ^ level)) (node_first o level index below)
node_first-within m level index below None e h = All-nil (IsWithin m level ((index + 1) * 32 ^ level))
node_first-within m level index below (Some place) e h =
    All-cons (IsWithin m level ((index + 1) * 32 ^ level)) (record { level = level; index = index; place = place }) below (record { known = e; to = omega arith; past = omega arith }) h

reached_below-within : (m : Mapping) (level index : ℕ) → All (IsWithin m level ((index + 1) * 32 ^ level)) (reached_below m level index)
unfolding reached_below
reached_below-within m zero index = All-nil (IsWithin m zero ((index + 1) * 32 ^ zero))
reached_below-within m (suc level) index =
    node_first-within m (suc level) index (each_from (reached_below m level) 32 (32 * index)) (place_of m (suc level) index) refl
    (each_from-all (IsWithin m (suc level) ((index + 1) * 32 ^ suc level)) (reached_below m level) 32 (32 * index) (λ i low high k d inside.
    within_more m level (suc level) ((i + 1) * 32 ^ level) ((index + 1) * 32 ^ suc level) _ (omega arith) (child_ends level index i (omega arith)) (reached_below-within m level i k d inside)))

-- what was reached before the child j of a node that is being read
so_far : Mapping → ℕ → ℕ → Place → List PlacedNode → ℕ → List PlacedNode
so_far m level index here reached j = reached ++ record { level = suc level; index = index; place = here } ∷ each_from (reached_below m level) j (32 * index)

so_far-before : (m : Mapping) (level index : ℕ) (here : Place) (reached : List PlacedNode) (j : ℕ) → All (IsBefore m (suc level) (index * 32 ^ suc level)) reached → place_of m (suc level) index ≡ Some here
    → All (IsBefore m level ((32 * index + j) * 32 ^ level)) (so_far m level index here reached j)
unfolding so_far
so_far-before m level index here reached j before known =
    let start : index * 32 ^ suc level ≤ (32 * index + j) * 32 ^ level =
    let a : 32 * index * 32 ^ level ≤ (32 * index + j) * 32 ^ level = mul-le-mul_right (32 ^ level) (let b : 32 * index ≤ 32 * index + j = omega arith in b) in
    let c = starts index level in omega arith in
    All-append (IsBefore m level ((32 * index + j) * 32 ^ level)) reached (record { level = suc level; index = index; place = here } ∷ each_from (reached_below m level) j (32 * index))
    (λ k d inside. let b = before k d inside in record { known = b.known; past = λ low. let p = b.past (omega arith) in omega arith })
    (All-cons (IsBefore m level ((32 * index + j) * 32 ^ level)) (record { level = suc level; index = index; place = here }) (each_from (reached_below m level) j (32 * index))
    (record { known = known; past = λ low. absurd (omega arith) })
    (each_from-all (IsBefore m level ((32 * index + j) * 32 ^ level)) (reached_below m level) j (32 * index) (λ i low high k d inside.
    let w = reached_below-within m level i k d inside in
    let p = w.past in
    let q : (i + 1) * 32 ^ level ≤ (32 * index + j) * 32 ^ level = mul-le-mul_right (32 ^ level) (let b : i + 1 ≤ 32 * index + j = omega arith in b) in
    record { known = w.known; past = λ l. omega arith })))

so_far-next : (m : Mapping) (level index : ℕ) (here : Place) (reached : List PlacedNode) (j : ℕ) → so_far m level index here reached j ++ reached_below m level (32 * index + j) ≡ so_far m level index here reached (suc j)
unfolding so_far
so_far-next m level index here reached j =
    append_assoc reached (record { level = suc level; index = index; place = here } ∷ each_from (reached_below m level) j (32 * index)) (reached_below m level (32 * index + j))
    ∙ ap (λ (rest : List PlacedNode). reached ++ record { level = suc level; index = index; place = here } ∷ rest) (sym (each_from-next (reached_below m level) j (32 * index)))

so_far-all : (m : Mapping) (level index : ℕ) (here : Place) (reached : List PlacedNode) → place_of m (suc level) index ≡ Some here → so_far m level index here reached 32 ≡ reached ++ reached_below m (suc level) index
unfolding so_far reached_below
so_far-all m level index here reached e = rw e refl

-- no node that was reached stands where a node does that is still to be read
unreached : (m : Mapping) → IsSound m → (level index : ℕ) (place : Place) → place_of m level index ≡ Some place → (reached : List PlacedNode) → All (IsBefore m level (index * 32 ^ level)) reached → is_reached place.0 reached ≡ false
unreached m sound level index place known [] before = refl
unreached m sound level index place known (node ∷ reached) before =
    let other : nat_eq node.place.0 place.0 ≡ false = ne_eqb _ _ (λ same.
    let made : ℕ → Place = λ n. record { 0 = n } in
    let place_same : node.place ≡ place = ap made same in
    let first = All-head (IsBefore m level (index * 32 ^ level)) node reached before in
    let both = sound.apart node.level node.index level index place (first.known ∙ ap Some place_same) known in
    let past = first.past (let l = both.0 in omega arith) in
    let past' : (index + 1) * 32 ^ level ≤ index * 32 ^ level = subst (λ l. (index + 1) * 32 ^ l ≤ index * 32 ^ level) both.0 (subst (λ i. (i + 1) * 32 ^ node.level ≤ index * 32 ^ level) both.1 past) in
    let some : 1 ≤ 32 ^ level = one-le-pow level 32 (omega arith) in
    let more = one_more index (32 ^ level) in
    absurd (omega arith)) in
    rw other (unreached m sound level index place known reached (All-tail (IsBefore m level (index * 32 ^ level)) node reached before))

-- ---- a child

children_none : (m : Mapping) (level index : ℕ) → place_of m level index ≡ None → reached_below m level index ≡ []
unfolding reached_below
children_none m zero index e = refl
children_none m (suc level) index e = rw e refl

child_whole : (m : Mapping) (root : Root) (nodes : Nodes) → IsReadable m root nodes → (level child : ℕ) (here : Place) (reached : List PlacedNode) (found : Found) (read : ℕ → Place → Found → ReadOutcome) (o : Option Place)
    → place_of m level child ≡ o → (o ≡ None → exists m.entries level child ≡ false) → All (IsBefore m level (child * 32 ^ level)) reached → IsAt root m (child * 32 ^ level) reached found
    → ((place : Place) → o ≡ Some place → Comes (IsAt root m ((child + 1) * 32 ^ level) (reached ++ reached_below m level child)) (read child place found))
    → Comes (IsAt root m ((child + 1) * 32 ^ level) (reached ++ reached_below m level child)) (child_read root here level child read (place_word o) found)
child_whole m root nodes w level child here reached found read None e none before h there =
    let at = skipped root m (child * 32 ^ level) (32 ^ level) reached found h (λ block low high. nothing_below m.entries level child block (none refl) low high) in
    let same : reached ≡ reached ++ reached_below m level child = sym (ap (λ (rest : List PlacedNode). reached ++ rest) (children_none m level child e) ∙ append-nil reached) in
    record { found = found; ok = refl; so = subst (λ r. IsAt root m ((child + 1) * 32 ^ level) r found) same (subst (λ n. IsAt root m n reached found) (one_more child (32 ^ level)) at) }
child_whole m root nodes w level child here reached found read (Some place) e none before h there =
    let inside = w.inside place (record { level = level; index = child; known = e }) in
    let behind = inside.0 in
    let a : leb 2 place.0 ≡ true = le-leb _ _ behind in
    let b : ltb place.0 root.geometry.meta_sectors ≡ true = lt-ltb _ _ inside.1 in
    let fresh : is_reached place.0 found.reached ≡ false = ap (λ (r : List PlacedNode). is_reached place.0 r) h.reached_are ∙ unreached m w.sound level child place e reached before in
    let begins = begins_inside m.entries level child (w.sound.known_exist level child place e) in
    let d : ltb (child * 32 ^ level) root.geometry.cache_blocks ≡ true = lt-ltb _ _ (let s = w.mapping.size in omega arith) in
    let named : names_child root found.reached level child place.0 ≡ true = rw (a, b, fresh, d) refl in
    Comes-same (IsAt root m ((child + 1) * 32 ^ level) (reached ++ reached_below m level child)) (child_read root here level child read place.0 found) (read child place found)
    (child_read-named root here level child read place.0 found (λ zero. absurd (omega arith)) named) (there place refl)

-- ---- a node, and all below it

leaf_below : (m : Mapping) (count first : ℕ) → each_from (reached_below m zero) count first ≡ []
unfolding each_from reached_below
leaf_below m zero first = refl
leaf_below m (suc count) first = leaf_below m count (first + 1)

leaf_reached : (m : Mapping) (index : ℕ) (here : Place) → place_of m 1 index ≡ Some here → reached_below m 1 index ≡ record { level = 1; index = index; place = here } ∷ []
unfolding reached_below
leaf_reached m index here e = rw e (ap (λ (rest : List PlacedNode). record { level = 1; index = index; place = here } ∷ rest) (leaf_below m 32 (32 * index)))

leaf_whole : (m : Mapping) (root : Root) (nodes : Nodes) → IsReadable m root nodes → (index : ℕ) (here : Place) (reached : List PlacedNode) (found : Found) → place_of m 1 index ≡ Some here
    → IsAt root m (index * 32 ^ 1) reached found → Comes (IsAt root m ((index + 1) * 32 ^ 1) (reached ++ reached_below m 1 index)) (node_read root nodes 1 index here found)
leaf_whole m root nodes w index here reached found known h =
    let self : PlacedNode = record { level = 1; index = index; place = here } in
    let r = w.read 1 index here known in
    let P : ℕ → Found → Type 0 = λ j f. IsAt root m (32 * index + j) (reached ++ self ∷ []) f in
    let e1 : index * 32 ^ 1 ≡ 32 * index + 0 = omega arith in
    let e2 : 32 * index + (0 + 32) ≡ (index + 1) * 32 ^ 1 = omega arith in
    let begun : IsAt root m (32 * index + 0) (reached ++ self ∷ []) (reached_at 1 index here found) =
    subst (λ n. IsAt root m n (reached ++ self ∷ []) (reached_at 1 index here found)) e1
    (record { reached_are = ap (λ (rs : List PlacedNode). rs ++ self ∷ []) h.reached_are; entries_are = h.entries_are; marks_are = h.marks_are }) in
    let steps = each_step-comes (λ j. entry_read root here (32 * index + j) (entry_in (slice_index r.node.words j))) (λ j f. IsAt root m (32 * index + j) (reached ++ self ∷ []) f) 32 0 (reached_at 1 index here found) begun
    (λ j f low high at.
    let word : slice_index r.node.words j ≡ entry_word (entry_at m (32 * index + j)) = right_word root m 1 index r.node j r.right (omega arith) in
    let entry : entry_in (slice_index r.node.words j) ≡ entry_at m (32 * index + j) =
    ap entry_in word ∙ entry_in-word (entry_at m (32 * index + j)) (λ one same. (w.mapping.within (32 * index + j) one same).1) in
    let next : suc (32 * index + j) ≡ 32 * index + suc j = omega arith in
    Comes-weaker (IsAt root m (suc (32 * index + j)) (reached ++ self ∷ [])) (IsAt root m (32 * index + suc j) (reached ++ self ∷ [])) (entry_read root here (32 * index + j) (entry_in (slice_index r.node.words j)) f)
    (λ g here'. subst (λ n. IsAt root m n (reached ++ self ∷ []) g) next here')
    (entry_whole root m here (32 * index + j) (reached ++ self ∷ []) f w.mapping at (entry_in (slice_index r.node.words j)) (sym entry))) in
    Comes-same (IsAt root m ((index + 1) * 32 ^ 1) (reached ++ reached_below m 1 index)) (node_read root nodes 1 index here found)
    (each_step (λ j. entry_read root here (32 * index + j) (entry_in (slice_index r.node.words j))) 32 0 (reached_at 1 index here found))
    (read_leaf root nodes index here r.node found r.reads (is_right root m 1 index r.node r.right))
    (Comes-weaker (IsAt root m (32 * index + (0 + 32)) (reached ++ self ∷ [])) (IsAt root m ((index + 1) * 32 ^ 1) (reached ++ reached_below m 1 index)) _
    (λ g at. subst (λ n. IsAt root m n (reached ++ reached_below m 1 index) g) e2
    (subst (λ below. IsAt root m (32 * index + (0 + 32)) (reached ++ below) g) (sym (leaf_reached m index here known)) at))
    steps)

-- an option is None, or not
none_or_some : (m : Mapping) → IsSound m → (level index child : ℕ) (here : Place) → 1 ≤ level → place_of m (suc level) index ≡ Some here → child / 32 ≡ index → (o : Option Place) → place_of m level child ≡ o
    → o ≡ None → exists m.entries level child ≡ false
none_or_some m sound level index child here some known above o e none =
    false_from_ne_true (exists m.entries level child) (λ there.
    let up : suc level ≡ level + 1 = omega arith in
    let is : is_some (place_of m level child) ≡ true = sound.known_below level index child here some (subst (λ l. place_of m l index ≡ Some here) up known) above there in
    let not : is_some (place_of m level child) ≡ false = ap (λ (p : Option Place). is_some p) (e ∙ none) in
    false≢true (sym not ∙ is))

-- what reading the children of a node needs: each child that is known is read whole
abbrev ReadsBelow : Mapping → Root → Nodes → ℕ → Type 0
ReadsBelow m root nodes level = (child : ℕ) (place : Place) (reached : List PlacedNode) (found : Found) → place_of m level child ≡ Some place
    → All (IsBefore m level (child * 32 ^ level)) reached → IsAt root m (child * 32 ^ level) reached found
    → Comes (IsAt root m ((child + 1) * 32 ^ level) (reached ++ reached_below m level child)) (node_read root nodes level child place found)

inner_begun : (m : Mapping) (root : Root) (level index : ℕ) (here : Place) (reached : List PlacedNode) (found : Found) → IsAt root m (index * 32 ^ suc level) reached found
    → IsAt root m ((32 * index + 0) * 32 ^ level) (so_far m level index here reached 0) (reached_at (suc level) index here found)
unfolding so_far each_from
inner_begun m root level index here reached found h =
    let e : index * 32 ^ suc level ≡ (32 * index + 0) * 32 ^ level = starts index level ∙ ap (λ n. n * 32 ^ level) (let z : 32 * index ≡ 32 * index + 0 = omega arith in z) in
    subst (λ n. IsAt root m n (reached ++ record { level = suc level; index = index; place = here } ∷ []) (reached_at (suc level) index here found)) e
    (record {
      reached_are = ap (λ (rs : List PlacedNode). rs ++ record { level = suc level; index = index; place = here } ∷ []) h.reached_are;
      entries_are = h.entries_are;
      marks_are = h.marks_are;
    })

inner_step : (m : Mapping) (root : Root) (nodes : Nodes) → IsReadable m root nodes → (level index : ℕ) (here : Place) (reached : List PlacedNode) → 1 ≤ level → place_of m (suc level) index ≡ Some here
    → All (IsBefore m (suc level) (index * 32 ^ suc level)) reached → ReadsBelow m root nodes level → (j word : ℕ) (found : Found) → j < 32 → word ≡ place_word (place_of m level (32 * index + j))
    → IsAt root m ((32 * index + j) * 32 ^ level) (so_far m level index here reached j) found
    → Comes (IsAt root m ((32 * index + suc j) * 32 ^ level) (so_far m level index here reached (suc j))) (child_read root here level (32 * index + j) (node_read root nodes level) word found)
inner_step m root nodes w level index here reached some known before below j word found less e at =
    let child : ℕ = 32 * index + j in
    let so : List PlacedNode = so_far m level index here reached j in
    let earlier = so_far-before m level index here reached j before known in
    let one = child_whole m root nodes w level (32 * index + j) here (so_far m level index here reached j) found (node_read root nodes level) (place_of m level (32 * index + j)) refl
    (none_or_some m w.sound level index (32 * index + j) here some known (omega arith) (place_of m level (32 * index + j)) refl) earlier at
    (λ place e'. below (32 * index + j) place (so_far m level index here reached j) found e' earlier at) in
    let next : 32 * index + j + 1 ≡ 32 * index + suc j = omega arith in
    subst (λ n. Comes (IsAt root m ((32 * index + suc j) * 32 ^ level) (so_far m level index here reached (suc j))) (child_read root here level (32 * index + j) (node_read root nodes level) n found)) (sym e)
    (subst (λ (r : List PlacedNode). Comes (IsAt root m ((32 * index + suc j) * 32 ^ level) r) (child_read root here level (32 * index + j) (node_read root nodes level) (place_word (place_of m level (32 * index + j))) found))
    (so_far-next m level index here reached j)
    (subst (λ n. Comes (IsAt root m (n * 32 ^ level) (so_far m level index here reached j ++ reached_below m level (32 * index + j))) (child_read root here level (32 * index + j) (node_read root nodes level) (place_word (place_of m level (32 * index + j))) found)) next one))

inner_whole : (m : Mapping) (root : Root) (nodes : Nodes) → IsReadable m root nodes → (level index : ℕ) (here : Place) (reached : List PlacedNode) (found : Found) → place_of m (suc (suc level)) index ≡ Some here
    → All (IsBefore m (suc (suc level)) (index * 32 ^ suc (suc level))) reached → IsAt root m (index * 32 ^ suc (suc level)) reached found → ReadsBelow m root nodes (suc level)
    → Comes (IsAt root m ((index + 1) * 32 ^ suc (suc level)) (reached ++ reached_below m (suc (suc level)) index)) (node_read root nodes (suc (suc level)) index here found)
inner_whole m root nodes w level index here reached found known before h below =
    let r = w.read (suc (suc level)) index here known in
    let steps : Comes (IsAt root m ((32 * index + (0 + 32)) * 32 ^ suc level) (so_far m (suc level) index here reached (0 + 32))) (each_step (λ j. child_read root here (suc level) (32 * index + j) (node_read root nodes (suc level)) (slice_index r.node.words j)) 32 0 (reached_at (suc (suc level)) index here found)) =
    each_step-comes (λ j. child_read root here (suc level) (32 * index + j) (node_read root nodes (suc level)) (slice_index r.node.words j))
    (λ j f. IsAt root m ((32 * index + j) * 32 ^ suc level) (so_far m (suc level) index here reached j) f) 32 0 (reached_at (suc (suc level)) index here found) (inner_begun m root (suc level) index here reached found h)
    (λ j f low high at. inner_step m root nodes w (suc level) index here reached (omega arith) known before below j (slice_index r.node.words j) f (omega arith) (right_word root m (suc (suc level)) index r.node j r.right (omega arith)) at) in
    let end : (32 * index + (0 + 32)) * 32 ^ suc level ≡ (index + 1) * 32 ^ suc (suc level) = ap (λ n. n * 32 ^ suc level) (let z : 32 * index + (0 + 32) ≡ 32 * (index + 1) = omega arith in z) ∙ sym (starts (index + 1) (suc level)) in
    Comes-same (IsAt root m ((index + 1) * 32 ^ suc (suc level)) (reached ++ reached_below m (suc (suc level)) index)) (node_read root nodes (suc (suc level)) index here found)
    (each_step (λ j. child_read root here (suc level) (32 * index + j) (node_read root nodes (suc level)) (slice_index r.node.words j)) 32 0 (reached_at (suc (suc level)) index here found))
    (read_above_leaves root nodes level index here r.node found r.reads (is_right root m (suc (suc level)) index r.node r.right))
    (Comes-weaker (IsAt root m ((32 * index + (0 + 32)) * 32 ^ suc level) (so_far m (suc level) index here reached (0 + 32))) (IsAt root m ((index + 1) * 32 ^ suc (suc level)) (reached ++ reached_below m (suc (suc level)) index)) _
    (λ g at. subst (λ n. IsAt root m n (reached ++ reached_below m (suc (suc level)) index) g) end
    (subst (λ (rs : List PlacedNode). IsAt root m ((32 * index + (0 + 32)) * 32 ^ suc level) rs g) (so_far-all m (suc level) index here reached known) at))
    steps)

-- a node that is known is read whole, with all below it
pub node_whole : (m : Mapping) (root : Root) (nodes : Nodes) → IsReadable m root nodes → (level : ℕ) → ReadsBelow m root nodes level
node_whole m root nodes w zero index here reached found known before h = let l = w.sound.known_level 0 index here known in absurd (omega arith)
node_whole m root nodes w (suc zero) index here reached found known before h = leaf_whole m root nodes w index here reached found known h
node_whole m root nodes w (suc (suc level)) index here reached found known before h = inner_whole m root nodes w level index here reached found known before h (node_whole m root nodes w (suc level))

-- a node of the tree stands at this place
pub record StandsThere (m : Mapping) (place : ℕ) : Type 0 where
  pub level : ℕ
  pub index : ℕ
  pub where_it_is : Place
  pub known : place_of m level index ≡ Some where_it_is
  pub here : where_it_is.0 ≡ place

-- where a node was reached, one of the tree stands
reached_known : (m : Mapping) (level end : ℕ) (place : ℕ) (reached : List PlacedNode) → All (IsWithin m level end) reached → is_reached place reached ≡ true → StandsThere m place
reached_known m level end place [] each h = absurd (false≢true h)
reached_known m level end place (node ∷ reached) each h =
    by_test (nat_eq node.place.0 place) refl h (λ t. reached_known m level end place reached (All-tail (IsWithin m level end) node reached each) t)
  where
    by_test : (b : Bool) → nat_eq node.place.0 place ≡ b → cond b true (is_reached place reached) ≡ true → (is_reached place reached ≡ true → StandsThere m place) → StandsThere m place
    by_test true e t rest = record {
      level = node.level;
      index = node.index;
      where_it_is = node.place;
      known = (All-head (IsWithin m level end) node reached each).known;
      here = eqb-true _ _ e;
    }
    by_test false e t rest = rest t

pub reached_below-known : (m : Mapping) (level index place : ℕ) → is_reached place (reached_below m level index) ≡ true → StandsThere m place
reached_below-known m level index place h = reached_known m level ((index + 1) * 32 ^ level) place (reached_below m level index) (reached_below-within m level index) h

-- ---- the whole tree

-- the last of the nodes is known where none counts as changed
last_known : (m : Mapping) (names : List NodeName) (last : NodeName) → changed_of m (names ++ last ∷ []) ≡ [] → is_some (place_of m last.level last.index) ≡ true
last_known m [] last h = single (is_some (place_of m last.level last.index)) h
  where
    single : (b : Bool) → cond b [] (last ∷ []) ≡ [] → b ≡ true
    single true e = refl
    single false e = absurd cc
last_known m (name ∷ names) last h = last_known m names last (rest (is_some (place_of m name.level name.index)) (changed_of m (names ++ last ∷ [])) h)
  where
    rest : (b : Bool) (names : List NodeName) → cond b names (name ∷ names) ≡ [] → names ≡ []
    rest true names e = e
    rest false names e = absurd cc

top_cases : (m : Mapping) (level : ℕ) (b : Bool) → exists m.entries (suc level) 0 ≡ b → changed_of m (cond b (each_from (nodes_below m.entries level) 32 (32 * 0) ++ record { level = suc level; index = 0 } ∷ []) []) ≡ []
    → place_of m (suc level) 0 ≡ None → exists m.entries (suc level) 0 ≡ false
top_cases m level false e h none = e
top_cases m level true e h none =
    let known = last_known m (each_from (nodes_below m.entries level) 32 (32 * 0)) (record { level = suc level; index = 0 }) h in
    absurd (false≢true (sym (ap (λ (o : Option Place). is_some o) none) ∙ known))

-- a top that is not known does not exist
top_none : (m : Mapping) (depth : ℕ) → 1 ≤ depth → changed m depth ≡ [] → place_of m depth 0 ≡ None → exists m.entries depth 0 ≡ false
unfolding nodes_below
top_none m zero some h none = absurd (omega arith)
top_none m (suc level) some h none = top_cases m level (exists m.entries (suc level) 0) refl h none

-- what was found when all was read
whole_found : (root : Root) (m : Mapping) (start : ℕ) (reached : List PlacedNode) (found : Found) → length m.entries ≤ start → IsAt root m start reached found
    → found ≡ record { reached = reached; entries = m.entries; mapped = marked m.entries (replicate root.geometry.origin_blocks false) }
whole_found root m start reached found enough h =
    found_same found.reached reached found.entries m.entries found.mapped (marked m.entries (replicate root.geometry.origin_blocks false)) h.reached_are (h.entries_are ∙ shown-all start m.entries enough)
    (h.marks_are ∙ marks_to-all start m.entries (replicate root.geometry.origin_blocks false) enough)

nothing_yet : (root : Root) (m : Mapping) → length m.entries ≡ root.geometry.cache_blocks → IsAt root m 0 [] (nothing_found root)
nothing_yet root m size = record {
  reached_are = refl;
  entries_are = ap (λ n. replicate {A = Option Entry} n None) (sym size) ∙ shown-none m.entries;
  marks_are = sym (marks_to-none m.entries (replicate root.geometry.origin_blocks false));
}

depth_some : (blocks : ℕ) → 1 ≤ depth_of blocks
unfolding depth_of
depth_some blocks = by_tests (leb blocks 32) (leb blocks 1024) (leb blocks 32768)
  where
    by_tests : (a b c : Bool) → 1 ≤ cond a 1 (cond b 2 (cond c 3 4))
    by_tests true b c = omega arith
    by_tests false true c = omega arith
    by_tests false false true = omega arith
    by_tests false false false = omega arith

-- the levels of a tree hold all its cache blocks
pub depth_enough : (blocks : ℕ) → blocks ≤ 1048576 → blocks ≤ 32 ^ depth_of blocks
unfolding depth_of
depth_enough blocks h = by_tests (leb blocks 32) (leb blocks 1024) (leb blocks 32768) (leb-true blocks 32) (leb-true blocks 1024) (leb-true blocks 32768)
  where
    by_tests : (a b c : Bool) → (a ≡ true → blocks ≤ 32) → (b ≡ true → blocks ≤ 1024) → (c ≡ true → blocks ≤ 32768) → blocks ≤ 32 ^ cond a 1 (cond b 2 (cond c 3 4))
    by_tests true b c f g k = f refl
    by_tests false true c f g k = g refl
    by_tests false false true f g k = k refl
    by_tests false false false f g k = h

top_whole : (m : Mapping) (root : Root) (nodes : Nodes) → IsReadable m root nodes → changed m (depth_of root.geometry.cache_blocks) ≡ []
    → (top : Option Place) → place_of m (depth_of root.geometry.cache_blocks) 0 ≡ top → top_read root nodes top ≡ Ok (found_of root m)
top_whole m root nodes w none_changed None e =
    let size = w.mapping.size in
    let to = root.geometry.within.cache_to in
    let enough = depth_enough root.geometry.cache_blocks (omega arith) in
    let missing = top_none m (depth_of root.geometry.cache_blocks) (depth_some root.geometry.cache_blocks) none_changed e in
    let at = skipped root m 0 (32 ^ depth_of root.geometry.cache_blocks) [] (nothing_found root) (nothing_yet root m size)
    (λ block low high. nothing_below m.entries (depth_of root.geometry.cache_blocks) 0 block missing (omega arith) (omega arith)) in
    let found = whole_found root m (0 + 32 ^ depth_of root.geometry.cache_blocks) [] (nothing_found root) (omega arith) at in
    let reached : reached_below m (depth_of root.geometry.cache_blocks) 0 ≡ [] = children_none m (depth_of root.geometry.cache_blocks) 0 e in
    ap Ok (found ∙ found_same [] (reached_below m (depth_of root.geometry.cache_blocks) 0) m.entries m.entries (marked m.entries (replicate root.geometry.origin_blocks false)) (marked m.entries (replicate root.geometry.origin_blocks false)) (sym reached) refl refl)
top_whole m root nodes w none_changed (Some top) e =
    let size = w.mapping.size in
    let to = root.geometry.within.cache_to in
    let enough = depth_enough root.geometry.cache_blocks (omega arith) in
    let start : 0 ≡ 0 * 32 ^ depth_of root.geometry.cache_blocks = sym (zero-mul (32 ^ depth_of root.geometry.cache_blocks)) in
    let end : (0 + 1) * 32 ^ depth_of root.geometry.cache_blocks ≡ 32 ^ depth_of root.geometry.cache_blocks = one-mul (32 ^ depth_of root.geometry.cache_blocks) in
    let read = node_whole m root nodes w (depth_of root.geometry.cache_blocks) 0 top [] (nothing_found root) e (All-nil (IsBefore m (depth_of root.geometry.cache_blocks) (0 * 32 ^ depth_of root.geometry.cache_blocks)))
    (subst (λ n. IsAt root m n [] (nothing_found root)) start (nothing_yet root m size)) in
    read.ok ∙ ap Ok (whole_found root m ((0 + 1) * 32 ^ depth_of root.geometry.cache_blocks) (reached_below m (depth_of root.geometry.cache_blocks) 0) read.found (omega arith) read.so)

-- A tree of which every node is known, and read as it is, is read back without a fault.
pub read_back : (m : Mapping) (root : Root) (nodes : Nodes) → IsMapping root.geometry.cache_blocks root.geometry.origin_blocks m.entries → IsSound m → AreInside root.geometry.meta_sectors m
    → changed m (depth_of root.geometry.cache_blocks) ≡ [] → root.top ≡ place_of m (depth_of root.geometry.cache_blocks) 0 → AreRead nodes m root.generation
    → tree_read root nodes ≡ Ok (found_of root m)
read_back m root nodes mapping sound inside none_changed top read =
    top_whole m root nodes (record { mapping = mapping; sound = sound; inside = inside; read = read }) none_changed root.top (sym top)
