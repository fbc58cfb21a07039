-- A tree that was read without a fault: every node is known, and was read as the tree has it.
use Rattle.std.proofs.Common.{◌≡◌, ◌≤◌, ◌<◌, ◌+◌, ◌-◌, ◌*◌, ◌∙◌, ◌==◌, sym, ap, subst, refl, ℕ, zero, suc, Bool, true, false, List, Option, Some, None, Ok, Err, length, arith, inl, inr}
use Rattle.std.specs.Prelude.{IsSome, is_some, slice_index, if◌then◌else◌}
use Rattle.std.proofs.lemmas.Bool.{eqb-true}
use Rattle.std.proofs.lemmas.List.{length-replicate}
use Rattle.wb_types.specs.declared.entry.Entry.{Entry}
use Rattle.wb_types.specs.declared.number.Place.{Place}
use Rattle.wb_types.specs.Limits.{depth_of}
use Rattle.wb_format.specs.declared.root.Root.{Root}
use Rattle.wb_format.specs.declared.node.Node.{Node}
use Rattle.wb_tree.specs.declared.placed.PlacedNode.{PlacedNode}
use Rattle.wb_tree.specs.Mapping.{place_in}
use Rattle.wb_tree.specs.Fields.{AreApart}
use Rattle.wb_tree.specs.Reading.{Found, ReadOutcome, Nodes, ◌then◌, each_step, entry_in, entry_read, child_read, names_child, is_node_of, reached_at, words_read, node_read, nothing_found, top_read, tree_read}
use Rattle.wb_tree.proofs.Reading.Steps.{names_child-is, then_ok, test_ok, nothing_there}
use Rattle.wb_tree.proofs.Reading.PlacedLists.{PlacesApart}
use Rattle.wb_tree.proofs.Reading.Grown.{Grown, WasRead, Covers, at, tree_with, up_block, grown_then, grown_none, grown_tops}
use Rattle.wb_tree.proofs.Reading.GrownNodes.{MayRead, IsNewPlace, grown_leaf, grown_inner}

-- ---- children

-- a node is read so, wherever it may be
abbrev NodeGrows : Root → Nodes → ℕ → Type 0
NodeGrows root nodes level = (index : ℕ) (here : Place) (found next : Found) → MayRead root level index (index + 1) found → IsNewPlace root found here
    → node_read root nodes level index here found ≡ Ok next → Grown root nodes level index (index + 1) (λ i. here.0) found next

child_by : (root : Root) (nodes : Nodes) (level index : ℕ) (here : Place) (word : ℕ) (tops : ℕ → ℕ) (found next : Found) (none names : Bool) → (word == 0) ≡ none → names_child root found.reached level index word ≡ names
    → NodeGrows root nodes level → MayRead root level index (index + 1) found → tops index ≡ word
    → (if none then Ok found else (if names then node_read root nodes level index (record { 0 = word }) found else Err here)) ≡ Ok next → Grown root nodes level index (index + 1) tops found next
child_by root nodes level index here word tops found next true names none named grows may top e =
    let same : found ≡ next = cc in
    let nothing : word ≡ 0 = eqb-true _ _ none in
    subst (λ (f : Found). Grown root nodes level index (index + 1) tops found f) same
    (grown_none root nodes level index (index + 1) tops found (λ i from to. let is : index ≡ i = omega arith in sym (ap tops (sym is) ∙ (top ∙ nothing))))
child_by root nodes level index here word tops found next false true some named grows may top e =
    let child = names_child-is root found.reached level index word named in
    let place : Place = record { 0 = word } in
    let grown = grows index place found next may (record { unread = child.unread; behind = child.behind; within = child.inside }) e in
    grown_tops root nodes level index (index + 1) (λ i. word) tops found next (λ i from to. let is : index ≡ i = omega arith in sym (ap tops (sym is) ∙ top)) grown
child_by root nodes level index here word tops found next false false some named grows may top e = absurd cc

grown_child : (root : Root) (nodes : Nodes) (level index : ℕ) (here : Place) (word : ℕ) (tops : ℕ → ℕ) (found next : Found) → NodeGrows root nodes level → MayRead root level index (index + 1) found → tops index ≡ word
    → child_read root here level index (node_read root nodes level) word found ≡ Ok next → Grown root nodes level index (index + 1) tops found next
grown_child root nodes level index here word tops found next grows may top e =
    child_by root nodes level index here word tops found next (word == 0) (names_child root found.reached level index word) refl refl grows may top e

same_range : (root : Root) (nodes : Nodes) (level a b a' b' : ℕ) (tops : ℕ → ℕ) (found next : Found) → a ≡ a' → b ≡ b' → Grown root nodes level a b tops found next → Grown root nodes level a' b' tops found next
same_range root nodes level a b a' b' tops found next e f g =
    subst (λ x. Grown root nodes level a' x tops found next) f (subst (λ x. Grown root nodes level x b tops found next) e g)

grown_children : (root : Root) (nodes : Nodes) (level base : ℕ) (here : Place) (words : List ℕ) (count first : ℕ) (found next : Found) → NodeGrows root nodes level → MayRead root level (base + first) (base + first + count) found
    → each_step (λ j. child_read root here level (base + j) (node_read root nodes level) (slice_index words j)) count first found ≡ Ok next
    → Grown root nodes level (base + first) (base + first + count) (λ i. slice_index words (i - base)) found next
unfolding each_step
grown_children root nodes level base here words zero first found next grows may e =
    let same : found ≡ next = cc in
    subst (λ (f : Found). Grown root nodes level (base + first) (base + first + 0) (λ i. slice_index words (i - base)) found f) same
    (grown_none root nodes level (base + first) (base + first + 0) (λ i. slice_index words (i - base)) found (λ i from to. absurd (omega arith)))
grown_children root nodes level base here words (suc count) first found next grows may e =
    let tops : ℕ → ℕ = λ i. slice_index words (i - base) in
    let w = then_ok (child_read root here level (base + first) (node_read root nodes level) (slice_index words first) found) (each_step (λ j. child_read root here level (base + j) (node_read root nodes level) (slice_index words j)) count (suc first)) next e in
    let this : base + first - base ≡ first = omega arith in
    let one = grown_child root nodes level (base + first) here (slice_index words first) (λ i. slice_index words (i - base)) found w.0 grows
    (record { size = may.size; empty = λ block from to. may.empty block from (omega arith) }) (ap (λ k. slice_index words k) this) w.1 in
    let rest = grown_children root nodes level base here words count (suc first) w.0 next grows
    (record { size = one.size ∙ may.size; empty = λ block from to. one.outside block (inr (omega arith)) ∙ may.empty block (omega arith) (omega arith) }) w.2 in
    grown_then root nodes level (base + first) (base + first + 1) (base + first + suc count) (λ i. slice_index words (i - base)) found w.0 next (omega arith) (omega arith) one
    (same_range root nodes level (base + suc first) (base + suc first + count) (base + first + 1) (base + first + suc count) (λ i. slice_index words (i - base)) w.0 next (omega arith) (omega arith) rest)

-- ---- nodes

record WordsOk (root : Root) (level index : ℕ) (here : Place) (read : Node → Found → ReadOutcome) (o : Option Node) (found next : Found) : Type 0 where
  node : Node
  is : o ≡ Some node
  right : is_node_of root level index node ≡ true
  reads : read node (reached_at level index here found) ≡ Ok next

words_ok : (root : Root) (level index : ℕ) (here : Place) (read : Node → Found → ReadOutcome) (o : Option Node) (found next : Found) → words_read root level index here read o found ≡ Ok next → WordsOk root level index here read o found next
words_ok root level index here read None found next e = absurd cc
words_ok root level index here read (Some node) found next e =
    let w = test_ok (is_node_of root level index node) here (read node (reached_at level index here found)) next e in
    record { node = node; is = refl; right = w.0; reads = w.1 }

pub node_grown : (root : Root) (nodes : Nodes) (level : ℕ) → NodeGrows root nodes level
unfolding node_read
node_grown root nodes zero index here found next may new e = absurd cc
node_grown root nodes (suc zero) index here found next may new e =
    let w = words_ok root 1 index here (λ node. each_step (λ j. entry_read root here (32 * index + j) (entry_in (slice_index node.words j))) 32 0) (nodes here.0) found next e in
    grown_leaf root nodes index here w.node found next may new w.is w.right w.reads
node_grown root nodes (suc (suc level)) index here found next may new e =
    let w = words_ok root (suc (suc level)) index here (λ node. each_step (λ j. child_read root here (suc level) (32 * index + j) (node_read root nodes (suc level)) (slice_index node.words j)) 32 0) (nodes here.0) found next e in
    let kids = grown_children root nodes (suc level) (32 * index) here w.node.words 32 0 (reached_at (suc (suc level)) index here found) next (node_grown root nodes (suc level))
    (record { size = may.size; empty = λ block from to. let u = up_block block (suc level) in may.empty block (omega (arith, u)) (omega (arith, u)) }) w.reads in
    grown_inner root nodes (suc level) index here w.node found next (omega arith) new w.is w.right
    (same_range root nodes (suc level) (32 * index + 0) (32 * index + 0 + 32) (32 * index) (32 * index + 32) (λ i. slice_index w.node.words (i - 32 * index)) (reached_at (suc (suc level)) index here found) next (omega arith) (omega arith) kids)

-- ---- the whole tree

-- every node of the tree that was found is known, once, and read as the tree has it
pub record IsKnownTree (root : Root) (nodes : Nodes) (found : Found) : Type 0 where
  pub size : length found.entries ≡ root.geometry.cache_blocks
  pub levels : (l i : ℕ) (place : Place) → place_in found.reached l i ≡ Some place → (1 ≤ l) × (l ≤ depth_of root.geometry.cache_blocks)
  pub once : AreApart found.reached
  pub apart : PlacesApart found.reached
  pub inside : (l i : ℕ) (place : Place) → place_in found.reached l i ≡ Some place → (2 ≤ place.0) × (place.0 < root.geometry.meta_sectors)
  pub covered : (block : ℕ) → IsSome (at found block) → Covers found.reached (depth_of root.geometry.cache_blocks) block
  pub right : (l i : ℕ) (place : Place) → place_in found.reached l i ≡ Some place → WasRead root nodes (tree_with found found.reached) l i place

no_entry : {P : Type 0} (o : Option Entry) → o ≡ None → IsSome o → P
no_entry {P} o e s = absurd (let t : is_some {T = Entry} None ≡ true = ap (λ (x : Option Entry). is_some x) (sym e) ∙ s in cc)

known_by : (root : Root) (nodes : Nodes) (found : Found) (known : List PlacedNode) → (tops : ℕ → ℕ) (g : Grown root nodes (depth_of root.geometry.cache_blocks) 0 1 tops (nothing_found root) found) → found.reached ≡ known → g.sub ≡ known → IsKnownTree root nodes found
known_by root nodes found known tops g e f =
    let same : g.sub ≡ found.reached = f ∙ sym e in
    record {
      size = g.size ∙ length-replicate root.geometry.cache_blocks None;
      levels = λ l i place h. let b = g.below l i place (ap (λ (k : List PlacedNode). place_in k l i) same ∙ h) in (b.from, b.to);
      once = subst AreApart same g.once;
      apart = subst PlacesApart same g.apart;
      inside = λ l i place h. g.inside l i place (ap (λ (k : List PlacedNode). place_in k l i) same ∙ h);
      covered = λ block some. elim (g.covered block some) [
        | inl before ↦ no_entry (at (nothing_found root) block) (nothing_there root.geometry.cache_blocks block None) before
        | inr covers ↦ subst (λ (k : List PlacedNode). Covers k (depth_of root.geometry.cache_blocks) block) same covers
      ];
      right = λ l i place h. subst (λ (k : List PlacedNode). WasRead root nodes (tree_with found k) l i place) same (g.right l i place (ap (λ (k : List PlacedNode). place_in k l i) same ∙ h));
    }

known_top : (root : Root) (nodes : Nodes) (top : Option Place) (found : Found) → root.top ≡ top → top_read root nodes top ≡ Ok found → IsKnownTree root nodes found
known_top root nodes None found t e =
    let same : nothing_found root ≡ found = cc in
    subst (IsKnownTree root nodes) same (record {
      size = length-replicate root.geometry.cache_blocks None;
      levels = λ l i place h. absurd cc;
      once = tt;
      apart = tt;
      inside = λ l i place h. absurd cc;
      covered = λ block some. no_entry (at (nothing_found root) block) (nothing_there root.geometry.cache_blocks block None) some;
      right = λ l i place h. absurd cc;
    })
known_top root nodes (Some place) found t e =
    let within = root.top_inside place t in
    let g = node_grown root nodes (depth_of root.geometry.cache_blocks) 0 place (nothing_found root) found
    (record { size = length-replicate root.geometry.cache_blocks None; empty = λ block from to. nothing_there root.geometry.cache_blocks block None })
    (record { unread = refl; behind = within.0; within = within.1 }) e in
    known_by root nodes found g.sub (λ i. place.0) g g.reached refl

pub known_tree : (root : Root) (nodes : Nodes) (found : Found) → tree_read root nodes ≡ Ok found → IsKnownTree root nodes found
known_tree root nodes found e = known_top root nodes root.top found refl e
