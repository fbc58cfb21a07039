-- How many nodes a tree has at most, and a reading reaches.
use Rattle.std.proofs.lemmas.Bool.{cases_Bool}
use Rattle.std.proofs.Common.{◌≡◌, ◌≤◌, ◌<◌, ◌+◌, ◌*◌, ◌^◌, ◌==◌, ap, refl, ℕ, zero, suc, Bool, true, false, List, [], ◌∷◌, ◌++◌, Option, Some, None, Ok, Err, min, length, arith, inl, inr}
use Rattle.std.specs.Prelude.{slice_index, if◌then◌else◌}
use Rattle.std.proofs.lemmas.Grind.{div_ceil_times}
use Rattle.std.proofs.lemmas.List.{length-append}
use Rattle.std.proofs.Math.Nat.{one-le-pow, lt_of_mul-lt-mul_right}
use Rattle.wb_types.specs.declared.entry.Entry.{Entry}
use Rattle.wb_types.specs.declared.number.Place.{Place}
use Rattle.wb_types.specs.Limits.{depth_of, node_count, nodes_at, nodes_up_to}
use Rattle.wb_format.specs.declared.node.Node.{Node}
use Rattle.wb_format.specs.declared.root.Root.{Root}
use Rattle.wb_tree.specs.declared.placed.PlacedNode.{PlacedNode}
use Rattle.wb_tree.specs.Mapping.{NodeName, exists, each_from, nodes_below, nodes_of}
use Rattle.wb_tree.specs.Reading.{Found, ReadOutcome, Nodes, ◌then◌, each_step, entry_in, entry_read, may_map, child_read, names_child, is_node_of, reached_at, words_read, node_read, nothing_found, top_read, tree_read}
use Rattle.wb_tree.proofs.Nodes.Fronts.{begins_inside}
use Rattle.wb_tree.proofs.Reading.Steps.{names_child-is, then_ok, test_ok}

-- how many nodes of a level and below it stand before one of its nodes, where every cache block has an entry
pub before : ℕ → ℕ → ℕ → ℕ
before zero blocks index = 0
before (suc level) blocks index = before level blocks (32 * index) + min (nodes_at (suc level) blocks) index

before-rises : (level blocks index later : ℕ) → index ≤ later → before level blocks index ≤ before level blocks later
unfolding before
before-rises zero blocks index later h = omega arith
before-rises (suc level) blocks index later h = let below = before-rises level blocks (32 * index) (32 * later) (omega arith) in omega arith

pub before-most : (level blocks index : ℕ) → before level blocks index ≤ nodes_up_to level blocks
unfolding before nodes_up_to
before-most zero blocks index = omega arith
before-most (suc level) blocks index = let below = before-most level blocks (32 * index) in omega arith

-- a node that begins before the last cache block is one of its level
pub index-counted : (level blocks index : ℕ) → index * 32 ^ level < blocks → index < nodes_at level blocks
index-counted level blocks index h =
    let some : 1 ≤ 32 ^ level = one-le-pow level 32 (omega arith) in
    let all = div_ceil_times blocks (32 ^ level) (omega arith) in
    let less : index * 32 ^ level < nodes_at level blocks * 32 ^ level = omega (arith, all.0) in
    lt_of_mul-lt-mul_right (32 ^ level) less

-- no more stand at and below the nodes of a level than there are from one of them to the next
abbrev pub AreFew : (ℕ → List NodeName) → ℕ → ℕ → Type 0
AreFew nodes level blocks = (index : ℕ) → length (nodes index) + before level blocks index ≤ before level blocks (index + 1)

-- nor at and below so many of them
each-counted : (nodes : ℕ → List NodeName) (level blocks : ℕ) → AreFew nodes level blocks → (count first : ℕ) → length (each_from nodes count first) + before level blocks first ≤ before level blocks (first + count)
unfolding each_from
each-counted nodes level blocks few zero first = let e : first + zero ≡ first = omega arith in rw e (omega arith)
each-counted nodes level blocks few (suc count) first =
    let here = few first in
    let rest = each-counted nodes level blocks few count (first + 1) in
    let e : first + suc count ≡ first + 1 + count = omega arith in
    rw e (omega (arith, length-append (nodes first) (each_from nodes count (first + 1))))

-- nor at a node that is there and below it
pub few_here : (nodes : ℕ → List NodeName) (level blocks index : ℕ) (here : NodeName) → AreFew nodes level blocks → index < nodes_at (suc level) blocks
    → length (each_from nodes 32 (32 * index) ++ here ∷ []) + before (suc level) blocks index ≤ before (suc level) blocks (index + 1)
unfolding before
few_here nodes level blocks index here few counted =
    let children : List NodeName = each_from nodes 32 (32 * index) in
    let each = each-counted nodes level blocks few 32 (32 * index) in
    let last : 32 * index + 32 ≡ 32 * (index + 1) = omega arith in
    let each' : length children + before level blocks (32 * index) ≤ before level blocks (32 * (index + 1)) = rw (← last) each in
    omega (arith, length-append children (here ∷ []))

-- nor where none is
pub few_nowhere : (level blocks index : ℕ) → 0 + before level blocks index ≤ before level blocks (index + 1)
few_nowhere level blocks index = omega (arith, before-rises level blocks index (index + 1) (omega arith))

below-counted : (entries : List (Option Entry)) (blocks : ℕ) → length entries ≤ blocks → (level : ℕ) → AreFew (nodes_below entries level) level blocks
unfolding nodes_below
below-counted entries blocks long zero index = few_nowhere zero blocks index
below-counted entries blocks long (suc level) index = elim (cases_Bool (exists entries (suc level) index)) [
  | inl some ↦
      let starts = begins_inside entries (suc level) index some in
      rw some (few_here (nodes_below entries level) level blocks index _ (below-counted entries blocks long level) (index-counted (suc level) blocks index (omega arith)))
  | inr none ↦ rw none (few_nowhere (suc level) blocks index)
]

-- a tree has no more nodes than one with an entry for each cache block
pub count-nodes : (entries : List (Option Entry)) (blocks : ℕ) → length entries ≤ blocks → length (nodes_of entries (depth_of blocks)) ≤ node_count blocks
unfolding node_count
count-nodes entries blocks long = omega (arith, below-counted entries blocks long (depth_of blocks) 0, before-most (depth_of blocks) blocks (0 + 1))

-- ---- nodes that a reading reaches

-- a reading reaches no more nodes than there are from the first of these numbers to the second
abbrev Reaches : ℕ → ℕ → (Found → ReadOutcome) → Type 0
Reaches from to read = (found next : Found) → read found ≡ Ok next → length next.reached + from ≤ length found.reached + to

same_reached : (found next : Found) → ◌≡◌ {A = ReadOutcome} (Ok found) (Ok next) → length found.reached ≡ length next.reached
same_reached found next e = let same : found ≡ next = cc in ap (λ (f : Found). length f.reached) same

each_reaches : (f : ℕ → ℕ) (step : ℕ → Found → ReadOutcome) → ((j : ℕ) → Reaches (f j) (f (suc j)) (step j)) → (count first : ℕ) → Reaches (f first) (f (first + count)) (each_step step count first)
unfolding each_step
each_reaches f step h zero first found next e =
    let last : f (first + 0) ≡ f first = ap f (omega arith) in
    omega (arith, same_reached found next e, last)
each_reaches f step h (suc count) first found next e =
    let w = then_ok (step first found) (each_step step count (suc first)) next e in
    let last : f (suc first + count) ≡ f (first + suc count) = ap f (omega arith) in
    omega (arith, last, h first found w.0 w.1, each_reaches f step h count (suc first) w.0 next w.2)

-- an entry is no node
entry_reaches : (root : Root) (here : Place) (block : ℕ) (o : Option Entry) → Reaches 0 0 (entry_read root here block o)
entry_reaches root here block None found next e = omega (arith, same_reached found next e)
entry_reaches root here block (Some entry) found next e =
    let w = test_ok (may_map root found.mapped block entry) here _ next e in
    omega (arith, same_reached _ next w.1)

child_by : (from to : ℕ) (none names : Bool) (here : Place) (read : Found → ReadOutcome) → from ≤ to → (names ≡ true → Reaches from to read) → Reaches from to (λ found. if none then Ok found else (if names then read found else Err here))
child_by from to true names here read rises h found next e = omega (arith, rises, same_reached found next e)
child_by from to false true here read rises h found next e = h refl found next e
child_by from to false false here read rises h found next e = absurd cc

words_reach : (from to : ℕ) (root : Root) (level index : ℕ) (here : Place) (read : Node → Found → ReadOutcome) (o : Option Node) → ((node : Node) → Reaches (suc from) to (read node)) → Reaches from to (words_read root level index here read o)
words_reach from to root level index here read None h found next e = absurd cc
words_reach from to root level index here read (Some node) h found next e =
    let w = test_ok (is_node_of root level index node) here (read node (reached_at level index here found)) next e in
    let self : List PlacedNode = record { level = level; index = index; place = here } ∷ [] in
    omega (arith, length-append found.reached self, h node (reached_at level index here found) next w.1)

children_reach : (root : Root) (nodes : Nodes) (level index : ℕ) (here : Place) (words : List ℕ)
    → ((i : ℕ) (place : Place) → i * 32 ^ level < root.geometry.cache_blocks → Reaches (before level root.geometry.cache_blocks i) (before level root.geometry.cache_blocks (i + 1)) (node_read root nodes level i place))
    → Reaches (suc (before level root.geometry.cache_blocks (32 * index))) (suc (before level root.geometry.cache_blocks (32 * (index + 1))))
    (each_step (λ j. child_read root here level (32 * index + j) (node_read root nodes level) (slice_index words j)) 32 0)
children_reach root nodes level index here words h found next e =
    let blocks = root.geometry.cache_blocks in
    let f : ℕ → ℕ = λ j. before level blocks (32 * index + j) in
    let w = each_reaches f (λ j. child_read root here level (32 * index + j) (node_read root nodes level) (slice_index words j))
    (λ j found next e.
    let up : before level blocks (32 * index + j + 1) ≡ f (suc j) = ap (λ i. before level blocks i) (omega arith) in
    let word = slice_index words j in
    child_by (f j) (f (suc j)) (word == 0) (names_child root found.reached level (32 * index + j) word) here
    (node_read root nodes level (32 * index + j) (record { 0 = word })) (before-rises level blocks (32 * index + j) (32 * index + suc j) (omega arith))
    (λ named found' next' e'. let w = h (32 * index + j) (record { 0 = word }) (names_child-is root found.reached level (32 * index + j) word named).below found' next' e' in omega (arith, up, w)) found next e)
    32 0 found next e in
    let first : f 0 ≡ before level blocks (32 * index) = ap (λ i. before level blocks i) (omega arith) in
    let last : f (0 + 32) ≡ before level blocks (32 * (index + 1)) = ap (λ i. before level blocks i) (omega arith) in
    omega (arith, first, last, w)

node_reaches : (root : Root) (nodes : Nodes) (level index : ℕ) (here : Place) → index * 32 ^ level < root.geometry.cache_blocks
    → Reaches (before level root.geometry.cache_blocks index) (before level root.geometry.cache_blocks (index + 1)) (node_read root nodes level index here)
unfolding node_read before
node_reaches root nodes zero index here inside found next e = absurd cc
node_reaches root nodes (suc zero) index here inside found next e =
    let counted = index-counted 1 root.geometry.cache_blocks index inside in
    let reach = words_reach 0 1 root 1 index here (λ node. each_step (λ j. entry_read root here (32 * index + j) (entry_in (slice_index node.words j))) 32 0) (nodes here.0)
    (λ node found next e. let w = each_reaches (λ j. 0) (λ j. entry_read root here (32 * index + j) (entry_in (slice_index node.words j))) (λ j. entry_reaches root here (32 * index + j) (entry_in (slice_index node.words j))) 32 0 found next e in omega (arith, w)) found next e in
    omega (arith, counted, reach)
node_reaches root nodes (suc (suc level)) index here inside found next e =
    let blocks = root.geometry.cache_blocks in
    let counted = index-counted (suc (suc level)) blocks index inside in
    let reach = words_reach (before (suc level) blocks (32 * index)) (suc (before (suc level) blocks (32 * (index + 1)))) root (suc (suc level)) index here
    (λ node. each_step (λ j. child_read root here (suc level) (32 * index + j) (node_read root nodes (suc level)) (slice_index node.words j)) 32 0) (nodes here.0)
    (λ node found next e. children_reach root nodes (suc level) index here node.words (λ i place inside. node_reaches root nodes (suc level) i place inside) found next e) found next e in
    omega (arith, counted, reach)

top_reaches : (root : Root) (nodes : Nodes) (top : Option Place) (found : Found) → top_read root nodes top ≡ Ok found → length found.reached ≤ node_count root.geometry.cache_blocks
unfolding node_count
top_reaches root nodes None found e = omega (arith, same_reached (nothing_found root) found e)
top_reaches root nodes (Some place) found e =
    let blocks = root.geometry.cache_blocks in
    let some = root.geometry.within.cache_from in
    let reach = node_reaches root nodes (depth_of blocks) 0 place (omega (arith, some)) (nothing_found root) found e in
    omega (arith, reach, before-most (depth_of blocks) blocks (0 + 1))

-- a tree that is read has no more nodes than one with an entry for each cache block
pub count-reached : (root : Root) (nodes : Nodes) (found : Found) → tree_read root nodes ≡ Ok found → length found.reached ≤ node_count root.geometry.cache_blocks
count-reached root nodes found e = top_reaches root nodes root.top found e
