-- What is found of a mapping follows from the nodes that were told at the places that it reached, and from its entries.
use Rattle.std.proofs.Common.{◌≡◌, ◌≤◌, ◌<◌, ◌+◌, ◌*◌, ◌^◌, ◌∙◌, ◌&&◌, ◌==◌, sym, ap, subst, refl, ℕ, zero, suc, Bool, true, false, not, ltb, List, [], ◌∷◌, ◌++◌, Option, Some, None, Ok, Err, length, get_or, set, replicate, slice_index, get_or-set_other, pow-suc, mul_comm, mul_assoc, arith}
use Rattle.std.specs.Prelude.{if◌then◌else◌, slice_index_or}
use Rattle.std.proofs.Math.Nat.{mul-le-mul_right}
use Rattle.std.proofs.lemmas.List.{length-set, length-replicate, map-append}
use borrow.Author.Tests.{ltb-true}
use Rattle.wb_types.specs.declared.entry.Entry.{Entry}
use Rattle.wb_types.specs.declared.number.Place.{Place}
use Rattle.wb_types.specs.Limits.{depth_of}
use Rattle.wb_types.proofs.Truth.{and_true}
use Rattle.wb_format.specs.declared.root.Root.{Root}
use Rattle.wb_format.specs.declared.node.Node.{Node}
use Rattle.wb_tree.specs.declared.placed.PlacedNode.{PlacedNode}
use Rattle.wb_tree.specs.Reading.{Found, ReadOutcome, Nodes, ◌then◌, each_step, entry_in, entry_read, may_map, child_read, names_child, is_node_of, reached_at, words_read, node_read, nothing_found, top_read, tree_read}
use Rattle.wb_tree.specs.Whole.{marked}
use Rattle.wb_tree.proofs.Reading.Steps.{then_ok, test_ok, nothing_there}
use Rattle.wb_tree.proofs.Reading.RightNodes.{right_node}
use Rattle.wb_dirty.specs.ImageLoading.{node_told, as_told}

-- ---- the marks of origin blocks

none_marked : (entries : List (Option Entry)) (marks : List Bool) → ((block : ℕ) → get_or entries block None ≡ None) → marked entries marks ≡ marks
unfolding marked
none_marked [] marks none = refl
none_marked (None ∷ entries) marks none = none_marked entries marks (λ block. none (suc block))
none_marked (Some entry ∷ entries) marks none = absurd (let e : ◌≡◌ {A = Option Entry} (Some entry) None = none 0 in cc)

-- an entry is marked where none stands from its block on
marked-set : (entries : List (Option Entry)) (block : ℕ) (entry : Entry) (marks : List Bool) → block < length entries → ((other : ℕ) → block ≤ other → get_or entries other None ≡ None)
    → set (marked entries marks) entry.origin.0 true ≡ marked (set entries block (Some entry)) marks
unfolding marked
marked-set [] block entry marks below none = absurd (omega (arith, below))
marked-set (None ∷ entries) zero entry marks below none =
    let rest : (other : ℕ) → get_or entries other None ≡ None = λ other. none (suc other) (omega arith) in
    ap (λ (ms : List Bool). set ms entry.origin.0 true) (none_marked entries marks rest) ∙ sym (none_marked entries (set marks entry.origin.0 true) rest)
marked-set (Some first ∷ entries) zero entry marks below none = absurd (let e : ◌≡◌ {A = Option Entry} (Some first) None = none 0 (omega arith) in cc)
marked-set (None ∷ entries) (suc block) entry marks below none = marked-set entries block entry marks (omega (arith, below)) (λ other from. none (suc other) (omega (arith, from)))
marked-set (Some first ∷ entries) (suc block) entry marks below none = marked-set entries block entry (set marks first.origin.0 true) (omega (arith, below)) (λ other from. none (suc other) (omega (arith, from)))

-- ---- what was found before some block

-- no entry was found from this block on, and what was found so far is as it was told
record IsFoundTo (root : Root) (nodes : Nodes) (start : ℕ) (found : Found) : Type 0 where
  size : length found.entries ≡ root.geometry.cache_blocks
  marks : found.mapped ≡ marked found.entries (replicate root.geometry.origin_blocks false)
  behind : (block : ℕ) → start ≤ block → get_or found.entries block None ≡ None
  placed : as_told nodes found.reached ≡ found.reached

further : (root : Root) (nodes : Nodes) (start end : ℕ) (found : Found) → start ≤ end → IsFoundTo root nodes start found → IsFoundTo root nodes end found
further root nodes start end found more h = record { size = h.size; marks = h.marks; behind = λ block from. h.behind block (omega (arith, more, from)); placed = h.placed }

entry_to : (root : Root) (nodes : Nodes) (here : Place) (block : ℕ) (o : Option Entry) (found next : Found) → IsFoundTo root nodes block found → entry_read root here block o found ≡ Ok next → IsFoundTo root nodes (suc block) next
entry_to root nodes here block None found next h e =
    let same : found ≡ next = cc in
    subst (IsFoundTo root nodes (suc block)) same (further root nodes block (suc block) found (omega arith) h)
entry_to root nodes here block (Some entry) found next h e =
    let made : Found = record { reached = found.reached; entries = set found.entries block (Some entry); mapped = set found.mapped entry.origin.0 true } in
    let w = test_ok (may_map root found.mapped block entry) here (Ok made) next e in
    let same : made ≡ next = (let f = w.1 in cc) in
    let a = and_true (ltb block root.geometry.cache_blocks && ltb entry.origin.0 root.geometry.origin_blocks) (not (slice_index_or found.mapped entry.origin.0 false)) w.0 in
    let b = and_true (ltb block root.geometry.cache_blocks) (ltb entry.origin.0 root.geometry.origin_blocks) a.0 in
    let inside : block < root.geometry.cache_blocks = ltb-true _ _ b.0 in
    let size = h.size in
    subst (IsFoundTo root nodes (suc block)) same (record {
      size = length-set found.entries block (Some entry) ∙ h.size;
      marks = ap (λ (ms : List Bool). set ms entry.origin.0 true) h.marks ∙ marked-set found.entries block entry (replicate root.geometry.origin_blocks false) (omega (arith, inside, size)) h.behind;
      behind = λ other from. get_or-set_other found.entries block other (Some entry) None (λ same. omega (arith, from, same)) ∙ h.behind other (omega (arith, from));
      placed = h.placed;
    })

-- some steps, of which each goes on from where the one before it came to
each_to : (root : Root) (nodes : Nodes) (step : ℕ → Found → ReadOutcome) (at : ℕ → ℕ) → ((j : ℕ) (found next : Found) → IsFoundTo root nodes (at j) found → step j found ≡ Ok next → IsFoundTo root nodes (at (suc j)) next)
    → (count first : ℕ) (found next : Found) → IsFoundTo root nodes (at first) found → each_step step count first found ≡ Ok next → IsFoundTo root nodes (at (count + first)) next
unfolding each_step
each_to root nodes step at one zero first found next h e =
    let same : found ≡ next = cc in
    let none : first ≡ 0 + first = omega arith in
    subst (λ n. IsFoundTo root nodes (at n) next) none (subst (IsFoundTo root nodes (at first)) same h)
each_to root nodes step at one (suc count) first found next h e =
    let w = then_ok (step first found) (each_step step count (suc first)) next e in
    let all = each_to root nodes step at one count (suc first) w.0 next (one first found w.0 h w.1) w.2 in
    let sum : count + suc first ≡ suc count + first = omega arith in
    subst (λ n. IsFoundTo root nodes (at n) next) sum all

-- a node that is reached is the one that is told there
words_to : (root : Root) (nodes : Nodes) (level index : ℕ) (here : Place) (read : Node → Found → ReadOutcome) (start end : ℕ) (o : Option Node) (found next : Found) → nodes here.0 ≡ o
    → ((node : Node) (found : Found) → IsFoundTo root nodes start found → read node found ≡ Ok next → IsFoundTo root nodes end next)
    → IsFoundTo root nodes start found → words_read root level index here read o found ≡ Ok next → IsFoundTo root nodes end next
words_to root nodes level index here read start end None found next there go_on h e = absurd cc
words_to root nodes level index here read start end (Some node) found next there go_on h e =
    let w = test_ok (is_node_of root level index node) here (read node (reached_at level index here found)) next e in
    let right = right_node root level index node w.0 in
    let this : PlacedNode = record { level = level; index = index; place = here } in
    let told : node_told (nodes here.0) here ≡ this =
    ap (λ (n : Option Node). node_told n here) there ∙ (ap (λ l. record { level = l; index = node.index; place = here }) right.level_is ∙ ap (λ i. record { level = level; index = i; place = here }) right.index_is) in
    go_on node (reached_at level index here found) (record {
      size = h.size;
      marks = h.marks;
      behind = h.behind;
      placed = map-append (λ (n : PlacedNode). node_told (nodes n.place.0) n.place) found.reached (this ∷ [])
          ∙ (ap (λ (xs : List PlacedNode). xs ++ node_told (nodes here.0) here ∷ []) h.placed ∙ ap (λ (n : PlacedNode). found.reached ++ n ∷ []) told);
    }) w.1

child_to : (root : Root) (nodes : Nodes) (none names : Bool) (here : Place) (read : Found → ReadOutcome) (start end : ℕ) (found next : Found) → start ≤ end
    → ((next : Found) → read found ≡ Ok next → IsFoundTo root nodes end next) → IsFoundTo root nodes start found
    → (if none then Ok found else (if names then read found else Err here)) ≡ Ok next → IsFoundTo root nodes end next
child_to root nodes true names here read start end found next more go_on h e = let same : found ≡ next = cc in subst (IsFoundTo root nodes end) same (further root nodes start end found more h)
child_to root nodes false true here read start end found next more go_on h e = go_on next e
child_to root nodes false false here read start end found next more go_on h e = absurd cc

-- the first cache block below a child is that below its parent
first_below : (index power : ℕ) → index * (power * 32) ≡ 32 * index * power
first_below index power = ap (λ n. index * n) (mul_comm power 32) ∙ (sym (mul_assoc index 32 power) ∙ ap (λ n. n * power) (mul_comm index 32))

starts_below : (index level : ℕ) → index * 32 ^ suc level ≡ (32 * index) * 32 ^ level
starts_below index level = ap (λ n. index * n) (pow-suc 32 level) ∙ first_below index (32 ^ level)

begins_below : (index level : ℕ) → index * 32 ^ suc level ≡ (32 * index + 0) * 32 ^ level
begins_below index level = starts_below index level ∙ ap (λ n. n * 32 ^ level) (let none : 32 * index ≡ 32 * index + 0 = omega arith in none)

ends_below : (index level : ℕ) → (32 * index + (32 + 0)) * 32 ^ level ≡ (index + 1) * 32 ^ suc level
ends_below index level = ap (λ n. n * 32 ^ level) (let same : 32 * index + (32 + 0) ≡ 32 * (index + 1) = omega arith in same) ∙ sym (starts_below (index + 1) level)

node_to : (root : Root) (nodes : Nodes) (level index : ℕ) (here : Place) (found next : Found) → IsFoundTo root nodes (index * 32 ^ level) found → node_read root nodes level index here found ≡ Ok next
    → IsFoundTo root nodes ((index + 1) * 32 ^ level) next
unfolding node_read
node_to root nodes zero index here found next h e = absurd cc
node_to root nodes (suc zero) index here found next h e =
    let from : index * 32 ^ 1 ≡ 32 * index + 0 = omega arith in
    let to : 32 * index + (32 + 0) ≡ (index + 1) * 32 ^ 1 = omega arith in
    words_to root nodes 1 index here _ (32 * index + 0) ((index + 1) * 32 ^ 1) (nodes here.0) found next refl
    (λ node f h e. subst (λ n. IsFoundTo root nodes n next) to
    (each_to root nodes (λ j. entry_read root here (32 * index + j) (entry_in (slice_index node.words j))) (λ j. 32 * index + j)
    (λ j f g h e.
    let after : suc (32 * index + j) ≡ 32 * index + suc j = omega arith in
    subst (λ n. IsFoundTo root nodes n g) after (entry_to root nodes here (32 * index + j) (entry_in (slice_index node.words j)) f g h e)) 32 0 f next h e))
    (subst (λ n. IsFoundTo root nodes n found) from h) e
node_to root nodes (suc (suc level)) index here found next h e =
    words_to root nodes (suc (suc level)) index here _ ((32 * index + 0) * 32 ^ suc level) ((index + 1) * 32 ^ suc (suc level)) (nodes here.0) found next refl
    (λ node f h e. subst (λ n. IsFoundTo root nodes n next) (ends_below index (suc level))
    (each_to root nodes (λ j. child_read root here (suc level) (32 * index + j) (node_read root nodes (suc level)) (slice_index node.words j)) (λ j. (32 * index + j) * 32 ^ suc level)
    (λ j f g h e.
    let after : 32 * index + j + 1 ≡ 32 * index + suc j = omega arith in
    let more : (32 * index + j) * 32 ^ suc level ≤ (32 * index + suc j) * 32 ^ suc level = mul-le-mul_right (32 ^ suc level) (omega arith) in
    child_to root nodes (slice_index node.words j == 0) (names_child root f.reached (suc level) (32 * index + j) (slice_index node.words j)) here (node_read root nodes (suc level) (32 * index + j) (record { 0 = slice_index node.words j }))
    ((32 * index + j) * 32 ^ suc level) ((32 * index + suc j) * 32 ^ suc level) f g more
    (λ g e. subst (λ n. IsFoundTo root nodes (n * 32 ^ suc level) g) after (node_to root nodes (suc level) (32 * index + j) (record { 0 = slice_index node.words j }) f g h e)) h e) 32 0 f next h e))
    (subst (λ n. IsFoundTo root nodes n found) (begins_below index (suc level)) h) e

-- ---- the whole mapping

none_found : (root : Root) (nodes : Nodes) → IsFoundTo root nodes 0 (nothing_found root)
none_found root nodes = record {
  size = length-replicate root.geometry.cache_blocks None;
  marks = sym (none_marked (replicate root.geometry.cache_blocks None) (replicate root.geometry.origin_blocks false) (λ block. nothing_there root.geometry.cache_blocks block None));
  behind = λ block from. nothing_there root.geometry.cache_blocks block None;
  placed = refl;
}

top_found : (root : Root) (nodes : Nodes) (top : Option Place) (found : Found) → top_read root nodes top ≡ Ok found → (end : ℕ) × IsFoundTo root nodes end found
top_found root nodes None found e = let same : nothing_found root ≡ found = cc in (0, subst (IsFoundTo root nodes 0) same (none_found root nodes))
top_found root nodes (Some top) found e =
    let depth : ℕ = depth_of root.geometry.cache_blocks in
    ((0 + 1) * 32 ^ depth, node_to root nodes depth 0 top (nothing_found root) found (further root nodes 0 (0 * 32 ^ depth) (nothing_found root) (omega arith) (none_found root nodes)) e)

-- what was found of a mapping: the nodes are those that were told, and the origin blocks of the entries are marked
pub record IsAsTold (root : Root) (nodes : Nodes) (found : Found) : Type 0 where
  pub marks : found.mapped ≡ marked found.entries (replicate root.geometry.origin_blocks false)
  pub placed : as_told nodes found.reached ≡ found.reached

pub found_as_told : (root : Root) (nodes : Nodes) (found : Found) → tree_read root nodes ≡ Ok found → IsAsTold root nodes found
found_as_told root nodes found e = let w = top_found root nodes root.top found e in record { marks = w.1.marks; placed = w.1.placed }
