-- The entries that are read are a mapping: each is within the sizes, and no origin block stands in two.
use Rattle.std.proofs.Common.{◌≡◌, ◌≢◌, ◌≤◌, ◌<◌, ◌+◌, ◌*◌, ◌∙◌, ◌&&◌, ◌==◌, sym, ap, subst, refl, ℕ, zero, suc, Bool, true, false, ltb, List, Option, Some, None, Ok, Err, length, arith, inl, inr}
use Rattle.std.specs.Prelude.{◌⊎◌, slice_index, slice_index_or, slice_set, if◌then◌else◌, not}
use Rattle.std.proofs.lemmas.Bool.{cases_lt, not-true}
use Rattle.std.proofs.lemmas.List.{length-set, length-replicate, get_or-set_same, get_or-set_other}
use borrow.Author.Tests.{ltb-true}
use Rattle.wb_types.specs.declared.entry.Entry.{Entry}
use Rattle.wb_types.specs.declared.number.Place.{Place}
use Rattle.wb_types.specs.Limits.{depth_of}
use Rattle.wb_format.specs.declared.root.Root.{Root}
use Rattle.wb_format.specs.declared.node.Node.{Node}
use Rattle.wb_format.specs.NodeWords.{IsLeafWord}
use Rattle.wb_tree.specs.Mapping.{IsMapping}
use Rattle.wb_tree.specs.Reading.{Found, ReadOutcome, Nodes, ◌then◌, each_step, entry_in, entry_read, may_map, child_read, names_child, is_node_of, reached_at, words_read, node_read, nothing_found, top_read, tree_read}
use Rattle.wb_tree.proofs.Reading.RightNodes.{right_node}
use Rattle.wb_tree.proofs.Reading.Grown.{at}
use Rattle.wb_types.proofs.Truth.{and_true}
use Rattle.wb_tree.proofs.Reading.Steps.{then_ok, test_ok, nothing_there}

-- what a reading leaves true
abbrev Leaves : (Found → Type 0) → (Found → ReadOutcome) → Type 0
Leaves P read = (found next : Found) → P found → read found ≡ Ok next → P next

each_leaves : (P : Found → Type 0) (step : ℕ → Found → ReadOutcome) → ((j : ℕ) → Leaves P (step j)) → (count first : ℕ) → Leaves P (each_step step count first)
unfolding each_step
each_leaves P step h zero first found next p e = let same : found ≡ next = cc in subst P same p
each_leaves P step h (suc count) first found next p e =
    let w = then_ok (step first found) (each_step step count (suc first)) next e in
    each_leaves P step h count (suc first) w.0 next (h first found w.0 p w.1) w.2

child_by : (P : Found → Type 0) (none names : Bool) (here : Place) (read : Found → ReadOutcome) → Leaves P read → Leaves P (λ found. if none then Ok found else (if names then read found else Err here))
child_by P true names here read h found next p e = let same : found ≡ next = cc in subst P same p
child_by P false true here read h found next p e = h found next p e
child_by P false false here read h found next p e = absurd cc

words_leave : (P : Found → Type 0) (root : Root) (level index : ℕ) (here : Place) (read : Node → Found → ReadOutcome) (o : Option Node) → ((found : Found) → P found → P (reached_at level index here found))
    → ((node : Node) → is_node_of root level index node ≡ true → Leaves P (read node)) → Leaves P (words_read root level index here read o)
words_leave P root level index here read None reach h found next p e = absurd cc
words_leave P root level index here read (Some node) reach h found next p e =
    let w = test_ok (is_node_of root level index node) here (read node (reached_at level index here found)) next e in
    h node w.0 (reached_at level index here found) next (reach found p) w.1

node_leaves : (P : Found → Type 0) (root : Root) (nodes : Nodes) → ((level index : ℕ) (here : Place) (found : Found) → P found → P (reached_at level index here found))
    → ((here : Place) (block word : ℕ) → IsLeafWord word → Leaves P (entry_read root here block (entry_in word))) → (level index : ℕ) (here : Place) → Leaves P (node_read root nodes level index here)
unfolding node_read
node_leaves P root nodes reach entry zero index here found next p e = absurd cc
node_leaves P root nodes reach entry (suc zero) index here found next p e =
    words_leave P root 1 index here (λ node. each_step (λ j. entry_read root here (32 * index + j) (entry_in (slice_index node.words j))) 32 0) (nodes here.0) (reach 1 index here)
    (λ node right. each_leaves P (λ j. entry_read root here (32 * index + j) (entry_in (slice_index node.words j))) (λ j. entry here (32 * index + j) (slice_index node.words j) (let is = right_node root 1 index node right in (node.spelled j).leaf is.mapping is.level_is)) 32 0) found next p e
node_leaves P root nodes reach entry (suc (suc level)) index here found next p e =
    words_leave P root (suc (suc level)) index here (λ node. each_step (λ j. child_read root here (suc level) (32 * index + j) (node_read root nodes (suc level)) (slice_index node.words j)) 32 0) (nodes here.0) (reach (suc (suc level)) index here)
    (λ node right. each_leaves P (λ j. child_read root here (suc level) (32 * index + j) (node_read root nodes (suc level)) (slice_index node.words j))
    (λ j found next p e. child_by P (slice_index node.words j == 0) (names_child root found.reached (suc level) (32 * index + j) (slice_index node.words j)) here (node_read root nodes (suc level) (32 * index + j) (record { 0 = slice_index node.words j }))
    (node_leaves P root nodes reach entry (suc level) (32 * index + j) (record { 0 = slice_index node.words j })) found next p e) 32 0) found next p e

-- ---- the entries

-- what was found so far is a mapping, and the origin blocks that stand in it are marked
record IsSoFar (root : Root) (found : Found) : Type 0 where
  size : length found.entries ≡ root.geometry.cache_blocks
  marks : length found.mapped ≡ root.geometry.origin_blocks
  within : (block : ℕ) (entry : Entry) → at found block ≡ Some entry → (entry.origin.0 < root.geometry.origin_blocks) × (entry.hint ≤ 16)
  marked : (block : ℕ) (entry : Entry) → at found block ≡ Some entry → slice_index_or found.mapped entry.origin.0 false ≡ true
  once : (block other : ℕ) (entry same : Entry) → at found block ≡ Some entry → at found other ≡ Some same → entry.origin ≡ same.origin → block ≡ other

low_hint : (word : ℕ) (entry : Entry) → IsLeafWord word → entry_in word ≡ Some entry → entry.hint ≤ 16
low_hint zero entry h e = absurd cc
low_hint (suc n) entry h e = let same = some_is _ entry e in subst (λ (x : Entry). x.hint ≤ 16) same h.hint
  where
    some_is : (a b : Entry) → ◌≡◌ {A = Option Entry} (Some a) (Some b) → a ≡ b
    some_is a b e = cc

-- what the test of an entry says
record MayStand (root : Root) (mapped : List Bool) (block : ℕ) (entry : Entry) : Type 0 where
  inside : block < root.geometry.cache_blocks
  low : entry.origin.0 < root.geometry.origin_blocks
  free : slice_index_or mapped entry.origin.0 false ≡ false

may_stand : (root : Root) (mapped : List Bool) (block : ℕ) (entry : Entry) → may_map root mapped block entry ≡ true → MayStand root mapped block entry
may_stand root mapped block entry h =
    let a = and_true (ltb block root.geometry.cache_blocks && ltb entry.origin.0 root.geometry.origin_blocks) (not (slice_index_or mapped entry.origin.0 false)) h in
    let b = and_true (ltb block root.geometry.cache_blocks) (ltb entry.origin.0 root.geometry.origin_blocks) a.0 in
    record { inside = ltb-true _ _ b.0; low = ltb-true _ _ b.1; free = not-true _ a.1 }

same_or_not : (a b : ℕ) → (a ≡ b) ⊎ (a ≢ b)
same_or_not a b = elim (cases_lt a b) [
  | inl less ↦ inr (λ e. omega (arith, e))
  | inr more ↦ elim (cases_lt b a) [
    | inl greater ↦ inr (λ e. omega (arith, e))
    | inr equal ↦ inl (omega arith)
  ]
]

some_same : (a b : Entry) (o : Option Entry) → o ≡ Some a → o ≡ Some b → a ≡ b
some_same a b o e f = let both : ◌≡◌ {A = Option Entry} (Some a) (Some b) = sym e ∙ f in cc

one_more : (root : Root) (block : ℕ) (entry : Entry) (found : Found) → MayStand root found.mapped block entry → entry.hint ≤ 16 → IsSoFar root found
    → IsSoFar root (record { reached = found.reached; entries = slice_set found.entries block (Some entry); mapped = slice_set found.mapped entry.origin.0 true })
one_more root block entry found may low h =
    let long : block < length found.entries = let i = may.inside in let s = h.size in omega (arith, s) in
    let here : slice_index_or (slice_set found.entries block (Some entry)) block None ≡ Some entry = get_or-set_same found.entries block (Some entry) None long in
    let there = λ (other : ℕ) (ne : block ≢ other). get_or-set_other found.entries block other (Some entry) None (λ e. ne (sym e)) in
    let is_marked : (e : Entry) → slice_index_or found.mapped e.origin.0 false ≡ true → slice_index_or (slice_set found.mapped entry.origin.0 true) e.origin.0 false ≡ true = λ e was.
    elim (same_or_not entry.origin.0 e.origin.0) [
      | inl same ↦ ap (λ k. slice_index_or (slice_set found.mapped entry.origin.0 true) k false) (sym same) ∙ get_or-set_same found.mapped entry.origin.0 true false (let l = may.low in let m = h.marks in omega (arith, m))
      | inr ne ↦ get_or-set_other found.mapped entry.origin.0 e.origin.0 true false (λ same. ne (sym same)) ∙ was
    ] in
    let clash : (other : ℕ) (same : Entry) → at found other ≡ Some same → entry.origin.0 ≡ same.origin.0 → ⊥ = λ other same is e.
    let was = h.marked other same is in
    let both : true ≡ false = sym was ∙ (ap (λ k. slice_index_or found.mapped k false) (sym e) ∙ may.free) in
    cc in
    record {
      size = length-set found.entries block (Some entry) ∙ h.size;
      marks = length-set found.mapped entry.origin.0 true ∙ h.marks;
      within = λ b e is. elim (same_or_not block b) [
        | inl same ↦
            let it = some_same entry e (slice_index_or (slice_set found.entries block (Some entry)) b None) (ap (λ k. slice_index_or (slice_set found.entries block (Some entry)) k None) (sym same) ∙ here) is in
            (subst (λ (x : Entry). x.origin.0 < root.geometry.origin_blocks) it may.low, subst (λ (x : Entry). x.hint ≤ 16) it low)
        | inr ne ↦ h.within b e (sym (there b ne) ∙ is)
      ];
      marked = λ b e is. elim (same_or_not block b) [
        | inl same ↦
            let it = some_same entry e (slice_index_or (slice_set found.entries block (Some entry)) b None) (ap (λ k. slice_index_or (slice_set found.entries block (Some entry)) k None) (sym same) ∙ here) is in
            subst (λ (x : Entry). slice_index_or (slice_set found.mapped entry.origin.0 true) x.origin.0 false ≡ true) it (get_or-set_same found.mapped entry.origin.0 true false (let l = may.low in let m = h.marks in omega (arith, m)))
        | inr ne ↦ is_marked e (h.marked b e (sym (there b ne) ∙ is))
      ];
      once = λ b c e d is also e=d.
          let named = λ (k : ℕ) (x : Entry) (same : block ≡ k) (at_k : slice_index_or (slice_set found.entries block (Some entry)) k None ≡ Some x).
          some_same entry x (slice_index_or (slice_set found.entries block (Some entry)) k None) (ap (λ n. slice_index_or (slice_set found.entries block (Some entry)) n None) (sym same) ∙ here) at_k in
          elim (same_or_not block b) [
            | inl first ↦ elim (same_or_not block c) [
              | inl last ↦ sym first ∙ last
              | inr ne ↦ absurd (clash c d (sym (there c ne) ∙ also) (ap (λ (x : Entry). x.origin.0) (named b e first is) ∙ ap (λ o. o.0) e=d))
            ]
            | inr not_first ↦ elim (same_or_not block c) [
              | inl last ↦ absurd (clash b e (sym (there b not_first) ∙ is) (ap (λ (x : Entry). x.origin.0) (named c d last also) ∙ sym (ap (λ o. o.0) e=d)))
              | inr ne ↦ h.once b c e d (sym (there b not_first) ∙ is) (sym (there c ne) ∙ also) e=d
            ]
          ];
    }

entry_leaves : (root : Root) (here : Place) (block word : ℕ) (o : Option Entry) → entry_in word ≡ o → IsLeafWord word → Leaves (IsSoFar root) (entry_read root here block o)
entry_leaves root here block word None is leaf found next p e = let same : found ≡ next = cc in subst (IsSoFar root) same p
entry_leaves root here block word (Some entry) is leaf found next p e =
    let w = made_by (may_map root found.mapped block entry) here (record { reached = found.reached; entries = slice_set found.entries block (Some entry); mapped = slice_set found.mapped entry.origin.0 true }) next e in
    subst (IsSoFar root) w.1 (one_more root block entry found (may_stand root found.mapped block entry w.0) (low_hint word entry leaf is) p)
  where
    made_by : (test : Bool) (here : Place) (made next : Found) → (if test then Ok made else Err here) ≡ Ok next → (test ≡ true) × (made ≡ next)
    made_by true here made next e = (refl, (let same : made ≡ next = cc in same))
    made_by false here made next e = absurd cc

begun : (root : Root) → IsSoFar root (nothing_found root)
begun root =
    let none = λ (block : ℕ) (entry : Entry) (is : at (nothing_found root) block ≡ Some entry).
    let both : ◌≡◌ {A = Option Entry} None (Some entry) = sym (nothing_there root.geometry.cache_blocks block None) ∙ is in both in
    record {
      size = length-replicate root.geometry.cache_blocks None;
      marks = length-replicate root.geometry.origin_blocks false;
      within = λ block entry is. absurd (let e = none block entry is in cc);
      marked = λ block entry is. absurd (let e = none block entry is in cc);
      once = λ block other entry same is also e. absurd (let f = none block entry is in cc);
    }

so_far : (root : Root) (nodes : Nodes) (top : Option Place) (found : Found) → top_read root nodes top ≡ Ok found → IsSoFar root found
so_far root nodes None found e = let same : nothing_found root ≡ found = cc in subst (IsSoFar root) same (begun root)
so_far root nodes (Some place) found e =
    node_leaves (IsSoFar root) root nodes (λ level index here f h. record { size = h.size; marks = h.marks; within = h.within; marked = h.marked; once = h.once })
    (λ here block word leaf. entry_leaves root here block word (entry_in word) refl leaf) (depth_of root.geometry.cache_blocks) 0 place (nothing_found root) found (begun root) e

pub mapping_read : (root : Root) (nodes : Nodes) (found : Found) → tree_read root nodes ≡ Ok found → IsMapping root.geometry.cache_blocks root.geometry.origin_blocks found.entries
mapping_read root nodes found e = let h = so_far root nodes root.top found e in record { size = h.size; within = h.within; once = h.once }
