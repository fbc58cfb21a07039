-- The words of a version say all of the entries that are read of its nodes.
use Rattle.std.proofs.Common.{◌≡◌, ◌+◌, ◌*◌, ◌/◌, ◌%◌, ◌^◌, ◌==◌, ◌∙◌, sym, ap, subst, refl, ℕ, zero, suc, Bool, true, false, List, Option, Some, None, Ok, Err, map}
use Rattle.std.specs.Prelude.{slice_index, slice_set, if◌then◌else◌}
use Rattle.std.proofs.lemmas.List.{map-set}
use Rattle.wb_types.specs.Limits.{depth_of}
use Rattle.wb_types.specs.declared.entry.Entry.{Entry}
use Rattle.wb_types.specs.declared.number.Place.{Place}
use Rattle.wb_types.specs.declared.version.Version.{Version}
use Rattle.wb_types.specs.declared.version.Version.TheVariants.{One, Two}
use Rattle.wb_format.specs.declared.node.Node.{Node}
use Rattle.wb_format.specs.declared.root.Root.{Root}
use Rattle.wb_format.specs.Layout.{IsOfVersion}
use Rattle.wb_format.specs.NodeWords.{kept}
use Rattle.wb_tree.specs.Reading.{Found, ReadOutcome, Nodes, ◌then◌, each_step, entry_in, entry_read, may_map, child_read, names_child, is_node_of, reached_at, words_read, node_read, nothing_found, top_read, tree_read}
use Rattle.wb_tree.proofs.Images.PlanSteps.{kept_nones}
use Rattle.wb_tree.proofs.Reading.RightNodes.{right_node}
use Rattle.wb_tree.proofs.Reading.Steps.{then_ok, test_ok}

-- what was found so far is kept
abbrev IsKept : Version → Found → Type 0
IsKept version found = map (kept version) found.entries ≡ found.entries

-- and a reading leaves it so
abbrev Keeps : Version → (Found → ReadOutcome) → Type 0
Keeps version read = (found next : Found) → IsKept version found → read found ≡ Ok next → IsKept version next

-- the entry of a word without a dirty bit
kept_word : (version : Version) (word : ℕ) → (version ≡ Two → word / 2 % 2 ≡ 0) → kept version (entry_in word) ≡ entry_in word
kept_word One word clean = refl
kept_word Two zero clean = refl
kept_word Two (suc n) clean =
    let made : Bool → Option Entry = λ dirty. Some (record { origin = record { 0 = suc n / 2 ^ 16 }; dirty = dirty; hint = suc n / 2 ^ 4 % 2 ^ 5 }) in
    ap (λ (bit : ℕ). made (bit == 1)) (sym (clean refl))

module _ (version : Version) where
  as_before : (found next : Found) → IsKept version found → ◌≡◌ {A = ReadOutcome} (Ok found) (Ok next) → IsKept version next
  as_before found next is e = let same : found ≡ next = cc in subst (λ (f : Found). IsKept version f) same is

  each_keeps : (step : ℕ → Found → ReadOutcome) → ((j : ℕ) → Keeps version (step j)) → (count first : ℕ) → Keeps version (each_step step count first)
  unfolding each_step
  each_keeps step h zero first found next is e = as_before found next is e
  each_keeps step h (suc count) first found next is e =
      let w = then_ok (step first found) (each_step step count (suc first)) next e in
      each_keeps step h count (suc first) w.0 next (h first found w.0 is w.1) w.2

  entry_keeps : (root : Root) (here : Place) (block : ℕ) (o : Option Entry) → kept version o ≡ o → Keeps version (entry_read root here block o)
  entry_keeps root here block None same found next is e = as_before found next is e
  entry_keeps root here block (Some entry) same found next is e =
      let made : Found = record { reached = found.reached; entries = slice_set found.entries block (Some entry); mapped = slice_set found.mapped entry.origin.0 true } in
      let w = test_ok (may_map root found.mapped block entry) here (Ok made) next e in
      let both : map (kept version) made.entries ≡ made.entries =
      map-set (kept version) found.entries block (Some entry) ∙ (ap (λ (es : List (Option Entry)). slice_set es block (kept version (Some entry))) is ∙ ap (λ (one : Option Entry). slice_set found.entries block one) same) in
      as_before made next both w.1

  child_by : (none names : Bool) (here : Place) (read : Found → ReadOutcome) → Keeps version read → Keeps version (λ found. if none then Ok found else (if names then read found else Err here))
  child_by true names here read h found next is e = as_before found next is e
  child_by false true here read h found next is e = h found next is e
  child_by false false here read h found next is e = absurd cc

  words_keep : (root : Root) (level index : ℕ) (here : Place) (read : Node → Found → ReadOutcome) (o : Option Node) → ((node : Node) → o ≡ Some node → is_node_of root level index node ≡ true → Keeps version (read node))
      → Keeps version (words_read root level index here read o)
  words_keep root level index here read None h found next is e = absurd cc
  words_keep root level index here read (Some node) h found next is e =
      let w = test_ok (is_node_of root level index node) here (read node (reached_at level index here found)) next e in
      h node refl w.0 (reached_at level index here found) next is w.1

  module _ (root : Root) (nodes : Nodes) (are : (place : ℕ) (node : Node) → nodes place ≡ Some node → IsOfVersion version node) where
    leaf_word : (index : ℕ) (here : Place) (node : Node) → nodes here.0 ≡ Some node → is_node_of root 1 index node ≡ true → (j : ℕ) → kept version (entry_in (slice_index node.words j)) ≡ entry_in (slice_index node.words j)
    leaf_word index here node there right j =
        let is = right_node root 1 index node right in
        kept_word version (slice_index node.words j) ((are here.0 node there).leaf is.mapping is.level_is j).no_dirty_bit

    node_keeps : (level index : ℕ) (here : Place) → Keeps version (node_read root nodes level index here)
    unfolding node_read
    node_keeps zero index here found next is e = absurd cc
    node_keeps (suc zero) index here found next is e =
        words_keep root 1 index here (λ node. each_step (λ j. entry_read root here (32 * index + j) (entry_in (slice_index node.words j))) 32 0) (nodes here.0)
        (λ node there right. each_keeps (λ j. entry_read root here (32 * index + j) (entry_in (slice_index node.words j)))
        (λ j. entry_keeps root here (32 * index + j) (entry_in (slice_index node.words j)) (leaf_word index here node there right j)) 32 0) found next is e
    node_keeps (suc (suc level)) index here found next is e =
        words_keep root (suc (suc level)) index here (λ node. each_step (λ j. child_read root here (suc level) (32 * index + j) (node_read root nodes (suc level)) (slice_index node.words j)) 32 0) (nodes here.0)
        (λ node there right. each_keeps (λ j. child_read root here (suc level) (32 * index + j) (node_read root nodes (suc level)) (slice_index node.words j))
        (λ j found next is e. child_by (slice_index node.words j == 0) (names_child root found.reached (suc level) (32 * index + j) (slice_index node.words j)) here (node_read root nodes (suc level) (32 * index + j) (record { 0 = slice_index node.words j }))
        (node_keeps (suc level) (32 * index + j) (record { 0 = slice_index node.words j })) found next is e) 32 0) found next is e

    top_keeps : (top : Option Place) (found : Found) → top_read root nodes top ≡ Ok found → IsKept version found
    top_keeps None found e = as_before (nothing_found root) found (kept_nones version root.geometry.cache_blocks) e
    top_keeps (Some place) found e = node_keeps (depth_of root.geometry.cache_blocks) 0 place (nothing_found root) found (kept_nones version root.geometry.cache_blocks) e

    -- the entries that are read of nodes of a version are kept by its words
    pub read_kept : (found : Found) → tree_read root nodes ≡ Ok found → map (kept version) found.entries ≡ found.entries
    read_kept found e = top_keeps root.top found e
