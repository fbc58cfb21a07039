-- What is read of a tree depends on the places that it reaches alone.
use Rattle.std.proofs.Common.{◌≡◌, ◌+◌, ◌*◌, ◌==◌, ℕ, zero, suc, Bool, true, false, cond, nat_eq, List, [], ◌∷◌, ◌++◌, Option, Some, None, Ok, Err, refl, sym, ◌∙◌, ap, subst}
use Rattle.std.specs.Prelude.{slice_index, if◌then◌else◌}
use Rattle.wb_types.specs.declared.version.Version.{Version}
use Rattle.wb_types.specs.declared.entry.Entry.{Entry}
use Rattle.wb_types.specs.declared.number.Place.{Place}
use Rattle.wb_types.specs.Limits.{depth_of}
use Rattle.wb_disk.specs.Device.{Content}
use Rattle.wb_format.specs.declared.node.Node.{Node}
use Rattle.wb_format.specs.declared.root.Root.{Root}
use Rattle.wb_tree.specs.declared.placed.PlacedNode.{PlacedNode}
use Rattle.wb_tree.specs.Reading.{Found, ReadOutcome, Nodes, ReadsAs, ◌then◌, each_step, entry_in, entry_read, may_map, child_read, names_child, is_node_of, reached_at, words_read, node_read, is_reached, nothing_found, top_read}
use Rattle.wb_format.proofs.Values.{one_node}
use Rattle.wb_tree.proofs.Reading.ReachedLemmas.{is_reached-push}
use Rattle.wb_tree.proofs.Reading.Steps.{then_ok, test_ok}
use Rattle.wb_types.proofs.Truth.{yes}
use Rattle.wb_tree.specs.Loading.{AgreeAt}
use Rattle.wb_types.proofs.Truth.{or_true}

-- what was reached is still reached, and where the same is read there, another reading gives the same
record Follows (a b : Nodes) (other : ReadOutcome) (found next : Found) : Type 0 where
  pub more : (place : ℕ) → is_reached place found.reached ≡ true → is_reached place next.reached ≡ true
  pub same : AgreeAt next.reached a b → other ≡ Ok next

abbrev Following : Nodes → Nodes → (Found → ReadOutcome) → (Found → ReadOutcome) → Type 0
Following a b read other = (found next : Found) → read found ≡ Ok next → Follows a b (other found) found next

-- a reading gives this
abbrev Gives : ReadOutcome → Found → Type 0
Gives reading found = reading ≡ Ok found

-- nothing was read
stored : (a b : Nodes) (found next : Found) → Gives (Ok found) next → Follows a b (Ok found) found next
stored a b found next e =
    let same : found ≡ next = cc in
    record {
      more = λ place r. subst (λ (f : Found). is_reached place f.reached ≡ true) same r;
      same = λ agree. e;
    }

each_following : (a b : Nodes) (step other : ℕ → Found → ReadOutcome) → ((j : ℕ) → Following a b (step j) (other j)) → (count first : ℕ) → Following a b (each_step step count first) (each_step other count first)
unfolding each_step
each_following a b step other h zero first found next e = stored a b found next e
each_following a b step other h (suc count) first found next e =
    let w = then_ok (step first found) (each_step step count (suc first)) next e in
    let one = h first found w.0 w.1 in
    let rest = each_following a b step other h count (suc first) w.0 next w.2 in
    record {
      more = λ place r. rest.more place (one.more place r);
      same = λ agree. ap (λ reading. reading then each_step other count (suc first)) (one.same (λ place r. agree place (rest.more place r))) ∙ rest.same agree;
    }

-- an entry reaches nothing
entry_by : (a b : Nodes) (test : Bool) (here : Place) (found made next : Found) → made.reached ≡ found.reached → (if test then Ok made else Err here) ≡ Ok next → Follows a b (if test then Ok made else Err here) found next
entry_by a b true here found made next same e =
    let is : made ≡ next = cc in
    record {
      more = λ place r. subst (λ (f : Found). is_reached place f.reached ≡ true) is (ap (λ reached. is_reached place reached) same ∙ r);
      same = λ agree. e;
    }
entry_by a b false here found made next same e = absurd (cc)

entry_following : (a b : Nodes) (root : Root) (here : Place) (block : ℕ) (entry : Option Entry) → Following a b (entry_read root here block entry) (entry_read root here block entry)
entry_following a b root here block None found next e = stored a b found next e
entry_following a b root here block (Some entry) found next e = entry_by a b (may_map root found.mapped block entry) here found _ next refl e

child_by : (a b : Nodes) (none names : Bool) (here : Place) (read other : Found → ReadOutcome) → Following a b read other → (found next : Found)
    → (if none then Ok found else (if names then read found else Err here)) ≡ Ok next → Follows a b (if none then Ok found else (if names then other found else Err here)) found next
child_by a b true names here read other h found next e = stored a b found next e
child_by a b false true here read other h found next e = h found next e
child_by a b false false here read other h found next e = absurd (cc)

child_following : (a b : Nodes) (root : Root) (here : Place) (level index : ℕ) (read other : ℕ → Place → Found → ReadOutcome) → ((i : ℕ) (place : Place) → Following a b (read i place) (other i place)) → (word : ℕ)
    → Following a b (child_read root here level index read word) (child_read root here level index other word)
child_following a b root here level index read other h word found next e =
    child_by a b (word == 0) (names_child root found.reached level index word) here (read index (record { 0 = word })) (other index (record { 0 = word })) (h index (record { 0 = word })) found next e

pub reached_before : (place : ℕ) (xs : List PlacedNode) (node : PlacedNode) → is_reached place xs ≡ true → is_reached place (xs ++ node ∷ []) ≡ true
reached_before place xs node r = is_reached-push place xs node ∙ or_true (nat_eq node.place.0 place) (is_reached place xs) r

pub reached_last : (node : PlacedNode) (xs : List PlacedNode) → is_reached node.place.0 (xs ++ node ∷ []) ≡ true
reached_last node xs = is_reached-push node.place.0 xs node ∙ ap (λ t. cond t true (is_reached node.place.0 xs)) (yes node.place.0)

words_following : (a b : Nodes) (root : Root) (level index : ℕ) (here : Place) (read other : Node → Found → ReadOutcome) → ((node : Node) → Following a b (read node) (other node)) → (was : Option Node) → a here.0 ≡ was → (found next : Found)
    → words_read root level index here read was found ≡ Ok next → Follows a b (words_read root level index here other (b here.0) found) found next
words_following a b root level index here read other h None is found next e = absurd (cc)
words_following a b root level index here read other h (Some node) is found next e =
    let w = test_ok (is_node_of root level index node) here (read node (reached_at level index here found)) next e in
    let rest = h node (reached_at level index here found) next w.1 in
    let placed : PlacedNode = record { level = level; index = index; place = here } in
    record {
      more = λ place r. rest.more place (reached_before place found.reached placed r);
      same = λ agree.
          let there : b here.0 ≡ Some node = sym (agree here.0 (rest.more here.0 (reached_last placed found.reached))) ∙ is in
          ap (λ (o : Option Node). words_read root level index here other o found) there
          ∙ ap (λ (test : Bool). if test then other node (reached_at level index here found) else Err here) w.0
          ∙ rest.same agree;
    }

node_following : (a b : Nodes) (root : Root) (level index : ℕ) (here : Place) → Following a b (node_read root a level index here) (node_read root b level index here)
unfolding node_read
node_following a b root zero index here found next e = absurd (cc)
node_following a b root (suc zero) index here found next e =
    words_following a b root 1 index here _ _
    (λ node. each_following a b _ _ (λ j. entry_following a b root here (32 * index + j) (entry_in (slice_index node.words j))) 32 0) (a here.0) refl found next e
node_following a b root (suc (suc level)) index here found next e =
    words_following a b root (suc (suc level)) index here _ _
    (λ node. each_following a b _ _ (λ j. child_following a b root here (suc level) (32 * index + j) (node_read root a (suc level)) (node_read root b (suc level))
    (λ i place. node_following a b root (suc level) i place) (slice_index node.words j)) 32 0) (a here.0) refl found next e

pub top_following : (a b : Nodes) (root : Root) (top : Option Place) (next : Found) → top_read root a top ≡ Ok next → AgreeAt next.reached a b → top_read root b top ≡ Ok next
top_following a b root None next e agree = e
top_following a b root (Some top) next e agree = (node_following a b root (depth_of root.geometry.cache_blocks) 0 top (nothing_found root) next e).same agree

-- a sector reads as one node or none
pub reads_one : (version : Version) (sector : Content) (a b : Option Node) → ReadsAs version sector a → ReadsAs version sector b → a ≡ b
reads_one version sector None None x y = refl
reads_one version sector None (Some node) x y = absurd (x node y)
reads_one version sector (Some node) None x y = absurd (y node x)
reads_one version sector (Some node) (Some other) x y = ap (λ n. Some n) (one_node sector node other x.spelled y.spelled)
