-- Nodes of a tree of boxes that become known, one after the other.
use Rattle.std.proofs.Common.{◌≡◌, ◌≤◌, ◌<◌, ◌+◌, ◌-◌, ◌*◌, ◌^◌, ◌&&◌, ◌==◌, ◌∙◌, sym, ap, subst, refl, ℕ, zero, suc, true, false, Option, Some, None, Box, List, [], ◌∷◌, ◌++◌, length, replicate, take, drop, append_assoc, arith, inl, inr}
use Rattle.std.specs.Prelude.{is_some, slice_get}
use Rattle.std.specs.List.{list_any}
use Rattle.std.proofs.lemmas.Bool.{cases_Bool}
use Rattle.std.proofs.lemmas.List.{append-nil, length-append, length-take, take-append-drop}
use Rattle.std.proofs.Math.Nat.{lt_of_mul-lt-mul_right}
use Rattle.wb_types.specs.Limits.{depth_of}
use Rattle.wb_types.specs.declared.entry.Entry.{Entry}
use Rattle.wb_types.specs.declared.number.Place.{Place}
use Rattle.wb_types.proofs.Truth.{yes}
use Rattle.wb_tree.specs.declared.placed.PlacedNode.{PlacedNode}
use Rattle.wb_tree.specs.Mapping.{Mapping, IsSound, exists, place_in, place_of}
use Rattle.wb_tree.specs.Fields.{AreApart}
use Rattle.wb_tree.specs.Branches.{AreBoxes, Branch, boxes_of, entries_in, known_in}
use Rattle.wb_tree.specs.Settling.{CanSettle, HasBox, NodesAreSettled, IsSettledAt}
use Rattle.wb_tree.proofs.Nodes.Alike.{AreAlike}
use Rattle.wb_tree.proofs.Nodes.Fronts.{begins_inside}
use Rattle.wb_tree.proofs.Nodes.Knowing.{found_some, same_names}
use Rattle.wb_tree.proofs.Nodes.Placing.{flip}
use Rattle.wb_tree.proofs.Branching.Looks.{else_place, place_append, place_left, branch_settled, none_from, powers}
use Rattle.wb_tree.proofs.Branching.Slots.{length_in}
use Rattle.wb_tree.proofs.Reading.PlacedLists.{place_in-append_none}

-- ---- nodes of which none comes twice

else_some : (o : Option Place) (place : Place) → else_place o (Some place) ≡ None → ⊥
else_some None place h = absurd cc
else_some (Some other) place h = absurd cc

here_is : (node : PlacedNode) (nodes : List PlacedNode) → place_in (node ∷ nodes) node.level node.index ≡ Some node.place
here_is node nodes = rw (yes node.level, yes node.index) refl

-- a node that is listed has a place
listed_some : (front back : List PlacedNode) (node : PlacedNode) → place_in (front ++ node ∷ back) node.level node.index ≡ None → ⊥
listed_some front back node h =
    else_some (place_in front node.level node.index) node.place (ap (λ o. else_place (place_in front node.level node.index) o) (sym (here_is node back)) ∙ (sym (place_append front (node ∷ back) node.level node.index) ∙ h))

named_alike : (a b : PlacedNode) (nodes : List PlacedNode) → ((a.level == b.level) && (a.index == b.index)) ≡ true → place_in nodes a.level a.index ≡ place_in nodes b.level b.index
named_alike a b nodes same =
    let e = same_names a.level b.level a.index b.index same in
    ap (λ l. place_in nodes l a.index) e.0 ∙ ap (λ i. place_in nodes b.level i) e.1

pub apart_before : (xs back : List PlacedNode) (node : PlacedNode) → AreApart (xs ++ node ∷ back) → place_in xs node.level node.index ≡ None
apart_before [] back node apart = refl
apart_before (x ∷ xs) back node apart = elim (cases_Bool ((x.level == node.level) && (x.index == node.index))) [
  | inl same ↦ absurd (listed_some xs back node (sym (named_alike x node (xs ++ node ∷ back) same) ∙ apart.0))
  | inr other ↦ rw other (apart_before xs back node apart.1)
]

both_none : (o p : Option Place) → else_place o p ≡ None → (o ≡ None) × (p ≡ None)
both_none None p h = (refl, h)
both_none (Some place) p h = absurd cc

-- a node among others is found as one behind them
place_insert : (front back : List PlacedNode) (node : PlacedNode) (level index : ℕ) → place_in (front ++ back) node.level node.index ≡ None
    → place_in (front ++ node ∷ back) level index ≡ place_in ((front ++ back) ++ node ∷ []) level index
place_insert front back node level index none = elim (cases_Bool ((node.level == level) && (node.index == index))) [
  | inl same ↦
      let e = same_names node.level level node.index index same in
      let none' : place_in (front ++ back) level index ≡ None = subst (λ i. place_in (front ++ back) level i ≡ None) e.1 (subst (λ l. place_in (front ++ back) l node.index ≡ None) e.0 none) in
      let both = both_none (place_in front level index) (place_in back level index) (sym (place_append front back level index) ∙ none') in
      let first : place_in (node ∷ back) level index ≡ Some node.place = rw same refl in
      let last : place_in (node ∷ []) level index ≡ Some node.place = rw same refl in
      place_in-append_none front (node ∷ back) level index both.0 ∙ (first ∙ (sym last ∙ sym (place_in-append_none (front ++ back) (node ∷ []) level index none')))
  | inr other ↦
      let first : place_in (node ∷ back) level index ≡ place_in back level index = rw other refl in
      let last : place_in (node ∷ []) level index ≡ None = rw other refl in
      place_append front (node ∷ back) level index
      ∙ (ap (λ o. else_place (place_in front level index) o) first ∙ (sym (place_append front back level index) ∙ sym (place_left (front ++ back) (node ∷ []) level index last)))
]

apart_insert : (front back : List PlacedNode) (node : PlacedNode) → AreApart (front ++ back) → place_in (front ++ back) node.level node.index ≡ None → AreApart (front ++ node ∷ back)
apart_insert [] back node apart none = (none, apart)
apart_insert (x ∷ front) back node apart none = elim (cases_Bool ((x.level == node.level) && (x.index == node.index))) [
  | inl same ↦ absurd (let some : place_in (x ∷ front ++ back) node.level node.index ≡ Some x.place = rw same refl in cc)
  | inr other ↦
      let rest : place_in (front ++ back) node.level node.index ≡ None = rw (← none) (rw other refl) in
      let alone : place_in (node ∷ []) x.level x.index ≡ None = rw (flip node.level x.level node.index x.index other) refl in
      (place_insert front back node x.level x.index rest ∙ (place_left (front ++ back) (node ∷ []) x.level x.index alone ∙ apart.0), apart_insert front back node apart.1 rest)
]

-- ---- one node more

place_more : (known others : List PlacedNode) (node : PlacedNode) (level index : ℕ) → place_in known level index ≡ place_in others level index → place_in (known ++ node ∷ []) level index ≡ place_in (others ++ node ∷ []) level index
place_more known others node level index same =
    place_append known (node ∷ []) level index ∙ (ap (λ o. else_place o (place_in (node ∷ []) level index)) same ∙ sym (place_append others (node ∷ []) level index))

pub apart_front : (xs ys : List PlacedNode) → AreApart (xs ++ ys) → AreApart xs
apart_front [] ys apart = tt
apart_front (x ∷ xs) ys apart = ((both_none (place_in xs x.level x.index) (place_in ys x.level x.index) (sym (place_append xs ys x.level x.index) ∙ apart.0)).0, apart_front xs ys apart.1)

pub settled_none : (top : Branch) → AreApart top.known → NodesAreSettled top top []
settled_none top apart = record {
  level_same = refl;
  index_same = refl;
  entries_same = refl;
  places = λ level index. ap (λ ks. place_in ks level index) (sym (append-nil top.known));
  once = apart;
  more = omega arith;
  branch = λ is. is;
}

pub first_name : (index size k : ℕ) → index ≡ 0 → index * size + k ≡ k
first_name index size k e = ap (λ n. n * size + k) e ∙ omega arith

pub settled_more : (old mid new : Branch) (nodes more : List PlacedNode) (node : PlacedNode) → old.index ≡ 0 → NodesAreSettled old mid nodes → HasBox old node → place_in (old.known ++ nodes) node.level node.index ≡ None
    → IsSettledAt mid new (record { level = node.level; index = mid.index * 32 ^ (mid.level - node.level) + node.index; place = node.place }) → more ≡ nodes ++ node ∷ [] → NodesAreSettled old new more
settled_more old mid new nodes more node first was named none at e =
    let here : mid.index ≡ 0 = was.index_same ∙ first in
    let k = at.known in
    let name : mid.index * 32 ^ (mid.level - node.level) + node.index ≡ node.index = first_name mid.index (32 ^ (mid.level - node.level)) node.index here in
    let own : new.known ≡ k.front ++ node ∷ k.back =
    k.is ∙ ap (λ i. k.front ++ record { level = node.level; index = i; place = node.place } ∷ k.back) name in
    let none' : place_in (k.front ++ k.back) node.level node.index ≡ None = ap (λ ks. place_in ks node.level node.index) (sym k.was) ∙ (was.places node.level node.index ∙ none) in
    let to = named.to in
    let level : mid.level ≡ old.level = was.level_same in
    record {
      level_same = at.level_same ∙ was.level_same;
      index_same = at.index_same ∙ was.index_same;
      entries_same = at.entries_same ∙ was.entries_same;
      places = λ level index.
          ap (λ ks. place_in ks level index) own
          ∙ (place_insert k.front k.back node level index none'
          ∙ (ap (λ (ks : List PlacedNode). place_in (ks ++ node ∷ []) level index) (sym k.was)
          ∙ (place_more mid.known (old.known ++ nodes) node level index (was.places level index)
          ∙ ap (λ ks. place_in ks level index) (append_assoc old.known nodes (node ∷ []) ∙ ap (λ (ns : List PlacedNode). old.known ++ ns) (sym e)))));
      once = subst AreApart (sym own) (apart_insert k.front k.back node (subst AreApart k.was was.once) none');
      more = omega (
        arith,
        ap (λ (ks : List PlacedNode). length ks) own,
        length-append k.front (node ∷ k.back),
        ap (λ (ks : List PlacedNode). length ks) k.was,
        length-append k.front k.back,
        was.more,
        ap (λ (ks : List PlacedNode). length ks) e,
        length-append nodes (node ∷ []),
      );
      branch = λ is.
          branch_settled mid new node.level node.index node.place (was.branch is) (omega (arith, to, level)) (subst (λ n. node.index < 32 ^ (n - node.level)) (sym level) named.inside) at;
    }

-- ---- the nodes in their order

split_at : (nodes : List PlacedNode) (i : ℕ) (node : PlacedNode) → slice_get nodes i ≡ Some node → nodes ≡ take i nodes ++ node ∷ drop (suc i) nodes
split_at [] i node h = absurd cc
split_at (x ∷ nodes) zero node h = let e : x ≡ node = cc in ap (λ n. n ∷ nodes) e
split_at (x ∷ nodes) (suc i) node h = ap (λ (ns : List PlacedNode). x ∷ ns) (split_at nodes i node h)

pub next_unknown : (known nodes : List PlacedNode) (i : ℕ) (node : PlacedNode) → AreApart (known ++ nodes) → slice_get nodes i ≡ Some node → place_in (known ++ take i nodes) node.level node.index ≡ None
next_unknown known nodes i node apart h =
    apart_before (known ++ take i nodes) (drop (suc i) nodes) node
    (subst AreApart (ap (λ (ns : List PlacedNode). known ++ ns) (split_at nodes i node h) ∙ sym (append_assoc known (take i nodes) (node ∷ drop (suc i) nodes))) apart)

-- ---- a tree of which nodes become known

-- an entry lies below a node of the boxes where one does of the tree
some_part : (n k m : ℕ) (entries : List (Option Entry)) → list_any is_some (take n (drop k (entries ++ replicate m None))) ≡ list_any is_some (take n (drop k entries))
some_part n k m [] = none_from n k m ∙ sym (none_from n k 0)
some_part zero zero m (entry ∷ entries) = refl
some_part (suc n) zero m (None ∷ entries) = some_part n zero m entries
some_part (suc n) zero m (Some entry ∷ entries) = refl
some_part n (suc k) m (entry ∷ entries) = some_part n k m entries

pub exists-boxes : {A : Type 0} (cache_blocks depth level index : ℕ) (root : Option (Box Branch A)) → AreBoxes cache_blocks depth root → exists (boxes_of cache_blocks depth root).entries level index ≡ exists (entries_in (32 ^ depth) root) level index
unfolding exists
exists-boxes cache_blocks depth level index root are =
    let es = entries_in (32 ^ depth) root in
    sym (some_part (32 ^ level) (index * 32 ^ level) (32 ^ depth - cache_blocks) (take cache_blocks es))
    ∙ ap (λ (xs : List (Option Entry)). list_any is_some (take (32 ^ level) (drop (index * 32 ^ level) xs))) (ap (λ (ys : List (Option Entry)). take cache_blocks es ++ ys) (sym are.ends) ∙ take-append-drop cache_blocks es)

-- the levels of the tree are those of the boxes
pub levels-boxes : {A : Type 0} (cache_blocks depth : ℕ) (root : Option (Box Branch A)) → AreBoxes cache_blocks depth root → depth_of (length (boxes_of cache_blocks depth root).entries) ≡ depth
levels-boxes cache_blocks depth root are =
    let enough = are.enough in
    let long : length (take cache_blocks (entries_in (32 ^ depth) root)) ≡ cache_blocks = omega (arith, length-take cache_blocks (entries_in (32 ^ depth) root), length_in depth 0 root are.top) in
    ap depth_of long ∙ sym are.levels

-- a node that exists has an index of its level
pub index_inside : (entries : List (Option Entry)) (depth level index : ℕ) → length entries ≤ 32 ^ depth → level ≤ depth → exists entries level index ≡ true → index < 32 ^ (depth - level)
index_inside entries depth level index enough to there =
    let starts = begins_inside entries level index there in
    let power : 32 ^ (depth - level) * 32 ^ level ≡ 32 ^ depth = powers (depth - level) level ∙ (let e : depth - level + level ≡ depth = omega arith in ap (λ n. 32 ^ n) e) in
    lt_of_mul-lt-mul_right (32 ^ level) (omega (arith, starts, power, enough))

-- a node of a sound tree has a box
named_node : {A : Type 0} (cache_blocks depth : ℕ) (kid : Box Branch A) (m k : Mapping) (node : PlacedNode) (place : Place) → AreBoxes cache_blocks depth (Some kid) → boxes_of cache_blocks depth (Some kid) ≡ m → k.entries ≡ m.entries
    → IsSound k → place_of k node.level node.index ≡ Some place → HasBox kid.value node
named_node cache_blocks depth kid m k node place are view same sound h =
    let top = are.top in
    let deep : depth_of (length k.entries) ≡ kid.value.level = ap (λ (es : List (Option Entry)). depth_of (length es)) (same ∙ ap (λ (n : Mapping). n.entries) (sym view)) ∙ (levels-boxes cache_blocks depth (Some kid) are ∙ sym top.level_is) in
    let level = sound.known_level node.level node.index place h in
    let to : node.level ≤ kid.value.level = subst (λ n. node.level ≤ n) deep level.1 in
    let there : exists kid.value.entries node.level node.index ≡ true =
    sym (exists-boxes cache_blocks depth node.level node.index (Some kid) are)
    ∙ (ap (λ (n : Mapping). exists n.entries node.level node.index) view ∙ (ap (λ (es : List (Option Entry)). exists es node.level node.index) (sym same) ∙ sound.known_exist node.level node.index place h)) in
    record {
      from = level.0;
      to = to;
      inside = index_inside kid.value.entries kid.value.level node.level node.index (let size = top.branch.size in omega arith) to there;
      there = there;
    }

some_named : {A : Type 0} (cache_blocks depth : ℕ) (kid : Box Branch A) (m k : Mapping) (node : PlacedNode) (o : Option Place) → AreBoxes cache_blocks depth (Some kid) → boxes_of cache_blocks depth (Some kid) ≡ m → k.entries ≡ m.entries
    → IsSound k → place_of k node.level node.index ≡ o → (o ≡ None → ⊥) → HasBox kid.value node
some_named cache_blocks depth kid m k node None are view same sound h some = absurd (some refl)
some_named cache_blocks depth kid m k node (Some place) are view same sound h some = named_node cache_blocks depth kid m k node place are view same sound h

pub can_settle : {A : Type 0} (cache_blocks depth : ℕ) (kid : Box Branch A) (m : Mapping) (nodes : List PlacedNode) → AreBoxes cache_blocks depth (Some kid) → boxes_of cache_blocks depth (Some kid) ≡ m → AreApart (m.known ++ nodes)
    → IsSound (record { entries = m.entries; known = m.known ++ nodes }) → CanSettle kid.value nodes
can_settle cache_blocks depth kid m nodes are view apart sound =
    let top = are.top in
    let known : m.known ≡ kid.value.known = ap (λ (m : Mapping). m.known) (sym view) in
    record {
      first = top.index_is;
      apart = subst (λ (ks : List PlacedNode). AreApart (ks ++ nodes)) known apart;
      each = λ i node h.
          some_named cache_blocks depth kid m (record { entries = m.entries; known = m.known ++ nodes }) node (place_in (m.known ++ nodes) node.level node.index) are view refl sound refl
          (λ none. found_some nodes i node h (both_none (place_in m.known node.level node.index) (place_in nodes node.level node.index) (sym (place_append m.known nodes node.level node.index) ∙ none)).1);
    }

-- without a box there is no entry
pub nothing_there_at_all : {A : Type 0} (cache_blocks depth level index : ℕ) (root : Option (Box Branch A)) (m : Mapping) → root ≡ None → AreBoxes cache_blocks depth root → boxes_of cache_blocks depth root ≡ m → exists m.entries level index ≡ false
unfolding exists
nothing_there_at_all {A} cache_blocks depth level index root m none are view =
    ap (λ (n : Mapping). exists n.entries level index) (sym view)
    ∙ (exists-boxes cache_blocks depth level index root are ∙ (ap (λ (o : Option (Box Branch A)). exists (entries_in (32 ^ depth) o) level index) none ∙ none_from (32 ^ level) (index * 32 ^ level) (32 ^ depth)))

-- nor is any node named
pub nothing_boxed : {A : Type 0} (cache_blocks depth : ℕ) (root : Option (Box Branch A)) (m : Mapping) (nodes : List PlacedNode) → root ≡ None → AreBoxes cache_blocks depth root → boxes_of cache_blocks depth root ≡ m
    → IsSound (record { entries = m.entries; known = m.known ++ nodes }) → AreAlike (record { entries = m.entries; known = m.known ++ nodes }) m
nothing_boxed {A} cache_blocks depth root m nodes none are view sound = record {
  entries = refl;
  places = λ level index. sym (no_known level index (place_in (m.known ++ nodes) level index) refl ∙ ap (λ (o : Option (Box Branch A)). place_in (known_in o) level index) (sym none) ∙ ap (λ (n : Mapping). place_in n.known level index) view);
}
  where
    no_known : (level index : ℕ) (o : Option Place) → place_in (m.known ++ nodes) level index ≡ o → place_in (m.known ++ nodes) level index ≡ None
    no_known level index None e = e
    no_known level index (Some place) e =
        let there : exists m.entries level index ≡ true = sound.known_exist level index place e in
        let empty : exists m.entries level index ≡ false = nothing_there_at_all cache_blocks depth level index root m none are view in
        absurd cc

pub nothing_settled : {A : Type 0} (cache_blocks depth : ℕ) (root : Option (Box Branch A)) (m : Mapping) (nodes : List PlacedNode) → root ≡ None → AreBoxes cache_blocks depth root → boxes_of cache_blocks depth root ≡ m
    → IsSound (record { entries = m.entries; known = m.known ++ nodes }) → nodes ≡ []
nothing_settled cache_blocks depth root m [] none are view sound = refl
nothing_settled {A} cache_blocks depth root m (node ∷ nodes) none are view sound =
    let alike = nothing_boxed cache_blocks depth root m (node ∷ nodes) none are view sound in
    let unknown : place_in m.known node.level node.index ≡ None =
    ap (λ (n : Mapping). place_in n.known node.level node.index) (sym view) ∙ ap (λ (o : Option (Box Branch A)). place_in (known_in o) node.level node.index) none in
    absurd (listed_some m.known nodes node (sym (alike.places node.level node.index) ∙ unknown))
