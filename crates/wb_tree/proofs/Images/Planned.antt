-- The tree whose changed nodes all stand at the first of some free places.
use Rattle.std.proofs.Common.{◌≡◌, ◌≤◌, ◌<◌, ◌+◌, ◌∙◌, ◌&&◌, ◌==◌, sym, ap, subst, refl, ℕ, zero, suc, true, false, is_some, List, [], ◌∷◌, ◌++◌, Option, Some, None, map, take, length, inl, inr, arith}
use Rattle.std.specs.Prelude.{◌⊎◌, Contains, IsSome, slice_get}
use Rattle.std.specs.List.{AllByRecursion}
use Rattle.std.proofs.lemmas.Bool.{cases_Bool}
use Rattle.std.proofs.lemmas.Option.{get_or_from_slice_get, slice_get_within}
use Rattle.std.proofs.lemmas.List.{length-append, length-map}
use Rattle.std.proofs.lemmas.List.Elements.{All-weaker}
use Rattle.wb_types.specs.Limits.{depth_of, node_count}
use Rattle.wb_types.specs.declared.geometry.Geometry.{Geometry}
use Rattle.wb_types.specs.declared.entry.Entry.{Entry}
use Rattle.wb_types.specs.declared.number.Place.{Place}
use Rattle.wb_types.specs.declared.version.Version.{Version}
use Rattle.wb_format.specs.declared.node.Node.{Node}
use Rattle.wb_tree.specs.declared.placed.PlacedNode.{PlacedNode}
use Rattle.wb_tree.specs.Mapping.{Mapping, NodeName, IsMapping, IsSound, IsPlaceOf, AreInside, exists, nodes_of, place_in, place_of, used_places, changed, changed_of}
use Rattle.wb_tree.specs.Images.{AreFree, HasWordsOf, kept_tree, name_of}
use Rattle.wb_tree.specs.Planning.{placed, planned, levels, names, IsWritten, AreWritten, MayPlan}
use Rattle.wb_tree.specs.Fields.{AreApart, IsComplete}
use Rattle.wb_tree.proofs.Nodes.Alike.{AreAlike}
use Rattle.wb_tree.proofs.Nodes.Few.{known-few}
use Rattle.wb_tree.proofs.Nodes.Names.{IsBelow, has, same_name, nodes_below-below, nodes_below-exist}
use Rattle.wb_tree.proofs.Nodes.Placing.{IsPlaced, placed-apart, placed-some, placed-had, placed-is, placed-none, placed-take}
use Rattle.wb_tree.proofs.Nodes.Listed.{unknown_changed}
use Rattle.wb_tree.proofs.Nodes.Knowing.{same_names}
use Rattle.wb_tree.proofs.Images.PlanSteps.{changed-apart, changed-exist, changed_of-all, planned-known, planned-new}
use Rattle.wb_tree.proofs.Images.Imaging.{WritesChanged}
use Rattle.wb_types.proofs.Truth.{either_true}
use Rattle.wb_tree.proofs.Reading.PlacedLists.{names-append}

-- what each of these nodes has, a listed one has
each_had : (P : NodeName → Type 0) (nodes : List NodeName) (level index : ℕ) → AllByRecursion P nodes → has nodes level index ≡ true → P (record { level = level; index = index })
each_had P [] level index each h = absurd cc
each_had P (node ∷ nodes) level index each h = elim (either_true ((node.level == level) && (node.index == index)) (has nodes level index) h) [
  | inl here ↦ subst P (same_name node level index here) each.0
  | inr later ↦ each_had P nodes level index each.1 later
]

-- what it takes for the free places to be those of a tree's changed nodes
pub record CanPlace (m : Mapping) (geometry : Geometry) (free : List Place) : Type 0 where
  pub size : length m.entries ≡ geometry.cache_blocks
  pub sound : IsSound m
  pub once : AreApart m.known
  pub inside : AreInside geometry.meta_sectors m
  pub are : AreFree m geometry free

few_enough : (m : Mapping) (geometry : Geometry) (free : List Place) → CanPlace m geometry free → length (changed m (levels m)) ≤ length free
few_enough m geometry free can =
    let are = can.are in
    subst (λ n. length (changed m (depth_of n)) ≤ length free) (sym can.size) are.enough

pub may-plan : (m : Mapping) (geometry : Geometry) (free : List Place) → CanPlace m geometry free → IsMapping geometry.cache_blocks geometry.origin_blocks m.entries → MayPlan m free
may-plan m geometry free can mapping =
    let most = geometry.within.cache_to in
    let origins = geometry.within.origin_to in
    let size = can.size in
    let are = can.are in
    record {
      sound = can.sound;
      few = omega arith;
      spelled = λ block entry e. let within = mapping.within block entry e in record { origin = omega arith; hint = within.1 };
      enough = few_enough m geometry free can;
      behind = are.behind;
      known_behind = λ place h. (can.inside place h).0;
    }

-- ---- where a node then stands

-- a node that stood, or one that changed
pub record IsNewAt (m : Mapping) (free : List Place) (level index : ℕ) (place : Place) : Type 0 where
  pub unknown : place_of m level index ≡ None
  pub listed : has (changed m (levels m)) level index ≡ true
  pub placed_at : IsPlaced (changed m (levels m)) free level index place

pub planned-either : (m : Mapping) (free : List Place) (level index : ℕ) (place : Place) → place_of (planned m free) level index ≡ Some place → (place_of m level index ≡ Some place) ⊎ IsNewAt m free level index place
planned-either m free level index place h = go (place_of m level index) refl
  where
    go : (o : Option Place) → place_of m level index ≡ o → (place_of m level index ≡ Some place) ⊎ IsNewAt m free level index place
    go None none =
        let there : place_in (placed (changed m (levels m)) free) level index ≡ Some place = sym (planned-new m free level index none) ∙ h in
        inr (record { unknown = none; listed = placed-had (changed m (levels m)) free level index place there; placed_at = placed-is (changed m (levels m)) free level index place there })
    go (Some other) known = inl (sym (let e : place_of (planned m free) level index ≡ Some other = planned-known m free level index other known in sym h ∙ (e ∙ sym known)))

-- every node that exists stands somewhere
planned-all : (m : Mapping) (geometry : Geometry) (free : List Place) (level index : ℕ) → CanPlace m geometry free → 1 ≤ level → level ≤ levels m → exists m.entries level index ≡ true → IsSome (place_of (planned m free) level index)
planned-all m geometry free level index can from to there = go (place_of m level index) refl
  where
    most : length m.entries ≤ 1048576
    most = let limit = geometry.within.cache_to in let size = can.size in omega arith

    go : (o : Option Place) → place_of m level index ≡ o → IsSome (place_of (planned m free) level index)
    go None none =
        let listed : has (changed m (levels m)) level index ≡ true = unknown_changed m (length m.entries) level index refl most from to there none in
        subst IsSome (sym (planned-new m free level index none)) (placed-some (changed m (levels m)) free level index (few_enough m geometry free can) listed)
    go (Some place) known = ap is_some (planned-known m free level index place known)

same_node : (a b a' b' : ℕ) (o : Option NodeName) → o ≡ Some (record { level = a; index = b }) → o ≡ Some (record { level = a'; index = b' }) → (a ≡ a') × (b ≡ b')
same_node a b a' b' o p q =
    let one : NodeName = record { level = a; index = b } in
    let other : NodeName = record { level = a'; index = b' } in
    let e : one ≡ other = cc in
    (ap (λ (n : NodeName). n.level) e, ap (λ (n : NodeName). n.index) e)

-- a node of it exists, on one of its levels
there_is : (m : Mapping) (geometry : Geometry) (free : List Place) (level index : ℕ) (place : Place) → CanPlace m geometry free → place_of (planned m free) level index ≡ Some place
    → ((1 ≤ level) × (level ≤ levels m)) × (exists m.entries level index ≡ true)
there_is m geometry free level index place can h = elim (planned-either m free level index place h) [
  | inl known ↦ let sound = can.sound in (sound.known_level level index place known, sound.known_exist level index place known)
  | inr new ↦
      let b = each_had (IsBelow (levels m) 0 1) (changed m (levels m)) level index (changed_of-all m (IsBelow (levels m) 0 1) (nodes_of m.entries (levels m)) (nodes_below-below m.entries (levels m) 0)) new.listed in
      ((b.from, b.to), each_had (λ node. exists m.entries node.level node.index ≡ true) (changed m (levels m)) level index (changed-exist m) new.listed)
]

planned_entries : (m : Mapping) (free : List Place) → (planned m free).entries ≡ m.entries
unfolding planned
planned_entries m free = refl

-- such a tree is sound
pub planned-sound : (m : Mapping) (geometry : Geometry) (free : List Place) → CanPlace m geometry free → IsSound (planned m free)
unfolding planned
planned-sound m geometry free can =
    let are = can.are in
    let sound = can.sound in
    record {
      known_level = λ level index place h. (there_is m geometry free level index place can h).0;
      known_exist = λ level index place h. (there_is m geometry free level index place can h).1;
      known_below = λ level index child place some h e there. let up = (there_is m geometry free (level + 1) index place can h).0 in planned-all m geometry free level child can some (let to = up.1 in omega arith) there;
      apart = λ level index level' index' place h h'.
          elim (planned-either m free level index place h) [
            | inl old ↦ elim (planned-either m free level' index' place h') [
              | inl old' ↦ sound.apart level index level' index' place old old'
              | inr new' ↦ absurd (are.unused new'.placed_at.at place new'.placed_at.there (record { level = level; index = index; known = old }))
            ]
            | inr new ↦ elim (planned-either m free level' index' place h') [
              | inl old' ↦ absurd (are.unused new.placed_at.at place new.placed_at.there (record { level = level'; index = index'; known = old' }))
              | inr new' ↦
                  let p = new.placed_at in
                  let q = new'.placed_at in
                  let at : p.at ≡ q.at = are.apart p.at q.at place p.there q.there in
                  same_node level index level' index' (slice_get (changed m (levels m)) p.at) p.node (ap (λ k. slice_get (changed m (levels m)) k) at ∙ q.node)
            ]
          ];
    }

-- and stands on the device
pub planned-inside : (m : Mapping) (geometry : Geometry) (free : List Place) → CanPlace m geometry free → AreInside geometry.meta_sectors (planned m free)
planned-inside m geometry free can place h = elim (planned-either m free h.level h.index place h.known) [
  | inl old ↦ can.inside place (record { level = h.level; index = h.index; known = old })
  | inr new ↦ let are = can.are in let p = new.placed_at in (are.behind p.at place p.there, are.inside p.at place p.there)
]

-- ---- no node comes twice, and they are few

known_not_new : (m : Mapping) (free : List Place) (level index : ℕ) (place : Place) → place_of m level index ≡ Some place → place_in (placed (changed m (levels m)) free) level index ≡ None
known_not_new m free level index place known = placed-none (changed m (levels m)) free level index (not_changed (nodes_of m.entries (levels m)))
  where
    not_changed : (nodes : List NodeName) → has (changed_of m nodes) level index ≡ false
    not_changed [] = refl
    not_changed (node ∷ nodes) = elim (cases_Bool (is_some (place_of m node.level node.index))) [
      | inl was ↦ rw was (not_changed nodes)
      | inr new ↦ elim (cases_Bool ((node.level == level) && (node.index == index))) [
        | inl same ↦
            let e = same_names node.level level node.index index same in
            let some : is_some (place_of m node.level node.index) ≡ true = ap (λ l. is_some (place_of m l node.index)) e.0 ∙ (ap (λ i. is_some (place_of m level i)) e.1 ∙ ap is_some known) in
            absurd (let both : true ≡ false = sym some ∙ new in cc)
        | inr other ↦ rw (new, other) (not_changed nodes)
      ]
    ]

planned-once : (m : Mapping) (geometry : Geometry) (free : List Place) → CanPlace m geometry free → AreApart (planned m free).known
unfolding planned
planned-once m geometry free can =
    names-append m.known (placed (changed m (levels m)) free) can.once (placed-apart (changed m (levels m)) free (changed-apart m)) (λ level index place h. known_not_new m free level index place h)

-- where each of these nodes has a place none counts as changed
nothing_new : (m : Mapping) (nodes : List NodeName) → AllByRecursion (λ node. IsSome (place_of m node.level node.index)) nodes → changed_of m nodes ≡ []
nothing_new m [] each = refl
nothing_new m (node ∷ nodes) each = let here : is_some (place_of m node.level node.index) ≡ true = each.0 in rw here (nothing_new m nodes each.1)

each_is : (P Q R : NodeName → Type 0) → ((node : NodeName) → P node → Q node → R node) → (nodes : List NodeName) → AllByRecursion P nodes → AllByRecursion Q nodes → AllByRecursion R nodes
each_is P Q R f [] p q = tt
each_is P Q R f (node ∷ nodes) p q = (f node p.0 q.0, each_is P Q R f nodes p.1 q.1)

-- all its nodes are known
pub planned-complete : (m : Mapping) (geometry : Geometry) (free : List Place) → CanPlace m geometry free → IsComplete geometry.cache_blocks (planned m free)
planned-complete m geometry free can =
    let n : Mapping = planned m free in
    let same : n.entries ≡ m.entries = planned_entries m free in
    let size : length m.entries ≡ geometry.cache_blocks = can.size in
    let limit = geometry.within.cache_to in
    let deep : levels m ≡ depth_of geometry.cache_blocks = ap depth_of size in
    record {
      once = planned-once m geometry free can;
      few = let most = known-few n (planned-sound m geometry free can) (planned-once m geometry free can) (omega (arith, ap (λ (es : List (Option Entry)). length es) same)) in
          omega (arith, most, ap (λ (es : List (Option Entry)). node_count (length es)) same, ap node_count size);
      all =
          ap (λ (es : List (Option Entry)). changed_of n (nodes_of es (depth_of geometry.cache_blocks))) same
          ∙ (ap (λ d. changed_of n (nodes_of m.entries d)) (sym deep)
          ∙ nothing_new n (nodes_of m.entries (levels m))
          (each_is (IsBelow (levels m) 0 1) (λ node. exists m.entries node.level node.index ≡ true) (λ node. IsSome (place_of n node.level node.index))
          (λ node b there. planned-all m geometry free node.level node.index can b.from b.to there)
          (nodes_of m.entries (levels m)) (nodes_below-below m.entries (levels m) 0) (nodes_below-exist m.entries (levels m) 0)));
    }

-- ---- what is remembered of the nodes that are written

-- a node by its name, with its place
abbrev pub known_node : Place × Node → PlacedNode
known_node node = record { level = node.1.level; index = node.1.index; place = node.0 }

placed-names : (nodes : List (Place × Node)) → map known_node nodes ≡ placed (names nodes) (map (λ node. node.0) nodes)
placed-names [] = refl
placed-names (node ∷ nodes) = ap (λ (ks : List PlacedNode). known_node node ∷ ks) (placed-names nodes)

-- with the nodes that are written the tree is the planned one
pub known-planned : (version : Version) (m : Mapping) (generation : ℕ) (free : List Place) (nodes : List (Place × Node)) → names nodes ≡ changed m (levels m)
    → AreWritten version (planned m free) generation free nodes → m.known ++ map known_node nodes ≡ (planned m free).known
unfolding planned
known-planned version m generation free nodes same h =
    let long : length nodes ≡ length (names nodes) = sym (length-map nodes (λ (n : Place × Node). name_of n.1)) in
    ap (λ (ks : List PlacedNode). m.known ++ ks) (
    placed-names nodes
    ∙ (ap (λ (ps : List Place). placed (names nodes) ps) (h.places ∙ ap (λ k. take k free) long)
    ∙ (placed-take (names nodes) free ∙ ap (λ (ns : List NodeName). placed ns free) same)))

-- the changed nodes were written
pub written_is : (m : Mapping) (geometry : Geometry) (generation : ℕ) (free : List Place) (nodes : List (Place × Node)) → CanPlace m geometry free
    → names nodes ≡ changed m (levels m) → AreWritten geometry.version (planned m free) generation free nodes → WritesChanged m (planned m free) geometry generation free nodes
written_is m geometry generation free nodes can ns h =
    let n : Mapping = planned m free in
    record {
      same_entries = planned_entries m free;
      stays = λ level index place e. planned-known m free level index place e;
      nodes_are = ns ∙ ap (λ b. changed m (depth_of b)) can.size;
      places_are = h.places;
      stands = All-weaker (IsWritten geometry.version n generation) (λ (node : Place × Node). place_of n node.1.level node.1.index ≡ Some node.0) (λ node w. w.stands) nodes h.each;
      generations = All-weaker (IsWritten geometry.version n generation) (λ (node : Place × Node). node.1.generation ≡ generation) (λ node w. w.written_in) nodes h.each;
      mappings = All-weaker (IsWritten geometry.version n generation) (λ (node : Place × Node). node.1.dirty ≡ false) (λ node w. w.mapping) nodes h.each;
      words = All-weaker (IsWritten geometry.version n generation) (λ (node : Place × Node). HasWordsOf (kept_tree geometry.version n) node.1) (λ node w. w.words) nodes h.each;
    }

-- ---- the tree from which and to which an image leads

pub planned-with : (m : Mapping) (free : List Place) (known : List PlacedNode) → known ≡ (planned m free).known → planned m free ≡ record { entries = m.entries; known = known }
unfolding planned
planned-with m free known e = ap (λ (ks : List PlacedNode). record { entries = m.entries; known = ks }) (sym e)

pub with-planned : (version : Version) (m : Mapping) (generation : ℕ) (free : List Place) (nodes : List (Place × Node)) (added : List PlacedNode) → added ≡ map known_node nodes → names nodes ≡ changed m (levels m)
    → AreWritten version (planned m free) generation free nodes → m.known ++ added ≡ (planned m free).known
with-planned version m generation free nodes added same ns written = ap (λ (ks : List PlacedNode). m.known ++ ks) same ∙ known-planned version m generation free nodes ns written

pub planned-alike : (m n : Mapping) (free : List Place) (known : List PlacedNode) → known ≡ (planned m free).known → n.entries ≡ m.entries → ((level index : ℕ) → place_of n level index ≡ place_in known level index) → AreAlike (planned m free) n
planned-alike m n free known e entries places = record {
  entries = entries ∙ sym (planned_entries m free);
  places = λ level index. places level index ∙ ap (λ (ks : List PlacedNode). place_in ks level index) e;
}

-- ---- the places that it uses

taken_at : (count : ℕ) (places : List Place) (i : ℕ) (place : Place) → i < count → slice_get places i ≡ Some place → slice_get (take count places) i ≡ Some place
taken_at zero places i place below h = absurd (omega arith)
taken_at (suc count) [] i place below h = absurd cc
taken_at (suc count) (p ∷ places) zero place below h = h
taken_at (suc count) (p ∷ places) (suc i) place below h = taken_at count places i place (omega arith) h

-- a node that was not known before is one of those that are written
pub planned-comes : (m : Mapping) (free : List Place) (nodes : List (Place × Node)) → names nodes ≡ changed m (levels m) → map (λ node. node.0) nodes ≡ take (length nodes) free
    → (place : Place) → IsPlaceOf (planned m free) place → IsPlaceOf m place ⊎ Contains (map (λ node. node.0) nodes) place
planned-comes m free nodes ns are place is = elim (planned-either m free is.level is.index place is.known) [
  | inl old ↦ inl (record { level = is.level; index = is.index; known = old })
  | inr new ↦
      let at = new.placed_at in
      let long : length nodes ≡ length (changed m (levels m)) = sym (length-map nodes (λ (n : Place × Node). name_of n.1)) ∙ ap (λ (xs : List NodeName). length xs) ns in
      inr (subst (λ (ps : List Place). Contains ps place) (sym are) (let t = taken_at (length nodes) free at.at place (omega (arith, long, slice_get_within (changed m (levels m)) at.at _ at.node)) at.there in
      (at.at, slice_get_within (take (length nodes) free) at.at place t, get_or_from_slice_get (take (length nodes) free) at.at place place t)))
]

pub planned-more : (version : Version) (m : Mapping) (generation : ℕ) (free : List Place) (nodes : List (Place × Node)) → names nodes ≡ changed m (levels m) → AreWritten version (planned m free) generation free nodes
    → length (used_places (planned m free)) ≡ length (used_places m) + length nodes
planned-more version m generation free nodes ns written =
    let own = known-planned version m generation free nodes ns written in
    omega (
      arith,
      ap (λ (ks : List PlacedNode). length ks) own,
      length-append m.known (map known_node nodes),
      length-map nodes known_node,
      length-map m.known (λ (node : PlacedNode). node.place),
      length-map (planned m free).known (λ (node : PlacedNode). node.place),
    )
