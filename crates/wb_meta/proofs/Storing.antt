-- Of sectors that store a tree of which every node is known it is read, and by their newest root they represent it.
use Rattle.std.proofs.Common.{◌≡◌, ◌≢◌, ◌&&◌, ◌==◌, ◌∙◌, sym, ap, subst, refl, ℕ, Bool, true, false, cond, List, [], ◌∷◌, Option, Some, None, Ok, is_some, slice_get, inl, inr, ◌⊎◌}
use Rattle.std.proofs.lemmas.Bool.{false≢true, cases_eq, and_parts, eqb-true}
use Rattle.wb_types.specs.Limits.{depth_of}
use Rattle.wb_types.specs.declared.number.Place.{Place}
use Rattle.wb_types.specs.declared.version.Version.{Version}
use Rattle.wb_disk.specs.Device.{Content}
use Rattle.wb_format.specs.declared.node.Node.{Node}
use Rattle.wb_format.specs.declared.root.Root.{Root}
use Rattle.wb_tree.specs.declared.placed.PlacedNode.{PlacedNode}
use Rattle.wb_tree.specs.Mapping.{Mapping, IsMapping, IsSound, AreInside, place_of, place_in, changed}
use Rattle.wb_tree.specs.Reading.{Found, Nodes, ReadsAs, IsNewestRoot, tree_read}
use Rattle.wb_tree.specs.Images.{IsNodeOf, ReadsNode, AreRead, Stores, kept_tree}
use Rattle.wb_tree.specs.Whole.{found_of}
use Rattle.wb_tree.proofs.Stored.Whole.{StandsThere, reached_below-known, read_back}
use Rattle.wb_meta.specs.Representing.{ReadsThere, ReadThere, Represents, alone}
use Rattle.wb_meta.proofs.Versions.{has_kept}
use Rattle.wb_meta.proofs.ImageFraming.{alone_read}

-- the first of two that is there
either_of : {X : Type 0} → Option X → Option X → Option X
either_of (Some x) other = Some x
either_of None other = other

either_left : {X : Type 0} (a b : Option X) → is_some a ≡ true → is_some (either_of a b) ≡ true
unfolding either_of
either_left (Some x) b h = refl
either_left None b h = absurd (false≢true h)

either_right : {X : Type 0} (a b : Option X) → is_some b ≡ true → is_some (either_of a b) ≡ true
unfolding either_of
either_right (Some x) b h = refl
either_right None b h = h

-- places of the same number are the same
pub same_place : (a b : Place) → a.0 ≡ b.0 → a ≡ b
same_place a b e = let made : ℕ → Place = λ n. record { 0 = n } in ap made e

module _ (version : Version) (sectors : List Content) (m : Mapping) (keeps : kept_tree version m ≡ m) (generation : ℕ) (sound : IsSound m) (stores : Stores sectors m generation) where
  if_here : (level index place : ℕ) (there : Place) → place_of m level index ≡ Some there → (there.0 ≡ place) ⊎ (there.0 ≢ place) → Option (StandsThere m place)
  if_here level index place there known (inl same) = Some (record { level = level; index = index; where_it_is = there; known = known; here = same })
  if_here level index place there known (inr other) = None

  -- the node of this name, if it stands at this place
  named_here : (level index place : ℕ) (o : Option Place) → place_of m level index ≡ o → Option (StandsThere m place)
  named_here level index place None e = None
  named_here level index place (Some there) e = if_here level index place there e (cases_eq there.0 place)

  -- the first of these nodes that is the tree's at this place
  first_here : (place : ℕ) → List PlacedNode → Option (StandsThere m place)
  first_here place [] = None
  first_here place (node ∷ nodes) = either_of (named_here node.level node.index place (place_of m node.level node.index) refl) (first_here place nodes)

  if_here-some : (level index place : ℕ) (there : Place) (known : place_of m level index ≡ Some there) (test : (there.0 ≡ place) ⊎ (there.0 ≢ place)) → there.0 ≡ place → is_some (if_here level index place there known test) ≡ true
  unfolding if_here
  if_here-some level index place there known (inl same) e = refl
  if_here-some level index place there known (inr other) e = absurd (other e)

  named_here-some : (level index place : ℕ) (there : Place) (o : Option Place) (e : place_of m level index ≡ o) → o ≡ Some there → there.0 ≡ place → is_some (named_here level index place o e) ≡ true
  unfolding named_here
  named_here-some level index place there None e is here = absurd cc
  named_here-some level index place there (Some other) e is here =
      let same : other ≡ there = cc in
      if_here-some level index place other e (cases_eq other.0 place) (ap (λ (p : Place). p.0) same ∙ here)

  -- where a node of the tree stands one is found
  first_here-some : (level index place : ℕ) (there : Place) → place_of m level index ≡ Some there → there.0 ≡ place → (nodes : List PlacedNode) → place_in nodes level index ≡ Some there → is_some (first_here place nodes) ≡ true
  unfolding first_here
  first_here-some level index place there known here [] e = absurd cc
  first_here-some level index place there known here (node ∷ nodes) e =
      by_name ((node.level == level) && (node.index == index)) refl e (λ t. first_here-some level index place there known here nodes t)
    where
      by_name : (b : Bool) → ((node.level == level) && (node.index == index)) ≡ b → cond b (Some node.place) (place_in nodes level index) ≡ Some there
          → (place_in nodes level index ≡ Some there → is_some (first_here place nodes) ≡ true)
          → is_some (either_of (named_here node.level node.index place (place_of m node.level node.index) refl) (first_here place nodes)) ≡ true
      by_name true same t rest =
          let both = and_parts (node.level == level) (node.index == index) same in
          let level_is : node.level ≡ level = eqb-true _ _ both.0 in
          let index_is : node.index ≡ index = eqb-true _ _ both.1 in
          either_left (named_here node.level node.index place (place_of m node.level node.index) refl) (first_here place nodes)
          (named_here-some node.level node.index place there (place_of m node.level node.index) refl (ap (λ l. place_of m l node.index) level_is ∙ (ap (λ i. place_of m level i) index_is ∙ known)) here)
      by_name false other t rest = either_right (named_here node.level node.index place (place_of m node.level node.index) refl) (first_here place nodes) (rest t)

  node_here : (place : ℕ) → Option (StandsThere m place) → Option Node
  node_here place None = None
  node_here place (Some s) = Some (stores s.level s.index s.where_it_is s.known).node

  -- what the sectors read as where the tree's nodes stand
  stored_nodes : Nodes
  stored_nodes place = node_here place (first_here place m.known)

  stands_first : (place : ℕ) → StandsThere m place → is_some (first_here place m.known) ≡ true
  stands_first place s = first_here-some s.level s.index place s.where_it_is s.known s.here m.known s.known

  -- every node of the tree is read
  stored_read : AreRead stored_nodes m generation
  unfolding stored_nodes node_here
  stored_read level index place known =
      by_first (first_here place.0 m.known) refl (stands_first place.0 (record { level = level; index = index; where_it_is = place; known = known; here = refl }))
    where
      by_first : (o : Option (StandsThere m place.0)) → first_here place.0 m.known ≡ o → is_some o ≡ true → ReadsNode stored_nodes m generation level index place.0
      by_first None e h = absurd (false≢true h)
      by_first (Some s) e h =
          let stored = stores s.level s.index s.where_it_is s.known in
          let both = sound.apart s.level s.index level index place (s.known ∙ ap Some (same_place s.where_it_is place s.here)) known in
          record {
            node = stored.node;
            reads = ap (node_here place.0) e;
            right = subst (λ i. IsNodeOf m generation level i stored.node) both.1 (subst (λ l. IsNodeOf m generation l s.index stored.node) both.0 stored.right);
          }

  -- where a node of the tree stands the sector reads so
  stored_there : (place : ℕ) → StandsThere m place → ReadsThere version sectors stored_nodes place
  unfolding stored_nodes node_here
  stored_there place stands = by_first (first_here place m.known) refl (stands_first place stands)
    where
      by_first : (o : Option (StandsThere m place)) → first_here place m.known ≡ o → is_some o ≡ true → ReadsThere version sectors stored_nodes place
      by_first None e h = absurd (false≢true h)
      by_first (Some s) e h =
          let stored = stores s.level s.index s.where_it_is s.known in
          record {
            sector = stored.sector;
            there = ap (λ at. slice_get sectors at) (sym s.here) ∙ stored.there;
            reads = subst (λ (o : Option Node). ReadsAs version stored.sector o) (sym (ap (node_here place) e)) (record { spelled = stored.spelled; version_has = has_kept version stored.sector m stored.node keeps stored.spelled stored.right.words stored.right.mapping });
          }

-- the tree of a root is read of the sectors, where its nodes stand
pub record ReadsTree (sectors : List Content) (root : Root) (found : Found) : Type 0 where
  pub nodes : Nodes
  pub reached : ReadThere root.version sectors nodes found.reached
  pub reads : tree_read root nodes ≡ Ok found

pub tree_stored : (sectors : List Content) (root : Root) (m : Mapping) → IsMapping root.geometry.cache_blocks root.geometry.origin_blocks m.entries → IsSound m → AreInside root.geometry.meta_sectors m
    → changed m (depth_of root.geometry.cache_blocks) ≡ [] → root.top ≡ place_of m (depth_of root.geometry.cache_blocks) 0 → kept_tree root.version m ≡ m → Stores sectors m root.generation → ReadsTree sectors root (found_of root m)
tree_stored sectors root m mapping sound inside none_changed top keeps stores = record {
  nodes = stored_nodes root.version sectors m keeps root.generation sound stores;
  reached = λ place r. stored_there root.version sectors m keeps root.generation sound stores place (reached_below-known m (depth_of root.geometry.cache_blocks) 0 place r);
  reads = read_back m root (stored_nodes root.version sectors m keeps root.generation sound stores) mapping sound inside none_changed top (stored_read root.version sectors m keeps root.generation sound stores);
}

-- sectors of which a tree is read by their newest root, which names no dirty bits, represent it
pub Represents-tree : (sectors : List Content) (root : Root) (found : Found) → root.top_dirty ≡ None → IsNewestRoot sectors root → ReadsTree sectors root found → Represents sectors root (alone found)
Represents-tree sectors root found none newest tree = record {
  newest = newest;
  nodes = tree.nodes;
  reached = tree.reached;
  reads = alone_read root tree.nodes found none tree.reads;
  mapping = tree.reads;
}
