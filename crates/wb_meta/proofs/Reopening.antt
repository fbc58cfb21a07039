-- The root that an opening writes, over the same tree: the tree is read by it as before.
use Rattle.std.proofs.Common.{◌≡◌, ◌≢◌, ◌≤◌, ◌<◌, ◌+◌, ◌*◌, ◌%◌, ◌==◌, ◌&&◌, ◌∙◌, sym, ap, subst, refl, ℕ, zero, suc, Bool, true, false, not, List, Option, Some, None, Ok, Err, length, slice_get, nat_le, arith, inl, inr}
use Rattle.std.specs.Prelude.{slice_index, if◌then◌else◌}
use Rattle.std.proofs.lemmas.Bool.{cases_eq, leb-true, le-leb}
use Rattle.std.proofs.lemmas.Option.{slice_get_cases, slice_get_within}
use Rattle.wb_types.specs.Limits.{depth_of}
use Rattle.wb_types.specs.declared.number.Place.{Place}
use Rattle.wb_types.specs.declared.version.Version.{Version}
use Rattle.wb_disk.specs.Device.{Content, History}
use Rattle.wb_disk.specs.Crashes.{AfterEveryCrash}
use Rattle.wb_format.specs.declared.node.Node.{Node}
use Rattle.wb_format.specs.declared.root.Root.{Root}
use Rattle.wb_tree.specs.Reading.{Found, ReadOutcome, Nodes, ◌then◌, each_step, child_read, is_node_of, reached_at, words_read, node_read, nothing_found, top_read, tree_read, names_child, is_reached, ReadsAs}
use Rattle.wb_format.specs.Layout.{SpellsRoot}
use Rattle.wb_format.proofs.Values.{one_root}
use Rattle.wb_tree.specs.declared.image.Image.{Image}
use Rattle.wb_types.specs.declared.geometry.Geometry.{Geometry}
use Rattle.wb_tree.specs.Mapping.{Mapping, AreInside}
use Rattle.wb_meta.specs.Imaging.{DeviceStores}
use Rattle.wb_meta.specs.Laws.{Wanted}
use Rattle.wb_meta.specs.Openings.{IsOpening, reopened}
use Rattle.wb_meta.specs.Representing.{Represents, Stored, Whole, alone}
use Rattle.wb_meta.proofs.ImageFraming.{alone_read, mapping_among}
use Rattle.wb_meta.specs.Placing.{HavePlaces, IsPlaced, MayCommit}
use Rattle.wb_tree.proofs.Reading.Steps.{then_ok, test_ok}

-- what was read without a fault is read so
abbrev Later : (Found → ReadOutcome) → (Found → ReadOutcome) → Type 0
Later read other = (found next : Found) → read found ≡ Ok next → other found ≡ Ok next

each_later : (step other : ℕ → Found → ReadOutcome) → ((j : ℕ) → Later (step j) (other j)) → (count first : ℕ) → Later (each_step step count first) (each_step other count first)
unfolding each_step
each_later step other h zero first found next e = e
each_later step other h (suc count) first found next e =
    let w = then_ok (step first found) (each_step step count (suc first)) next e in
    ap (λ reading. reading then each_step other count (suc first)) (h first found w.0 w.1) ∙ each_later step other h count (suc first) w.0 next w.2

child_by : (none names : Bool) (here : Place) (read other : Found → ReadOutcome) → Later read other → (found next : Found)
    → (if none then Ok found else (if names then read found else Err here)) ≡ Ok next → (if none then Ok found else (if names then other found else Err here)) ≡ Ok next
child_by true names here read other h found next e = e
child_by false true here read other h found next e = h found next e
child_by false false here read other h found next e = absurd (cc)

both_le : (t : Bool) (a b c : ℕ) → b ≤ c → (t && nat_le a b) ≡ true → (t && nat_le a c) ≡ true
both_le true a b c h e = le-leb a c (let k = leb-true a b e in omega (arith, k, h))
both_le false a b c h e = e

-- ---- the sectors

sector_there : (sectors : List Content) (at : ℕ) → at < length sectors → (content : Content) × (slice_get sectors at ≡ Some content)
sector_there sectors at inside = elim (slice_get_cases sectors at).1 [
  | inl there ↦ (there.0, there.2)
  | inr past ↦ absurd (let none = past.0 in omega (arith, none, inside))
]

pub no_node : (image : Image) (root : Root) → IsOpening image root → (i : ℕ) (node : Place × Node) → slice_get image.nodes.items i ≡ Some node → ⊥
no_node image root opening i node listed =
    let w = slice_get_within image.nodes.items i node listed in
    let none : length image.nodes.items ≡ 0 = ap (λ (ns : List (Place × Node)). length ns) opening.no_nodes in
    omega (arith, w, none)

-- a sector that is not the root's slot is as it was
other_sector : {root : Root} (image : Image) (before after : List Content) → IsOpening image root → IsPlaced image before after → (at : ℕ) (content : Content) → at ≢ image.root.generation % 2 → slice_get after at ≡ Some content → slice_get before at ≡ Some content
other_sector {root} image before after opening placed at content off there = elim (placed.others at content there) [
  | inl was ↦ was
  | inr new ↦ elim new [
    | inl node ↦ absurd (no_node image root opening node.number node.node node.listed)
    | inr slot ↦ absurd (off slot.here)
  ]
]

-- ---- the tree

module _ (old : Root) where
  node_is : (level index : ℕ) (node : Node) → is_node_of old level index node ≡ true → is_node_of (reopened old) level index node ≡ true
  node_is level index node e = both_le (not node.dirty && (node.level == level) && (node.index == index)) node.generation old.generation (old.generation + 1) (omega arith) e

  words_later : (level index : ℕ) (here : Place) (read other : Node → Found → ReadOutcome) → ((node : Node) → Later (read node) (other node)) → (is : Option Node) → Later (words_read old level index here read is) (words_read (reopened old) level index here other is)
  words_later level index here read other h None found next e = absurd (cc)
  words_later level index here read other h (Some node) found next e =
      let w = test_ok (is_node_of old level index node) here (read node (reached_at level index here found)) next e in
      ap (λ (test : Bool). if test then other node (reached_at level index here found) else Err here) (node_is level index node w.0) ∙ h node (reached_at level index here found) next w.1

  node_later : (nodes : Nodes) (level index : ℕ) (here : Place) → Later (node_read old nodes level index here) (node_read (reopened old) nodes level index here)
  unfolding node_read
  node_later nodes zero index here found next e = absurd (cc)
  node_later nodes (suc zero) index here found next e =
      words_later 1 index here _ _ (λ node. each_later _ _ (λ j found next e. e) 32 0) (nodes here.0) found next e
  node_later nodes (suc (suc level)) index here found next e =
      words_later (suc (suc level)) index here _ _
      (λ node. each_later _ _ (λ j. child_later here (suc level) (32 * index + j) (node_read old nodes (suc level)) (node_read (reopened old) nodes (suc level)) (λ i place. node_later nodes (suc level) i place) (slice_index node.words j)) 32 0) (nodes here.0) found next e
    where
      child_later : (here : Place) (level index : ℕ) (read other : ℕ → Place → Found → ReadOutcome) → ((i : ℕ) (place : Place) → Later (read i place) (other i place)) → (word : ℕ) → Later (child_read old here level index read word) (child_read (reopened old) here level index other word)
      child_later here level index read other h word found next e = child_by (word == 0) (names_child old found.reached level index word) here (read index (record { 0 = word })) (other index (record { 0 = word })) (h index (record { 0 = word })) found next e

  top_later : (nodes : Nodes) (top : Option Place) (next : Found) → top_read old nodes top ≡ Ok next → top_read (reopened old) nodes top ≡ Ok next
  top_later nodes None next e = e
  top_later nodes (Some top) next e = node_later nodes (depth_of old.geometry.cache_blocks) 0 top (nothing_found old) next e

  -- with this root alone written, the sectors represent the same mapping by it
  pub represents_again : (image : Image) (before after : List Content) (found : Whole) → IsOpening image old → 2 ≤ length before → ((place : ℕ) → is_reached place found.mapping.reached ≡ true → 2 ≤ place)
      → Represents before old found → IsPlaced image before after → Represents after image.root (alone found.mapping)
  represents_again image before after found opening size behind held placed =
      let slot = image.root.generation % 2 in
      let next : image.root.generation ≡ old.generation + 1 = ap (λ (r : Root). r.generation) opening.root_is in
      let parity = held.newest.valid.parity in
      let kept : image.root.version ≡ old.version = ap (λ (r : Root). r.version) opening.root_is in
      let mapping : tree_read image.root held.nodes ≡ Ok found.mapping = ap (λ (r : Root). tree_read r held.nodes) opening.root_is ∙ top_later held.nodes old.top found.mapping held.mapping in
      let root_at = sector_there after slot (omega (arith, placed.size, size)) in
      record {
        newest = record {
          slot = slot;
          sector = root_at.0;
          there = root_at.1;
          valid = record { spelled = placed.root slot root_at.0 root_at.1 refl; parity = refl };
          newest = λ other another older off there valid.
              let was = other_sector image before after opening placed other another off there in
              elim (cases_eq other held.newest.slot) [
                | inl same ↦
                    let both : Some another ≡ Some held.newest.sector = sym was ∙ (ap (λ at. slice_get before at) same ∙ held.newest.there) in
                    let sector : another ≡ held.newest.sector = cc in
                    let one : older ≡ old = one_root another older old valid.spelled (subst (λ c. SpellsRoot c old) (sym sector) held.newest.valid.spelled) in
                    let generations : older.generation ≡ old.generation = ap (λ (r : Root). r.generation) one in
                    omega (arith, generations, next)
                | inr different ↦ let low = held.newest.newest other another older different was valid in omega (arith, low, next)
              ];
        };
        nodes = held.nodes;
        reached = λ place r.
            let there = held.reached place (mapping_among old held.nodes found held.reads held.mapping place r) in
            let far = behind place r in
            let now = sector_there after place (let w = slice_get_within before place there.sector there.there in omega (arith, placed.size, w)) in
            let was = other_sector image before after opening placed place now.0 (λ e. absurd (let low : slot < 2 = omega arith in omega (arith, e, far, low))) now.1 in
            let both : Some now.0 ≡ Some there.sector = sym was ∙ there.there in
            let same : there.sector ≡ now.0 = cc in
            record { sector = now.0; there = now.1; reads = subst (λ (v : Version). ReadsAs v now.0 (held.nodes place)) (sym kept) (subst (λ (c : Content). ReadsAs old.version c (held.nodes place)) same there.reads) };
        reads = alone_read image.root held.nodes found.mapping (ap (λ (r : Root). r.top_dirty) opening.root_is) mapping;
        mapping = mapping;
      }

-- its nodes have places of the device, as there are none
pub opening_places : (image : Image) (root : Root) → IsOpening image root → HavePlaces image.nodes.items root.geometry.meta_sectors
opening_places image root opening = record {
  slots = let from = root.geometry.within.meta_from in omega (arith, from);
  from = λ i node listed. absurd (no_node image root opening i node listed);
  to = λ i node listed. absurd (no_node image root opening i node listed);
  apart = λ i j node other listed also same. absurd (no_node image root opening i node listed);
}

-- the image of an opening may be committed over what a device stores
pub opening_may : (m : Mapping) (image : Image) (device : List History) (old : Stored) (used : List Place) → DeviceStores m device old used → IsOpening image old.root → MayCommit image device old (Wanted image (alone old.found.mapping) m)
opening_may m image device old used stores opening = record {
  represents = stores.represents;
  outside = λ i node listed. absurd (no_node image old.root opening i node listed);
  new = λ before after left placed.
      let from = old.root.geometry.within.meta_from in
      let next : image.root.generation ≡ old.root.generation + 1 = ap (λ (r : Root). r.generation) opening.root_is in
      record {
        represents = represents_again old.root image before after old.found opening (omega (arith, left.size, stores.size, from))
            (λ place r. (stores.used_inside (record { 0 = place }) (stores.reached_used (record { 0 = place }) r)).0) (stores.represents before left) placed;
        stores = λ level index place known.
            let was = stores.stores before left level index place known in
            let inside = stores.inside place (record { level = level; index = index; known = known }) in
            let w = slice_get_within before place.0 was.sector was.there in
            let now = sector_there after place.0 (omega (arith, placed.size, w)) in
            let same : Some now.0 ≡ Some was.sector = sym (other_sector image before after opening placed place.0 now.0 (λ e. absurd (let low : image.root.generation % 2 < 2 = omega arith in omega (arith, e, inside.0, low))) now.1) ∙ was.there in
            let not_newer = was.right.not_newer in
            record {
              sector = was.sector;
              there = now.1 ∙ same;
              node = was.node;
              spelled = was.spelled;
              right = record { mapping = was.right.mapping; name = was.right.name; not_newer = omega (arith, not_newer, next); words = was.right.words };
            };
      };
}

-- once it is committed, the device stores what it stored
pub opening_stores : (m : Mapping) (image : Image) (device now : List History) (old : Stored) (used : List Place) → DeviceStores m device old used → IsOpening image old.root → length now ≡ length device
    → AfterEveryCrash (Wanted image (alone old.found.mapping) m) now → DeviceStores m now (record { root = image.root; found = alone old.found.mapping }) used
opening_stores m image device now old used stores opening same wanted =
    let geometry : image.root.geometry ≡ old.root.geometry = ap (λ (r : Root). r.geometry) opening.root_is in
    record {
      sound = stores.sound;
      inside = subst (λ (g : Geometry). AreInside g.meta_sectors m) (sym geometry) stores.inside;
      size = same ∙ (stores.size ∙ ap (λ (g : Geometry). g.meta_sectors) (sym geometry));
      represents = λ sectors left. (wanted sectors left).represents;
      stores = λ sectors left. (wanted sectors left).stores;
      reached_used = stores.reached_used;
      known_used = stores.known_used;
      used_inside = λ place has. subst (λ (g : Geometry). (2 ≤ place.0) × (place.0 < g.meta_sectors)) (sym geometry) (stores.used_inside place has);
    }
