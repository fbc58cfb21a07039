-- The next image of a tree may be committed, and with it in place the sectors represent the new tree.
use Rattle.std.proofs.Common.{◌≡◌, ◌≢◌, ◌≤◌, ◌<◌, ◌+◌, ◌*◌, ◌/◌, ◌%◌, ◌&&◌, ◌==◌, ◌∙◌, sym, ap, subst, refl, ℕ, zero, suc, Bool, true, false, cond, List, [], ◌∷◌, Option, Some, None, length, map, take, get_or, is_some, slice_get, arith, inl, inr}
use Rattle.std.specs.Prelude.{All, option_map}
use Rattle.std.proofs.lemmas.Bool.{false≢true, cases_eq}
use Rattle.std.proofs.lemmas.Option.{slice_get-map, slice_get_within, slice_get_cases, get_or_from_slice_get}
use Rattle.wb_types.specs.Limits.{depth_of}
use Rattle.wb_types.specs.declared.number.Place.{Place}
use Rattle.wb_types.specs.declared.entry.Entry.{Entry}
use Rattle.wb_types.specs.declared.geometry.Geometry.{Geometry}
use Rattle.wb_types.specs.declared.version.Version.{Version}
use Rattle.wb_disk.specs.Device.{Content, History}
use Rattle.wb_format.specs.declared.node.Node.{Node}
use Rattle.wb_format.specs.declared.root.Root.{Root}
use Rattle.wb_format.specs.Layout.{SpellsRoot, IsValidIn}
use Rattle.wb_format.specs.NodeWords.{entry_word}
use Rattle.wb_format.proofs.Values.{one_root}
use Rattle.wb_tree.specs.declared.image.Image.{Image}
use Rattle.wb_tree.specs.Mapping.{Mapping, NodeName, IsMapping, IsSound, AreInside, place_of, exists, changed}
use Rattle.wb_tree.specs.Reading.{IsNewestRoot}
use Rattle.wb_tree.specs.Whole.{found_of}
use Rattle.wb_tree.specs.Images.{AreFree, ImagePlan, IsImage, StoresNode, Stores, HasWordsOf, kept_tree, name_of, place_word, word_at}
use Rattle.wb_tree.proofs.Nodes.Names.{has, same_name}
use Rattle.wb_tree.proofs.Nodes.Listed.{unknown_changed}
use Rattle.wb_meta.specs.declared.commit_steps.CommitSteps.{CommitSteps}
use Rattle.wb_meta.specs.Commits.{SyncedRoot, CommitHasCome, HasFailed}
use Rattle.wb_disk.specs.Crashes.{MayLeave, AfterEveryCrash}
use Rattle.wb_meta.specs.Representing.{RepresentsTree, RepresentsOldOrTree, Stored}
use Rattle.wb_meta.specs.Placing.{HavePlaces, IsPlaced, MayCommit}
use Rattle.wb_meta.specs.Imaging.{IsNextImage}
use Rattle.wb_meta.proofs.Versions.{version_of}
use Rattle.wb_meta.proofs.Crashing.{come_crash, failed_crash, done_crash}
use Rattle.wb_meta.proofs.Storing.{ReadsTree, same_place, Represents-tree, tree_stored}

-- ---- lists

pub taken : {X : Type 0} (xs : List X) (n i : ℕ) (x : X) → slice_get (take n xs) i ≡ Some x → slice_get xs i ≡ Some x
taken [] zero i x h = h
taken [] (suc n) i x h = h
taken (y ∷ xs) zero i x h = absurd cc
taken (y ∷ xs) (suc n) zero x h = h
taken (y ∷ xs) (suc n) (suc i) x h = taken xs n i x h

pub mapped_at : {X Y : Type 0} (f : X → Y) (xs : List X) (i : ℕ) (x : X) → slice_get xs i ≡ Some x → slice_get (map f xs) i ≡ Some (f x)
mapped_at {X} {Y} f xs i x h = slice_get-map f xs i ∙ ap (λ (o : Option X). option_map f o) h

-- what holds of each element holds of this one
pub each_at : {X : Type 0} (P : X → Type 0) (xs : List X) (i : ℕ) (x : X) → All P xs → slice_get xs i ≡ Some x → P x
each_at P xs i x all h = subst P (get_or_from_slice_get xs i x x h) (all i x (slice_get_within xs i x h))

pub same_some : {X : Type 0} (o : Option X) (a b : X) → o ≡ Some a → o ≡ Some b → a ≡ b
same_some o a b e f = cc

-- a node of this name is listed
record Named (nodes : List (Place × Node)) (level index : ℕ) : Type 0 where
  number : ℕ
  node : Place × Node
  listed : slice_get nodes number ≡ Some node
  name : name_of node.1 ≡ record { level = level; index = index }

named : (nodes : List (Place × Node)) (level index : ℕ) → has (map (λ node. name_of node.1) nodes) level index ≡ true → Named nodes level index
named [] level index h = absurd (false≢true h)
named (node ∷ nodes) level index h = by_name ((node.1.level == level) && (node.1.index == index)) refl h (λ t. named nodes level index t)
  where
    by_name : (b : Bool) → ((node.1.level == level) && (node.1.index == index)) ≡ b → cond b true (has (map (λ other. name_of other.1) nodes) level index) ≡ true
        → (has (map (λ other. name_of other.1) nodes) level index ≡ true → Named nodes level index) → Named (node ∷ nodes) level index
    by_name true e t rest = record { number = 0; node = node; listed = refl; name = same_name (name_of node.1) level index e }
    by_name false e t rest = let one = rest t in record { number = suc one.number; node = one.node; listed = one.listed; name = one.name }

-- ---- words

child_word : (m n : Mapping) → IsSound m → IsSound n → n.entries ≡ m.entries → ((level index : ℕ) (place : Place) → place_of m level index ≡ Some place → place_of n level index ≡ Some place)
    → (level index child : ℕ) (here : Place) → 1 ≤ level → place_of m (suc level) index ≡ Some here → child / 32 ≡ index → (o p : Option Place) → place_of m level child ≡ o → place_of n level child ≡ p → o ≡ p
child_word m n old new same stored level index child here some known above (Some a) p e f = sym (stored level child a e) ∙ f
child_word m n old new same stored level index child here some known above None None e f = refl
child_word m n old new same stored level index child here some known above None (Some b) e f =
    let there : exists m.entries level child ≡ true = subst (λ entries. exists entries level child ≡ true) same (new.known_exist level child b f) in
    let up : suc level ≡ level + 1 = omega arith in
    let is : is_some (place_of m level child) ≡ true = old.known_below level index child here some (subst (λ l. place_of m l index ≡ Some here) up known) above there in
    absurd (false≢true (sym (ap (λ (o : Option Place). is_some o) e) ∙ is))

-- the words of a node that stays are the same
same_words : (m n : Mapping) → IsSound m → IsSound n → n.entries ≡ m.entries → ((level index : ℕ) (place : Place) → place_of m level index ≡ Some place → place_of n level index ≡ Some place)
    → (level index j : ℕ) (here : Place) → j < 32 → place_of m level index ≡ Some here → word_at m level index j ≡ word_at n level index j
same_words m n old new same stored zero index j here below known = refl
same_words m n old new same stored (suc zero) index j here below known = ap (λ (entries : List (Option Entry)). entry_word (get_or entries (32 * index + j) None)) (sym same)
same_words m n old new same stored (suc (suc level)) index j here below known =
    ap place_word (child_word m n old new same stored (suc level) index (32 * index + j) here (omega arith) known (omega arith) (place_of m (suc level) (32 * index + j)) (place_of n (suc level) (32 * index + j)) refl refl)

-- ---- places

-- the place of a node of an image is one of the free ones
pub from_free : (free : List Place) (nodes : List (Place × Node)) → map (λ node. node.0) nodes ≡ take (length nodes) free → (i : ℕ) (node : Place × Node) → slice_get nodes i ≡ Some node → slice_get free i ≡ Some node.0
from_free free nodes are i node h =
    taken free (length nodes) i node.0 (ap (λ (places : List Place). slice_get places i) (sym are) ∙ mapped_at (λ (n : Place × Node). n.0) nodes i node h)

-- An image writes at least what the image of a tree does, each node to the free place that comes at its position, and its root names
-- the same tree.
pub record Extends (plan : ImagePlan) (tree image : Image) : Type 0 where
  pub front : (i : ℕ) (node : Place × Node) → slice_get tree.nodes.items i ≡ Some node → slice_get image.nodes.items i ≡ Some node
  pub free_place : (i : ℕ) (node : Place × Node) → slice_get image.nodes.items i ≡ Some node → slice_get plan.free i ≡ Some node.0
  pub root_generation : image.root.generation ≡ plan.generation
  pub root_geometry : image.root.geometry ≡ plan.geometry
  pub root_top : image.root.top ≡ tree.root.top

-- that of the tree itself
pub itself : (m n : Mapping) (plan : ImagePlan) (image : Image) → IsImage m n plan image → Extends plan image image
itself m n plan image is = record {
  front = λ i node h. h;
  free_place = from_free plan.free image.nodes.items is.places_are;
  root_generation = is.root_generation;
  root_geometry = is.root_geometry;
  root_top = refl;
}

-- the nodes of an image have places of the device
pub extended_places : (m : Mapping) (plan : ImagePlan) (tree image : Image) → AreFree m plan.geometry plan.free → Extends plan tree image → HavePlaces image.nodes.items plan.geometry.meta_sectors
extended_places m plan tree image frees more = record {
  slots = let from = plan.geometry.within.meta_from in omega arith;
  from = λ i node h. frees.behind i node.0 (more.free_place i node h);
  to = λ i node h. frees.inside i node.0 (more.free_place i node h);
  apart = λ i j node other h k e. frees.apart i j node.0 (more.free_place i node h) (more.free_place j other k ∙ ap Some (same_place other.0 node.0 (sym e)));
}

pub have_places : (m n : Mapping) (plan : ImagePlan) (image : Image) → AreFree m plan.geometry plan.free → IsImage m n plan image → HavePlaces image.nodes.items plan.geometry.meta_sectors
have_places m n plan image frees is = extended_places m plan image image frees (itself m n plan image is)

-- ---- an image in place that writes the tree's nodes, and perhaps more

module _ (m n : Mapping) (plan : ImagePlan) (tree image : Image) (device : List History) (old : Stored) (next : IsNextImage m n plan tree device old) (more : Extends plan tree image) where
  -- a node of the new tree that the old one does not know is one of the image's
  written_node : (level index : ℕ) (place : Place) → place_of n level index ≡ Some place → place_of m level index ≡ None → Named tree.nodes.items level index
  written_node level index place known none =
      let range = next.new_sound.known_level level index place known in
      let same = next.image_is.same_entries in
      let size = next.mapping.size in
      let depth : depth_of (length n.entries) ≡ depth_of plan.geometry.cache_blocks = ap (λ (entries : List (Option Entry)). depth_of (length entries)) same ∙ ap depth_of size in
      let there : exists m.entries level index ≡ true = subst (λ entries. exists entries level index ≡ true) same (next.new_sound.known_exist level index place known) in
      let to : level ≤ depth_of plan.geometry.cache_blocks = subst (λ d. level ≤ d) depth range.1 in
      let limit = plan.geometry.within.cache_to in
      let listed = unknown_changed m plan.geometry.cache_blocks level index size (omega arith) range.0 to there none in
      named tree.nodes.items level index (subst (λ names. has names level index ≡ true) (sym next.image_is.nodes_are) listed)

  module _ (before after : List Content) (left : MayLeave device before) (placed : IsPlaced image before after) where
    -- a sector of the device is there
    pub sector_at : (at : ℕ) → at < plan.geometry.meta_sectors → (content : Content) × (slice_get after at ≡ Some content)
    sector_at at inside =
        let long : length after ≡ plan.geometry.meta_sectors = placed.size ∙ (left.size ∙ next.size) in
        elim (slice_get_cases after at).1 [
          | inl there ↦ (there.0, there.2)
          | inr past ↦ let none = past.0 in absurd (omega arith)
        ]

    -- an old node's sector is as it was
    old_sector : (level index : ℕ) (place : Place) (content : Content) → place_of m level index ≡ Some place → 2 ≤ place.0 → slice_get after place.0 ≡ Some content → slice_get before place.0 ≡ Some content
    old_sector level index place content known behind there = elim (placed.others place.0 content there) [
      | inl was ↦ was
      | inr new ↦ elim new [
        | inl node ↦ absurd (next.free_are.unused node.number node.node.0 (more.free_place node.number node.node node.listed)
            (record { level = level; index = index; known = known ∙ ap Some (same_place place node.node.0 (sym node.here)) }))
        | inr slot ↦ absurd (let here = slot.here in omega arith)
      ]
    ]

    -- the image writes the words of the tree
    words_of : All (λ (node : Place × Node). HasWordsOf n node.1) tree.nodes.items
    words_of = subst (λ (k : Mapping). All (λ (node : Place × Node). HasWordsOf k node.1) tree.nodes.items) next.keeps next.image_is.words

    new_generation : image.root.generation ≡ old.root.generation + 1
    new_generation = more.root_generation ∙ next.next

    -- a node that was known is stored
    old_stored : (level index : ℕ) (place : Place) → place_of m level index ≡ Some place → StoresNode after n image.root.generation level index place.0
    old_stored level index place known =
        let inside = next.inside place (record { level = level; index = index; known = next.image_is.stays level index place known }) in
        let was = next.stores before left level index place known in
        let is = sector_at place.0 inside.1 in
        let same : is.0 ≡ was.sector = same_some (slice_get before place.0) is.0 was.sector (old_sector level index place is.0 known inside.0 is.1) was.there in
        let newer = new_generation in
        let right = was.right in
        let not_newer = right.not_newer in
        let level_is : was.node.level ≡ level = ap (λ (n : NodeName). n.level) right.name in
        let index_is : was.node.index ≡ index = ap (λ (n : NodeName). n.index) right.name in
        record {
          sector = was.sector;
          there = is.1 ∙ ap Some same;
          node = was.node;
          spelled = was.spelled;
          right = record {
            mapping = right.mapping;
            name = right.name;
            not_newer = omega arith;
            words = λ j below. right.words j below
                ∙ same_words m n next.old_sound next.new_sound next.image_is.same_entries next.image_is.stays was.node.level was.node.index j place below
                (ap (λ l. place_of m l was.node.index) level_is ∙ (ap (λ i. place_of m level i) index_is ∙ known));
          };
        }

    -- a node that was written is stored
    new_stored : (level index : ℕ) (place : Place) → place_of n level index ≡ Some place → Named tree.nodes.items level index → StoresNode after n image.root.generation level index place.0
    new_stored level index place known one =
        let inside = next.inside place (record { level = level; index = index; known = known }) in
        let is = sector_at place.0 inside.1 in
        let stands = each_at (λ node. place_of n node.1.level node.1.index ≡ Some node.0) tree.nodes.items one.number one.node next.image_is.stands one.listed in
        let generation_is = each_at (λ node. node.1.generation ≡ plan.generation) tree.nodes.items one.number one.node next.image_is.generations one.listed in
        let words = each_at (λ node. HasWordsOf n node.1) tree.nodes.items one.number one.node words_of one.listed in
        let mapping = each_at (λ node. node.1.dirty ≡ false) tree.nodes.items one.number one.node next.image_is.mappings one.listed in
        let root_is = more.root_generation in
        let listed = more.front one.number one.node one.listed in
        let there : place_of n one.node.1.level one.node.1.index ≡ Some place = ap (λ (name : NodeName). place_of n name.level name.index) one.name ∙ known in
        let same : one.node.0 ≡ place = same_some (place_of n one.node.1.level one.node.1.index) one.node.0 place stands there in
        record {
          sector = is.0;
          there = is.1;
          node = one.node.1;
          spelled = placed.nodes place.0 is.0 is.1 one.number one.node (slice_get_within image.nodes.items one.number one.node listed) listed (ap (λ (p : Place). p.0) same);
          right = record { mapping = mapping; name = one.name; not_newer = omega arith; words = words };
        }

    stores_by : (level index : ℕ) (place : Place) → place_of n level index ≡ Some place → (o : Option Place) → place_of m level index ≡ o → StoresNode after n image.root.generation level index place.0
    stores_by level index place known None e = new_stored level index place known (written_node level index place known e)
    stores_by level index place known (Some old) e =
        let same : old ≡ place = same_some (place_of n level index) old place (next.image_is.stays level index old e) known in
        old_stored level index place (e ∙ ap Some same)

    -- the sectors store the new tree
    pub stores_new : Stores after n image.root.generation
    stores_new level index place known = stores_by level index place known (place_of m level index) refl

    -- a valid root in the other slot is older
    older_root : (other : ℕ) (another : Content) (older : Root) → other ≢ image.root.generation % 2 → slice_get after other ≡ Some another → IsValidIn other another older → older.generation < image.root.generation
    older_root other another older off there valid =
        let newer = new_generation in
        let held = next.represents before left in
        let parity = valid.parity in
        let was : slice_get before other ≡ Some another = elim (placed.others other another there) [
          | inl was ↦ was
          | inr new ↦ elim new [
            | inl node ↦ absurd (let behind = next.free_are.behind node.number node.node.0 (more.free_place node.number node.node node.listed) in let here = node.here in omega arith)
            | inr slot ↦ absurd (off slot.here)
          ]
        ] in
        elim (cases_eq other held.newest.slot) [
          | inl same ↦
              let sector : another ≡ held.newest.sector = same_some (slice_get before other) another held.newest.sector was (ap (λ at. slice_get before at) same ∙ held.newest.there) in
              let one : older ≡ old.root = one_root another older old.root valid.spelled (subst (λ c. SpellsRoot c old.root) (sym sector) held.newest.valid.spelled) in
              let generations : older.generation ≡ old.root.generation = ap (λ (r : Root). r.generation) one in
              omega arith
          | inr different ↦ let less = held.newest.newest other another older different was valid in omega arith
        ]

    -- the image's root is the newest
    pub newest_root : IsNewestRoot after image.root
    newest_root =
        let from = plan.geometry.within.meta_from in
        let low : image.root.generation % 2 < plan.geometry.meta_sectors = omega arith in
        let is = sector_at (image.root.generation % 2) low in
        record {
          slot = image.root.generation % 2;
          sector = is.0;
          there = is.1;
          valid = record { spelled = placed.root (image.root.generation % 2) is.0 is.1 refl; parity = refl };
          newest = older_root;
        }

    -- the new tree is read of the sectors
    pub tree_new : ReadsTree after image.root (found_of image.root n)
    tree_new =
        let geometry_is = sym more.root_geometry in
        let mapping : IsMapping plan.geometry.cache_blocks plan.geometry.origin_blocks n.entries = subst (λ entries. IsMapping plan.geometry.cache_blocks plan.geometry.origin_blocks entries) (sym next.image_is.same_entries) next.mapping in
        tree_stored after image.root n
        (subst (λ (g : Geometry). IsMapping g.cache_blocks g.origin_blocks n.entries) geometry_is mapping)
        next.new_sound
        (subst (λ (g : Geometry). AreInside g.meta_sectors n) geometry_is next.inside)
        (subst (λ (g : Geometry). changed n (depth_of g.cache_blocks) ≡ []) geometry_is next.image_is.none_changed)
        (subst (λ (g : Geometry). image.root.top ≡ place_of n (depth_of g.cache_blocks) 0) geometry_is (more.root_top ∙ next.image_is.root_top))
        (subst (λ (v : Version). kept_tree v n ≡ n) (sym (version_of image.root plan.geometry more.root_geometry)) next.keeps)
        stores_new

-- ---- the image of a tree

module _ (m n : Mapping) (plan : ImagePlan) (image : Image) (device : List History) (old : Stored) (next : IsNextImage m n plan image device old) where
  same : Extends plan image image
  same = itself m n plan image next.image_is

  places : HavePlaces image.nodes.items (length device)
  places = subst (HavePlaces image.nodes.items) (sym next.size) (have_places m n plan image next.free_are next.image_is)

  -- with it in place the sectors represent the new tree
  placed_tree : (before after : List Content) → MayLeave device before → IsPlaced image before after → RepresentsTree after image.root n
  placed_tree before after left placed = record {
    represents = Represents-tree after image.root (found_of image.root n) next.image_is.root_no_bits
        (newest_root m n plan image image device old next same before after left placed) (tree_new m n plan image image device old next same before after left placed);
    stores = stores_new m n plan image image device old next same before after left placed;
  }

  -- the image may be committed
  pub may_commit : MayCommit image device old (λ sectors. RepresentsTree sectors image.root n)
  may_commit = record {
    represents = next.represents;
    outside = λ i node listed. next.outside i node.0 (same.free_place i node listed);
    new = placed_tree;
  }

  -- however far its commit has come
  pub come_next : (now : List History) (steps : CommitSteps) → CommitHasCome image device steps now → AfterEveryCrash (RepresentsOldOrTree old image.root n) now
  come_next now steps come = come_crash image (length device) device now steps old (λ sectors. RepresentsTree sectors image.root n) places may_commit come

  -- after a failure
  pub failed_next : (now : List History) (steps : CommitSteps) → HasFailed image device steps now → AfterEveryCrash (RepresentsOldOrTree old image.root n) now
  failed_next now steps failed = failed_crash image (length device) device now steps old (λ sectors. RepresentsTree sectors image.root n) places may_commit failed

  -- when the root is safe
  pub done_next : (now : List History) → SyncedRoot image device now → AfterEveryCrash (λ sectors. RepresentsTree sectors image.root n) now
  done_next now done = done_crash image device now old (λ sectors. RepresentsTree sectors image.root n) may_commit done
