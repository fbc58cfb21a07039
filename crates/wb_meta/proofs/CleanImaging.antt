-- The image of a clean cache may be committed, and with it in place the sectors represent the new tree with its dirty bits.
use Rattle.std.proofs.Common.{◌≡◌, ◌<◌, ◌+◌, ◌∙◌, sym, ap, subst, refl, ℕ, zero, suc, Bool, true, false, cond, nat_eq, List, [], ◌∷◌, ◌++◌, Option, Some, None, Ok, length, map, drop, replicate, get_or, is_some, slice_get, arith, inl, inr, ◌⊎◌}
use Rattle.std.specs.Prelude.{Contains}
use Rattle.std.proofs.lemmas.Bool.{eqb-true, false_from_ne_true, false≢true}
use Rattle.std.proofs.lemmas.List.{append-nil, length-map}
use Rattle.std.proofs.lemmas.Option.{get_or_from_slice_get, slice_get_within}
use Rattle.wb_types.proofs.Lists.{map_there}
use Rattle.wb_types.specs.Limits.{dirty_depth_of}
use Rattle.wb_meta.proofs.Versions.{version_of}
use Rattle.wb_types.proofs.Truth.{yes}
use Rattle.wb_types.specs.Versions.{version_number}
use Rattle.wb_types.specs.declared.entry.Entry.{Entry}
use Rattle.wb_types.specs.declared.geometry.Geometry.{Geometry}
use Rattle.wb_types.specs.declared.number.Place.{Place}
use Rattle.wb_types.specs.declared.version.Version.{Version}
use Rattle.wb_types.specs.declared.version.Version.TheVariants.{Two}
use Rattle.wb_disk.specs.Device.{Content, History}
use Rattle.wb_disk.specs.Crashes.{MayLeave}
use Rattle.wb_format.specs.declared.node.Node.{Node}
use Rattle.wb_format.specs.declared.root.Root.{Root}
use Rattle.wb_format.specs.Layout.{SpellsNode, SpellsNodeOf}
use Rattle.wb_format.specs.NodeWords.{kept}
use Rattle.wb_tree.specs.declared.image.Image.{Image}
use Rattle.wb_tree.specs.declared.placed.PlacedNode.{PlacedNode}
use Rattle.wb_tree.specs.Mapping.{Mapping, IsPlaceOf}
use Rattle.wb_tree.specs.Reading.{Found, ReadOutcome, Nodes, ReadsAs, ◌then◌, is_reached, tree_read}
use Rattle.wb_tree.specs.Images.{AreFree, ImagePlan, kept_tree}
use Rattle.wb_tree.specs.Whole.{found_of}
use Rattle.wb_dirty.specs.ReadBack.{IsReadBack, IsStoredPlan, MayBeRead, taken_places}
use Rattle.wb_dirty.proofs.ReadBack.{plan-is-read-back, taken-may}
use Rattle.wb_dirty.specs.Reading.{Asked, Marks, MarksOutcome, dirty_read, dirty_top_read, is_among, none_dirty}
use Rattle.wb_dirty.specs.ImageReading.{asked_behind, bits_behind, dirty_node, entries_with, entry_with, image_read, outcome_with, places_reached, with_bits}
use Rattle.wb_meta.specs.Representing.{Represents, ReadsThere, Stored, all_of}
use Rattle.wb_meta.specs.CleanImages.{IsImageOf, IsImageWithBits, bits_places, found_of_image, nodes_in, places_behind, places_of_bits}
use Rattle.wb_meta.specs.Imaging.{IsNextImage}
use Rattle.wb_meta.specs.Laws.{Wanted}
use Rattle.wb_meta.specs.Placing.{HavePlaces, IsPlaced, MayCommit}
use Rattle.wb_dirty.proofs.DirtyFraming.{dirty_following}
use Rattle.wb_meta.proofs.BitsPlaces.{bits_listed}
use Rattle.wb_meta.proofs.Framing.{top_following}
use Rattle.wb_meta.proofs.ImageFraming.{behind_are, dirty_reached, reached_later}
use Rattle.wb_meta.proofs.Imaging.{Extends, extended_places, from_free, have_places, newest_root, sector_at, stores_new, taken, tree_new}
use Rattle.wb_meta.proofs.OneReading.{joined, joined_first, joined_second, there_as}
use Rattle.wb_meta.proofs.Round.{place_of-reached}
use Rattle.wb_meta.proofs.Storing.{ReadsTree, same_place}

-- ---- lists

front_get : {X : Type 0} (xs ys : List X) (i : ℕ) (x : X) → slice_get xs i ≡ Some x → slice_get (xs ++ ys) i ≡ Some x
front_get [] ys i x h = absurd cc
front_get (y ∷ xs) ys zero x h = h
front_get (y ∷ xs) ys (suc i) x h = front_get xs ys i x h

back_get : {X : Type 0} (xs ys : List X) (k : ℕ) (x : X) → slice_get ys k ≡ Some x → slice_get (xs ++ ys) (length xs + k) ≡ Some x
back_get [] ys k x h = ap (λ n. slice_get ys n) (let e : 0 + k ≡ k = omega arith in e) ∙ h
back_get (y ∷ xs) ys k x h =
    let e : length (y ∷ xs) + k ≡ suc (length xs + k) = omega arith in
    ap (λ n. slice_get (y ∷ (xs ++ ys)) n) e ∙ back_get xs ys k x h

-- an element of two lists is one of the first or of the second
record IsBehind {X : Type 0} (xs ys : List X) (i : ℕ) (x : X) : Type 0 where
  pub number : ℕ
  pub is : i ≡ length xs + number
  pub there : slice_get ys number ≡ Some x

both_get : {X : Type 0} (xs ys : List X) (i : ℕ) (x : X) → slice_get (xs ++ ys) i ≡ Some x → (slice_get xs i ≡ Some x) ⊎ IsBehind xs ys i x
both_get [] ys i x h = inr (record { number = i; is = omega arith; there = h })
both_get (y ∷ xs) ys zero x h = inl h
both_get (y ∷ xs) ys (suc i) x h = elim (both_get xs ys i x h) [
  | inl first ↦ inl first
  | inr last ↦ inr (record { number = last.number; is = (let e = last.is in omega arith); there = last.there })
]

pub dropped_get : {X : Type 0} (n : ℕ) (xs : List X) (k : ℕ) (x : X) → slice_get (drop n xs) k ≡ Some x → slice_get xs (n + k) ≡ Some x
dropped_get zero xs k x h = ap (λ i. slice_get xs i) (let e : 0 + k ≡ k = omega arith in e) ∙ h
dropped_get (suc n) [] k x h = absurd cc
dropped_get (suc n) (y ∷ xs) k x h =
    let e : suc n + k ≡ suc (n + k) = omega arith in
    ap (λ i. slice_get (y ∷ xs) i) e ∙ dropped_get n xs k x h

-- where an element of a list is
record IsAt {X : Type 0} (xs : List X) (x : X) : Type 0 where
  pub number : ℕ
  pub inside : number < length xs
  pub there : slice_get xs number ≡ Some x

pub at_by : {X : Type 0} (xs : List X) (k : ℕ) (x : X) → k < length xs → get_or xs k x ≡ x → slice_get xs k ≡ Some x
at_by [] k x inside e = absurd (omega arith)
at_by (y ∷ xs) zero x inside e = ap (λ z. Some z) e
at_by (y ∷ xs) (suc k) x inside e = at_by xs k x (omega arith) e

contained_at : {X : Type 0} (xs : List X) (x : X) → Contains xs x → IsAt xs x
contained_at xs x has = record { number = has.0; inside = has.1; there = at_by xs has.0 x has.1 has.2 }

pub there_contained : {X : Type 0} (xs : List X) (k : ℕ) (x : X) → slice_get xs k ≡ Some x → Contains xs x
there_contained xs k x h = (k, slice_get_within xs k x h, get_or_from_slice_get xs k x x h)

-- ---- places

among_at : (place : ℕ) (places : List Place) → is_among place places ≡ true → (p : Place) × (i : ℕ) × (slice_get places i ≡ Some p) × (p.0 ≡ place)
among_at place [] r = absurd (false≢true r)
among_at place (first ∷ places) r = by_place (nat_eq first.0 place) refl r (λ rest. among_at place places rest)
  where
    by_place : (b : Bool) → nat_eq first.0 place ≡ b → cond b true (is_among place places) ≡ true
        → (is_among place places ≡ true → (p : Place) × (i : ℕ) × (slice_get places i ≡ Some p) × (p.0 ≡ place)) → (p : Place) × (i : ℕ) × (slice_get (first ∷ places) i ≡ Some p) × (p.0 ≡ place)
    by_place true e r rest = (first, 0, refl, eqb-true first.0 place e)
    by_place false e r rest = let one = rest r in (one.0, suc one.1, one.2, one.3)

places_alike : (place : ℕ) (nodes : List PlacedNode) → is_among place (map (λ node. node.place) nodes) ≡ is_reached place nodes
places_alike place [] = refl
places_alike place (node ∷ nodes) = ap (λ (rest : Bool). cond (nat_eq node.place.0 place) true rest) (places_alike place nodes)

-- ---- what an image's own nodes read as

listed_in : (nodes : List (Place × Node)) → ((i j : ℕ) (node other : Place × Node) → slice_get nodes i ≡ Some node → slice_get nodes j ≡ Some other → node.0.0 ≡ other.0.0 → i ≡ j)
    → (i : ℕ) (node : Place × Node) → slice_get nodes i ≡ Some node → nodes_in nodes node.0.0 ≡ Some node.1
listed_in [] apart i node h = absurd cc
listed_in (first ∷ nodes) apart zero node h =
    let same : first ≡ node = cc in
    subst (λ (other : Place × Node). nodes_in (first ∷ nodes) other.0.0 ≡ Some other.1) same (ap (λ (test : Bool). cond test (Some first.1) (nodes_in nodes first.0.0)) (yes first.0.0))
listed_in (first ∷ nodes) apart (suc i) node h = by_place (nat_eq first.0.0 node.0.0) refl (listed_in nodes (λ i j one other a b same. let e = apart (suc i) (suc j) one other a b same in omega arith) i node h)
  where
    by_place : (b : Bool) → nat_eq first.0.0 node.0.0 ≡ b → nodes_in nodes node.0.0 ≡ Some node.1 → cond b (Some first.1) (nodes_in nodes node.0.0) ≡ Some node.1
    by_place true e rest = absurd (let same = apart 0 (suc i) first node refl h (eqb-true first.0.0 node.0.0 e) in omega arith)
    by_place false e rest = rest

-- ---- entries without a dirty bit

entry_with-kept : (entry : Option Entry) → entry_with false entry ≡ kept Two entry
entry_with-kept None = refl
entry_with-kept (Some entry) = refl

none_with : (entries : List (Option Entry)) → entries_with (replicate (length (map is_some entries)) false) entries ≡ map (kept Two) entries
unfolding entries_with
none_with [] = refl
none_with (entry ∷ entries) =
    let rest : List (Option Entry) = entries_with (replicate (length (map is_some entries)) false) entries in
    ap (λ (e : Option Entry). e ∷ rest) (entry_with-kept entry) ∙ ap (λ (es : List (Option Entry)). kept Two entry ∷ es) (none_with entries)

-- ---- what is read behind a mapping

-- nothing is read where no top is named
nothing_behind : (asked : Asked) (nodes : Nodes) (reached places : List Place) (dirty : List Bool) → asked.root.top_dirty ≡ None
    → dirty_read asked nodes reached ≡ Ok (record { reached = reached ++ places; dirty = dirty }) → (dirty ≡ replicate (length asked.mapped) false) × (reached ≡ reached ++ places)
nothing_behind asked nodes reached places dirty none e =
    let was : dirty_read asked nodes reached ≡ Ok (none_dirty asked reached) =
    ap (λ (top : Option Place). dirty_top_read asked nodes (dirty_depth_of asked.root.geometry.cache_blocks) top (none_dirty asked reached)) none in
    let both : ◌≡◌ {A = MarksOutcome} (Ok (none_dirty asked reached)) (Ok (record { reached = reached ++ places; dirty = dirty })) = sym was ∙ e in
    let same : none_dirty asked reached ≡ record { reached = reached ++ places; dirty = dirty } = cc in
    (sym (ap (λ (m : Marks). m.dirty) same), ap (λ (m : Marks). m.reached) same)

no_more : {X : Type 0} (xs ys : List X) → xs ≡ xs ++ ys → ys ≡ []
no_more [] ys e = sym e
no_more (x ∷ xs) ys e = no_more xs ys (let tail : xs ≡ xs ++ ys = cc in tail)

abbrev marks_of : List Place → List Place → List Bool → Marks
marks_of reached places dirty = record { reached = reached ++ places; dirty = dirty }

abbrev beside : Found → List Place → List Bool → Found
beside mapping places bits = record { reached = mapping.reached ++ map dirty_node places; entries = with_bits (Some bits) mapping.entries; mapped = mapping.mapped }

behind_by : (root : Root) (nodes : Nodes) (mapping : Found) (places : List Place) (bits : List Bool) → map (kept Two) mapping.entries ≡ mapping.entries → (top : Option Place) → root.top_dirty ≡ top
    → dirty_read (asked_behind root mapping) nodes (places_reached mapping) ≡ Ok (marks_of (places_reached mapping) places bits) → bits_behind root nodes top mapping ≡ Ok (beside mapping places bits)
behind_by root nodes mapping places bits clean (Some top) is read =
    let made : List Place → Found = λ behind. record { reached = mapping.reached ++ map dirty_node behind; entries = with_bits (Some bits) mapping.entries; mapped = mapping.mapped } in
    ap (λ (reading : MarksOutcome). outcome_with mapping reading) read
    ∙ ap (λ (behind : List Place). Ok (made behind)) (behind_are mapping (marks_of (places_reached mapping) places bits) places refl)
behind_by root nodes mapping places bits clean None is read =
    let nothing = nothing_behind (asked_behind root mapping) nodes (places_reached mapping) places bits is read in
    let none : places ≡ [] = no_more (places_reached mapping) places nothing.1 in
    let entries : with_bits (Some bits) mapping.entries ≡ mapping.entries = ap (λ (bs : List Bool). entries_with bs mapping.entries) nothing.0 ∙ (none_with mapping.entries ∙ clean) in
    let made : List PlacedNode → List (Option Entry) → ReadOutcome = λ reached es. Ok (record { reached = reached; entries = es; mapped = mapping.mapped }) in
    let reached : mapping.reached ++ map dirty_node places ≡ mapping.reached = ap (λ (ps : List Place). mapping.reached ++ map dirty_node ps) none ∙ append-nil mapping.reached in
    ap (λ (ns : List PlacedNode). made ns mapping.entries) (sym reached) ∙ ap (made (mapping.reached ++ map dirty_node places)) (sym entries)

-- ---- the image

module _ (bits : List Bool) (m n : Mapping) (plan : ImagePlan) (image : Image) (marked : IsImageWithBits bits m n plan image) where
  -- where a node of the bits stands in the image, behind those of the tree
  listed_behind : (k : ℕ) (node : Place × Node) → slice_get marked.marks.nodes.items k ≡ Some node → slice_get image.nodes.items (length marked.tree.nodes.items + k) ≡ Some node
  listed_behind k node h = ap (λ (nodes : List (Place × Node)). slice_get nodes (length marked.tree.nodes.items + k)) marked.nodes_are ∙ back_get marked.tree.nodes.items marked.marks.nodes.items k node h

  -- it takes the free place that comes at its position
  bits_free : (k : ℕ) (node : Place × Node) → slice_get marked.marks.nodes.items k ≡ Some node → slice_get plan.free (length marked.tree.nodes.items + k) ≡ Some node.0
  bits_free k node h =
      let left = drop (length marked.tree.nodes.items) plan.free in
      dropped_get (length marked.tree.nodes.items) plan.free k node.0 (from_free left marked.marks.nodes.items marked.marks_are.planned.places k node h)

  pub extended : Extends plan marked.tree image
  extended = record {
    front = λ i node h. ap (λ (nodes : List (Place × Node)). slice_get nodes i) marked.nodes_are ∙ front_get marked.tree.nodes.items marked.marks.nodes.items i node h;
    free_place = λ i node h. elim (both_get marked.tree.nodes.items marked.marks.nodes.items i node (ap (λ (nodes : List (Place × Node)). slice_get nodes i) (sym marked.nodes_are) ∙ h)) [
      | inl one ↦ from_free plan.free marked.tree.nodes.items marked.tree_is.places_are i node one
      | inr one ↦ ap (λ at. slice_get plan.free at) one.is ∙ bits_free one.number node one.there
    ];
    root_generation = marked.root_generation;
    root_geometry = marked.root_geometry;
    root_top = marked.root_top;
  }

-- the nodes of an image of a tree, alone or with bits beside it, have places of the device
pub image_places : (bits : Option (List Bool)) (m n : Mapping) (plan : ImagePlan) (image : Image) → AreFree m plan.geometry plan.free → IsImageOf bits m n plan image → HavePlaces image.nodes.items plan.geometry.meta_sectors
image_places None m n plan image frees is = have_places m n plan image frees is
image_places (Some bits) m n plan image frees marked = extended_places m plan marked.tree image frees (extended bits m n plan image marked)

module _ (bits : List Bool) (m n : Mapping) (plan : ImagePlan) (image : Image) (device : List History) (old : Stored) (marked : IsImageWithBits bits m n plan image) (next : IsNextImage m n plan marked.tree device old) where
  -- how many nodes come before those of the bits
  abbrev first : ℕ
  first = length marked.tree.nodes.items

  behind_front : (k : ℕ) (node : Place × Node) → slice_get marked.marks.nodes.items k ≡ Some node → slice_get image.nodes.items (first + k) ≡ Some node
  behind_front = listed_behind bits m n plan image marked

  more : Extends plan marked.tree image
  more = extended bits m n plan image marked

  places : HavePlaces image.nodes.items plan.geometry.meta_sectors
  places = image_places (Some bits) m n plan image next.free_are marked

  abbrev mapping : Found
  mapping = found_of image.root n

  abbrev own : Nodes
  own = nodes_in image.nodes.items

  own_node : (i : ℕ) (node : Place × Node) → slice_get image.nodes.items i ≡ Some node → own node.0.0 ≡ Some node.1
  own_node i node h = listed_in image.nodes.items places.apart i node h

  -- a place that is left is none of the tree's
  left_unused : (k : ℕ) (place : Place) → slice_get (drop first plan.free) k ≡ Some place → IsPlaceOf n place → ⊥
  left_unused k place h known =
      let there = dropped_get first plan.free k place h in
      elim (next.image_is.comes place known) [
        | inl was ↦ next.free_are.unused (first + k) place there was
        | inr new ↦
            let places_are = next.image_is.places_are in
            let at = contained_at (map (λ (node : Place × Node). node.0) marked.tree.nodes.items) place new in
            let was = taken plan.free first at.number place (ap (λ (ps : List Place). slice_get ps at.number) (sym places_are) ∙ at.there) in
            let same = next.free_are.apart (first + k) at.number place there was in
            let inside = at.inside in
            let many : length (map (λ (node : Place × Node). node.0) marked.tree.nodes.items) ≡ first = length-map marked.tree.nodes.items (λ (node : Place × Node). node.0) in
            omega arith
      ]

  may_be_read : MayBeRead image.root (places_reached mapping) (drop first plan.free)
  may_be_read = record {
    apart = λ i j place h k. let same = next.free_are.apart (first + i) (first + j) place (dropped_get first plan.free i place h) (dropped_get first plan.free j place k) in omega arith;
    each = λ i place h. record {
      behind = next.free_are.behind (first + i) place (dropped_get first plan.free i place h);
      inside = subst (λ (g : Geometry). place.0 < g.meta_sectors) (sym marked.root_geometry) (next.free_are.inside (first + i) place (dropped_get first plan.free i place h));
      unread = false_from_ne_true (is_among place.0 (places_reached mapping)) (λ r. left_unused i place h (place_of-reached image.root n place (sym (places_alike place.0 mapping.reached) ∙ r)));
    };
  }

  stored : IsStoredPlan image.root own (places_reached mapping) (map is_some mapping.entries) bits plan.generation marked.marks
  stored = record {
    blocks = marked.bits_are.size ∙ (ap (λ (es : List (Option Entry)). length es) next.image_is.same_entries ∙ (next.mapping.size ∙ ap (λ (g : Geometry). g.cache_blocks) (sym marked.root_geometry)));
    has_top = marked.root_bits;
    not_newer = let e = marked.root_generation in omega arith;
    stored = λ node has. let at = contained_at marked.marks.nodes.items node has in own_node (first + at.number) node (behind_front at.number node at.there);
    may = taken-may image.root (places_reached mapping) bits plan.generation (drop first plan.free) marked.marks marked.marks_are may_be_read;
    size = length-map mapping.entries is_some ∙ sym marked.bits_are.size;
    entries = marked.bits_are.mapped;
  }

  back : IsReadBack image.root own (places_reached mapping) (map is_some mapping.entries) bits marked.marks
  back = plan-is-read-back image.root own (places_reached mapping) (map is_some mapping.entries) bits plan.generation (drop first plan.free) marked.marks marked.marks_are stored

  places_are : bits_places image mapping ≡ back.places
  places_are = ap (λ (reading : MarksOutcome). places_behind mapping reading) back.read ∙ behind_are mapping (marks_of (places_reached mapping) back.places bits) back.places refl

  -- where a node of the bits is read one of the image's stands
  bits_node : (place : ℕ) → is_among place back.places ≡ true → (at : ℕ) × (node : Place × Node) × (slice_get marked.marks.nodes.items at ≡ Some node) × (node.0.0 ≡ place)
  bits_node place r =
      let at = among_at place (taken_places marked.marks) (sym (back.same place) ∙ r) in
      let of = map_there (λ (node : Place × Node). node.0) marked.marks.nodes.items at.1 at.0 at.2 in
      (at.1, of.0, of.1, ap (λ (p : Place). p.0) (sym of.2) ∙ at.3)

  -- so the places of the image's own nodes of bits are all that is read behind the mapping
  pub bits_among : (place : Place) → is_among place.0 (bits_places image mapping) ≡ true → Contains (places_of_bits image) place
  bits_among place r =
      let one = bits_node place.0 (ap (λ (ps : List Place). is_among place.0 ps) (sym places_are) ∙ r) in
      let dirty = (marked.marks_are.planned.each one.1 (there_contained marked.marks.nodes.items one.0 one.1 one.2)).of_bits in
      subst (λ (p : Place). Contains (places_of_bits image) p) (same_place one.1.0 place one.3) (bits_listed image.nodes.items (first + one.0) one.1 (behind_front one.0 one.1 one.2) dirty)

  -- the words of the second version say all of the tree's entries
  clean : map (kept Two) mapping.entries ≡ mapping.entries
  clean =
      let version : plan.geometry.version ≡ Two = sym (version_of image.root plan.geometry marked.root_geometry) ∙ marked.root_version in
      ap (λ (k : Mapping). k.entries) (subst (λ (v : Version). kept_tree v n ≡ n) version next.keeps)

  module _ (before after : List Content) (left : MayLeave device before) (placed : IsPlaced image before after) where
    tree_read_there : ReadsTree after image.root mapping
    tree_read_there = tree_new m n plan marked.tree image device old next more before after left placed

    -- what the sectors read as where the mapping's nodes stand, and elsewhere what the image's own nodes do
    abbrev both : Nodes
    both = joined tree_read_there.nodes own mapping.reached

    tree_both : tree_read image.root both ≡ Ok mapping
    tree_both = top_following tree_read_there.nodes both image.root image.root.top mapping tree_read_there.reads (λ place r. joined_first tree_read_there.nodes own mapping.reached place r)

    bits_both : dirty_read (asked_behind image.root mapping) both (places_reached mapping) ≡ Ok (marks_of (places_reached mapping) back.places bits)
    bits_both =
        let follows = dirty_following (asked_behind image.root mapping) own both (places_reached mapping) (marks_of (places_reached mapping) back.places bits) back.read in
        follows.same (λ place r off. joined_second tree_read_there.nodes own mapping.reached place (sym (places_alike place mapping.reached) ∙ off))

    image_both : image_read image.root both ≡ Ok (all_of (found_of_image (Some bits) image n))
    image_both =
        ap (λ (reading : ReadOutcome). reading then bits_behind image.root both image.root.top_dirty) tree_both
        ∙ (behind_by image.root both mapping back.places bits clean image.root.top_dirty refl bits_both ∙ ap (λ (ps : List Place). Ok (beside mapping ps bits)) (sym places_are))

    -- a node of the bits stands there
    bits_there : (place : ℕ) → is_reached place mapping.reached ≡ false → is_among place back.places ≡ true → ReadsThere image.root.version after both place
    bits_there place off r =
        let of = bits_node place r in
        let listed = behind_front of.0 of.1 of.2 in
        let here = of.3 in
        let inside : place < plan.geometry.meta_sectors = subst (λ p. p < plan.geometry.meta_sectors) here (places.to (first + of.0) of.1 listed) in
        let is = sector_at m n plan marked.tree image device old next more before after left placed place inside in
        let spelled : SpellsNode is.0 of.1.1 = placed.nodes place is.0 is.1 (first + of.0) of.1 (slice_get_within image.nodes.items (first + of.0) of.1 listed) listed here in
        let one = marked.marks_are.planned.each of.1 (there_contained marked.marks.nodes.items of.0 of.1 of.2) in
        let dirty = one.of_bits in
        let reads : SpellsNodeOf image.root.version is.0 of.1.1 = record {
          spelled = spelled;
          version_has = record {
            first = λ e. absurd (let same : ◌≡◌ {A = ℕ} 1 2 = ap version_number (sym e ∙ marked.root_version) in omega arith);
            leaf = λ e level j. absurd (false≢true (sym e ∙ dirty));
          };
        } in
        let node : both place ≡ Some of.1.1 = sym (joined_second tree_read_there.nodes own mapping.reached place off) ∙ (ap own (sym here) ∙ own_node (first + of.0) of.1 listed) in
        record { sector = is.0; there = is.1; reads = subst (λ (o : Option Node). ReadsAs image.root.version is.0 o) (sym node) reads }

    there_by : (place : ℕ) (b : Bool) → is_reached place mapping.reached ≡ b → is_reached place (mapping.reached ++ map dirty_node back.places) ≡ true → ReadsThere image.root.version after both place
    there_by place true e r = there_as image.root.version after tree_read_there.nodes both place (joined_first tree_read_there.nodes own mapping.reached place e) (tree_read_there.reached place e)
    there_by place false e r = bits_there place e (sym (dirty_reached place back.places) ∙ reached_later place mapping.reached (map dirty_node back.places) r e)

    -- the sectors represent the new tree with its bits
    pub represents_new : Represents after image.root (found_of_image (Some bits) image n)
    represents_new = record {
      newest = newest_root m n plan marked.tree image device old next more before after left placed;
      nodes = both;
      reached = λ place r. there_by place (is_reached place mapping.reached) refl (ap (λ (ps : List Place). is_reached place (mapping.reached ++ map dirty_node ps)) (sym places_are) ∙ r);
      reads = image_both;
      mapping = tree_both;
    }

  pub may_commit_bits : MayCommit image device old (Wanted image (found_of_image (Some bits) image n) n)
  may_commit_bits = record {
    represents = next.represents;
    outside = λ i node listed. next.outside i node.0 (more.free_place i node listed);
    new = λ before after left placed. record {
      represents = represents_new before after left placed;
      stores = stores_new m n plan marked.tree image device old next more before after left placed;
    };
  }
