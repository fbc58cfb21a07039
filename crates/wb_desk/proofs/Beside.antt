-- The dirty bits that a clean image has beside its tree: which they are, what is read with them, and where their nodes stand.
use Rattle.std.proofs.Common.{◌≡◌, ◌<◌, ◌≤◌, ◌+◌, ◌-◌, ◌&&◌, inl, inr, ℕ, zero, suc, Bool, true, false, if◌then◌else◌, List, [], ◌∷◌, ◌++◌, Option, Some, None, length, map, take, drop, get_or, set, cond, is_some, slice_get, get_or-set_same, get_or-set_other, refl, sym, ap, subst, ◌∙◌, arith}
use Rattle.std.specs.Prelude.{Contains, filter}
use Rattle.std.proofs.lemmas.Bool.{cases_eq}
use Rattle.std.proofs.lemmas.List.{append-nil, ext_get_or, length-append, length-drop, length-map, length-set}
use Rattle.std.proofs.lemmas.List.Elements.{All-contains, filter-append}
use Rattle.std.proofs.Math.ListN.{get_or-map}
use Rattle.std.proofs.Math.Seq.{take-length}
use Rattle.std.specs.Option.{option_map}
use Rattle.wb_types.proofs.Truth.{and_true}
use Rattle.wb_types.specs.Limits.{dirty_depth_of, dirty_nodes, dirty_node_count, node_count}
use Rattle.wb_types.specs.declared.entry.Entry.{Entry}
use Rattle.wb_types.specs.declared.number.Place.{Place}
use Rattle.wb_types.specs.declared.version.Version.{Version}
use Rattle.wb_types.specs.declared.version.Version.TheVariants.{One, Two}
use Rattle.wb_format.specs.declared.node.Node.{Node}
use Rattle.wb_format.specs.NodeWords.{kept}
use Rattle.wb_tree.specs.Mapping.{Mapping, IsPlaceOf, NodeName}
use Rattle.wb_tree.specs.Edits.{IsEdited}
use Rattle.wb_tree.specs.Images.{AreFree, AreUsed, IsImage, ImagePlan, name_of}
use Rattle.wb_tree.specs.declared.image.Image.{Image}
use Rattle.wb_tree.proofs.Stored.Edited.{edited-none}
use Rattle.wb_policy.specs.Law.{origins}
use Rattle.wb_dirty.specs.ImageReading.{entries_with, with_bits}
use Rattle.wb_dirty.specs.Planning.{IsDirtyPlan, IsPlaceIfNeeded, StandsAt, dirty_names}
use Rattle.wb_dirty.specs.declared.planning.DirtyPlan.{DirtyPlan}
use Rattle.wb_dirty.proofs.PlanCounting.{names-few}
use Rattle.wb_meta.specs.CleanImages.{AreBitsOf, IsImageOf, IsImageWithBits, places_of_bits}
use Rattle.wb_meta.proofs.BitsPlaces.{alone_places}
use Rattle.wb_meta.proofs.CleanImaging.{at_by, dropped_get}
use Rattle.wb_meta.proofs.Imaging.{mapped_at}
use Rattle.wb_desk.specs.Marks.{AreMarked, OfImaged, bits_beside, bits_in_tree, bits_of_mapped, entries_shown, marked_entries}
use Rattle.wb_desk.proofs.Marking.{few_nodes, length-marked, origins-marked}

-- ---- the bits

pub length-bits : (dirty : List Bool) (es : List (Option Entry)) → length (bits_of_mapped dirty es) ≡ length es
length-bits dirty [] = refl
length-bits [] (e ∷ es) = ap suc (length-bits [] es)
length-bits (b ∷ dirty) (e ∷ es) = ap suc (length-bits dirty es)

get_or-bits : (dirty : List Bool) (es : List (Option Entry)) (c : ℕ) → get_or (bits_of_mapped dirty es) c false ≡ get_or dirty c false && is_some (get_or es c None)
get_or-bits [] [] c = refl
get_or-bits (b ∷ dirty) [] c = no_entry (get_or (b ∷ dirty) c false)
  where
    no_entry : (bit : Bool) → false ≡ bit && false
    no_entry true = refl
    no_entry false = refl
get_or-bits [] (e ∷ es) zero = refl
get_or-bits [] (e ∷ es) (suc c) = get_or-bits [] es c
get_or-bits (b ∷ dirty) (e ∷ es) zero = refl
get_or-bits (b ∷ dirty) (e ∷ es) (suc c) = get_or-bits dirty es c

-- marks leave which cache blocks have an entry
bits-marked : (hint : ℕ → ℕ) (bits dirty : List Bool) (es : List (Option Entry)) → bits_of_mapped dirty (marked_entries hint bits es) ≡ bits_of_mapped dirty es
bits-marked hint bits dirty [] = refl
bits-marked hint [] [] (e ∷ es) = ap (λ (xs : List Bool). false ∷ xs) (bits-marked hint [] [] es)
bits-marked hint [] (d ∷ dirty) (None ∷ es) = ap (λ (xs : List Bool). (d && false) ∷ xs) (bits-marked hint [] dirty es)
bits-marked hint [] (d ∷ dirty) (Some e ∷ es) = ap (λ (xs : List Bool). (d && true) ∷ xs) (bits-marked hint [] dirty es)
bits-marked hint (b ∷ bits) [] (e ∷ es) = ap (λ (xs : List Bool). false ∷ xs) (bits-marked hint bits [] es)
bits-marked hint (b ∷ bits) (d ∷ dirty) (None ∷ es) = ap (λ (xs : List Bool). (d && false) ∷ xs) (bits-marked hint bits dirty es)
bits-marked hint (b ∷ bits) (d ∷ dirty) (Some e ∷ es) = ap (λ (xs : List Bool). (d && true) ∷ xs) (bits-marked hint bits dirty es)

-- they are of blocks with an entry
pub are_bits : (dirty : List Bool) (es : List (Option Entry)) → AreBitsOf es (bits_of_mapped dirty es)
are_bits dirty es = record {
  size = length-bits dirty es;
  mapped = λ block set. get_or-map is_some es block None ∙ (and_true (get_or dirty block false) (is_some (get_or es block None)) (sym (get_or-bits dirty es block) ∙ set)).1;
}

-- The first so many bits are so.
pub record AreBitsTo (dirty : List Bool) (es : List (Option Entry)) (n c : ℕ) (bits : List Bool) : Type 0 where
  pub size : length bits ≡ n
  pub before : (k : ℕ) → k < c → get_or bits k false ≡ get_or dirty k false && is_some (get_or es k None)

pub one_bit : (dirty : List Bool) (es : List (Option Entry)) (n c : ℕ) (bits : List Bool) (bit : Bool) → c < n → AreBitsTo dirty es n c bits → bit ≡ get_or dirty c false && is_some (get_or es c None)
    → AreBitsTo dirty es n (c + 1) (set bits c bit)
one_bit dirty es n c bits bit within are is = record {
  size = length-set bits c bit ∙ are.size;
  before = λ k l. elim (cases_eq k c) [
    | inl q ↦ ap (λ (i : ℕ). get_or (set bits c bit) i false) q ∙ get_or-set_same bits c bit false (omega (arith, within, are.size)) ∙ is
        ∙ ap (λ (i : ℕ). get_or dirty i false && is_some (get_or es i None)) (sym q)
    | inr p ↦ get_or-set_other bits c k bit false p ∙ are.before k (omega (arith, l, p))
  ];
}

pub all_bits : (dirty : List Bool) (es : List (Option Entry)) (n c : ℕ) (bits : List Bool) → length es ≡ n → n ≤ c → AreBitsTo dirty es n c bits → bits ≡ bits_of_mapped dirty es
all_bits dirty es n c bits size past are = ext_get_or false bits (bits_of_mapped dirty es) (are.size ∙ sym size ∙ sym (length-bits dirty es))
    (λ k l. are.before k (omega (arith, l, are.size, past)) ∙ sym (get_or-bits dirty es k))

-- ---- what is read with them

with_marked : (hint : ℕ → ℕ) (dirty : List Bool) (es : List (Option Entry)) → entries_with (bits_of_mapped dirty es) (marked_entries hint [] es) ≡ marked_entries hint dirty es
unfolding entries_with
with_marked hint dirty [] = refl
with_marked hint [] (None ∷ es) = ap (λ (xs : List (Option Entry)). None ∷ xs) (with_marked hint [] es)
with_marked hint [] (Some e ∷ es) =
    ap (λ (xs : List (Option Entry)). Some (record { origin = e.origin; dirty = false; hint = hint e.origin.0 }) ∷ xs) (with_marked hint [] es)
with_marked hint (b ∷ dirty) (None ∷ es) = ap (λ (xs : List (Option Entry)). None ∷ xs) (with_marked hint dirty es)
with_marked hint (true ∷ dirty) (Some e ∷ es) =
    ap (λ (xs : List (Option Entry)). Some (record { origin = e.origin; dirty = true; hint = hint e.origin.0 }) ∷ xs) (with_marked hint dirty es)
with_marked hint (false ∷ dirty) (Some e ∷ es) =
    ap (λ (xs : List (Option Entry)). Some (record { origin = e.origin; dirty = false; hint = hint e.origin.0 }) ∷ xs) (with_marked hint dirty es)

-- an image of marked entries says the bits of its entries, in its words or beside them
pub shown_marked : (version : Version) (hint : ℕ → ℕ) (dirty : List Bool) (es : List (Option Entry)) → with_bits (bits_beside version (Some dirty) es) (marked_entries hint (bits_in_tree version dirty) es) ≡ marked_entries hint dirty es
shown_marked One hint dirty es = refl
shown_marked Two hint dirty es = with_marked hint dirty es

pub shown_alone : (version : Version) (es : List (Option Entry)) → with_bits (bits_beside version None es) es ≡ es
shown_alone One es = refl
shown_alone Two es = refl

-- ---- what the words of a version keep

kept_one : (es : List (Option Entry)) → map (kept One) es ≡ es
kept_one [] = refl
kept_one (e ∷ es) = ap (λ (xs : List (Option Entry)). e ∷ xs) (kept_one es)

kept_two : (hint : ℕ → ℕ) (es : List (Option Entry)) → map (kept Two) (marked_entries hint [] es) ≡ marked_entries hint [] es
kept_two hint [] = refl
kept_two hint (None ∷ es) = ap (λ (xs : List (Option Entry)). None ∷ xs) (kept_two hint es)
kept_two hint (Some e ∷ es) = ap (λ (xs : List (Option Entry)). Some (record { origin = e.origin; dirty = false; hint = hint e.origin.0 }) ∷ xs) (kept_two hint es)

pub marked_kept : (version : Version) (hint : ℕ → ℕ) (dirty : List Bool) (es : List (Option Entry)) → map (kept version) (marked_entries hint (bits_in_tree version dirty) es) ≡ marked_entries hint (bits_in_tree version dirty) es
marked_kept One hint dirty es = kept_one (marked_entries hint dirty es)
marked_kept Two hint dirty es = kept_two hint es

-- ---- the nodes of an image

none_pass : (nodes : List (Place × Node)) → ((node : Place × Node) → Contains nodes node → node.1.dirty ≡ false) → filter (λ (node : Place × Node). node.1.dirty) nodes ≡ []
none_pass [] all = refl
none_pass (x ∷ xs) all = ap (λ (b : Bool). cond b (x ∷ filter (λ (node : Place × Node). node.1.dirty) xs) (filter (λ (node : Place × Node). node.1.dirty) xs)) (all x (0, omega arith, refl))
    ∙ none_pass xs (λ node has. let inside = has.1 in all node (suc has.0, omega (arith, inside), has.2))

all_pass : (nodes : List (Place × Node)) → ((node : Place × Node) → Contains nodes node → node.1.dirty ≡ true) → filter (λ (node : Place × Node). node.1.dirty) nodes ≡ nodes
all_pass [] all = refl
all_pass (x ∷ xs) all = ap (λ (b : Bool). cond b (x ∷ filter (λ (node : Place × Node). node.1.dirty) xs) (filter (λ (node : Place × Node). node.1.dirty) xs)) (all x (0, omega arith, refl))
    ∙ ap (λ (nodes : List (Place × Node)). x ∷ nodes) (all_pass xs (λ node has. let inside = has.1 in all node (suc has.0, omega (arith, inside), has.2)))

no_bits_in : (m n : Mapping) (plan : ImagePlan) (tree : Image) → IsImage m n plan tree → filter (λ (node : Place × Node). node.1.dirty) tree.nodes.items ≡ []
no_bits_in m n plan tree is = none_pass tree.nodes.items (λ node has. All-contains (λ (node : Place × Node). node.1.dirty ≡ false) tree.nodes.items node is.mappings has)

-- the places of bits of one with bits are those of its marks
bits_in : (bits : List Bool) (m n : Mapping) (plan : ImagePlan) (image : Image) (is : IsImageWithBits bits m n plan image)
    → places_of_bits image ≡ map (λ (node : Place × Node). node.0) is.marks.nodes.items
bits_in bits m n plan image is = ap (λ (nodes : List (Place × Node)). map (λ (node : Place × Node). node.0) nodes) (
    ap (λ (nodes : List (Place × Node)). filter (λ (node : Place × Node). node.1.dirty) nodes) is.nodes_are
    ∙ filter-append (λ (node : Place × Node). node.1.dirty) is.tree.nodes.items is.marks.nodes.items
    ∙ ap (λ (nodes : List (Place × Node)). nodes ++ filter (λ (node : Place × Node). node.1.dirty) is.marks.nodes.items) (no_bits_in m n plan is.tree is.tree_is)
    ∙ all_pass is.marks.nodes.items (λ node has. (is.marks_are.planned.each node has).of_bits)
    )

-- An image has the nodes of its tree, and behind them those of the bits.
pub record HasBehind (m n : Mapping) (plan : ImagePlan) (image : Image) : Type 0 where
  pub tree : Image
  pub is : IsImage m n plan tree
  pub behind : List (Place × Node)
  pub nodes : image.nodes.items ≡ tree.nodes.items ++ behind
  pub places : places_of_bits image ≡ map (λ (node : Place × Node). node.0) behind

pub has_behind : (bits : Option (List Bool)) (m n : Mapping) (plan : ImagePlan) (image : Image) → IsImageOf bits m n plan image → HasBehind m n plan image
has_behind None m n plan image is = record {
  tree = image;
  is = is;
  behind = [];
  nodes = sym (append-nil image.nodes.items);
  places = alone_places m n plan image is;
}
has_behind (Some bits) m n plan image is = record {
  tree = is.tree;
  is = is.tree_is;
  behind = is.marks.nodes.items;
  nodes = is.nodes_are;
  places = bits_in bits m n plan image is;
}

pub alone_as : (version : Version) (es : List (Option Entry)) (m n : Mapping) (plan : ImagePlan) (image : Image) → IsImageOf (bits_beside version None es) m n plan image → IsImage m n plan image
alone_as One es m n plan image is = is
alone_as Two es m n plan image is = is

-- ---- how many there are

pub few_bits : (version : Version) (clean : Option (List Bool)) (es : List (Option Entry)) (m n : Mapping) (plan : ImagePlan) (image : Image) (blocks : ℕ) → IsImageOf (bits_beside version clean es) m n plan image → length n.entries ≡ blocks
    → length (places_of_bits image) ≤ (if is_some clean then dirty_nodes version blocks else 0)
few_bits One clean es m n plan image blocks is size = omega (arith, ap (λ (ps : List Place). length ps) (alone_places m n plan image is))
few_bits Two None es m n plan image blocks is size = omega (arith, ap (λ (ps : List Place). length ps) (alone_places m n plan image is))
few_bits Two (Some dirty) es m n plan image blocks is size = omega (
  arith,
  ap (λ (ps : List Place). length ps) (bits_in (bits_of_mapped dirty es) m n plan image is),
  length-map is.marks.nodes.items (λ (node : Place × Node). node.0),
  length-map is.marks.nodes.items (λ (node : Place × Node). name_of node.1),
  ap (λ (xs : List NodeName). length xs) is.marks_are.nodes_are,
  names-few (bits_of_mapped dirty es),
  ap (λ (k : ℕ). dirty_node_count k) (is.bits_are.size ∙ size),
)

pub few_image : (version : Version) (clean : Option (List Bool)) (es : List (Option Entry)) (m n : Mapping) (plan : ImagePlan) (image : Image) → IsImageOf (bits_beside version clean es) m n plan image → length m.entries ≡ plan.geometry.cache_blocks
    → length image.nodes.items ≤ node_count plan.geometry.cache_blocks + (if is_some clean then dirty_nodes version plan.geometry.cache_blocks else 0)
few_image version clean es m n plan image is size =
    let h = has_behind (bits_beside version clean es) m n plan image is in
    omega (
      arith,
      ap (λ (xs : List (Place × Node)). length xs) h.nodes,
      length-append h.tree.nodes.items h.behind,
      few_nodes m n plan h.tree h.is size,
      ap (λ (ps : List Place). length ps) h.places,
      length-map h.behind (λ (node : Place × Node). node.0),
      few_bits version clean es m n plan image plan.geometry.cache_blocks is (ap (λ (xs : List (Option Entry)). length xs) h.is.same_entries ∙ size),
    )

few_at_most : (version : Version) (flag : Bool) (blocks : ℕ) → (if flag then dirty_nodes version blocks else 0) ≤ dirty_nodes version blocks
few_at_most version true blocks = omega arith
few_at_most version false blocks = omega arith

-- ---- where they stand

taken_there : {X : Type 0} (n : ℕ) (xs : List X) (k : ℕ) (x : X) → slice_get (take n xs) k ≡ Some x → slice_get xs k ≡ Some x
taken_there zero xs k x e = absurd cc
taken_there (suc n) [] k x e = absurd cc
taken_there (suc n) (y ∷ xs) zero x e = e
taken_there (suc n) (y ∷ xs) (suc k) x e = taken_there n xs k x e

-- no node of the tree stands where one of the bits does
pub bits_apart : (bits : Option (List Bool)) (m n : Mapping) (plan : ImagePlan) (image : Image) → AreFree m plan.geometry plan.free → IsImageOf bits m n plan image
    → (p : Place) → IsPlaceOf n p → Contains (places_of_bits image) p → ⊥
bits_apart None m n plan image free is p stands has = let inside = has.1 in absurd (omega (arith, inside, ap (λ (ps : List Place). length ps) (alone_places m n plan image is)))
bits_apart (Some bits) m n plan image free is p stands has = elim (is.tree_is.comes p stands) [
  | inl was ↦ free.unused (length is.tree.nodes.items + here.0) p taken was
  | inr new ↦
      let front : slice_get plan.free new.0 ≡ Some p = taken_there (length is.tree.nodes.items) plan.free new.0 p
      (ap (λ (ps : List Place). slice_get ps new.0) (sym is.tree_is.places_are) ∙ at_by (map (λ (node : Place × Node). node.0) is.tree.nodes.items) new.0 p new.1 new.2) in
      let same = free.apart (length is.tree.nodes.items + here.0) new.0 p taken front in
      let inside = new.1 in
      omega (arith, same, inside, length-map is.tree.nodes.items (λ (node : Place × Node). node.0))
]
  where
    here : Contains (map (λ (node : Place × Node). node.0) is.marks.nodes.items) p
    here = subst (λ (ps : List Place). Contains ps p) (bits_in bits m n plan image is) has

    taken : slice_get plan.free (length is.tree.nodes.items + here.0) ≡ Some p
    taken = dropped_get (length is.tree.nodes.items) plan.free here.0 p (taken_there (length is.marks.nodes.items) (drop (length is.tree.nodes.items) plan.free) here.0 p
        (ap (λ (ps : List Place). slice_get ps here.0) (sym is.marks_are.planned.places) ∙ at_by (map (λ (node : Place × Node). node.0) is.marks.nodes.items) here.0 p here.1 here.2))

-- ---- what an image with bits is made of

pub few_names : (dirty bits : List Bool) (es : List (Option Entry)) (blocks : ℕ) → bits ≡ bits_of_mapped dirty es → length es ≡ blocks → length (dirty_names bits) ≤ dirty_node_count blocks
few_names dirty bits es blocks are size = subst (λ (n : ℕ). length (dirty_names bits) ≤ dirty_node_count n) (ap (λ (bs : List Bool). length bs) are ∙ length-bits dirty es ∙ size) (names-few bits)

-- the free places behind the first so many
pub behind_free : {X : Type 0} (n : ℕ) (free : List X) → take (length free - n) (drop n free) ≡ drop n free
behind_free n free = ap (λ k. take k (drop n free)) (sym (length-drop n free)) ∙ take-length (drop n free)

pub free_behind : {X : Type 0} (k n : ℕ) (free : List X) (i : ℕ) (x : X) → slice_get (take k (drop n free)) i ≡ Some x → slice_get free (n + i) ≡ Some x
free_behind k n free i x e = dropped_get n free i x (taken_there k (drop n free) i x e)

-- the top of the bits takes a free place
pub top_free : (bits : List Bool) (generation : ℕ) (free : List Place) (marks : DirtyPlan) (place : Place) → IsDirtyPlan bits generation free marks → marks.top ≡ Some place → (i : ℕ) × (slice_get free i ≡ Some place)
top_free bits generation free marks place is top = (
  at.0,
  taken_there (length marks.nodes.items) free at.0 place
      (ap (λ (ps : List Place). slice_get ps at.0) (sym is.planned.places) ∙ mapped_at (λ (node : Place × Node). node.0) marks.nodes.items at.0 (place, stands.node) (at_by marks.nodes.items at.0 (place, stands.node) at.1 at.2)),
)
  where
    stands : StandsAt marks.nodes.items (dirty_depth_of (length bits)) 0 place
    stands = (subst (λ (t : Option Place). IsPlaceIfNeeded bits marks.nodes.items (dirty_depth_of (length bits)) 0 t) top is.top).1

    at : Contains marks.nodes.items (place, stands.node)
    at = stands.there

-- a plan of the bits on what is left of the free places, and what the two make together
pub image_beside : (dirty bits : List Bool) (image whole : Image) (marks : DirtyPlan) (free : List Place) (n : ℕ) (tree : Mapping) → bits ≡ bits_of_mapped dirty tree.entries → n ≡ length image.nodes.items
    → IsDirtyPlan bits image.root.generation (take (length free - n) (drop n free)) marks
    → ((b : List Bool) (m n : Mapping) (plan : ImagePlan) → IsImage m n plan image → IsDirtyPlan b plan.generation (drop (length image.nodes.items) plan.free) marks → AreBitsOf n.entries b → IsImageWithBits b m n plan whole)
    → (m : Mapping) (plan : ImagePlan) → plan.free ≡ free → IsImage m tree plan image → IsImageWithBits (bits_of_mapped dirty tree.entries) m tree plan whole
image_beside dirty bits image whole marks free n tree are count planned law m plan same is = law (bits_of_mapped dirty tree.entries) m tree plan is
    (subst (λ (bs : List Bool). IsDirtyPlan bs plan.generation (drop (length image.nodes.items) plan.free) marks) are
    (subst (λ (g : ℕ). IsDirtyPlan bits g (drop (length image.nodes.items) plan.free) marks) is.root_generation
    (subst (λ (ps : List Place). IsDirtyPlan bits image.root.generation ps marks)
    (behind_free n free ∙ ap (λ (k : ℕ). drop k free) count ∙ ap (λ (ps : List Place). drop (length image.nodes.items) ps) (sym same)) planned)))
    (are_bits dirty tree.entries)

-- ---- images

-- what an image leads to, whether it is clean or not
pub record ImageFacts (version : Version) (old tree : Mapping) (cache_blocks : ℕ) (image : Image) : Type 0 where
  pub origins : origins tree.entries ≡ origins old.entries
  pub used : AreUsed cache_blocks tree
  pub keeps : map (kept version) old.entries ≡ old.entries → map (kept version) tree.entries ≡ tree.entries
  pub few : length (places_of_bits image) ≤ dirty_nodes version cache_blocks
  pub apart : (p : Place) → IsPlaceOf tree p → Contains (places_of_bits image) p → ⊥

pub facts_of : (version : Version) (clean : Option (List Bool)) (es : List (Option Entry)) (old m tree : Mapping) (n : ℕ) (plan : ImagePlan) (image : Image) → plan.geometry.cache_blocks ≡ n → AreFree m plan.geometry plan.free → length m.entries ≡ n
    → origins m.entries ≡ origins old.entries → (map (kept version) old.entries ≡ old.entries → map (kept version) m.entries ≡ m.entries)
    → IsImageOf (bits_beside version clean es) m tree plan image → ImageFacts version old tree n image
facts_of version clean es old m tree n plan image sizes free size same keeps is =
    let h = has_behind (bits_beside version clean es) m tree plan image is in
    let bits = few_bits version clean es m tree plan image n is (ap (λ (xs : List (Option Entry)). length xs) h.is.same_entries ∙ size) in
    record {
      origins = ap (λ (xs : List (Option Entry)). origins xs) h.is.same_entries ∙ same;
      used = subst (λ (k : ℕ). AreUsed k tree) sizes h.is.used;
      keeps = λ kept_old. subst (λ (xs : List (Option Entry)). map (kept version) xs ≡ xs) (sym h.is.same_entries) (keeps kept_old);
      few = omega (arith, bits, few_at_most version (is_some clean) n);
      apart = bits_apart (bits_beside version clean es) m tree plan image free is;
    }

pub image_facts : (version : Version) (hint : ℕ → ℕ) (clean : Option (List Bool)) (old tree : Mapping) (n : ℕ) (plan : Mapping → ImagePlan) (image : Image) → ((m : Mapping) → (plan m).geometry.cache_blocks ≡ n)
    → ((m : Mapping) → IsEdited old m → length m.entries ≡ n → AreFree m (plan m).geometry (plan m).free) → length old.entries ≡ n
    → OfImaged version hint clean old (λ imaged. IsImageOf (bits_beside version clean old.entries) imaged tree (plan imaged) image) → ImageFacts version old tree n image
image_facts version hint None old tree n plan image sizes free size is =
    facts_of version None old.entries old old tree n (plan old) image (sizes old) (free old (edited-none old) size) size refl (λ keeps. keeps) is
image_facts version hint (Some dirty) old tree n plan image sizes free size so =
    let m = so.0 in
    let marked = so.1 in
    let sized : length m.entries ≡ n = ap (λ (xs : List (Option Entry)). length xs) marked.entries ∙ length-marked hint (bits_in_tree version dirty) old.entries ∙ size in
    facts_of version (Some dirty) old.entries old m tree n (plan m) image (sizes m) (free m marked.edited sized) sized
    (ap (λ (xs : List (Option Entry)). origins xs) marked.entries ∙ origins-marked hint (bits_in_tree version dirty) old.entries)
    (λ keeps. subst (λ (xs : List (Option Entry)). map (kept version) xs ≡ xs) (sym marked.entries) (marked_kept version hint dirty old.entries)) so.2

-- what is read of it
pub image_shows : (version : Version) (hint : ℕ → ℕ) (clean : Option (List Bool)) (old tree : Mapping) (plan : Mapping → ImagePlan) (image : Image)
    → OfImaged version hint clean old (λ imaged. IsImageOf (bits_beside version clean old.entries) imaged tree (plan imaged) image)
    → with_bits (bits_beside version clean old.entries) tree.entries ≡ entries_shown hint clean old.entries
image_shows version hint None old tree plan image is =
    let h = has_behind (bits_beside version None old.entries) old tree (plan old) image is in
    ap (λ (es : List (Option Entry)). with_bits (bits_beside version None old.entries) es) h.is.same_entries ∙ shown_alone version old.entries
image_shows version hint (Some dirty) old tree plan image so =
    let h = has_behind (bits_beside version (Some dirty) old.entries) so.0 tree (plan so.0) image so.2 in
    ap (λ (es : List (Option Entry)). with_bits (bits_beside version (Some dirty) old.entries) es) (h.is.same_entries ∙ so.1.entries) ∙ shown_marked version hint dirty old.entries

beside_marked : (version : Version) (hint : ℕ → ℕ) (bits dirty : List Bool) (old imaged : Mapping) → AreMarked hint bits old imaged → bits_beside version (Some dirty) imaged.entries ≡ bits_beside version (Some dirty) old.entries
beside_marked One hint bits dirty old imaged are = refl
beside_marked Two hint bits dirty old imaged are = ap (λ (bs : List Bool). Some bs) (ap (λ (es : List (Option Entry)). bits_of_mapped dirty es) are.entries ∙ bits-marked hint bits dirty old.entries)

-- a clean image is one of the marked tree
pub of_clean : {Bits : Type 0} (of : Bits → List Bool) (version : Version) (hint : ℕ → ℕ) (clean : Option Bits) (dirty : Bits) (bits : List Bool) (old imaged tree : Mapping) (plan : Bool → Mapping → ImagePlan) (image : Image)
    → clean ≡ Some dirty → bits ≡ bits_in_tree version (of dirty) → AreMarked hint bits old imaged → IsImageOf (bits_beside version (Some (of dirty)) imaged.entries) imaged tree (plan true imaged) image
    → OfImaged version hint (option_map of clean) old (λ m. IsImageOf (bits_beside version (option_map of clean) old.entries) m tree (plan (is_some clean) m) image)
of_clean of version hint clean dirty bits old imaged tree plan image some are marked is =
    subst (λ (o : Option _). OfImaged version hint (option_map of o) old (λ m. IsImageOf (bits_beside version (option_map of o) old.entries) m tree (plan (is_some o) m) image)) (sym some) (
      imaged,
      subst (λ (bs : List Bool). AreMarked hint bs old imaged) are marked,
      subst (λ (b : Option (List Bool)). IsImageOf b imaged tree (plan true imaged) image) (beside_marked version hint bits (of dirty) old imaged marked) is,
    )
