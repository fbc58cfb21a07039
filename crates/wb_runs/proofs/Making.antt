-- Where a desk may begin a commit there is an image to begin it with, and each image can be spelled.
use Rattle.std.proofs.Common.{Global, ◌≡◌, ◌∙◌, ◌≤◌, ◌<◌, ◌+◌, ◌-◌, ◌*◌, ◌/◌, ◌%◌, ◌^◌, ◌++◌, inl, inr, ℕ, zero, suc, Bool, true, false, is_some, List, [], ◌∷◌, Option, Some, None, refl, sym, ap, subst, arith, length, get_or, slice_get, slice_index, slice_index_or, append_assoc}
use Rattle.std.specs.List.{AllByRecursion}
use Rattle.std.specs.Prelude.{All}
use Rattle.std.proofs.lemmas.Bool.{cases_Bool, cases_eq}
use Rattle.std.proofs.lemmas.List.{append-nil, length-map, map-append}
use Rattle.std.proofs.lemmas.List.Elements.{All-push, All-nil, recursion_from_All}
use Rattle.std.proofs.lemmas.Option.{slice_get-get_or}
use Rattle.std.proofs.Math.Nat.{div-add-mod, mod-lt}
use Rattle.wb_types.specs.Limits.{depth_of, node_count}
use Rattle.wb_types.specs.declared.entry.Entry.{Entry}
use Rattle.wb_types.specs.declared.geometry.Geometry.{Geometry}
use Rattle.wb_types.specs.declared.number.Place.{Place}
use Rattle.wb_disk.specs.Device.{History}
use Rattle.wb_format.specs.declared.node.Node.{Node}
use Rattle.wb_types.specs.declared.version.Version.{Version}
use Rattle.wb_types.specs.declared.version.Version.TheVariants.{One, Two}
use Rattle.wb_format.specs.NodeWords.{IsEntry, IsLeafWord, IsNodeWord, IsNodeWordOf, entry_word, kept}
use Rattle.wb_format.proofs.WordLemmas.{IsWord-everywhere}
use Rattle.wb_tree.specs.declared.image.Image.{Image}
use Rattle.wb_tree.specs.Mapping.{Mapping, NodeName, IsMapping, AreInside, nodes_of, place_of, changed, changed_of}
use Rattle.wb_tree.specs.Images.{AreFree, ImagePlan, IsImage, name_of, word_at, place_word, kept_tree}
use Rattle.wb_tree.specs.Planning.{planned, levels, names, Begins, MayPlan, IsWritten, AreWritten}
use Rattle.wb_tree.specs.Fields.{AreApart}
use Rattle.wb_tree.proofs.Nodes.Names.{IsBelow, nodes_below-below}
use Rattle.wb_tree.proofs.Images.Changes.{few_changed}
use Rattle.wb_tree.proofs.Images.Imaging.{image-is, used-places}
use Rattle.wb_tree.proofs.Images.PlanSteps.{changed_of-all, next-inside, next-place, leaf-word, inner-word, written-more}
use Rattle.wb_tree.proofs.Images.Planned.{CanPlace, may-plan, planned-comes, planned-complete, planned-inside, planned-more, planned-sound, written_is}
use Rattle.wb_tree.proofs.Images.PlanWords.{IsLeafWord-zero}
use Rattle.wb_tree.proofs.Reading.LoaderSteps.{depth_range}
use Rattle.wb_tree.proofs.Stored.Edited.{edited-none}
use Rattle.wb_meta.specs.declared.commit_steps.CommitSteps.TheVariants.{NodesWritten}
use Rattle.wb_meta.specs.CleanImages.{IsImageOf}
use Rattle.wb_meta.proofs.Imaging.{have_places}
use Rattle.wb_meta.proofs.CleanImaging.{image_places}
use Rattle.wb_desk.specs.Desks.{DeskState}
use Rattle.wb_desk.specs.Marks.{bits_beside}
use Rattle.wb_desk.specs.Commits.{HasBegun, MayBegin, next_plan, commit_begun}
use Rattle.wb_desk.proofs.Committing.{free_for, has_begun}
use Rattle.wb_devices.specs.declared.running.RunningCommit.{RunningCommit}
use denote.RawPtr.{null_ptr}
use Rattle.wb_promise.specs.Happenings.{Commits, AreWhole, IsWholeNode, most_for}
use Rattle.wb_runs.specs.Progress.{CanBegin}
use Rattle.wb_runs.proofs.Imaged.{begun_root}
use Rattle.wb_runs.proofs.Images.{Images}
use Rattle.wb_runs.proofs.Metadata.{AtDesk, unknowing}
use Rattle.wb_runs.proofs.Spelled.{IsSmall}

-- ---- lists

all_at : {X : Type 0} (Q : X → Type 0) (xs : List X) (k : ℕ) (x : X) → AllByRecursion Q xs → slice_get xs k ≡ Some x → Q x
all_at Q [] k x a e = absurd (cc)
all_at Q (y ∷ ys) zero x a e = let same : y ≡ x = cc in subst Q same a.0
all_at Q (y ∷ ys) (suc k) x a e = all_at Q ys k x a.1 e

both_of : {X : Type 0} (Q R S : X → Type 0) → ((x : X) → Q x → R x → S x) → (xs : List X) → AllByRecursion Q xs → AllByRecursion R xs → AllByRecursion S xs
both_of Q R S f [] q r = tt
both_of Q R S f (x ∷ xs) q r = (f x q.0 r.0, both_of Q R S f xs q.1 r.1)

-- ---- which nodes change

-- a changed node of a tree lies in it, and stands nowhere yet
record IsNew (m : Mapping) (name : NodeName) : Type 0 where
  from : 1 ≤ name.level
  to : name.level ≤ 4
  few : name.index < 2 ^ 32
  unknown : place_of m name.level name.index ≡ None

unknown_all : (m : Mapping) (nodes : List NodeName) → AllByRecursion (λ (n : NodeName). place_of m n.level n.index ≡ None) (changed_of m nodes)
unknown_all m [] = tt
unknown_all m (node ∷ nodes) = elim (cases_Bool (is_some (place_of m node.level node.index))) [
  | inl known ↦ rw known (unknown_all m nodes)
  | inr new ↦ rw new (none (place_of m node.level node.index) new, unknown_all m nodes)
]
  where
    none : (o : Option Place) → is_some o ≡ false → o ≡ None
    none None e = refl
    none (Some p) e = absurd (cc)

power_most : (k : ℕ) → k ≤ 4 → (0 < 32 ^ k) × (32 ^ k ≤ 1048576)
power_most (suc (suc (suc (suc (suc k))))) l = absurd (omega (arith, l))
power_most k l = (omega arith, omega arith)

index_few : (k index : ℕ) → k ≤ 4 → index / 32 ^ k < 1 → index < 2 ^ 32
index_few k index l b =
    let whole = div-add-mod index (32 ^ k) in
    let none : index / 32 ^ k ≡ 0 = omega (arith, b) in
    let rest : 32 ^ k * 0 + index % 32 ^ k ≡ index = ap (λ (q : ℕ). 32 ^ k * q + index % 32 ^ k) (sym none) ∙ whole in
    let less = mod-lt index (power_most k l).0 in
    let most = (power_most k l).1 in
    let nothing : 32 ^ k * 0 ≡ 0 = omega arith in
    omega (arith, rest, less, most, nothing)

changes_new : (m : Mapping) → AllByRecursion (IsNew m) (changed m (levels m))
changes_new m = both_of (IsBelow (levels m) 0 1) (λ (n : NodeName). place_of m n.level n.index ≡ None) (IsNew m)
    (λ name b u. record { from = b.from; to = (let most = (depth_range (length m.entries)).1 in omega (arith, b.to, most)); few = index_few (levels m - name.level) name.index (let most = (depth_range (length m.entries)).1 in omega (arith, most)) b.before; unknown = u })
    (changed m (levels m)) (changed_of-all m (IsBelow (levels m) 0 1) (nodes_of m.entries (levels m)) (nodes_below-below m.entries (levels m) 0)) (unknown_all m (nodes_of m.entries (levels m)))

-- ---- each image can be spelled

pub whole_small : (image : Image) → image.root.generation < 2 ^ 64 → AreWhole image → IsSmall image
whole_small image root whole = record {
  root = root;
  nodes = λ k node e. all_at (λ (n : Place × Node). IsWholeNode n.1) image.nodes.items k node (recursion_from_All (λ (n : Place × Node). IsWholeNode n.1) image.nodes.items whole) e;
}

pub image_small : {P : Type 0} (desk : DeskState P) (tree : Mapping) (c : RunningCommit) (hint_of : P → ℕ → ℕ) (seen : Option (List Bool)) → HasBegun hint_of seen desk c.image (commit_begun desk tree c.image) → AreWhole c.image → IsSmall c.image
image_small desk tree c hint_of seen begun whole = let next = (begun_root hint_of seen desk tree c.image begun).0 in whole_small c.image (omega (arith, next, begun.may.next)) whole

-- so can that of an opening, which has no node
pub small_opening : (image : Image) → image.nodes.items ≡ [] → image.root.generation < 2 ^ 64 → IsSmall image
small_opening image none root = record { root = root; nodes = λ k node e. absurd (let bad : slice_get {X = Place × Node} [] k ≡ Some node = ap (λ (xs : List (Place × Node)). slice_get xs k) (sym none) ∙ e in cc) }

-- ---- words of a node

abbrev words_from : (ℕ → ℕ) → (count first : ℕ) → List ℕ
words_from f zero first = []
words_from f (suc count) first = f first ∷ words_from f count (first + 1)

length-words_from : (f : ℕ → ℕ) (count first : ℕ) → length (words_from f count first) ≡ count
length-words_from f zero first = refl
length-words_from f (suc count) first = ap suc (length-words_from f count (first + 1))

word_there : (f : ℕ → ℕ) (count first j : ℕ) → j < count → slice_index (words_from f count first) j ≡ f (first + j)
word_there f zero first j l = absurd (omega (arith, l))
word_there f (suc count) first zero l = let same : first ≡ first + 0 = omega arith in ap f same
word_there f (suc count) first (suc j) l = word_there f count (first + 1) j (omega (arith, l)) ∙ (let same : first + 1 + j ≡ first + suc j = omega arith in ap f same)

leaf_word : (o : Option Entry) → ((entry : Entry) → o ≡ Some entry → IsEntry entry) → IsLeafWord (entry_word o)
leaf_word None f = IsLeafWord-zero
leaf_word (Some entry) f = by_dirty entry.dirty (f entry refl)
  where
    by_dirty : (d : Bool) → IsEntry entry → IsLeafWord (1 + 2 * Rattle.std.specs.Prelude.cond d 1 0 + 2 ^ 4 * entry.hint + 2 ^ 16 * entry.origin.0)
    by_dirty true is = record { present = λ n. omega arith; bits_2_and_3 = omega (arith, is.hint); hint = omega (arith, is.hint); bits_9_to_15 = omega (arith, is.hint); bits_from_36 = omega (arith, is.hint, is.origin) }
    by_dirty false is = record { present = λ n. omega arith; bits_2_and_3 = omega (arith, is.hint); hint = omega (arith, is.hint); bits_9_to_15 = omega (arith, is.hint); bits_from_36 = omega (arith, is.hint, is.origin) }

-- what a version keeps of an entry is one
kept_entry : (version : Version) (o : Option Entry) → ((entry : Entry) → o ≡ Some entry → IsEntry entry) → (entry : Entry) → kept version o ≡ Some entry → IsEntry entry
kept_entry One o each entry e = each entry e
kept_entry Two None each entry e = absurd (cc)
kept_entry Two (Some was) each entry e = let is = each was refl in let same : record was { dirty = false } ≡ entry = cc in subst IsEntry same (record { origin = is.origin; hint = is.hint })

-- a word of a node of the mapping fits eight bytes
word_fits : (level word : ℕ) → IsNodeWord false level word → word < 2 ^ 64
word_fits level word is = elim (cases_eq level 1) [
  | inl leaf ↦ let none = (is.leaf refl leaf).bits_from_36 in omega (arith, none)
  | inr inner ↦ let few = (is.inner inner).place in omega (arith, few)
]

-- ---- an image of a tree

module _ (heap : Global) (m : Mapping) (geometry : Geometry) (free : List Place) (generation : ℕ) (can : CanPlace m geometry free) (mapping : IsMapping geometry.cache_blocks geometry.origin_blocks m.entries) (fits : generation < 2 ^ 64) where
  abbrev n : Mapping
  n = planned m free

  -- and what the words of the version keep of it
  abbrev kn : Mapping
  kn = kept_tree geometry.version n

  may : MayPlan m free
  may = may-plan m geometry free can mapping

  inside : AreInside geometry.meta_sectors n
  inside = planned-inside m geometry free can

  place_small : (level index : ℕ) (o : Option Place) → place_of n level index ≡ o → place_word o ≤ 4294967295
  place_small level index None e = omega arith
  place_small level index (Some p) e = let i = inside p (record { level = level; index = index; known = e }) in omega (arith, i.1, geometry.within.meta_to)

  word_is : (level index j : ℕ) → 1 ≤ level → IsNodeWordOf One false level (word_at kn level index j)
  word_is zero index j l = absurd (omega (arith, l))
  word_is (suc zero) index j l =
      let leaf : IsLeafWord (word_at kn 1 index j) = subst IsLeafWord (sym (leaf-word geometry.version m free 1 index j refl))
      (leaf_word (kept geometry.version (slice_index_or m.entries (32 * index + j) None)) (kept_entry geometry.version (slice_index_or m.entries (32 * index + j) None) (may.spelled (32 * index + j)))) in
      record {
        any = record { leaf = λ mapping e. leaf; inner = λ o. absurd (o refl) };
        leaf = λ mapping e. record { leaf = leaf; no_dirty_bit = λ two. absurd (cc) };
      }
  word_is (suc (suc level)) index j l = record {
    leaf = λ mapping e. absurd (omega (arith, e));
    any = record { leaf = λ mapping e. absurd (omega (arith, e)); inner = λ o. inner-word m free (suc level) (32 * index + j) (place_of n (suc level) (32 * index + j)) (place_word (place_of n (suc level) (32 * index + j))) may refl refl (place_small (suc level) (32 * index + j) (place_of n (suc level) (32 * index + j)) refl) };
  }

  abbrev words_of : NodeName → List ℕ
  words_of name = words_from (word_at kn name.level name.index) 32 0

  words_there : (name : NodeName) (j : ℕ) → j < 32 → slice_index (words_of name) j ≡ word_at kn name.level name.index j
  words_there name j l = word_there (word_at kn name.level name.index) 32 0 j l ∙ (let same : 0 + j ≡ j = omega arith in ap (word_at kn name.level name.index) same)

  abbrev node_for : (name : NodeName) → 1 ≤ name.level → name.level ≤ 4 → Node
  node_for name from to = record {
    generation = generation;
    dirty = false;
    level = name.level;
    index = name.index;
    words = words_of name;
    level_from = from;
    level_to = to;
    dirty_to = λ e. absurd (cc);
    spelled = λ j. (IsWord-everywhere One false name.level (words_of name) (λ k below. subst (IsNodeWordOf One false name.level) (sym (words_there name k (omega (arith, below, length-words_from (word_at kn name.level name.index) 32 0)))) (word_is name.level name.index k from)) j).any;
  }

  node_whole : (name : NodeName) (new : IsNew m name) → IsWholeNode (node_for name new.from new.to)
  node_whole name new = record {
    words = length-words_from (word_at kn name.level name.index) 32 0;
    each_word = λ j. word_fits name.level (slice_index (words_of name) j) ((node_for name new.from new.to).spelled j);
    index = new.few;
    generation = fits;
  }

  abbrev Whole : Place × Node → Type 0
  Whole node = IsWholeNode node.1

  record Made : Type 0 where
    nodes : List (Place × Node)
    named : names nodes ≡ changed m (levels m)
    written : AreWritten geometry.version n generation free nodes
    whole : All Whole nodes

  -- one node after the other
  makes : (front rest : List NodeName) (nodes : List (Place × Node)) → changed m (levels m) ≡ front ++ rest → AllByRecursion (IsNew m) rest → names nodes ≡ front → AreWritten geometry.version n generation free nodes → All Whole nodes → Made
  makes front [] nodes e new is written whole = record { nodes = nodes; named = is ∙ sym (e ∙ append-nil front); written = written; whole = whole }
  makes front (name ∷ rest) nodes e new is written whole =
      let begins : Begins m (front ++ name ∷ []) = record { rest = rest; is = e ∙ sym (append_assoc front (name ∷ []) rest) } in
      let less = next-inside m free front name may begins in
      let long : length nodes ≡ length front = sym (length-map nodes (λ (k : Place × Node). name_of k.1)) ∙ ap (λ (xs : List NodeName). length xs) is in
      let place : Place = get_or free (length nodes) (record { 0 = 0 }) in
      let there : slice_get free (length nodes) ≡ Some place = slice_get-get_or free (length nodes) (record { 0 = 0 }) (omega (arith, less, long)) in
      let stands : place_of n name.level name.index ≡ Some place = next-place m free front name may new.0.unknown begins ∙ ap (λ k. slice_get free k) (sym long) ∙ there in
      let node : Place × Node = (place, node_for name new.0.from new.0.to) in
      let one : IsWritten geometry.version n generation node = record { stands = stands; written_in = refl; mapping = refl; words = λ j l. words_there name j l } in
      makes (front ++ name ∷ []) rest (nodes ++ node ∷ []) (e ∙ sym (append_assoc front (name ∷ []) rest)) new.1
      (map-append (λ (k : Place × Node). name_of k.1) nodes (node ∷ []) ∙ ap (λ (xs : List NodeName). xs ++ name ∷ []) is)
      (written-more geometry.version n generation free nodes node written (omega (arith, less, long)) there one) (All-push Whole nodes node whole (node_whole name new.0))

  made : Made
  made = makes [] (changed m (levels m)) [] refl (changes_new m) refl (record { places = refl; each = All-nil _ }) (All-nil _)

  many : length made.nodes ≤ node_count geometry.cache_blocks
  many = let long = sym (length-map made.nodes (λ (k : Place × Node). name_of k.1)) ∙ ap (λ (xs : List NodeName). length xs) made.named in
      omega (arith, long, few_changed m geometry.cache_blocks can.size, ap (λ (k : ℕ). length (changed m (depth_of k))) can.size)

  abbrev image : Image
  image = record {
    root = record { generation = generation; version = geometry.version; clean = false; geometry = geometry; top = place_of n (depth_of geometry.cache_blocks) 0; top_dirty = None; dirty_inside = λ p e. absurd (cc); dirty_clean = λ p e. absurd (cc); same_version = refl; top_inside = λ place top. inside place (record { level = depth_of geometry.cache_blocks; index = 0; known = top }) };
    nodes = record { ptr = null_ptr; len = length made.nodes; cap = length made.nodes; alloc = heap; items = made.nodes; ok = (refl, omega arith); small = omega (arith, many, geometry.within.meta_from, geometry.within.meta_to) };
  }

  image_is : IsImage m n (record { geometry = geometry; generation = generation; clean = false; free = free }) image
  image_is = let complete = planned-complete m geometry free can in
      image-is m n geometry generation false free image (written_is m geometry generation free made.nodes can made.named made.written) complete.all
      (used-places n geometry.cache_blocks (planned-sound m geometry free can) complete.once complete.few) (planned-comes m free made.nodes made.named made.written.places) (planned-more geometry.version m generation free made.nodes made.named made.written) refl refl refl refl refl

-- an image of a tree alone is that of a commit without dirty bits, in metadata of either version
pub as_alone : (version : Version) (es : List (Option Entry)) (m n : Mapping) (plan : ImagePlan) (whole : Image) → IsImage m n plan whole → IsImageOf (bits_beside version None es) m n plan whole
as_alone One es m n plan whole is = is
as_alone Two es m n plan whole is = is

-- ---- a commit begins

-- where no node of its tree is known twice, and a flush allows as many nodes as a tree of its size can have
pub desk_begins : (heap : Global) (P A : Type 0) (g : Geometry) (images : Images) (desk : DeskState P) (commit : Option RunningCommit) (device : List History) → AtDesk g images desk commit device → AreApart desk.tree.known → (most : ℕ) → most_for g false ≤ most → MayBegin desk → CanBegin P A most desk
desk_begins heap P A g images desk commit device known once most enough may =
    let kept = known.is.kept in
    let plan = next_plan desk desk.tree false in
    let are : AreFree desk.tree desk.geometry plan.free = free_for unknowing desk false kept may.idle (λ e. absurd (cc)) desk.tree (edited-none desk.tree) kept.mapping.size in
    let can : CanPlace desk.tree desk.geometry plan.free = record { size = kept.mapping.size; sound = known.is.sound; once = once; inside = kept.places.inside; are = are } in
    let im = image heap desk.tree desk.geometry plan.free plan.generation can kept.mapping may.next in
    let is = image_is heap desk.tree desk.geometry plan.free plan.generation can kept.mapping may.next in
    let tree = planned desk.tree plan.free in
    let few = many heap desk.tree desk.geometry plan.free plan.generation can kept.mapping may.next in
    let sized = ap (λ (n : ℕ). node_count n) known.is.sizes.cache_blocks in (
      length im.nodes.items,
      (
        Commits (record { image = im; steps = NodesWritten 0; placed = have_places desk.tree tree plan im are is }) tree,
        (
          omega (arith, few, enough, sized),
          refl,
          refl,
          (
            (λ policy block. 0),
            has_begun unknowing (λ (bits : List Bool). bits) desk (λ policy block. 0) None tree plan.generation im kept may refl (λ e. absurd (cc)) image_places (as_alone desk.geometry.version desk.tree.entries desk.tree tree plan im is)
                (subst (λ (es : List (Option Entry)). IsMapping desk.geometry.cache_blocks desk.geometry.origin_blocks es) (sym is.same_entries) kept.mapping)
                (planned-sound desk.tree desk.geometry plan.free can) (planned-inside desk.tree desk.geometry plan.free can),
          ),
          (made heap desk.tree desk.geometry plan.free plan.generation can kept.mapping may.next).whole,
        ),
      ),
    )
