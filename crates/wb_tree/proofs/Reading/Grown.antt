-- What the reading of some nodes adds to what was found: the nodes that are reached, and the entries below them.
use Rattle.std.proofs.Common.{◌≡◌, ◌≤◌, ◌<◌, ◌+◌, ◌-◌, ◌*◌, ◌/◌, ◌^◌, ◌∙◌, sym, ap, refl, ℕ, zero, suc, true, false, List, [], ◌++◌, Option, Some, None, length, append_assoc, arith, inl, inr}
use Rattle.std.specs.Prelude.{◌⊎◌, IsSome, slice_index, slice_index_or}
use Rattle.std.proofs.lemmas.Bool.{cases_lt}
use Rattle.std.proofs.lemmas.List.{append-nil}
use Rattle.std.proofs.Math.Nat.{div-div-eq-div-mul, div-one, pow-suc, mul_comm}
use Rattle.wb_types.specs.declared.entry.Entry.{Entry}
use Rattle.wb_types.specs.declared.number.Place.{Place}
use Rattle.wb_format.specs.declared.root.Root.{Root}
use Rattle.wb_format.specs.declared.node.Node.{Node}
use Rattle.wb_format.specs.NodeWords.{entry_word}
use Rattle.wb_tree.specs.declared.placed.PlacedNode.{PlacedNode}
use Rattle.wb_tree.specs.Mapping.{Mapping, place_in, place_of, entry_at}
use Rattle.wb_tree.specs.Fields.{AreApart}
use Rattle.wb_tree.specs.Reading.{Found, Nodes, is_node_of, is_reached}
use Rattle.wb_tree.specs.Images.{word_at, place_word}
use Rattle.wb_tree.proofs.Nodes.Names.{IsBelow}
use Rattle.wb_tree.proofs.Reading.PlacedLists.{PlacesApart, option_cases, place_in-append_none, place_in-append_some, place_in-append_cases, some-append_left, some-append_right, reached-cases, unreached-both, apart-append, names-append}

-- the entry of a block
abbrev pub at : Found → ℕ → Option Entry
at found block = slice_index_or found.entries block None

-- the entries that were found, with these nodes known
abbrev pub tree_with : Found → List PlacedNode → Mapping
tree_with found known = record { entries = found.entries; known = known }

-- a node was read at its place, with the words that the tree has there
pub record WasRead (root : Root) (nodes : Nodes) (m : Mapping) (level index : ℕ) (place : Place) : Type 0 where
  pub node : Node
  pub reads : nodes place.0 ≡ Some node
  pub right : is_node_of root level index node ≡ true
  pub words : (j : ℕ) → j < 32 → slice_index node.words j ≡ word_at m level index j

-- the nodes above a block, up to some level, are among these
abbrev pub Covers : List PlacedNode → ℕ → ℕ → Type 0
Covers sub level block = (l : ℕ) → 1 ≤ l → l ≤ level → IsSome (place_in sub l (block / 32 ^ l))

-- The nodes of a level from one on, before another, were read with all below them: the nodes that were reached are
-- below these, none of them was reached before, and no entry outside of them changed.
pub record Grown (root : Root) (nodes : Nodes) (level first end : ℕ) (tops : ℕ → ℕ) (found next : Found) : Type 0 where
  pub sub : List PlacedNode
  pub reached : next.reached ≡ found.reached ++ sub
  pub size : length next.entries ≡ length found.entries
  pub outside : (block : ℕ) → (block / 32 ^ level < first) ⊎ (end ≤ block / 32 ^ level) → at next block ≡ at found block
  pub below : (l i : ℕ) (place : Place) → place_in sub l i ≡ Some place → IsBelow level first end (record { level = l; index = i })
  pub once : AreApart sub
  pub apart : PlacesApart sub
  pub fresh : (place : ℕ) → is_reached place sub ≡ true → is_reached place found.reached ≡ false
  pub inside : (l i : ℕ) (place : Place) → place_in sub l i ≡ Some place → (2 ≤ place.0) × (place.0 < root.geometry.meta_sectors)
  pub covered : (block : ℕ) → IsSome (at next block) → IsSome (at found block) ⊎ Covers sub level block
  pub right : (l i : ℕ) (place : Place) → place_in sub l i ≡ Some place → WasRead root nodes (tree_with next sub) l i place
  pub tops_are : (i : ℕ) → first ≤ i → i < end → place_word (place_in sub level i) ≡ tops i

-- ---- indices

-- a child's node above it is its parent's
pub up_one : (i j n : ℕ) → j < 32 → (32 * i + j) / 32 ^ suc n ≡ i / 32 ^ n
up_one i j n h =
    let parent : (32 * i + j) / 32 ≡ i = omega arith in
    ap (λ p. (32 * i + j) / p) (pow-suc 32 n ∙ mul_comm (32 ^ n) 32) ∙ (sym (div-div-eq-div-mul (32 * i + j) 32 (32 ^ n)) ∙ ap (λ x. x / 32 ^ n) parent)

pub up_block : (block level : ℕ) → block / 32 ^ suc level ≡ block / 32 ^ level / 32
up_block block level = ap (λ p. block / p) (pow-suc 32 level) ∙ sym (div-div-eq-div-mul block (32 ^ level) 32)

self_index : (level i : ℕ) → i / 32 ^ (level - level) ≡ i
self_index level i = let none : level - level ≡ 0 = omega arith in ap (λ k. i / 32 ^ k) none ∙ div-one i

pub below-self : (level first end i : ℕ) → IsBelow level first end (record { level = level; index = i }) → (first ≤ i) × (i < end)
below-self level first end i h =
    let a = h.at_least in
    let b = h.before in
    let e = self_index level i in
    (omega (arith, e), omega (arith, e))

wider : (level a b c d l i : ℕ) → c ≤ a → b ≤ d → IsBelow level a b (record { level = l; index = i }) → IsBelow level c d (record { level = l; index = i })
wider level a b c d l i low high h = let x = h.at_least in let y = h.before in record { from = h.from; to = h.to; at_least = omega arith; before = omega arith }

-- the index above a child is the one above its parent
above_child : (level l k i j : ℕ) → l ≡ suc (suc k) → l ≤ level → j < 32 → (32 * i + j) / 32 ^ (level - suc k) ≡ i / 32 ^ (level - l)
above_child level l k i j e to h =
    let more : level - suc k ≡ suc (level - l) = omega arith in
    ap (λ n. (32 * i + j) / 32 ^ n) more ∙ up_one i j (level - l) h

above_block : (level l i j : ℕ) → l ≡ 1 → l ≤ level → j < 32 → (32 * i + j) / 32 ^ level ≡ i / 32 ^ (level - l)
above_block level l i j e to h =
    let more : level ≡ suc (level - l) = omega arith in
    ap (λ n. (32 * i + j) / 32 ^ n) more ∙ up_one i j (level - l) h

-- ---- words

pub word_same : (m n : Mapping) (level index j : ℕ) → (level ≡ 1 → entry_at m (32 * index + j) ≡ entry_at n (32 * index + j))
    → ((k : ℕ) → level ≡ suc (suc k) → place_of m (suc k) (32 * index + j) ≡ place_of n (suc k) (32 * index + j)) → word_at m level index j ≡ word_at n level index j
word_same m n zero index j leaf inner = refl
word_same m n (suc zero) index j leaf inner = ap entry_word (leaf refl)
word_same m n (suc (suc k)) index j leaf inner = ap place_word (inner k refl)

-- ---- one part after the other

pub no_place : (o : Option Place) → ((place : Place) → o ≡ Some place → ⊥) → o ≡ None
no_place None h = refl
no_place (Some place) h = absurd (h place refl)

-- what is in the first part is not in the second, and the other way round
part_of_first : (sub : List PlacedNode) (level first end l i n : ℕ) → ((l i : ℕ) (place : Place) → place_in sub l i ≡ Some place → IsBelow level first end (record { level = l; index = i }))
    → i / 32 ^ (level - l) ≡ n → n < first → place_in sub l i ≡ None
part_of_first sub level first end l i n below e less = no_place _ (λ place h. let b = (below l i place h).at_least in absurd (omega (arith, e)))

part_of_last : (sub : List PlacedNode) (level first end l i n : ℕ) → ((l i : ℕ) (place : Place) → place_in sub l i ≡ Some place → IsBelow level first end (record { level = l; index = i }))
    → i / 32 ^ (level - l) ≡ n → end ≤ n → place_in sub l i ≡ None
part_of_last sub level first end l i n below e more = no_place _ (λ place h. let b = (below l i place h).before in absurd (omega (arith, e)))

-- a place of the first part, where the second has none
same_first : (xs ys : List PlacedNode) (l i : ℕ) → place_in ys l i ≡ None → place_in xs l i ≡ place_in (xs ++ ys) l i
same_first xs ys l i none = elim (option_cases (place_in xs l i)) [
  | inl some ↦ some.1 ∙ sym (place_in-append_some xs ys l i some.0 some.1)
  | inr nothing ↦ nothing ∙ sym (place_in-append_none xs ys l i nothing ∙ none)
]

read_first : (root : Root) (nodes : Nodes) (level a b c : ℕ) (tops : ℕ → ℕ) (f g h : Found) → (x : Grown root nodes level a b tops f g) → (y : Grown root nodes level b c tops g h)
    → (l i : ℕ) (place : Place) → place_in x.sub l i ≡ Some place → WasRead root nodes (tree_with h (x.sub ++ y.sub)) l i place
read_first root nodes level a b c tops f g h x y l i place e =
    let w = x.right l i place e in
    let under = x.below l i place e in
    let before = under.before in
    let to = under.to in
    record {
      node = w.node;
      reads = w.reads;
      right = w.right;
      words = λ j lt. w.words j lt ∙ word_same (tree_with g x.sub) (tree_with h (x.sub ++ y.sub)) l i j
          (λ one. sym (y.outside (32 * i + j) (inl (omega (arith, above_block level l i j one to lt)))))
          (λ k inner. same_first x.sub y.sub (suc k) (32 * i + j) (part_of_first y.sub level b c (suc k) (32 * i + j) (i / 32 ^ (level - l)) y.below (above_child level l k i j inner to lt) before));
    }

read_last : (root : Root) (nodes : Nodes) (level a b c : ℕ) (tops : ℕ → ℕ) (f g h : Found) → (x : Grown root nodes level a b tops f g) → (y : Grown root nodes level b c tops g h)
    → (l i : ℕ) (place : Place) → place_in y.sub l i ≡ Some place → WasRead root nodes (tree_with h (x.sub ++ y.sub)) l i place
read_last root nodes level a b c tops f g h x y l i place e =
    let w = y.right l i place e in
    let under = y.below l i place e in
    let from = under.at_least in
    let to = under.to in
    record {
      node = w.node;
      reads = w.reads;
      right = w.right;
      words = λ j lt. w.words j lt ∙ word_same (tree_with h y.sub) (tree_with h (x.sub ++ y.sub)) l i j
          (λ one. refl)
          (λ k inner. sym (place_in-append_none x.sub y.sub (suc k) (32 * i + j) (part_of_last x.sub level a b (suc k) (32 * i + j) (i / 32 ^ (level - l)) x.below (above_child level l k i j inner to lt) from)));
    }

pub grown_then : (root : Root) (nodes : Nodes) (level a b c : ℕ) (tops : ℕ → ℕ) (f g h : Found) → a ≤ b → b ≤ c → Grown root nodes level a b tops f g → Grown root nodes level b c tops g h → Grown root nodes level a c tops f h
grown_then root nodes level a b c tops f g h low high x y =
    let unreached = λ (place : ℕ) (r : is_reached place y.sub ≡ true). unreached-both place f.reached x.sub (ap (λ (reached : List PlacedNode). is_reached place reached) (sym x.reached) ∙ y.fresh place r) in
    record {
      sub = x.sub ++ y.sub;
      reached = y.reached ∙ (ap (λ (reached : List PlacedNode). reached ++ y.sub) x.reached ∙ append_assoc f.reached x.sub y.sub);
      size = y.size ∙ x.size;
      outside = λ block o. elim o [
        | inl less ↦ y.outside block (inl (omega arith)) ∙ x.outside block (inl less)
        | inr more ↦ y.outside block (inr more) ∙ x.outside block (inr (omega arith))
      ];
      below = λ l i place e. elim (place_in-append_cases x.sub y.sub l i place e) [
        | inl first ↦ wider level a b a c l i (omega arith) high (x.below l i place first)
        | inr last ↦ wider level b c a c l i low (omega arith) (y.below l i place last.1)
      ];
      once = names-append x.sub y.sub x.once y.once (λ l i place e. part_of_first y.sub level b c l i (i / 32 ^ (level - l)) y.below refl (x.below l i place e).before);
      apart = apart-append x.sub y.sub x.apart y.apart (λ place r. (unreached place r).1);
      fresh = λ place r. elim (reached-cases place x.sub y.sub r) [
        | inl first ↦ x.fresh place first
        | inr last ↦ (unreached place last).0
      ];
      inside = λ l i place e. elim (place_in-append_cases x.sub y.sub l i place e) [
        | inl first ↦ x.inside l i place first
        | inr last ↦ y.inside l i place last.1
      ];
      covered = λ block some. elim (y.covered block some) [
        | inl before ↦ elim (x.covered block before) [
          | inl old ↦ inl old
          | inr covers ↦ inr (λ l from to. some-append_left x.sub y.sub l (block / 32 ^ l) (covers l from to))
        ]
        | inr covers ↦ inr (λ l from to. some-append_right x.sub y.sub l (block / 32 ^ l) (covers l from to))
      ];
      right = λ l i place e. elim (place_in-append_cases x.sub y.sub l i place e) [
        | inl first ↦ read_first root nodes level a b c tops f g h x y l i place first
        | inr last ↦ read_last root nodes level a b c tops f g h x y l i place last.1
      ];
      tops_are = λ i from to. elim (cases_lt i b) [
        | inl first ↦ ap place_word (sym (same_first x.sub y.sub level i (part_of_first y.sub level b c level i i y.below (self_index level i) first))) ∙ x.tops_are i from first
        | inr last ↦ ap place_word (place_in-append_none x.sub y.sub level i (part_of_last x.sub level a b level i i x.below (self_index level i) last)) ∙ y.tops_are i last to
      ];
    }

-- nothing was read
pub grown_none : (root : Root) (nodes : Nodes) (level first end : ℕ) (tops : ℕ → ℕ) (found : Found) → ((i : ℕ) → first ≤ i → i < end → 0 ≡ tops i) → Grown root nodes level first end tops found found
grown_none root nodes level first end tops found none = record {
  sub = [];
  reached = sym (append-nil found.reached);
  size = refl;
  outside = λ block o. refl;
  below = λ l i place e. absurd cc;
  once = tt;
  apart = tt;
  fresh = λ place r. absurd cc;
  inside = λ l i place e. absurd cc;
  covered = λ block some. inl some;
  right = λ l i place e. absurd cc;
  tops_are = λ i from to. none i from to;
}

-- the same top nodes, said in other words
pub grown_tops : (root : Root) (nodes : Nodes) (level first end : ℕ) (tops others : ℕ → ℕ) (found next : Found) → ((i : ℕ) → first ≤ i → i < end → tops i ≡ others i) → Grown root nodes level first end tops found next
    → Grown root nodes level first end others found next
grown_tops root nodes level first end tops others found next same g = record {
  sub = g.sub;
  reached = g.reached;
  size = g.size;
  outside = g.outside;
  below = g.below;
  once = g.once;
  apart = g.apart;
  fresh = g.fresh;
  inside = g.inside;
  covered = g.covered;
  right = g.right;
  tops_are = λ i from to. g.tops_are i from to ∙ same i from to;
}
