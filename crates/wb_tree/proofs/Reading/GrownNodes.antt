-- What the reading of one node adds, by its level.
use Rattle.std.proofs.Common.{◌≡◌, ◌≢◌, ◌≤◌, ◌<◌, ◌+◌, ◌-◌, ◌*◌, ◌/◌, ◌%◌, ◌^◌, ◌∙◌, ◌&&◌, sym, ap, subst, refl, ℕ, zero, suc, Bool, true, false, cond, nat_eq, List, [], ◌∷◌, Option, Some, None, Ok, Err, length, append_assoc, arith, inl, inr, ltb}
use Rattle.std.specs.Prelude.{◌⊎◌, IsSome, slice_index, slice_index_or, if◌then◌else◌, not, is_some}
use Rattle.std.proofs.lemmas.Bool.{cases_lt, false_from_ne_true}
use Rattle.std.proofs.lemmas.Bool.Decides.{nat_tests}
use Rattle.std.proofs.lemmas.List.{length-set, get_or-set_same, get_or-set_other}
use Rattle.std.proofs.Math.Nat.{div-one}
use borrow.Author.Tests.{ltb-true}
use Rattle.wb_types.specs.declared.entry.Entry.{Entry}
use Rattle.wb_types.specs.declared.number.Place.{Place}
use Rattle.wb_format.specs.declared.root.Root.{Root}
use Rattle.wb_format.specs.declared.node.Node.{Node}
use Rattle.wb_format.specs.NodeWords.{entry_word, IsLeafWord}
use Rattle.wb_tree.specs.declared.placed.PlacedNode.{PlacedNode}
use Rattle.wb_tree.specs.Mapping.{Mapping, place_in}
use Rattle.wb_tree.specs.Reading.{Found, Nodes, ◌then◌, each_step, entry_in, entry_read, may_map, is_node_of, is_reached, reached_at}
use Rattle.wb_tree.specs.Images.{word_at, place_word}
use Rattle.wb_tree.proofs.Nodes.Names.{IsBelow, below_up}
use Rattle.wb_tree.proofs.Reading.PlacedLists.{named-itself, unnamed, is_some_of, some_of, place_in-first, place_in-later, place_in-cases, reached-first, unreached-both, some-append_right}
use Rattle.wb_tree.proofs.Reading.RightNodes.{right_node}
use Rattle.wb_tree.proofs.Reading.Grown.{Grown, WasRead, at, tree_with, up_block, below-self, word_same, no_place}
use Rattle.wb_types.proofs.Truth.{and_true, yes}
use Rattle.wb_tree.proofs.Reading.Steps.{then_ok}

-- ---- the entries of a leaf

-- a word that a leaf may have is that of the entry in it
pub word-entry : (word : ℕ) → IsLeafWord word → entry_word (entry_in word) ≡ word
word-entry zero h = refl
word-entry (suc n) h =
    let a = h.present (λ e. absurd cc) in
    let b = h.bits_2_and_3 in
    let c = h.bits_9_to_15 in
    let dirty : cond (nat_eq (suc n / 2 % 2) 1) 1 0 ≡ suc n / 2 % 2 = grind (arith, nat_tests) in
    omega (arith, dirty, a, b, c)

-- so many words of a leaf were read, from one block on
record ReadBlocks (words : ℕ → ℕ) (first count : ℕ) (found next : Found) : Type 0 where
  reached : next.reached ≡ found.reached
  size : length next.entries ≡ length found.entries
  outside : (block : ℕ) → (block < first) ⊎ (first + count ≤ block) → at next block ≡ at found block
  inside : (block : ℕ) → first ≤ block → block < first + count → at found block ≡ None → at next block ≡ entry_in (words block)

read_some : (test : Bool) (here : Place) (made next : Found) → (if test then Ok made else Err here) ≡ Ok next → (test ≡ true) × (made ≡ next)
read_some true here made next e = (refl, (let same : made ≡ next = cc in same))
read_some false here made next e = absurd cc

one_block : (root : Root) (here : Place) (block : ℕ) (o : Option Entry) (found next : Found) → length found.entries ≡ root.geometry.cache_blocks → entry_read root here block o found ≡ Ok next
    → (next.reached ≡ found.reached) × (length next.entries ≡ length found.entries) × ((other : ℕ) → other ≢ block → at next other ≡ at found other) × (at found block ≡ None → at next block ≡ o)
one_block root here block None found next size e =
    let same : found ≡ next = cc in
    (ap (λ (f : Found). f.reached) (sym same), ap (λ (f : Found). length f.entries) (sym same), λ other ne. ap (λ (f : Found). at f other) (sym same), λ none. ap (λ (f : Found). at f block) (sym same) ∙ none)
one_block root here block (Some entry) found next size e =
    let both = read_some (may_map root found.mapped block entry) here _ next e in
    let same = both.1 in
    let a = and_true (ltb block root.geometry.cache_blocks && ltb entry.origin.0 root.geometry.origin_blocks) (not (slice_index_or found.mapped entry.origin.0 false)) both.0 in
    let b = and_true (ltb block root.geometry.cache_blocks) (ltb entry.origin.0 root.geometry.origin_blocks) a.0 in
    let inside : block < length found.entries = let l = ltb-true _ _ b.0 in omega (arith, size) in (
      ap (λ (f : Found). f.reached) (sym same),
      ap (λ (f : Found). length f.entries) (sym same) ∙ length-set found.entries block (Some entry),
      λ other ne. ap (λ (f : Found). at f other) (sym same) ∙ get_or-set_other found.entries block other (Some entry) None (λ e. ne e),
      λ none. ap (λ (f : Found). at f block) (sym same) ∙ get_or-set_same found.entries block (Some entry) None inside,
    )

read_blocks : (root : Root) (here : Place) (base : ℕ) (words : List ℕ) (count first : ℕ) (found next : Found) → length found.entries ≡ root.geometry.cache_blocks
    → each_step (λ j. entry_read root here (base + j) (entry_in (slice_index words j))) count first found ≡ Ok next → ReadBlocks (λ block. slice_index words (block - base)) (base + first) count found next
unfolding each_step
read_blocks root here base words zero first found next size e =
    let same : found ≡ next = cc in
    record {
      reached = ap (λ (f : Found). f.reached) (sym same);
      size = ap (λ (f : Found). length f.entries) (sym same);
      outside = λ block o. ap (λ (f : Found). at f block) (sym same);
      inside = λ block from to none. absurd (omega arith);
    }
read_blocks root here base words (suc count) first found next size e =
    let w = then_ok (entry_read root here (base + first) (entry_in (slice_index words first)) found) (each_step (λ j. entry_read root here (base + j) (entry_in (slice_index words j))) count (suc first)) next e in
    let one = one_block root here (base + first) (entry_in (slice_index words first)) found w.0 size w.1 in
    let rest = read_blocks root here base words count (suc first) w.0 next (one.1 ∙ size) w.2 in
    record {
      reached = rest.reached ∙ one.0;
      size = rest.size ∙ one.1;
      outside = λ block o. elim o [
        | inl less ↦ rest.outside block (inl (omega arith)) ∙ one.2 block (omega arith)
        | inr more ↦ rest.outside block (inr (omega arith)) ∙ one.2 block (omega arith)
      ];
      inside = λ block from to none. elim (cases_lt (base + first) block) [
        | inl later ↦ rest.inside block (omega arith) (omega arith) (one.2 block (omega arith) ∙ none)
        | inr here ↦
            let same : block ≡ base + first = omega arith in
            let word : block - base ≡ first = omega arith in
            let was : at found (base + first) ≡ None = ap (at found) (sym same) ∙ none in
            rest.outside block (inl (omega arith)) ∙ (ap (at w.0) same ∙ (one.3 was ∙ ap (λ k. entry_in (slice_index words k)) (sym word)))
      ];
    }

-- ---- a node, and what was read below it

-- what a node may be read from: its place was not reached and is one of the device, and there is no entry below it
pub record MayRead (root : Root) (level first end : ℕ) (found : Found) : Type 0 where
  pub size : length found.entries ≡ root.geometry.cache_blocks
  pub empty : (block : ℕ) → first ≤ block / 32 ^ level → block / 32 ^ level < end → at found block ≡ None

pub record IsNewPlace (root : Root) (found : Found) (here : Place) : Type 0 where
  pub unread : is_reached here.0 found.reached ≡ false
  pub behind : 2 ≤ here.0
  pub within : here.0 < root.geometry.meta_sectors

read_at : (root : Root) (nodes : Nodes) (m : Mapping) (l i l' i' : ℕ) (p p' : Place) → l ≡ l' → i ≡ i' → p ≡ p' → WasRead root nodes m l i p → WasRead root nodes m l' i' p'
read_at root nodes m l i l' i' p p' a b c w =
    subst (λ x. WasRead root nodes m l' i' x) c (subst (λ x. WasRead root nodes m l' x p) b (subst (λ x. WasRead root nodes m x i p) a w))

below_at : (level first end l i l' i' : ℕ) → l ≡ l' → i ≡ i' → IsBelow level first end (record { level = l; index = i }) → IsBelow level first end (record { level = l'; index = i' })
below_at level first end l i l' i' a b h =
    subst (λ x. IsBelow level first end (record { level = l'; index = x })) b (subst (λ x. IsBelow level first end (record { level = x; index = i })) a h)

itself_below : (level index : ℕ) → 1 ≤ level → IsBelow level index (index + 1) (record { level = level; index = index })
itself_below level index some =
    let here : index / 32 ^ (level - level) ≡ index = let none : level - level ≡ 0 = omega arith in ap (λ k. index / 32 ^ k) none ∙ div-one index in
    record { from = some; to = omega arith; at_least = omega (arith, here); before = omega (arith, here) }

-- the word of a child
inner_word : (m : Mapping) (level index j : ℕ) {word : ℕ} → 1 ≤ level → word ≡ place_word (place_in m.known level (32 * index + j)) → word ≡ word_at m (suc level) index j
inner_word m zero index j some e = absurd (omega arith)
inner_word m (suc level) index j some e = e

-- the place of a node is found behind that of another
behind_other : (level index : ℕ) (here : Place) (sub : List PlacedNode) (l i : ℕ) → l < level → place_in sub l i ≡ place_in (record { level = level; index = index; place = here } ∷ sub) l i
behind_other level index here sub l i less =
    let node : PlacedNode = record { level = level; index = index; place = here } in
    sym (place_in-later node sub l i (unnamed node l i (λ same also. omega (arith, same))))

at_first : (level index : ℕ) (here : Place) (sub : List PlacedNode) (i : ℕ) → i ≡ index → place_in (record { level = level; index = index; place = here } ∷ sub) level i ≡ Some here
at_first level index here sub i e =
    let node : PlacedNode = record { level = level; index = index; place = here } in
    ap (λ k. place_in (node ∷ sub) level k) e ∙ place_in-first node sub level index (named-itself node)

still_some : (node : PlacedNode) (sub : List PlacedNode) (l i : ℕ) → IsSome (place_in sub l i) → IsSome (place_in (node ∷ sub) l i)
still_some node sub l i h = some-append_right (node ∷ []) sub l i h

-- a leaf
pub grown_leaf : (root : Root) (nodes : Nodes) (index : ℕ) (here : Place) (node : Node) (found next : Found) → MayRead root 1 index (index + 1) found → IsNewPlace root found here → nodes here.0 ≡ Some node
    → is_node_of root 1 index node ≡ true → each_step (λ j. entry_read root here (32 * index + j) (entry_in (slice_index node.words j))) 32 0 (reached_at 1 index here found) ≡ Ok next
    → Grown root nodes 1 index (index + 1) (λ i. here.0) found next
grown_leaf root nodes index here node found next may new reads right e =
    let self : PlacedNode = record { level = 1; index = index; place = here } in
    let blocks = read_blocks root here (32 * index) node.words 32 0 (reached_at 1 index here found) next may.size e in
    let one : 32 ^ 1 ≡ 32 = refl in
    let up = λ (block : ℕ). ap (λ p. block / p) one in
    let was : WasRead root nodes (tree_with next (self ∷ [])) 1 index here = record {
      node = node;
      reads = reads;
      right = right;
      words = λ j lt.
          let block = 32 * index + j in
          let u = up (32 * index + j) in
          let same : 32 * index + j - 32 * index ≡ j = omega arith in
          let was : at found (32 * index + j) ≡ None = may.empty (32 * index + j) (omega (arith, u)) (omega (arith, u)) in
          let word = let is = right_node root 1 index node right in (node.spelled j).leaf is.mapping is.level_is in
          sym (ap entry_word (blocks.inside (32 * index + j) (omega arith) (omega arith) was) ∙ (ap (λ k. entry_word (entry_in (slice_index node.words k))) same ∙ word-entry (slice_index node.words j) word));
    } in
    record {
      sub = self ∷ [];
      reached = blocks.reached;
      size = blocks.size;
      outside = λ block o. let u = up block in elim o [
        | inl less ↦ blocks.outside block (inl (omega (arith, u)))
        | inr more ↦ blocks.outside block (inr (omega (arith, u)))
      ];
      below = λ l i place h. elim (place_in-cases self [] l i place h) [
        | inl first ↦ below_at 1 index (index + 1) 1 index l i first.0 first.1 (itself_below 1 index (omega arith))
        | inr none ↦ absurd cc
      ];
      once = (refl, tt);
      apart = (refl, tt);
      fresh = λ place r. elim (reached-first self [] place r) [
        | inl same ↦ ap (λ p. is_reached p found.reached) (sym same) ∙ new.unread
        | inr none ↦ absurd cc
      ];
      inside = λ l i place h. elim (place_in-cases self [] l i place h) [
        | inl first ↦ (subst (λ (p : Place). 2 ≤ p.0) first.2 new.behind, subst (λ (p : Place). p.0 < root.geometry.meta_sectors) first.2 new.within)
        | inr none ↦ absurd cc
      ];
      covered = λ block some. let u = up block in elim (cases_lt (block / 32) index) [
        | inl less ↦ inl (ap (λ (o : Option Entry). is_some o) (sym (blocks.outside block (inl (omega arith)))) ∙ some)
        | inr from ↦ elim (cases_lt index (block / 32)) [
          | inl more ↦ inl (ap (λ (o : Option Entry). is_some o) (sym (blocks.outside block (inr (omega arith)))) ∙ some)
          | inr to ↦ inr (λ l low high.
              let is : 1 ≡ l = omega arith in
              let there : block / 32 ^ 1 ≡ index = omega (arith, u) in
              subst (λ k. IsSome (place_in (self ∷ []) k (block / 32 ^ k))) is (is_some_of _ here (at_first 1 index here [] (block / 32 ^ 1) there)))
        ]
      ];
      right = λ l i place h. elim (place_in-cases self [] l i place h) [
        | inl first ↦ read_at root nodes (tree_with next (self ∷ [])) 1 index l i here place first.0 first.1 first.2 was
        | inr none ↦ absurd cc
      ];
      tops_are = λ i from to. ap place_word (at_first 1 index here [] i (omega arith));
    }

-- a node above the leaves
pub grown_inner : (root : Root) (nodes : Nodes) (level index : ℕ) (here : Place) (node : Node) (found next : Found) → 1 ≤ level → IsNewPlace root found here → nodes here.0 ≡ Some node
    → is_node_of root (suc level) index node ≡ true → Grown root nodes level (32 * index) (32 * index + 32) (λ i. slice_index node.words (i - 32 * index)) (reached_at (suc level) index here found) next
    → Grown root nodes (suc level) index (index + 1) (λ i. here.0) found next
grown_inner root nodes level index here node found next some new reads right kids =
    let self : PlacedNode = record { level = suc level; index = index; place = here } in
    let unreached = λ (place : ℕ) (r : is_reached place kids.sub ≡ true). unreached-both place found.reached (self ∷ []) (kids.fresh place r) in
    let was : WasRead root nodes (tree_with next (self ∷ kids.sub)) (suc level) index here = record {
      node = node;
      reads = reads;
      right = right;
      words = λ j lt.
          let k : level ≡ suc (level - 1) = omega arith in
          let same : 32 * index + j - 32 * index ≡ j = omega arith in
          let top : slice_index node.words j ≡ place_word (place_in (self ∷ kids.sub) level (32 * index + j)) =
          sym (ap place_word (sym (behind_other (suc level) index here kids.sub level (32 * index + j) (omega arith))) ∙ (kids.tops_are (32 * index + j) (omega arith) (omega arith) ∙ ap (λ i. slice_index node.words i) same)) in
          inner_word (tree_with next (self ∷ kids.sub)) level index j some top;
    } in
    record {
      sub = self ∷ kids.sub;
      reached = kids.reached ∙ append_assoc found.reached (self ∷ []) kids.sub;
      size = kids.size;
      outside = λ block o. let u = up_block block level in elim o [
        | inl less ↦ kids.outside block (inl (omega (arith, u)))
        | inr more ↦ kids.outside block (inr (omega (arith, u)))
      ];
      below = λ l i place h. elim (place_in-cases self kids.sub l i place h) [
        | inl first ↦ below_at (suc level) index (index + 1) (suc level) index l i first.0 first.1 (itself_below (suc level) index (omega arith))
        | inr later ↦ below_up level index (record { level = l; index = i }) (kids.below l i place later)
      ];
      once = (no_place (place_in kids.sub (suc level) index) (λ place h. let b = (kids.below (suc level) index place h).to in absurd (omega arith)), kids.once);
      apart = (
        false_from_ne_true _ (λ r.
            let e = (unreached here.0 r).1 in
            let first : is_reached here.0 (self ∷ []) ≡ true = rw (yes here.0) refl in
            let both : true ≡ false = sym first ∙ e in
            cc),
        kids.apart,
      );
      fresh = λ place r. elim (reached-first self kids.sub place r) [
        | inl same ↦ ap (λ p. is_reached p found.reached) (sym same) ∙ new.unread
        | inr later ↦ (unreached place later).0
      ];
      inside = λ l i place h. elim (place_in-cases self kids.sub l i place h) [
        | inl first ↦ (subst (λ (p : Place). 2 ≤ p.0) first.2 new.behind, subst (λ (p : Place). p.0 < root.geometry.meta_sectors) first.2 new.within)
        | inr later ↦ kids.inside l i place later
      ];
      covered = λ block s. elim (kids.covered block s) [
        | inl old ↦ inl old
        | inr covers ↦ inr (λ l from to. elim (cases_lt l (suc level)) [
          | inl less ↦ still_some self kids.sub l (block / 32 ^ l) (covers l from (omega arith))
          | inr top ↦
              let is : suc level ≡ l = omega arith in
              let child = some_of _ (covers level some (omega arith)) in
              let range = below-self level (32 * index) (32 * index + 32) (block / 32 ^ level) (kids.below level (block / 32 ^ level) child.0 child.1) in
              let low = range.0 in
              let high = range.1 in
              let u = up_block block level in
              let there : block / 32 ^ suc level ≡ index = omega (arith, u) in
              subst (λ k. IsSome (place_in (self ∷ kids.sub) k (block / 32 ^ k))) is (is_some_of _ here (at_first (suc level) index here kids.sub (block / 32 ^ suc level) there))
        ])
      ];
      right = λ l i place h. elim (place_in-cases self kids.sub l i place h) [
        | inl first ↦ read_at root nodes (tree_with next (self ∷ kids.sub)) (suc level) index l i here place first.0 first.1 first.2 was
        | inr later ↦
            let w = kids.right l i place later in
            let to = (kids.below l i place later).to in
            record {
              node = w.node;
              reads = w.reads;
              right = w.right;
              words = λ j lt. w.words j lt ∙ word_same (tree_with next kids.sub) (tree_with next (self ∷ kids.sub)) l i j (λ one. refl)
                  (λ k inner. behind_other (suc level) index here kids.sub (suc k) (32 * i + j) (omega arith));
            }
      ];
      tops_are = λ i from to. ap place_word (at_first (suc level) index here kids.sub i (omega arith));
    }
