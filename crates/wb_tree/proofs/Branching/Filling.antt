-- Boxes that are made of all entries at once.
use Rattle.std.proofs.Common.{◌≡◌, ◌≤◌, ◌<◌, ◌+◌, ◌-◌, ◌*◌, ◌/◌, ◌%◌, ◌^◌, ◌∙◌, sym, ap, subst, refl, ℕ, zero, suc, true, false, Option, Some, None, Box, List, [], ◌∷◌, ◌++◌, length, replicate, take, drop, get_or, set, arith, inl, inr}
use Rattle.std.specs.Prelude.{is_some}
use Rattle.std.specs.List.{list_any, flat_map}
use Rattle.std.proofs.lemmas.Bool.{cases_eq, cases_lt}
use Rattle.std.proofs.lemmas.List.{get_or-take, get_or-drop, get_or-set_same, get_or-set_other, length-set, length-take, length-replicate}
use Rattle.std.proofs.Math.Nat.{pow-succ'}
use Rattle.std.proofs.Math.Seq.{take-append_seam, drop-append_seam}
use Rattle.wb_types.specs.Limits.{depth_of}
use Rattle.wb_types.specs.declared.entry.Entry.{Entry}
use Rattle.wb_tree.specs.Mapping.{IsSound, exists}
use Rattle.wb_tree.specs.Fields.{AreApart}
use Rattle.wb_tree.specs.Branches.{AreBoxes, Branch, IsBranch, IsNode, IsSlot, boxes_of, branch_of, entries_below, entries_in, known_below, known_in}
use Rattle.wb_tree.specs.Filling.{IsFilled}
use Rattle.wb_tree.proofs.Branching.Branches.{inner_is, leaf_is, split, same_branch}
use Rattle.wb_tree.proofs.Branching.Edits.{unknown-sound}
use Rattle.wb_tree.proofs.Branching.Slots.{AreSlots, all_none, get_below, length_below, length_in}
use Rattle.wb_types.proofs.Lists.{replicate_at}

-- ---- whether an entry lies below a node

some_at : (xs : List (Option Entry)) (i : ℕ) → list_any is_some xs ≡ false → get_or xs i None ≡ None
some_at xs i none = ap (λ ys. get_or ys i None) (all_none xs none) ∙ replicate_at (length xs) i None

part_at : (entries : List (Option Entry)) (first size offset : ℕ) → offset < size → get_or (take size (drop first entries)) offset None ≡ get_or entries (first + offset) None
part_at entries first size offset less = get_or-take size (drop first entries) offset None less ∙ get_or-drop first entries offset None

-- no box is missing
pub filled_none : {A : Type 0} (entries : List (Option Entry)) (level index : ℕ) → exists entries level index ≡ false → IsFilled {A = A} entries level index None
unfolding exists
filled_none entries level index none = record {
  slot = tt;
  same = λ offset less.
      replicate_at (32 ^ level) offset None
      ∙ (sym (some_at (take (32 ^ level) (drop (index * 32 ^ level) entries)) offset none) ∙ part_at entries (index * 32 ^ level) (32 ^ level) offset less);
  unknown = refl;
}

-- where all entries of a part are others, one of those is an entry too
any_of : (xs ys : List (Option Entry)) → length xs ≤ length ys → ((i : ℕ) → i < length xs → get_or ys i None ≡ get_or xs i None) → list_any is_some xs ≡ true → list_any is_some ys ≡ true
any_of [] ys long same some = absurd cc
any_of (x ∷ xs) [] long same some = absurd (omega arith)
any_of (Some x ∷ xs) (Some y ∷ ys) long same some = refl
any_of (None ∷ xs) (Some y ∷ ys) long same some = refl
any_of (Some x ∷ xs) (None ∷ ys) long same some = absurd (let e : ◌≡◌ {A = Option Entry} None (Some x) = same 0 (omega arith) in cc)
any_of (None ∷ xs) (None ∷ ys) long same some = any_of xs ys (omega arith) (λ i less. same (suc i) (omega arith)) some

some_below : (entries es : List (Option Entry)) (level index : ℕ) → length es ≡ 32 ^ level → ((offset : ℕ) → offset < 32 ^ level → get_or es offset None ≡ get_or entries (index * 32 ^ level + offset) None)
    → exists entries level index ≡ true → list_any is_some es ≡ true
unfolding exists
some_below entries es level index long same some =
    let part = take (32 ^ level) (drop (index * 32 ^ level) entries) in
    let short = length-take (32 ^ level) (drop (index * 32 ^ level) entries) in
    any_of part es (omega (arith, short, long))
    (λ i less. let inside : i < 32 ^ level = omega (arith, short) in same i inside ∙ sym (part_at entries (index * 32 ^ level) (32 ^ level) i inside)) some

-- ---- a node

filled_some : {A : Type 0} (entries es : List (Option Entry)) (level index : ℕ) (node : Box Branch A) → node.value ≡ record { level = level; index = index; entries = es; known = [] } → 1 ≤ level → level ≤ 4 → (index + 1) * 32 ^ level ≤ 1048576
    → length es ≡ 32 ^ level → ((offset : ℕ) → offset < 32 ^ level → get_or es offset None ≡ get_or entries (index * 32 ^ level + offset) None) → exists entries level index ≡ true → IsFilled entries level index (Some node)
filled_some entries es level index node is from to fits long same some =
    let made : Branch = record { level = level; index = index; entries = es; known = [] } in
    let branch : IsBranch made = record { level_from = from; level_to = to; index_to = fits; size = long; under = tt } in
    record {
      slot = record {
        level_is = ap (λ (b : Branch). b.level) is;
        index_is = ap (λ (b : Branch). b.index) is;
        branch = subst IsBranch (sym is) branch;
        some = ap (λ (b : Branch). list_any is_some b.entries) is ∙ some_below entries es level index long same some;
      };
      same = λ offset less. ap (λ (b : Branch). get_or b.entries offset None) is ∙ same offset less;
      unknown = ap (λ (b : Branch). b.known) is;
    }

pub filled_leaf : {A : Type 0} (entries words : List (Option Entry)) (level index : ℕ) (kids : List (Option (Box Branch A))) (node : Box Branch A) → node.value ≡ branch_of level index None words kids → level ≡ 1 → (index + 1) * 32 ^ level ≤ 1048576 → kids ≡ []
    → length words ≡ 32 → ((j : ℕ) → j < 32 → get_or words j None ≡ get_or entries (32 * index + j) None) → exists entries level index ≡ true → IsFilled entries level index (Some node)
unfolding known_below
filled_leaf {A} entries words level index kids node is one fits none long same some =
    let width : 32 ^ level ≡ 32 = ap (λ n. 32 ^ n) one in
    filled_some entries words level index node
    (is ∙ same_branch level index _ _ _ _ (leaf_is level index None words kids one) (ap (λ (ks : List (Option (Box Branch A))). flat_map known_in ks) none))
    (omega arith) (omega arith) fits (long ∙ sym width)
    (λ offset less. let at : 32 * index + offset ≡ index * 32 ^ level + offset = omega (arith, ap (λ n. index * n) width) in same offset (omega (arith, width)) ∙ ap (λ n. get_or entries n None) at) some

-- the words of a leaf, as far as the first so many were copied
pub record AreCopied (entries : List (Option Entry)) (first count : ℕ) (words : List (Option Entry)) : Type 0 where
  pub size : length words ≡ 32
  pub each : (j : ℕ) → j < count → get_or words j None ≡ get_or entries (first + j) None
  pub rest : (j : ℕ) → count ≤ j → get_or words j None ≡ None

pub none_copied : (entries : List (Option Entry)) (first n : ℕ) (words : List (Option Entry)) → n ≡ 32 → words ≡ replicate n None → AreCopied entries first 0 words
none_copied entries first n words many none = record {
  size = ap length none ∙ (length-replicate n None ∙ many);
  each = λ j less. absurd (omega arith);
  rest = λ j _. ap (λ ws. get_or ws j None) none ∙ replicate_at n j None;
}

pub one_copied : (entries : List (Option Entry)) (first count : ℕ) (words : List (Option Entry)) (entry : Option Entry) → count < 32 → AreCopied entries first count words → entry ≡ get_or entries (first + count) None
    → AreCopied entries first (count + 1) (set words count entry)
one_copied entries first count words entry less are is =
    let size = are.size in
    record {
      size = length-set words count entry ∙ size;
      each = λ j before. elim (cases_eq j count) [
        | inl here ↦ subst (λ i. get_or (set words count entry) i None ≡ get_or entries (first + i) None) (sym here) (get_or-set_same words count entry None (omega arith) ∙ is)
        | inr off ↦ get_or-set_other words count j entry None off ∙ are.each j (omega arith)
      ];
      rest = λ j behind. get_or-set_other words count j entry None (λ e. omega arith) ∙ are.rest j (omega arith);
    }

past_end : (xs : List (Option Entry)) (i : ℕ) → length xs ≤ i → get_or xs i None ≡ None
past_end [] i long = refl
past_end (x ∷ xs) zero long = absurd (omega arith)
past_end (x ∷ xs) (suc i) long = past_end xs i (omega arith)

pub end_copied : (entries : List (Option Entry)) (first count : ℕ) (words : List (Option Entry)) → AreCopied entries first count words → length entries ≤ first + count → AreCopied entries first (count + 1) words
end_copied entries first count words are past = record {
  size = are.size;
  each = λ j before. elim (cases_eq j count) [
    | inl here ↦ are.rest j (omega arith) ∙ sym (past_end entries (first + j) (omega arith))
    | inr off ↦ are.each j (omega arith)
  ];
  rest = λ j behind. are.rest j (omega arith);
}

-- the words of a node above the leaves, as far as the first so many were filled
pub record AreFilled {A : Type 0} (entries : List (Option Entry)) (level first count : ℕ) (kids : List (Option (Box Branch A))) : Type 0 where
  pub long : length kids ≡ 32
  pub each : (j : ℕ) → j < count → IsFilled entries level (first + j) (get_or kids j None)
  pub rest : (j : ℕ) → count ≤ j → get_or kids j None ≡ None

pub none_filled : {A : Type 0} (entries : List (Option Entry)) (level first n : ℕ) (kids : List (Option (Box Branch A))) → n ≡ 32 → kids ≡ replicate n None → AreFilled entries level first 0 kids
none_filled {A} entries level first n kids many none = record {
  long = ap length none ∙ (length-replicate n None ∙ many);
  each = λ j less. absurd (omega arith);
  rest = λ j _. ap (λ (ks : List (Option (Box Branch A))). get_or ks j None) none ∙ go n j;
}
  where
    go : (n j : ℕ) → get_or (replicate {A = Option (Box Branch A)} n None) j None ≡ None
    go zero j = refl
    go (suc n) zero = refl
    go (suc n) (suc j) = go n j

pub one_filled : {A : Type 0} (entries : List (Option Entry)) (level first count : ℕ) (kids : List (Option (Box Branch A))) (node : Option (Box Branch A)) → count < 32 → AreFilled entries level first count kids → IsFilled entries level (first + count) node
    → AreFilled entries level first (count + 1) (set kids count node)
one_filled entries level first count kids node less are is =
    let long = are.long in
    record {
      long = length-set kids count node ∙ long;
      each = λ j before. elim (cases_eq j count) [
        | inl here ↦ subst (λ i. IsFilled entries level (first + i) (get_or (set kids count node) i None)) (sym here) (subst (IsFilled entries level (first + count)) (sym (get_or-set_same kids count node None (omega arith))) is)
        | inr off ↦ subst (IsFilled entries level (first + j)) (sym (get_or-set_other kids count j node None off)) (are.each j (omega arith))
      ];
      rest = λ j behind. get_or-set_other kids count j node None (λ e. omega arith) ∙ are.rest j (omega arith);
    }

unknown_filled : {A : Type 0} (kids : List (Option (Box Branch A))) → ((j : ℕ) → known_in (get_or kids j None) ≡ []) → known_below kids ≡ []
unfolding known_below
unknown_filled [] unknown = refl
unknown_filled (kid ∷ kids) unknown = ap (λ ks. ks ++ flat_map known_in kids) (unknown 0) ∙ unknown_filled kids (λ j. unknown (suc j))

-- what holds of all words
each_word : {A : Type 0} (entries : List (Option Entry)) (level first : ℕ) (kids : List (Option (Box Branch A))) → AreFilled entries level first 32 kids → (P : ℕ → Option (Box Branch A) → Type 0) → ((j : ℕ) → P j None)
    → ((j : ℕ) (o : Option (Box Branch A)) → IsFilled entries level (first + j) o → P j o) → (j : ℕ) → P j (get_or kids j None)
each_word entries level first kids are P none some j = elim (cases_lt j 32) [
  | inl less ↦ some j (get_or kids j None) (are.each j less)
  | inr more ↦ subst (P j) (sym (are.rest j (omega (arith, more)))) (none j)
]

pub slots_filled : {A : Type 0} (entries : List (Option Entry)) (level first : ℕ) (kids : List (Option (Box Branch A))) → AreFilled entries level first 32 kids → AreSlots level first kids
slots_filled entries level first kids are j = each_word entries level first kids are (λ j o. IsSlot level (first + j) o) (λ j. tt) (λ j o is. is.slot) j

pub node_filled : {A : Type 0} (entries words : List (Option Entry)) (level index : ℕ) (kids : List (Option (Box Branch A))) → 1 ≤ level → level ≤ 4 → (level ≡ 1 → ⊥) → (index + 1) * 32 ^ level ≤ 1048576 → AreFilled entries (level - 1) (32 * index) 32 kids
    → IsNode level index words kids
node_filled entries words level index kids from to off fits are = record {
  level_from = from;
  level_to = to;
  index_to = fits;
  leaf = λ one. absurd (off one);
  inner = λ _. are.long;
  slots = slots_filled entries (level - 1) (32 * index) kids are;
}

pub filled_inner : {A : Type 0} (entries words : List (Option Entry)) (level index : ℕ) (kids : List (Option (Box Branch A))) (node : Box Branch A) → node.value ≡ branch_of level index None words kids → 1 ≤ level → level ≤ 4 → (level ≡ 1 → ⊥)
    → (index + 1) * 32 ^ level ≤ 1048576 → AreFilled entries (level - 1) (32 * index) 32 kids → exists entries level index ≡ true → IsFilled entries level index (Some node)
filled_inner {A} entries words level index kids node is from to off fits are some =
    let size = 32 ^ (level - 1) in
    let slots = slots_filled entries (level - 1) (32 * index) kids are in
    let power : 32 * size ≡ 32 ^ level = sym (pow-succ' 32 (level - 1)) ∙ (let e : suc (level - 1) ≡ level = omega arith in ap (λ k. 32 ^ k) e) in
    let long : length (entries_below size kids) ≡ 32 ^ level = length_below (level - 1) (32 * index) kids slots ∙ (ap (λ n. n * size) are.long ∙ power) in
    let unknown = each_word entries (level - 1) (32 * index) kids are (λ j o. known_in o ≡ []) (λ j. refl) (λ j o is. is.unknown) in
    filled_some entries (entries_below size kids) level index node
    (is ∙ same_branch level index _ _ _ _ (inner_is level index None words kids off) (unknown_filled kids unknown))
    from to fits long
    (λ offset less.
    let s = split level index offset from less in
    ap (λ i. get_or (entries_below size kids) i None) (sym s.whole)
    ∙ (get_below (level - 1) (32 * index) kids (offset / size) (offset % size) slots s.low
    ∙ ((are.each (offset / size) s.word).same (offset % size) s.low ∙ ap (λ n. get_or entries n None) s.block))) some

-- ---- the tree

-- longer entries that begin as these and have none behind
front_is : (es xs : List (Option Entry)) → length xs ≤ length es → ((i : ℕ) → i < length es → get_or es i None ≡ get_or xs i None) → es ≡ xs ++ replicate (length es - length xs) None
front_is [] [] long same = refl
front_is [] (x ∷ xs) long same = absurd (omega arith)
front_is (e ∷ es) [] long same = ap (λ o. o ∷ es) (same 0 (omega arith)) ∙ (ap (λ l. None ∷ l) (front_is es [] (omega arith) (λ i less. same (suc i) (omega arith))) ∙ (let z : suc (length es - 0) ≡ suc (length es) - 0 = omega arith in ap (λ n. replicate n None) z))
front_is (e ∷ es) (x ∷ xs) long same =
    let less : suc (length es) - suc (length xs) ≡ length es - length xs = omega arith in
    ap (λ o. o ∷ es) (same 0 (omega arith))
    ∙ ap (λ l. x ∷ l) (front_is es xs (omega arith) (λ i less. same (suc i) (omega arith)) ∙ ap (λ n. xs ++ replicate n None) (sym less))

record IsFront (es xs : List (Option Entry)) (count width : ℕ) : Type 0 where
  taken : take count es ≡ xs
  left : drop count es ≡ replicate (width - count) None

front_of : (es xs : List (Option Entry)) (count width : ℕ) → length xs ≡ count → length es ≡ width → count ≤ width → ((i : ℕ) → i < width → get_or es i None ≡ get_or xs i None) → IsFront es xs count width
front_of es xs count width short long fits same =
    let is = front_is es xs (omega (arith, short, long)) (λ i less. same i (omega (arith, long))) in
    let rest : List (Option Entry) = replicate (length es - length xs) None in
    record {
      taken = ap (λ l. take count l) is ∙ (ap (λ n. take n (xs ++ rest)) (sym short) ∙ take-append_seam xs rest);
      left =
          ap (λ l. drop count l) is
          ∙ (ap (λ n. drop n (xs ++ rest)) (sym short)
          ∙ (drop-append_seam xs rest ∙ (ap (λ n. replicate (n - length xs) None) long ∙ ap (λ n. replicate (width - n) None) short)));
    }

top_front : {A : Type 0} (entries : List (Option Entry)) (cache_blocks depth : ℕ) (root : Option (Box Branch A)) → IsFilled entries depth 0 root → length entries ≡ cache_blocks → cache_blocks ≤ 32 ^ depth
    → IsFront (entries_in (32 ^ depth) root) entries cache_blocks (32 ^ depth)
top_front entries cache_blocks depth root is size enough =
    front_of (entries_in (32 ^ depth) root) entries cache_blocks (32 ^ depth) size (length_in depth 0 root is.slot) enough
    (λ i less. let at : 0 * 32 ^ depth + i ≡ i = omega arith in is.same i less ∙ ap (λ n. get_or entries n None) at)

pub entries_filled : {A : Type 0} (entries : List (Option Entry)) (cache_blocks depth : ℕ) (root : Option (Box Branch A)) → IsFilled entries depth 0 root → length entries ≡ cache_blocks → cache_blocks ≤ 32 ^ depth
    → (boxes_of cache_blocks depth root).entries ≡ entries
entries_filled entries cache_blocks depth root is size enough = (top_front entries cache_blocks depth root is size enough).taken

pub boxes_filled : {A : Type 0} (entries : List (Option Entry)) (cache_blocks depth : ℕ) (root : Option (Box Branch A)) → IsFilled entries depth 0 root → length entries ≡ cache_blocks → depth ≡ depth_of cache_blocks → cache_blocks ≤ 1048576 → 1 ≤ depth
    → depth ≤ 4 → cache_blocks ≤ 32 ^ depth → AreBoxes cache_blocks depth root
boxes_filled entries cache_blocks depth root is size levels few from to enough =
    let there : List (Option Entry) = take cache_blocks (entries_in (32 ^ depth) root) in
    let sound = subst (λ ks. IsSound (record { entries = there; known = ks })) (sym is.unknown) (unknown-sound there) in
    let once = subst AreApart (sym is.unknown) tt in
    let front = top_front entries cache_blocks depth root is size enough in
    record { few = few; from = from; to = to; levels = levels; enough = enough; top = is.slot; sound = sound; once = once; ends = front.left }
