-- What a node holds, and what a change of one word or one entry leaves of it.
use Rattle.std.proofs.Common.{◌≡◌, ◌≤◌, ◌<◌, ◌+◌, ◌-◌, ◌*◌, ◌/◌, ◌%◌, ◌^◌, ◌∙◌, ◌==◌, sym, ap, subst, refl, ℕ, zero, suc, true, false, Option, Some, None, Box, List, [], ◌∷◌, ◌++◌, length, replicate, get_or, set, arith, inl, inr}
use Rattle.std.specs.Prelude.{is_some}
use Rattle.std.specs.List.{list_any, flat_map, AllByRecursion}
use Rattle.std.proofs.lemmas.Bool.{cases_Bool}
use Rattle.std.proofs.lemmas.List.{set-get_or, length-replicate, length-set, replicate-append-replicate}
use Rattle.std.proofs.lemmas.Nat.{div-mul-add}
use Rattle.std.proofs.Math.Nat.{add-mul, mul-le-mul_left, mul-le-mul_right, mul_assoc, mul_comm, pow-succ', div-add-mod, div-lt_iff_lt-mul}
use Rattle.wb_types.proofs.Truth.{yes}
use Rattle.wb_types.specs.declared.entry.Entry.{Entry}
use Rattle.wb_types.specs.declared.number.Place.{Place}
use Rattle.wb_tree.specs.declared.placed.PlacedNode.{PlacedNode}
use Rattle.wb_tree.specs.Branches.{Branch, IsBranch, IsKid, IsNode, IsSlot, IsUnder, branch_of, entries_below, entries_in, forget, known_below, known_in, placed_here, rewritten, sole_branch}
use Rattle.wb_tree.proofs.Branching.Slots.{AreSlots, all_none, any_below, any_set, forget_below, get_below, not_same, set_below, slots_set}
use Rattle.wb_types.proofs.Lists.{replicate_at}

-- ---- nodes

-- how a cache block lies below a node, at a word of which the size is the span
pub record IsSplit (span index offset size : ℕ) : Type 0 where
  pub power : span ≡ 32 * size
  pub low : offset % size < size
  pub word : offset / size < 32
  pub whole : offset / size * size + offset % size ≡ offset
  pub block : (32 * index + offset / size) * size + offset % size ≡ index * span + offset
  pub here : (index * span + offset) / span ≡ index
  pub below : (index * span + offset) / size ≡ 32 * index + offset / size

positive : (n : ℕ) → 1 ≤ 32 ^ n
positive zero = omega arith
positive (suc n) = omega (arith, pow-succ' 32 n, positive n)

less_quotient : (offset size n : ℕ) → 1 ≤ size → offset < n * size → offset / size < n
less_quotient offset size n some less = (div-lt_iff_lt-mul {k = size} {x = offset} {y = n} some).1 less

regroup : (index word size : ℕ) → (32 * index + word) * size ≡ index * (32 * size) + word * size
regroup index word size = add-mul (32 * index) word size ∙ ap (λ n. n + word * size) (ap (λ n. n * size) (mul_comm 32 index) ∙ mul_assoc index 32 size)

split_by : (span index offset size : ℕ) → 1 ≤ size → span ≡ 32 * size → offset < span → IsSplit span index offset size
split_by span index offset size some power less =
    let word : offset / size < 32 = less_quotient offset size 32 some (omega arith) in
    let whole : offset / size * size + offset % size ≡ offset = ap (λ n. n + offset % size) (mul_comm (offset / size) size) ∙ div-add-mod offset size in
    let low : offset % size < size = omega arith in
    let block : (32 * index + offset / size) * size + offset % size ≡ index * span + offset =
    ap (λ n. n + offset % size) (regroup index (offset / size) size) ∙ (let e : index * (32 * size) ≡ index * span = ap (λ n. index * n) (sym power) in omega (arith, e, whole)) in
    record {
      power = power;
      low = low;
      word = word;
      whole = whole;
      block = block;
      here = div-mul-add index span offset less;
      below = ap (λ n. n / size) (sym block) ∙ div-mul-add (32 * index + offset / size) size (offset % size) low;
    }

pub split : (level index offset : ℕ) → 1 ≤ level → offset < 32 ^ level → IsSplit (32 ^ level) index offset (32 ^ (level - 1))
split zero index offset from less = absurd (omega arith)
split (suc level) index offset from less =
    let e : suc level - 1 ≡ level = omega arith in
    subst (λ n. IsSplit (32 ^ suc level) index offset (32 ^ n)) (sym e) (split_by (32 ^ suc level) index offset (32 ^ level) (positive level) (pow-succ' 32 level) less)

higher : (level : ℕ) → 1 ≤ level → (level ≡ 1 → ⊥) → (level == 1) ≡ false
higher level from off = not_same level 1 off

pub leaf_is : {A : Type 0} (level index : ℕ) (place : Option Place) (words : List (Option Entry)) (kids : List (Option (Box Branch A))) → level ≡ 1 → (branch_of level index place words kids).entries ≡ words
leaf_is level index place words kids e = rw e refl

pub inner_is : {A : Type 0} (level index : ℕ) (place : Option Place) (words : List (Option Entry)) (kids : List (Option (Box Branch A))) → (level ≡ 1 → ⊥)
    → (branch_of level index place words kids).entries ≡ entries_below (32 ^ (level - 1)) kids
inner_is level index place words kids off = rw (not_same level 1 off) refl

pub not_one : (level : ℕ) → 1 ≤ level → (level ≡ 1 → ⊥) → 2 ≤ level
not_one level from off = omega arith

pub long_kids : {A : Type 0} (level index : ℕ) (words : List (Option Entry)) (kids : List (Option (Box Branch A))) → IsNode level index words kids → (level ≡ 1 → ⊥) → length kids ≡ 32
long_kids level index words kids node off = node.inner (not_one level node.level_from off)

-- an entry that is looked for below a word
pub got_below : {A : Type 0} (level index : ℕ) (place : Option Place) (words : List (Option Entry)) (kids : List (Option (Box Branch A))) (offset : ℕ) → IsNode level index words kids → (level ≡ 1 → ⊥) → offset < 32 ^ level
    → get_or (branch_of level index place words kids).entries offset None ≡ get_or (entries_in (32 ^ (level - 1)) (get_or kids (offset / 32 ^ (level - 1)) None)) (offset % 32 ^ (level - 1)) None
got_below level index place words kids offset node off less =
    let s = split level index offset node.level_from less in
    ap (λ es. get_or es offset None) (inner_is level index place words kids off)
    ∙ (ap (λ i. get_or (entries_below (32 ^ (level - 1)) kids) i None) (sym s.whole)
    ∙ get_below (level - 1) (32 * index) kids (offset / 32 ^ (level - 1)) (offset % 32 ^ (level - 1)) node.slots s.low)

pub same_branch : (l i : ℕ) (es fs : List (Option Entry)) (ks js : List PlacedNode) → es ≡ fs → ks ≡ js
    → ◌≡◌ {A = Branch} (record { level = l; index = i; entries = es; known = ks }) (record { level = l; index = i; entries = fs; known = js })
same_branch l i es fs ks js p q = cc

forget_here : (block level index : ℕ) (place : Option Place) (xs : List PlacedNode) → block / 32 ^ level ≡ index → forget block (placed_here place level index ++ xs) ≡ forget block xs
forget_here block level index None xs on = refl
forget_here block level index (Some place) xs on = rw (on, yes index) refl

-- an entry is set in a leaf
pub set_leaf : {A : Type 0} (level index : ℕ) (place : Option Place) (words : List (Option Entry)) (kids : List (Option (Box Branch A))) (offset : ℕ) (v : Option Entry) → IsNode level index words kids → level ≡ 1 → offset < 32 ^ level
    → branch_of level index None (set words offset v) kids ≡ rewritten (branch_of level index place words kids) offset v
unfolding known_below
set_leaf level index place words kids offset v node leaf less =
    let s = split level index offset node.level_from less in
    let none = node.leaf leaf in
    same_branch level index _ _ _ _ (leaf_is level index None (set words offset v) kids leaf ∙ ap (λ es. set es offset v) (sym (leaf_is level index place words kids leaf)))
    (ap (λ ks. flat_map known_in ks) none ∙ sym (forget_here (index * 32 ^ level + offset) level index place (known_below kids) s.here ∙ ap (λ ks. forget (index * 32 ^ level + offset) (flat_map known_in ks)) none))

-- an entry is set below a word
pub set_inner : {A : Type 0} (level index : ℕ) (place : Option Place) (words : List (Option Entry)) (kids : List (Option (Box Branch A))) (offset : ℕ) (v : Option Entry) (o : Option (Box Branch A)) → IsNode level index words kids → (level ≡ 1 → ⊥) → offset < 32 ^ level
    → entries_in (32 ^ (level - 1)) o ≡ set (entries_in (32 ^ (level - 1)) (get_or kids (offset / 32 ^ (level - 1)) None)) (offset % 32 ^ (level - 1)) v
    → known_in o ≡ forget (index * 32 ^ level + offset) (known_in (get_or kids (offset / 32 ^ (level - 1)) None))
    → branch_of level index None words (set kids (offset / 32 ^ (level - 1)) o) ≡ rewritten (branch_of level index place words kids) offset v
set_inner level index place words kids offset v o node off less entries known =
    let s = split level index offset node.level_from less in
    let long = long_kids level index words kids node off in
    let w = offset / 32 ^ (level - 1) in
    let sw = s.word in
    same_branch level index _ _ _ _
    (inner_is level index None words (set kids w o) off
    ∙ (set_below (level - 1) (32 * index) kids w (offset % 32 ^ (level - 1)) o v node.slots s.low (omega arith) entries
    ∙ (ap (λ i. set (entries_below (32 ^ (level - 1)) kids) i v) s.whole
    ∙ ap (λ es. set es offset v) (sym (inner_is level index place words kids off)))))
    (forget_below (index * 32 ^ level + offset) (level - 1) (32 * index) kids w o node.slots s.below (omega arith) known
    ∙ sym (forget_here (index * 32 ^ level + offset) level index place (known_below kids) s.here))

-- ---- a child that is found at its word

-- the word that the code reads
pub found_at : {X : Type 0} (xs : List (Option X)) (w : ℕ) (o : Option X) → w < length xs → o ≡ get_or xs w o → get_or xs w None ≡ o
found_at [] w o less e = absurd (omega arith)
found_at (x ∷ xs) zero o less e = sym e
found_at (x ∷ xs) (suc w) o less e = found_at xs w o (omega arith) e

pub kid_at : {A : Type 0} (level first w : ℕ) (kids : List (Option (Box Branch A))) (kid : Box Branch A) → AreSlots level first kids → get_or kids w None ≡ Some kid → IsKid level (first + w) kid.value
kid_at level first w kids kid slots e = subst (IsSlot level (first + w)) e (slots w)

pub word_below : (level offset : ℕ) → 1 ≤ level → offset < 32 ^ level → offset / 32 ^ (level - 1) < 32
word_below level offset from less = (split level 0 offset from less).word

pub rest_below : (level offset : ℕ) → 1 ≤ level → offset < 32 ^ level → offset % 32 ^ (level - 1) < 32 ^ (level - 1)
rest_below level offset from less = (split level 0 offset from less).low

-- what a node tells of an entry below a word: what the child there tells, or none
pub got_some : {A : Type 0} (level index : ℕ) (place : Option Place) (words : List (Option Entry)) (kids : List (Option (Box Branch A))) (offset w r : ℕ) (kid : Box Branch A) (v b : Branch) → IsNode level index words kids → (level ≡ 1 → ⊥)
    → branch_of level index place words kids ≡ v → offset < 32 ^ v.level → w ≡ offset / 32 ^ (level - 1) → r ≡ offset % 32 ^ (level - 1) → get_or kids w None ≡ Some kid → b ≡ kid.value → get_or b.entries r None ≡ get_or v.entries offset None
got_some level index place words kids offset w r kid v b node off view less word rest there same =
    ap (λ (c : Branch). get_or c.entries r None) same
    ∙ (ap (λ i. get_or kid.value.entries i None) rest
    ∙ (ap (λ o. get_or (entries_in (32 ^ (level - 1)) o) (offset % 32 ^ (level - 1)) None) (sym there ∙ ap (λ i. get_or kids i None) word)
    ∙ (sym (got_below level index place words kids offset node off (subst (λ (c : Branch). offset < 32 ^ c.level) (sym view) less))
    ∙ ap (λ (c : Branch). get_or c.entries offset None) view)))

pub got_none : {A : Type 0} (level index : ℕ) (place : Option Place) (words : List (Option Entry)) (kids : List (Option (Box Branch A))) (offset w : ℕ) (v : Branch) → IsNode level index words kids → (level ≡ 1 → ⊥)
    → branch_of level index place words kids ≡ v → offset < 32 ^ v.level → w ≡ offset / 32 ^ (level - 1) → get_or kids w None ≡ None → ◌≡◌ {A = Option Entry} None (get_or v.entries offset None)
got_none level index place words kids offset w v node off view less word there =
    sym (replicate_at (32 ^ (level - 1)) (offset % 32 ^ (level - 1)) None)
    ∙ (ap (λ o. get_or (entries_in (32 ^ (level - 1)) o) (offset % 32 ^ (level - 1)) None) (sym there ∙ ap (λ i. get_or kids i None) word)
    ∙ (sym (got_below level index place words kids offset node off (subst (λ (c : Branch). offset < 32 ^ c.level) (sym view) less))
    ∙ ap (λ (c : Branch). get_or c.entries offset None) view))

-- ---- branches

pub index_small : (level index : ℕ) → (index + 1) * 32 ^ level ≤ 1048576 → index < 1048576
index_small level index fits = omega (arith, mul-le-mul_left' (index + 1) 1 (32 ^ level) (positive level), fits)
  where
    mul-le-mul_left' : (k a b : ℕ) → a ≤ b → k * a ≤ k * b
    mul-le-mul_left' k a b h = mul-le-mul_left k h

-- the place of a child among the nodes of its level
pub kid_index : (level index word : ℕ) → 1 ≤ level → word < 32 → (index + 1) * 32 ^ level ≤ 1048576 → (32 * index + word + 1) * 32 ^ (level - 1) ≤ 1048576
kid_index zero index word from less fits = absurd (omega arith)
kid_index (suc level) index word from less fits =
    let e : suc level - 1 ≡ level = omega arith in
    let up : (32 * index + word + 1) * 32 ^ level ≤ (32 * index + 32) * 32 ^ level = mul-le-mul_right (32 ^ level) (omega arith) in
    let all : (32 * index + 32) * 32 ^ level ≡ (index + 1) * 32 ^ suc level =
    ap (λ n. n * 32 ^ level) (omega arith) ∙ (mul_assoc (index + 1) 32 (32 ^ level) ∙ ap (λ n. (index + 1) * n) (sym (pow-succ' 32 level))) in
    subst (λ n. (32 * index + word + 1) * 32 ^ n ≤ 1048576) (sym e) (omega (arith, up, all))

forget_kept : (P : PlacedNode → Type 0) (block : ℕ) (xs : List PlacedNode) → AllByRecursion P xs → AllByRecursion P (forget block xs)
forget_kept P block [] p = tt
forget_kept P block (x ∷ xs) p = elim (cases_Bool (block / 32 ^ x.level == x.index)) [
  | inl same ↦ rw same (forget_kept P block xs p.1)
  | inr other ↦ rw other (p.0, forget_kept P block xs p.1)
]

pub branch_rewritten : (b : Branch) (offset : ℕ) (v : Option Entry) → IsBranch b → IsBranch (rewritten b offset v)
branch_rewritten b offset v is = record {
  level_from = is.level_from;
  level_to = is.level_to;
  index_to = is.index_to;
  size = length-set b.entries offset v ∙ is.size;
  under = forget_kept (IsUnder b.level b.index) (b.index * 32 ^ b.level + offset) b.known is.under;
}

pub branch_sole : (level index offset : ℕ) (entry : Entry) → 1 ≤ level → level ≤ 4 → (index + 1) * 32 ^ level ≤ 1048576 → IsBranch (sole_branch level index offset entry)
branch_sole level index offset entry from to fits = record {
  level_from = from;
  level_to = to;
  index_to = fits;
  size = length-set (replicate (32 ^ level) None) offset (Some entry) ∙ length-replicate (32 ^ level) None;
  under = tt;
}

-- a child after a change that leaves an entry
pub slot_rewritten : {A : Type 0} (level index offset : ℕ) (v : Option Entry) (kid new : Box Branch A) → IsKid level index kid.value → new.value ≡ rewritten kid.value offset v → list_any is_some new.value.entries ≡ true → IsSlot level index (Some new)
slot_rewritten level index offset v kid new is e some = record {
  level_is = ap (λ (b : Branch). b.level) e ∙ is.level_is;
  index_is = ap (λ (b : Branch). b.index) e ∙ is.index_is;
  branch = subst IsBranch (sym e) (branch_rewritten kid.value offset v is.branch);
  some = some;
}

pub slot_sole : {A : Type 0} (level index offset : ℕ) (entry : Entry) (new : Box Branch A) → 1 ≤ level → level ≤ 4 → (index + 1) * 32 ^ level ≤ 1048576 → offset < 32 ^ level → new.value ≡ sole_branch level index offset entry → IsSlot level index (Some new)
slot_sole level index offset entry new from to fits less e = record {
  level_is = ap (λ (b : Branch). b.level) e;
  index_is = ap (λ (b : Branch). b.index) e;
  branch = subst IsBranch (sym e) (branch_sole level index offset entry from to fits);
  some = ap (λ (b : Branch). list_any is_some b.entries) e ∙ any_set (replicate (32 ^ level) None) offset entry (subst (λ n. offset < n) (sym (length-replicate {A = Option Entry} (32 ^ level) None)) less);
}

-- ---- nodes after a change of a word

pub node_set : {A : Type 0} (level index : ℕ) (words : List (Option Entry)) (kids : List (Option (Box Branch A))) (w : ℕ) (o : Option (Box Branch A)) → IsNode level index words kids → (level ≡ 1 → ⊥) → w < 32 → IsSlot (level - 1) (32 * index + w) o → IsNode level index words (set kids w o)
node_set level index words kids w o node off less slot =
    let long = long_kids level index words kids node off in
    record {
      level_from = node.level_from;
      level_to = node.level_to;
      index_to = node.index_to;
      leaf = λ one. absurd (off one);
      inner = λ from. length-set kids w o ∙ long;
      slots = slots_set (level - 1) (32 * index) w kids o (omega (arith, long)) node.slots slot;
    }

no_kid : {A : Type 0} (level index j : ℕ) (kids : List (Option (Box Branch A))) (n : ℕ) → kids ≡ replicate n None → IsSlot level index (get_or kids j None)
no_kid {A} level index j kids n e = subst (λ (ks : List (Option (Box Branch A))). IsSlot level index (get_or ks j None)) (sym e) (go n j)
  where
    go : (n j : ℕ) → IsSlot level index (get_or (replicate {A = Option (Box Branch A)} n None) j None)
    go zero j = tt
    go (suc n) zero = tt
    go (suc n) (suc j) = go n j

-- a node above the leaves without a child
pub node_empty : {A : Type 0} (level index : ℕ) (words : List (Option Entry)) (kids : List (Option (Box Branch A))) (n : ℕ) → n ≡ 32 → kids ≡ replicate n None → (level ≡ 1 → ⊥) → 1 ≤ level → level ≤ 4 → (index + 1) * 32 ^ level ≤ 1048576
    → IsNode level index words kids
node_empty level index words kids n many none off from to fits = record {
  level_from = from;
  level_to = to;
  index_to = fits;
  leaf = λ one. absurd (off one);
  inner = λ _. ap length none ∙ (length-replicate n None ∙ many);
  slots = λ j. no_kid (level - 1) (32 * index + j) j kids n none;
}

-- ---- what a node holds after a change of a word

pub set_again : {X : Type 0} (xs : List X) (w : ℕ) (a b : X) → set (set xs w a) w b ≡ set xs w b
set_again [] w a b = refl
set_again (x ∷ xs) zero a b = refl
set_again (x ∷ xs) (suc w) a b = ap (λ l. x ∷ l) (set_again xs w a b)

pub set_twice : {X : Type 0} (xs ys : List X) (w : ℕ) (a b : X) → ys ≡ set xs w a → set ys w b ≡ set xs w b
set_twice xs ys w a b e = ap (λ l. set l w b) e ∙ set_again xs w a b

-- a word of a node that holds v, and a cache block of it
pub record IsWord {A : Type 0} (level index : ℕ) (place : Option Place) (words : List (Option Entry)) (kids : List (Option (Box Branch A))) (v : Branch) (offset w r : ℕ) : Type 0 where
  pub node : IsNode level index words kids
  pub above : level ≡ 1 → ⊥
  pub view : branch_of level index place words kids ≡ v
  pub less : offset < 32 ^ v.level
  pub word : w ≡ offset / 32 ^ (level - 1)
  pub rest : r ≡ offset % 32 ^ (level - 1)

set_any : {A : Type 0} {level index : ℕ} {place : Option Place} {words : List (Option Entry)} {kids : List (Option (Box Branch A))} {v : Branch} {offset w r : ℕ} → IsWord level index place words kids v offset w r → (o : Option (Box Branch A)) (e : Option Entry)
    → entries_in (32 ^ (level - 1)) o ≡ set (entries_in (32 ^ (level - 1)) (get_or kids w None)) r e
    → known_in o ≡ forget ((32 * index + w) * 32 ^ (level - 1) + r) (known_in (get_or kids w None))
    → branch_of level index None words (set kids w o) ≡ rewritten v offset e
set_any {A} {level} {index} {place} {words} {kids} {v} {offset} {w} {r} is o e entries known =
    let size = 32 ^ (level - 1) in
    let inside : offset < 32 ^ level = subst (λ (b : Branch). offset < 32 ^ b.level) (sym is.view) is.less in
    let s = split level index offset is.node.level_from inside in
    let block : (32 * index + w) * size + r ≡ index * 32 ^ level + offset = ap (λ n. (32 * index + n) * size + r) is.word ∙ (ap (λ n. (32 * index + offset / size) * size + n) is.rest ∙ s.block) in
    ap (λ n. branch_of level index None words (set kids n o)) is.word
    ∙ (set_inner level index place words kids offset e o is.node is.above inside
    (entries ∙ (ap (λ n. set (entries_in size (get_or kids n None)) r e) is.word ∙ ap (λ n. set (entries_in size (get_or kids (offset / size) None)) n e) is.rest))
    (known ∙ (ap (λ n. forget n (known_in (get_or kids w None))) block ∙ ap (λ n. forget (index * 32 ^ level + offset) (known_in (get_or kids n None))) is.word))
    ∙ ap (λ b. rewritten b offset e) is.view)

pub set_kid : {A : Type 0} {level index : ℕ} {place : Option Place} {words : List (Option Entry)} {kids : List (Option (Box Branch A))} {v : Branch} {offset w r : ℕ} → IsWord level index place words kids v offset w r → (kid new : Box Branch A) (e : Option Entry)
    → get_or kids w None ≡ Some kid → new.value ≡ rewritten kid.value r e → branch_of level index None words (set kids w (Some new)) ≡ rewritten v offset e
set_kid {A} {level} {index} {place} {words} {kids} {v} {offset} {w} {r} is kid new e there same =
    let size = 32 ^ (level - 1) in
    let k = kid_at (level - 1) (32 * index) w kids kid is.node.slots there in
    let block : kid.value.index * 32 ^ kid.value.level + r ≡ (32 * index + w) * size + r = ap (λ n. n * 32 ^ kid.value.level + r) k.index_is ∙ ap (λ n. (32 * index + w) * 32 ^ n + r) k.level_is in
    set_any is (Some new) e
    (ap (λ (b : Branch). b.entries) same ∙ ap (λ o. set (entries_in size o) r e) (sym there))
    (ap (λ (b : Branch). b.known) same ∙ (ap (λ n. forget n kid.value.known) block ∙ ap (λ o. forget ((32 * index + w) * size + r) (known_in o)) (sym there)))

pub set_new : {A : Type 0} {level index : ℕ} {place : Option Place} {words : List (Option Entry)} {kids : List (Option (Box Branch A))} {v : Branch} {offset w r : ℕ} → IsWord level index place words kids v offset w r → (new : Box Branch A) (entry : Entry)
    → get_or kids w None ≡ None → new.value ≡ sole_branch (level - 1) (32 * index + w) r entry → branch_of level index None words (set kids w (Some new)) ≡ rewritten v offset (Some entry)
set_new {A} {level} {index} {place} {words} {kids} {v} {offset} {w} {r} is new entry there same =
    let size = 32 ^ (level - 1) in
    set_any is (Some new) (Some entry)
    (ap (λ (b : Branch). b.entries) same ∙ ap (λ o. set (entries_in size o) r (Some entry)) (sym there))
    (ap (λ (b : Branch). b.known) same ∙ ap (λ o. forget ((32 * index + w) * size + r) (known_in o)) (sym there))

-- no entry is taken away where none is
none_set : (n r : ℕ) → replicate {A = Option Entry} n None ≡ set (replicate n None) r None
none_set zero r = refl
none_set (suc n) zero = refl
none_set (suc n) (suc r) = ap (λ es. None ∷ es) (none_set n r)

pub set_none : {A : Type 0} {level index : ℕ} {place : Option Place} {words : List (Option Entry)} {kids : List (Option (Box Branch A))} {v : Branch} {offset w r : ℕ} → IsWord level index place words kids v offset w r
    → get_or kids w None ≡ None → branch_of level index None words (set kids w None) ≡ rewritten v offset None
set_none {A} {level} {index} {place} {words} {kids} {v} {offset} {w} {r} is there =
    let size = 32 ^ (level - 1) in
    set_any is None None
    (none_set size r ∙ ap (λ o. set (entries_in size o) r None) (sym there))
    (ap (λ o. forget ((32 * index + w) * size + r) (known_in o)) (sym there))

-- a child without an entry may go
pub set_gone : {A : Type 0} {level index : ℕ} {place : Option Place} {words : List (Option Entry)} {kids : List (Option (Box Branch A))} {v : Branch} {offset w r : ℕ} → IsWord level index place words kids v offset w r → (kid : Box Branch A) (b : Branch)
    → get_or kids w None ≡ Some kid → b ≡ rewritten kid.value r None → list_any is_some b.entries ≡ false → b.known ≡ [] → branch_of level index None words (set kids w None) ≡ rewritten v offset None
set_gone {A} {level} {index} {place} {words} {kids} {v} {offset} {w} {r} is kid b there same empty unknown =
    let size = 32 ^ (level - 1) in
    let k = kid_at (level - 1) (32 * index) w kids kid is.node.slots there in
    let long : length b.entries ≡ size = ap (λ (b : Branch). length b.entries) same ∙ (length-set kid.value.entries r None ∙ (k.branch.size ∙ ap (λ n. 32 ^ n) k.level_is)) in
    let block : kid.value.index * 32 ^ kid.value.level + r ≡ (32 * index + w) * size + r = ap (λ n. n * 32 ^ kid.value.level + r) k.index_is ∙ ap (λ n. (32 * index + w) * 32 ^ n + r) k.level_is in
    set_any is None None
    (ap (λ n. replicate n None) (sym long) ∙ (sym (all_none b.entries empty) ∙ (ap (λ (b : Branch). b.entries) same ∙ ap (λ o. set (entries_in size o) r None) (sym there))))
    (sym unknown ∙ (ap (λ (b : Branch). b.known) same ∙ (ap (λ n. forget n kid.value.known) block ∙ ap (λ o. forget ((32 * index + w) * size + r) (known_in o)) (sym there))))

-- a node without children has nothing below it that is known
pub known_none : {A : Type 0} (kids : List (Option (Box Branch A))) → list_any is_some kids ≡ false → known_below kids ≡ []
unfolding known_below
known_none [] none = refl
known_none (None ∷ kids) none = known_none kids none
known_none (Some kid ∷ kids) none = absurd cc

entries_none : {A : Type 0} (size n : ℕ) (kids : List (Option (Box Branch A))) → kids ≡ replicate n None → entries_below size kids ≡ replicate (n * size) None
unfolding entries_below
entries_none {A} size n kids e = ap (λ (ks : List (Option (Box Branch A))). flat_map (entries_in size) ks) e ∙ go n
  where
    go : (n : ℕ) → flat_map (entries_in {A = A} size) (replicate n None) ≡ replicate (n * size) None
    go zero = let e : 0 * size ≡ 0 = omega arith in ap (λ k. replicate k None) (sym e)
    go (suc n) =
        let e : size + n * size ≡ suc n * size = omega arith in
        ap (λ es. replicate size None ++ es) (go n) ∙ (replicate-append-replicate size (n * size) None ∙ ap (λ k. replicate k None) e)

unknown_below : {A : Type 0} (n : ℕ) (kids : List (Option (Box Branch A))) → kids ≡ replicate n None → known_below kids ≡ []
unfolding known_below
unknown_below {A} n kids e = ap (λ (ks : List (Option (Box Branch A))). flat_map known_in ks) e ∙ go n
  where
    go : (n : ℕ) → flat_map (known_in {A = A}) (replicate n None) ≡ []
    go zero = refl
    go (suc n) = go n

-- a node above the leaves that has one entry
pub sole_inner : {A : Type 0} (level index offset : ℕ) (words : List (Option Entry)) (kids : List (Option (Box Branch A))) (n : ℕ) (entry : Entry) → n ≡ 32 → kids ≡ replicate n None → (level ≡ 1 → ⊥) → 1 ≤ level
    → rewritten (branch_of level index None words kids) offset (Some entry) ≡ sole_branch level index offset entry
sole_inner level index offset words kids n entry many none off from =
    let size = 32 ^ (level - 1) in
    let power : n * size ≡ 32 ^ level = ap (λ k. k * size) many ∙ (sym (pow-succ' 32 (level - 1)) ∙ (let e : suc (level - 1) ≡ level = omega arith in ap (λ k. 32 ^ k) e)) in
    same_branch level index _ _ _ _
    (ap (λ es. set es offset (Some entry)) (inner_is level index None words kids off ∙ (entries_none size n kids none ∙ ap (λ k. replicate k None) power)))
    (ap (λ ks. forget (index * 32 ^ level + offset) ks) (unknown_below n kids none))

pub sole_leaf : {A : Type 0} (level index offset : ℕ) (words : List (Option Entry)) (kids : List (Option (Box Branch A))) (n : ℕ) (entry : Entry) → n ≡ 32 → words ≡ set (replicate n None) offset (Some entry) → kids ≡ [] → level ≡ 1
    → branch_of level index None words kids ≡ sole_branch level index offset entry
unfolding known_below
sole_leaf {A} level index offset words kids n entry many words_are none one =
    let power : n ≡ 32 ^ level = many ∙ ap (λ k. 32 ^ k) (sym one) in
    same_branch level index _ _ _ _
    (leaf_is level index None words kids one ∙ (words_are ∙ ap (λ k. set (replicate k None) offset (Some entry)) power))
    (ap (λ (ks : List (Option (Box Branch A))). flat_map known_in ks) none)

pub no_kid_at : {X : Type 0} (xs : List (Option X)) (n i : ℕ) → xs ≡ replicate n None → get_or xs i None ≡ None
no_kid_at {X} xs n i e = ap (λ ys. get_or ys i None) e ∙ go n i
  where
    go : (n i : ℕ) → get_or (replicate {A = Option X} n None) i None ≡ None
    go zero i = refl
    go (suc n) zero = refl
    go (suc n) (suc i) = go n i

-- a child that is taken out and put back as it was
pub put_back : {X : Type 0} (xs : List (Option X)) (w : ℕ) (a : Option X) (x y : X) → get_or xs w None ≡ Some x → y ≡ x → set (set xs w a) w (Some y) ≡ xs
put_back xs w a x y there same = set_again xs w a (Some y) ∙ (ap (λ z. set xs w (Some z)) same ∙ (ap (λ o. set xs w o) (sym there) ∙ set-get_or xs w None))

-- a node that was written is empty where no entry is left below it
pub left_above : {A : Type 0} (level index : ℕ) (place : Option Place) (words : List (Option Entry)) (kids : List (Option (Box Branch A))) → IsNode level index words kids → (level ≡ 1 → ⊥) → list_any is_some (branch_of level index place words kids).entries ≡ list_any is_some kids
left_above level index place words kids node off = ap (λ es. list_any is_some es) (inner_is level index place words kids off) ∙ any_below (level - 1) (32 * index) kids node.slots

pub left_leaf : {A : Type 0} (level index : ℕ) (place : Option Place) (words : List (Option Entry)) (kids : List (Option (Box Branch A))) → level ≡ 1 → list_any is_some (branch_of level index place words kids).entries ≡ list_any is_some words
left_leaf level index place words kids one = ap (λ es. list_any is_some es) (leaf_is level index place words kids one)

pub emptied_leaf : {A : Type 0} (level index : ℕ) (words others : List (Option Entry)) (kids : List (Option (Box Branch A))) → IsNode level index words kids → level ≡ 1 → (branch_of level index None others kids).known ≡ []
unfolding known_below
emptied_leaf level index words others kids node one = ap (λ ks. flat_map known_in ks) (node.leaf one)

pub any_at : {X : Type 0} (xs : List (Option X)) (w : ℕ) (x : X) → w < length xs → list_any is_some (set xs w (Some x)) ≡ true
any_at [] w x less = absurd (omega arith)
any_at (y ∷ xs) zero x less = refl
any_at (None ∷ xs) (suc w) x less = any_at xs w x (omega arith)
any_at (Some y ∷ xs) (suc w) x less = refl
