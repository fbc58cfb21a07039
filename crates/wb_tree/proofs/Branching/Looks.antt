-- What a node tells of a node at or below it, and what is left when that one becomes known.
use Rattle.std.proofs.Common.{◌≡◌, ◌≤◌, ◌<◌, ◌+◌, ◌-◌, ◌*◌, ◌/◌, ◌%◌, ◌^◌, ◌&&◌, ◌==◌, ◌∙◌, sym, ap, subst, refl, ℕ, zero, suc, true, false, Option, Some, None, Box, List, [], ◌∷◌, ◌++◌, length, replicate, take, drop, get_or, set, append_assoc, arith, inl, inr}
use Rattle.std.specs.Prelude.{is_some}
use Rattle.std.specs.List.{list_any, flat_map, AllByRecursion}
use Rattle.std.proofs.lemmas.Bool.{cases_Bool}
use Rattle.std.proofs.lemmas.List.{append-nil, drop-replicate, drop_all, map-append}
use Rattle.std.proofs.lemmas.Nat.{div-mul-add}
use Rattle.std.proofs.Math.Nat.{add-mul, mul-le-mul_right, mul_assoc, mul_comm, pow-succ'}
use Rattle.wb_types.specs.declared.entry.Entry.{Entry}
use Rattle.wb_types.specs.declared.number.Place.{Place}
use Rattle.wb_types.proofs.Truth.{yes}
use Rattle.wb_tree.specs.declared.placed.PlacedNode.{PlacedNode}
use Rattle.wb_tree.specs.Mapping.{exists, place_in}
use Rattle.wb_tree.specs.Branches.{Branch, IsBranch, IsKid, IsNode, IsSlot, IsUnder, branch_of, entries_below, entries_in, known_below, known_in, placed_here}
use Rattle.wb_tree.specs.Settling.{IsInserted, IsSettledAt}
use Rattle.wb_tree.proofs.Nodes.Knowing.{places, same_names}
use Rattle.wb_tree.proofs.Branching.Branches.{inner_is, kid_at, long_kids, split}
use Rattle.wb_tree.proofs.Branching.Slots.{AreSlots, length_in, not_same, slots_head, slots_tail, under_in}
use Rattle.wb_tree.proofs.Reading.PlacedLists.{place_in-append_none}

-- ---- entries below a node

none_in : (n m : ℕ) → list_any {X = Option Entry} is_some (take n (replicate m None)) ≡ false
none_in zero m = refl
none_in (suc n) zero = refl
none_in (suc n) (suc m) = none_in n m

pub none_from : (n k m : ℕ) → list_any {X = Option Entry} is_some (take n (drop k (replicate m None))) ≡ false
none_from n k m = ap (λ (xs : List (Option Entry)). list_any is_some (take n xs)) (drop-replicate k m None) ∙ none_in n (m - k)

pub part_left : (xs ys : List (Option Entry)) (a n : ℕ) → a + n ≤ length xs → take n (drop a (xs ++ ys)) ≡ take n (drop a xs)
part_left xs ys zero zero fits = refl
part_left [] ys zero (suc n) fits = absurd (omega arith)
part_left (x ∷ xs) ys zero (suc n) fits = ap (λ (zs : List (Option Entry)). x ∷ zs) (part_left xs ys zero n (omega arith))
part_left [] ys (suc a) n fits = absurd (omega arith)
part_left (x ∷ xs) ys (suc a) n fits = part_left xs ys a n (omega arith)

part_right : (xs ys : List (Option Entry)) (size a : ℕ) → length xs ≡ size → drop (size + a) (xs ++ ys) ≡ drop a ys
part_right [] ys zero a e = let z : zero + a ≡ a = omega arith in ap (λ k. drop k ys) z
part_right [] ys (suc size) a e = absurd (omega arith)
part_right (x ∷ xs) ys zero a e = absurd (omega arith)
part_right (x ∷ xs) ys (suc size) a e =
    let s : suc size + a ≡ suc (size + a) = omega arith in
    ap (λ k. drop k (x ∷ xs ++ ys)) s ∙ part_right xs ys size a (omega arith)

-- a part of the entries below one word
window_below : {A : Type 0} (level first : ℕ) (kids : List (Option (Box Branch A))) (w a n : ℕ) → AreSlots level first kids → a + n ≤ 32 ^ level
    → list_any is_some (take n (drop (w * 32 ^ level + a) (entries_below (32 ^ level) kids))) ≡ list_any is_some (take n (drop a (entries_in (32 ^ level) (get_or kids w None))))
unfolding entries_below
window_below level first [] w a n slots fits = none_from n (w * 32 ^ level + a) 0 ∙ sym (none_from n a (32 ^ level))
window_below level first (kid ∷ kids) zero a n slots fits =
    let here = length_in level first kid (slots_head level first kid kids slots) in
    let e : 0 * 32 ^ level + a ≡ a = omega arith in
    ap (λ k. list_any is_some (take n (drop k (entries_in (32 ^ level) kid ++ entries_below (32 ^ level) kids)))) e
    ∙ ap (λ (xs : List (Option Entry)). list_any is_some xs) (part_left (entries_in (32 ^ level) kid) (entries_below (32 ^ level) kids) a n (omega (arith, here)))
window_below level first (kid ∷ kids) (suc w) a n slots fits =
    let here = length_in level first kid (slots_head level first kid kids slots) in
    let e : suc w * 32 ^ level + a ≡ 32 ^ level + (w * 32 ^ level + a) = omega arith in
    ap (λ k. list_any is_some (take n (drop k (entries_in (32 ^ level) kid ++ entries_below (32 ^ level) kids)))) e
    ∙ (ap (λ (xs : List (Option Entry)). list_any is_some (take n xs)) (part_right (entries_in (32 ^ level) kid) (entries_below (32 ^ level) kids) (32 ^ level) (w * 32 ^ level + a) here)
    ∙ window_below level (first + 1) kids w a n (slots_tail level first kid kids slots) fits)

-- ---- known nodes below a node

abbrev pub else_place : Option Place → Option Place → Option Place
else_place None other = other
else_place (Some place) other = Some place

pub place_append : (xs ys : List PlacedNode) (level index : ℕ) → place_in (xs ++ ys) level index ≡ else_place (place_in xs level index) (place_in ys level index)
place_append [] ys level index = refl
place_append (x ∷ xs) ys level index = elim (cases_Bool ((x.level == level) && (x.index == index))) [
  | inl same ↦ rw same refl
  | inr other ↦ rw other (place_append xs ys level index)
]

else_none : (o : Option Place) → else_place o None ≡ o
else_none None = refl
else_none (Some place) = refl

pub place_left : (xs ys : List PlacedNode) (level index : ℕ) → place_in ys level index ≡ None → place_in (xs ++ ys) level index ≡ place_in xs level index
place_left xs ys level index none = place_append xs ys level index ∙ (ap (λ o. else_place (place_in xs level index) o) none ∙ else_none (place_in xs level index))

-- a node that is not below this one
none_under : (level index l i : ℕ) (xs : List PlacedNode) → AllByRecursion (IsUnder level index) xs → (l ≤ level → i / 32 ^ (level - l) ≡ index → ⊥) → place_in xs l i ≡ None
none_under level index l i [] under off = refl
none_under level index l i (x ∷ xs) under off = elim (cases_Bool ((x.level == l) && (x.index == i))) [
  | inl same ↦
      let e = same_names x.level l x.index i same in
      absurd (off (subst (λ k. k ≤ level) e.0 under.0.to) (ap (λ k. i / 32 ^ (level - k)) (sym e.0) ∙ (ap (λ k. k / 32 ^ (level - x.level)) (sym e.1) ∙ under.0.up)))
  | inr other ↦ rw other (none_under level index l i xs under.1 off)
]

none_beside : {A : Type 0} (level first l i : ℕ) (kids : List (Option (Box Branch A))) → AreSlots level first kids → (l ≤ level → i / 32 ^ (level - l) < first) → place_in (known_below kids) l i ≡ None
unfolding known_below
none_beside level first l i [] slots off = refl
none_beside level first l i (kid ∷ kids) slots off =
    place_in-append_none (known_in kid) (known_below kids) l i (none_under level first l i (known_in kid) (under_in level first kid (slots_head level first kid kids slots)) (λ to e. let less = off to in omega arith))
    ∙ none_beside level (first + 1) l i kids (slots_tail level first kid kids slots) (λ to. let less = off to in omega arith)

-- a node below one word
place_below : {A : Type 0} (level first l i w : ℕ) (kids : List (Option (Box Branch A))) → AreSlots level first kids → i / 32 ^ (level - l) ≡ first + w → place_in (known_below kids) l i ≡ place_in (known_in (get_or kids w None)) l i
unfolding known_below
place_below level first l i w [] slots at = refl
place_below level first l i zero (kid ∷ kids) slots at =
    place_left (known_in kid) (known_below kids) l i (none_beside level (first + 1) l i kids (slots_tail level first kid kids slots) (λ to. omega arith))
place_below level first l i (suc w) (kid ∷ kids) slots at =
    place_in-append_none (known_in kid) (known_below kids) l i (none_under level first l i (known_in kid) (under_in level first kid (slots_head level first kid kids slots)) (λ to e. omega arith))
    ∙ place_below level (first + 1) l i w kids (slots_tail level first kid kids slots) (omega arith)

none_here : (place : Option Place) (level index l i : ℕ) → (level ≡ l → ⊥) → place_in (placed_here place level index) l i ≡ None
none_here None level index l i off = refl
none_here (Some place) level index l i off = let e = not_same level l off in rw e refl

-- ---- where a node is looked for

-- the way from a node down to one below it: the levels between them, a word, and the index below that word
pub record IsWay (level index l k down w r : ℕ) : Type 0 where
  pub gap : level - 1 ≡ l + (down - 1)
  pub parts : w * 32 ^ (down - 1) + r ≡ k
  pub low : r < 32 ^ (down - 1)
  pub word : w < 32
  pub name : (32 * index + w) * 32 ^ (down - 1) + r ≡ index * 32 ^ down + k
  pub below : (index * 32 ^ down + k) / 32 ^ (down - 1) ≡ 32 * index + w

pub way : (level index l k w r : ℕ) → 1 ≤ l → l ≤ level → (level ≡ l → ⊥) → k < 32 ^ (level - l) → w ≡ k / 32 ^ (level - l - 1) → r ≡ k % 32 ^ (level - l - 1) → IsWay level index l k (level - l) w r
way level index l k w r from to off less word rest =
    let s = split (level - l) index k (omega arith) less in
    let size = 32 ^ (level - l - 1) in
    record {
      gap = omega arith;
      parts = ap (λ n. n * size + r) word ∙ (ap (λ n. k / size * size + n) rest ∙ s.whole);
      low = subst (λ n. n < size) (sym rest) s.low;
      word = subst (λ n. n < 32) (sym word) s.word;
      name = ap (λ n. (32 * index + n) * size + r) word ∙ (ap (λ n. (32 * index + k / size) * size + n) rest ∙ s.block);
      below = s.below ∙ ap (λ n. 32 * index + n) (sym word);
    }

pub powers : (low high : ℕ) → 32 ^ low * 32 ^ high ≡ 32 ^ (low + high)
powers low high = sym (pow-add low high)
  where
    pow-add : (low high : ℕ) → 32 ^ (low + high) ≡ 32 ^ low * 32 ^ high
    pow-add zero high = let e : zero + high ≡ high = omega arith in ap (λ n. 32 ^ n) e ∙ (let f : 32 ^ high ≡ 1 * 32 ^ high = omega arith in f)
    pow-add (suc low) high =
        let e : suc low + high ≡ suc (low + high) = omega arith in
        ap (λ n. 32 ^ n) e ∙ (pow-succ' 32 (low + high) ∙ (ap (λ n. 32 * n) (pow-add low high) ∙ (sym (mul_assoc 32 (32 ^ low) (32 ^ high)) ∙ ap (λ n. n * 32 ^ high) (sym (pow-succ' 32 low)))))

-- whether it has an entry is told by the child below the word
pub there_below : {A : Type 0} (level index l k down w r : ℕ) (place : Option Place) (words : List (Option Entry)) (kids : List (Option (Box Branch A))) → IsNode level index words kids → (level ≡ 1 → ⊥) → IsWay level index l k down w r
    → exists (branch_of level index place words kids).entries l k ≡ exists (entries_in (32 ^ (level - 1)) (get_or kids w None)) l r
unfolding exists
there_below level index l k down w r place words kids node off way =
    let size = 32 ^ (level - 1) in
    let n = 32 ^ l in
    let power : 32 ^ (down - 1) * n ≡ size = mul_comm (32 ^ (down - 1)) n ∙ (powers l (down - 1) ∙ ap (λ e. 32 ^ e) (sym way.gap)) in
    let at : k * n ≡ w * size + r * n = ap (λ e. e * n) (sym way.parts) ∙ (add-mul (w * 32 ^ (down - 1)) r n ∙ ap (λ e. e + r * n) (mul_assoc w (32 ^ (down - 1)) n ∙ ap (λ e. w * e) power)) in
    let low = way.low in
    let fits : (r + 1) * n ≤ 32 ^ (down - 1) * n = mul-le-mul_right n (omega arith) in
    ap (λ es. list_any is_some (take n (drop (k * n) es))) (inner_is level index place words kids off)
    ∙ (ap (λ e. list_any is_some (take n (drop e (entries_below size kids)))) at
    ∙ window_below (level - 1) (32 * index) kids w (r * n) n node.slots (omega (arith, fits, power, add-mul r 1 n)))

-- and so is where it stands
pub place_is_below : {A : Type 0} (level index l k down w r : ℕ) (place : Option Place) (words : List (Option Entry)) (kids : List (Option (Box Branch A))) → IsNode level index words kids → (level ≡ l → ⊥) → IsWay level index l k down w r
    → place_in (branch_of level index place words kids).known l (index * 32 ^ down + k) ≡ place_in (known_in (get_or kids w None)) l ((32 * index + w) * 32 ^ (down - 1) + r)
place_is_below level index l k down w r place words kids node off way =
    let i = index * 32 ^ down + k in
    let gap : level - 1 - l ≡ down - 1 = (let g = way.gap in omega arith) in
    place_in-append_none (placed_here place level index) (known_below kids) l i (none_here place level index l i off)
    ∙ (place_below (level - 1) (32 * index) l i w kids node.slots (ap (λ e. i / 32 ^ e) gap ∙ way.below)
    ∙ ap (λ n. place_in (known_in (get_or kids w None)) l n) (sym way.name))

-- ---- the node itself

pub first_below : (level l k : ℕ) → level ≡ l → k < 32 ^ (level - l) → k ≡ 0
first_below level l k same less =
    let none : level - l ≡ 0 = omega arith in
    let one : k < 32 ^ 0 = subst (λ n. k < 32 ^ n) none less in
    omega arith

own_name : (level l index k : ℕ) → level ≡ l → k < 32 ^ (level - l) → index * 32 ^ (level - l) + k ≡ index
own_name level l index k same less =
    let none : level - l ≡ 0 = omega arith in
    let zero_is = first_below level l k same less in
    ap (λ n. index * 32 ^ n + k) none ∙ omega (arith, zero_is)

take_whole : (xs : List (Option Entry)) (n : ℕ) → length xs ≤ n → take n xs ≡ xs
take_whole [] zero fits = refl
take_whole [] (suc n) fits = refl
take_whole (x ∷ xs) zero fits = absurd (omega arith)
take_whole (x ∷ xs) (suc n) fits = ap (λ (ys : List (Option Entry)). x ∷ ys) (take_whole xs n (omega arith))

pub there_itself : (b : Branch) (l k : ℕ) → b.level ≡ l → k < 32 ^ (b.level - l) → length b.entries ≡ 32 ^ b.level → list_any is_some b.entries ≡ true → true ≡ exists b.entries l k
unfolding exists
there_itself b l k same less size some =
    let e : k * 32 ^ l ≡ 0 = ap (λ n. n * 32 ^ l) (first_below b.level l k same less) ∙ omega arith in
    sym some ∙ (ap (λ (es : List (Option Entry)). list_any is_some es) (sym (take_whole b.entries (32 ^ l) (omega (arith, size, ap (λ n. 32 ^ n) same)))) ∙ ap (λ n. list_any is_some (take (32 ^ l) (drop n b.entries))) (sym e))

none_lower : {A : Type 0} (level first l i : ℕ) (kids : List (Option (Box Branch A))) → AreSlots level first kids → level < l → place_in (known_below kids) l i ≡ None
none_lower level first l i kids slots less = none_beside level first l i kids slots (λ to. absurd (omega arith))

place_here_is : (place : Option Place) (level index : ℕ) → place ≡ place_in (placed_here place level index) level index
place_here_is None level index = refl
place_here_is (Some place) level index = rw (yes level, yes index) refl

pub place_itself : {A : Type 0} (level index l k : ℕ) (place : Option Place) (words : List (Option Entry)) (kids : List (Option (Box Branch A))) → IsNode level index words kids → level ≡ l → k < 32 ^ (level - l)
    → place ≡ place_in (branch_of level index place words kids).known l (index * 32 ^ (level - l) + k)
place_itself level index l k place words kids node same less =
    let from = node.level_from in
    place_here_is place level index
    ∙ (sym (place_left (placed_here place level index) (known_below kids) level index (none_lower (level - 1) (32 * index) level index kids node.slots (omega arith)))
    ∙ (ap (λ n. place_in (branch_of level index place words kids).known n index) same ∙ ap (λ n. place_in (branch_of level index place words kids).known l n) (sym (own_name level l index k same less))))

-- ---- a node that becomes known

insert_after : (xs old new : List PlacedNode) (node : PlacedNode) → IsInserted old new node → IsInserted (xs ++ old) (xs ++ new) node
insert_after xs old new node h = record {
  front = xs ++ h.front;
  back = h.back;
  was = ap (λ (ys : List PlacedNode). xs ++ ys) h.was ∙ sym (append_assoc xs h.front h.back);
  is = ap (λ (ys : List PlacedNode). xs ++ ys) h.is ∙ sym (append_assoc xs h.front (node ∷ h.back));
}

insert_before : (xs old new : List PlacedNode) (node : PlacedNode) → IsInserted old new node → IsInserted (old ++ xs) (new ++ xs) node
insert_before xs old new node h = record {
  front = h.front;
  back = h.back ++ xs;
  was = ap (λ (ys : List PlacedNode). ys ++ xs) h.was ∙ append_assoc h.front h.back xs;
  is = ap (λ (ys : List PlacedNode). ys ++ xs) h.is ∙ append_assoc h.front (node ∷ h.back) xs;
}

inserted_below : {A : Type 0} (kids : List (Option (Box Branch A))) (w : ℕ) (o : Option (Box Branch A)) (node : PlacedNode) → w < length kids → IsInserted (known_in (get_or kids w None)) (known_in o) node → IsInserted (known_below kids) (known_below (set kids w o)) node
unfolding known_below
inserted_below [] w o node less h = absurd (omega arith)
inserted_below (kid ∷ kids) zero o node less h = insert_before (known_below kids) (known_in kid) (known_in o) node h
inserted_below (kid ∷ kids) (suc w) o node less h = insert_after (known_in kid) (known_below kids) (known_below (set kids w o)) node (inserted_below kids w o node (omega arith) h)

entries_stay : {A : Type 0} (size : ℕ) (kids : List (Option (Box Branch A))) (w : ℕ) (o : Option (Box Branch A)) → entries_in size o ≡ entries_in size (get_or kids w None) → entries_below size (set kids w o) ≡ entries_below size kids
unfolding entries_below
entries_stay size [] w o same = refl
entries_stay size (kid ∷ kids) zero o same = ap (λ (es : List (Option Entry)). es ++ entries_below size kids) same
entries_stay size (kid ∷ kids) (suc w) o same = ap (λ (es : List (Option Entry)). entries_in size kid ++ es) (entries_stay size kids w o same)

under_inserted : (level index : ℕ) (old new : List PlacedNode) (node : PlacedNode) → IsInserted old new node → AllByRecursion (IsUnder level index) old → IsUnder level index node → AllByRecursion (IsUnder level index) new
under_inserted level index old new node h under one =
    subst (AllByRecursion (IsUnder level index)) (sym h.is) (go h.front (subst (AllByRecursion (IsUnder level index)) h.was under))
  where
    go : (front : List PlacedNode) → AllByRecursion (IsUnder level index) (front ++ h.back) → AllByRecursion (IsUnder level index) (front ++ node ∷ h.back)
    go [] p = (one, p)
    go (x ∷ front) p = (p.0, go front p.1)

-- the name of a node is below the node from which it is counted
name_under : (level index l k : ℕ) (place : Place) → l ≤ level → k < 32 ^ (level - l) → IsUnder level index (record { level = l; index = index * 32 ^ (level - l) + k; place = place })
name_under level index l k place to less = record { to = to; up = div-mul-add index (32 ^ (level - l)) k less }

pub branch_settled : (old new : Branch) (l k : ℕ) (place : Place) → IsBranch old → l ≤ old.level → k < 32 ^ (old.level - l) → IsSettledAt old new (record { level = l; index = old.index * 32 ^ (old.level - l) + k; place = place }) → IsBranch new
branch_settled old new l k place is to less h =
    let under = under_inserted old.level old.index old.known new.known (record { level = l; index = old.index * 32 ^ (old.level - l) + k; place = place }) h.known is.under (name_under old.level old.index l k place to less) in
    record {
      level_from = subst (λ n. 1 ≤ n) (sym h.level_same) is.level_from;
      level_to = subst (λ n. n ≤ 4) (sym h.level_same) is.level_to;
      index_to = subst (λ n. (new.index + 1) * 32 ^ n ≤ 1048576) (sym h.level_same) (subst (λ n. (n + 1) * 32 ^ old.level ≤ 1048576) (sym h.index_same) is.index_to);
      size = ap length h.entries_same ∙ (is.size ∙ ap (λ n. 32 ^ n) (sym h.level_same));
      under = subst (λ n. AllByRecursion (IsUnder n new.index) new.known) (sym h.level_same) (subst (λ n. AllByRecursion (IsUnder old.level n) new.known) (sym h.index_same) under);
    }

pub slot_settled : {A : Type 0} (level index : ℕ) (kid new : Box Branch A) (l k : ℕ) (place : Place) → IsKid level index kid.value → l ≤ kid.value.level → k < 32 ^ (kid.value.level - l)
    → IsSettledAt kid.value new.value (record { level = l; index = kid.value.index * 32 ^ (kid.value.level - l) + k; place = place }) → IsSlot level index (Some new)
slot_settled level index kid new l k place is to less h = record {
  level_is = h.level_same ∙ is.level_is;
  index_is = h.index_same ∙ is.index_is;
  branch = branch_settled kid.value new.value l k place is.branch to less h;
  some = ap (λ (es : List (Option Entry)). list_any is_some es) h.entries_same ∙ is.some;
}

-- a node below a word
pub settled_below : {A : Type 0} (level index l k w r : ℕ) (place : Option Place) (there : Place) (words : List (Option Entry)) (kids : List (Option (Box Branch A))) (kid new : Box Branch A) → IsNode level index words kids → (level ≡ 1 → ⊥)
    → IsWay level index l k (level - l) w r → get_or kids w None ≡ Some kid → IsSettledAt kid.value new.value (record { level = l; index = kid.value.index * 32 ^ (kid.value.level - l) + r; place = there })
    → IsSettledAt (branch_of level index place words kids) (branch_of level index place words (set kids w (Some new))) (record { level = l; index = index * 32 ^ (level - l) + k; place = there })
settled_below level index l k w r place there words kids kid new node off way at h =
    let size = 32 ^ (level - 1) in
    let is = kid_at (level - 1) (32 * index) w kids kid node.slots at in
    let long = long_kids level index words kids node off in
    let gap : level - 1 - l ≡ level - l - 1 = omega arith in
    let name : kid.value.index * 32 ^ (kid.value.level - l) + r ≡ index * 32 ^ (level - l) + k =
    ap (λ n. n * 32 ^ (kid.value.level - l) + r) is.index_is ∙ (ap (λ n. (32 * index + w) * 32 ^ (n - l) + r) is.level_is ∙ (ap (λ n. (32 * index + w) * 32 ^ n + r) gap ∙ way.name)) in
    let word = way.word in
    record {
      level_same = refl;
      index_same = refl;
      entries_same =
          inner_is level index place words (set kids w (Some new)) off
          ∙ (entries_stay size kids w (Some new) (h.entries_same ∙ ap (λ o. entries_in size o) (sym at))
          ∙ sym (inner_is level index place words kids off));
      known = insert_after (placed_here place level index) (known_below kids) (known_below (set kids w (Some new))) (record { level = l; index = index * 32 ^ (level - l) + k; place = there })
          (inserted_below kids w (Some new) (record { level = l; index = index * 32 ^ (level - l) + k; place = there }) (omega (arith, long))
          (subst (λ o. IsInserted (known_in o) new.value.known (record { level = l; index = index * 32 ^ (level - l) + k; place = there })) (sym at)
          (subst (λ i. IsInserted kid.value.known new.value.known (record { level = l; index = i; place = there })) name h.known)));
    }

-- where there is no child there is no entry
pub no_child : {A : Type 0} (level index l k down w r : ℕ) (place : Option Place) (words : List (Option Entry)) (kids : List (Option (Box Branch A))) → IsNode level index words kids → (level ≡ 1 → ⊥) → IsWay level index l k down w r → get_or kids w None ≡ None
    → exists (branch_of level index place words kids).entries l k ≡ false
unfolding exists
no_child {A} level index l k down w r place words kids node off way none =
    there_below level index l k down w r place words kids node off way ∙ (ap (λ (o : Option (Box Branch A)). exists (entries_in (32 ^ (level - 1)) o) l r) none ∙ none_from (32 ^ l) (r * 32 ^ l) (32 ^ (level - 1)))

-- ---- a word of a node that is asked

-- the node, and the word below which another is named
pub record IsAsked {A : Type 0} (level index l k w r : ℕ) (kids : List (Option (Box Branch A))) : Type 0 where
  pub above : level ≡ 1 → ⊥
  pub way : IsWay level index l k (level - l) w r
  pub inside : w < length kids
  pub below : l ≤ level - 1
  pub low : r < 32 ^ (level - 1 - l)

pub asked : {A : Type 0} (level index l k w r : ℕ) (place : Option Place) (words : List (Option Entry)) (kids : List (Option (Box Branch A))) (v : Branch) → IsNode level index words kids → branch_of level index place words kids ≡ v
    → 1 ≤ l → l ≤ v.level → (level ≡ l → ⊥) → k < 32 ^ (v.level - l) → w ≡ k / 32 ^ (level - l - 1) → r ≡ k % 32 ^ (level - l - 1) → IsAsked level index l k w r kids
asked level index l k w r place words kids v node view from to off less word rest =
    let own : level ≡ v.level = ap (λ (b : Branch). b.level) view in
    let above : level ≡ 1 → ⊥ = λ e. off (omega arith) in
    let it = way level index l k w r from (omega arith) off (subst (λ n. k < 32 ^ (n - l)) (sym own) less) word rest in
    let long = long_kids level index words kids node above in
    let narrow = it.word in
    let gap : level - l - 1 ≡ level - 1 - l = omega arith in
    record {
      above = above;
      way = it;
      inside = omega arith;
      below = omega arith;
      low = subst (λ n. r < 32 ^ n) gap it.low;
    }

-- what a child tells is what the node tells
pub child_there : {A : Type 0} (level index l k w r : ℕ) (place : Option Place) (words : List (Option Entry)) (kids : List (Option (Box Branch A))) (v b : Branch) (kid : Box Branch A) → IsNode level index words kids → branch_of level index place words kids ≡ v
    → IsAsked level index l k w r kids → get_or kids w None ≡ Some kid → b ≡ kid.value → exists b.entries l r ≡ exists v.entries l k
child_there {A} level index l k w r place words kids v b kid node view at there same =
    ap (λ (b : Branch). exists b.entries l r) same
    ∙ (ap (λ (o : Option (Box Branch A)). exists (entries_in (32 ^ (level - 1)) o) l r) (sym there)
    ∙ (sym (there_below level index l k (level - l) w r place words kids node at.above at.way) ∙ ap (λ (b : Branch). exists b.entries l k) view))

pub child_place : {A : Type 0} (level index l k w r : ℕ) (place : Option Place) (words : List (Option Entry)) (kids : List (Option (Box Branch A))) (v b : Branch) (kid : Box Branch A) → IsNode level index words kids → branch_of level index place words kids ≡ v
    → (level ≡ l → ⊥) → IsAsked level index l k w r kids → get_or kids w None ≡ Some kid → b ≡ kid.value
    → place_in b.known l (b.index * 32 ^ (b.level - l) + r) ≡ place_in v.known l (v.index * 32 ^ (v.level - l) + k)
child_place {A} level index l k w r place words kids v b kid node view off at there same =
    let is = kid_at (level - 1) (32 * index) w kids kid node.slots there in
    let gap : level - 1 - l ≡ level - l - 1 = omega arith in
    ap (λ (b : Branch). place_in b.known l (b.index * 32 ^ (b.level - l) + r)) same
    ∙ (ap (λ n. place_in kid.value.known l (n * 32 ^ (kid.value.level - l) + r)) is.index_is
    ∙ (ap (λ n. place_in kid.value.known l ((32 * index + w) * 32 ^ (n - l) + r)) is.level_is
    ∙ (ap (λ n. place_in kid.value.known l ((32 * index + w) * 32 ^ n + r)) gap
    ∙ (ap (λ (o : Option (Box Branch A)). place_in (known_in o) l ((32 * index + w) * 32 ^ (level - l - 1) + r)) (sym there)
    ∙ (sym (place_is_below level index l k (level - l) w r place words kids node off at.way) ∙ ap (λ (b : Branch). place_in b.known l (b.index * 32 ^ (b.level - l) + k)) view)))))

-- without a child there is nothing
pub nothing_there : {A : Type 0} (level index l k w r : ℕ) (place : Option Place) (words : List (Option Entry)) (kids : List (Option (Box Branch A))) (v : Branch) → IsNode level index words kids → branch_of level index place words kids ≡ v
    → IsAsked level index l k w r kids → get_or kids w None ≡ None → false ≡ exists v.entries l k
nothing_there level index l k w r place words kids v node view at none =
    sym (no_child level index l k (level - l) w r place words kids node at.above at.way none) ∙ ap (λ (b : Branch). exists b.entries l k) view

pub nothing_known : {A : Type 0} (level index l k w r : ℕ) (place : Option Place) (words : List (Option Entry)) (kids : List (Option (Box Branch A))) (v : Branch) → IsNode level index words kids → branch_of level index place words kids ≡ v
    → (level ≡ l → ⊥) → IsAsked level index l k w r kids → get_or kids w None ≡ None → ◌≡◌ {A = Option Place} None (place_in v.known l (v.index * 32 ^ (v.level - l) + k))
nothing_known {A} level index l k w r place words kids v node view off at none =
    ap (λ (o : Option (Box Branch A)). place_in (known_in o) l ((32 * index + w) * 32 ^ (level - l - 1) + r)) (sym none)
    ∙ (sym (place_is_below level index l k (level - l) w r place words kids node off at.way) ∙ ap (λ (b : Branch). place_in b.known l (b.index * 32 ^ (b.level - l) + k)) view)

-- a child as it is asked
pub child_is : {A : Type 0} (level index w : ℕ) (words : List (Option Entry)) (kids : List (Option (Box Branch A))) (b : Branch) (kid : Box Branch A) → IsNode level index words kids → get_or kids w None ≡ Some kid → b ≡ kid.value
    → (b.level ≡ level - 1) × IsKid b.level b.index b
child_is level index w words kids b kid node there same =
    let is = kid_at (level - 1) (32 * index) w kids kid node.slots there in (
      ap (λ (b : Branch). b.level) same ∙ is.level_is,
      record { level_is = refl; index_is = refl; branch = subst IsBranch (sym same) is.branch; some = ap (λ (b : Branch). list_any is_some b.entries) same ∙ is.some },
    )

-- ---- the places of known nodes, one child after the other

next_known : {A : Type 0} (kids : List (Option (Box Branch A))) (i : ℕ) (item : Option (Box Branch A)) → i < length kids → item ≡ get_or kids i item → known_below (drop i kids) ≡ known_in item ++ known_below (drop (i + 1) kids)
unfolding known_below
next_known [] i item less e = absurd (omega arith)
next_known (kid ∷ kids) zero item less e = ap (λ o. known_in o ++ known_below kids) (sym e)
next_known (kid ∷ kids) (suc i) item less e =
    let s : suc i + 1 ≡ suc (i + 1) = omega arith in
    next_known kids i item (omega arith) e ∙ ap (λ n. known_in item ++ known_below (drop n (kid ∷ kids))) (sym s)

pub collect_next : {A : Type 0} (kids : List (Option (Box Branch A))) (i : ℕ) (item : Option (Box Branch A)) (acc all : List Place) → i < length kids → item ≡ get_or kids i item → acc ++ places (known_below (drop i kids)) ≡ all
    → (acc ++ places (known_in item)) ++ places (known_below (drop (i + 1) kids)) ≡ all
collect_next kids i item acc all less e inv =
    append_assoc acc (places (known_in item)) (places (known_below (drop (i + 1) kids)))
    ∙ (ap (λ ps. acc ++ ps) (sym (map-append (λ (node : PlacedNode). node.place) (known_in item) (known_below (drop (i + 1) kids))) ∙ ap places (sym (next_known kids i item less e))) ∙ inv)

pub collect_done : {A : Type 0} (kids : List (Option (Box Branch A))) (i : ℕ) (acc all : List Place) → length kids ≤ i → acc ++ places (known_below (drop i kids)) ≡ all → acc ≡ all
unfolding known_below
collect_done {A} kids i acc all past inv =
    sym (append-nil acc) ∙ (ap (λ (ks : List (Option (Box Branch A))). acc ++ places (flat_map known_in ks)) (sym (drop_all i kids past)) ∙ inv)
