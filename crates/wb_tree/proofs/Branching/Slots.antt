-- What the words of a node above the leaves say together: the entries and the known nodes below it.
use Rattle.std.proofs.Common.{◌≡◌, ◌≤◌, ◌<◌, ◌+◌, ◌-◌, ◌*◌, ◌/◌, ◌^◌, ◌∙◌, ◌==◌, ◌||◌, sym, ap, subst, refl, ℕ, zero, suc, true, false, Option, Some, None, Box, List, [], ◌∷◌, ◌++◌, length, replicate, get_or, set, arith, inl, inr}
use Rattle.std.specs.Prelude.{is_some}
use Rattle.std.specs.List.{list_any, AllByRecursion}
use Rattle.std.proofs.lemmas.Bool.{cases_eq, cases_Bool, eqb-true}
use Rattle.std.proofs.lemmas.List.{get_or_append_left, get_or-append-add, set-append_left, set-append_right, get_or-set_same, get_or-set_other, length-append, length-replicate}
use Rattle.std.proofs.lemmas.List.Folds.{list_any-append}
use Rattle.std.proofs.Math.Nat.{mul_assoc, pow-succ', div-div-eq-div-mul}
use Rattle.wb_types.specs.declared.entry.Entry.{Entry}
use Rattle.wb_tree.specs.declared.placed.PlacedNode.{PlacedNode}
use Rattle.wb_tree.specs.Branches.{Branch, IsSlot, IsUnder, entries_below, entries_in, forget, known_below, known_in}
use Rattle.wb_types.proofs.Lists.{replicate_at}

-- what stands at the words of a node whose first child has this index
abbrev pub AreSlots : {A : Type 0} → ℕ → ℕ → List (Option (Box Branch A)) → Type 0
AreSlots level first kids = (j : ℕ) → IsSlot level (first + j) (get_or kids j None)

pub slots_tail : {A : Type 0} (level first : ℕ) (kid : Option (Box Branch A)) (kids : List (Option (Box Branch A))) → AreSlots level first (kid ∷ kids) → AreSlots level (first + 1) kids
slots_tail level first kid kids slots j =
    let e : first + suc j ≡ first + 1 + j = omega arith in subst (λ i. IsSlot level i (get_or kids j None)) e (slots (suc j))

pub slots_head : {A : Type 0} (level first : ℕ) (kid : Option (Box Branch A)) (kids : List (Option (Box Branch A))) → AreSlots level first (kid ∷ kids) → IsSlot level first kid
slots_head level first kid kids slots = let e : first + 0 ≡ first = omega arith in subst (λ i. IsSlot level i kid) e (slots 0)

pub slots_set : {A : Type 0} (level first w : ℕ) (kids : List (Option (Box Branch A))) (o : Option (Box Branch A)) → w < length kids → AreSlots level first kids → IsSlot level (first + w) o → AreSlots level first (set kids w o)
slots_set {A} level first w kids o less slots slot j = elim (cases_eq j w) [
  | inl here ↦ subst (λ i. IsSlot level (first + i) (get_or (set kids w o) i None)) (sym here) (subst (IsSlot level (first + w)) (sym (get_or-set_same kids w o None less)) slot)
  | inr off ↦ subst (IsSlot level (first + j)) (sym (get_or-set_other kids w j o None off)) (slots j)
]

-- ---- entries

pub length_in : {A : Type 0} (level index : ℕ) (o : Option (Box Branch A)) → IsSlot level index o → length (entries_in (32 ^ level) o) ≡ 32 ^ level
length_in level index None slot = length-replicate (32 ^ level) None
length_in level index (Some kid) slot = slot.branch.size ∙ ap (λ k. 32 ^ k) slot.level_is

pub length_below : {A : Type 0} (level first : ℕ) (kids : List (Option (Box Branch A))) → AreSlots level first kids → length (entries_below (32 ^ level) kids) ≡ length kids * 32 ^ level
unfolding entries_below
length_below level first [] slots = omega arith
length_below level first (kid ∷ kids) slots =
    let here = length_in level first kid (slots_head level first kid kids slots) in
    let rest = length_below level (first + 1) kids (slots_tail level first kid kids slots) in
    omega (arith, length-append (entries_in (32 ^ level) kid) (entries_below (32 ^ level) kids), here, rest)

pub get_below : {A : Type 0} (level first : ℕ) (kids : List (Option (Box Branch A))) (w r : ℕ) → AreSlots level first kids → r < 32 ^ level
    → get_or (entries_below (32 ^ level) kids) (w * 32 ^ level + r) None ≡ get_or (entries_in (32 ^ level) (get_or kids w None)) r None
unfolding entries_below
get_below level first [] w r slots less = sym (replicate_at (32 ^ level) r None)
get_below level first (kid ∷ kids) zero r slots less =
    let here = length_in level first kid (slots_head level first kid kids slots) in
    let e : 0 * 32 ^ level + r ≡ r = omega arith in
    ap (λ i. get_or (entries_in (32 ^ level) kid ++ entries_below (32 ^ level) kids) i None) e
    ∙ get_or_append_left (entries_in (32 ^ level) kid) (entries_below (32 ^ level) kids) None r (omega (arith, here))
get_below level first (kid ∷ kids) (suc w) r slots less =
    let here = length_in level first kid (slots_head level first kid kids slots) in
    let e : suc w * 32 ^ level + r ≡ length (entries_in (32 ^ level) kid) + (w * 32 ^ level + r) = omega (arith, here) in
    ap (λ i. get_or (entries_in (32 ^ level) kid ++ entries_below (32 ^ level) kids) i None) e
    ∙ (get_or-append-add (entries_in (32 ^ level) kid) (entries_below (32 ^ level) kids) (w * 32 ^ level + r) None
    ∙ get_below level (first + 1) kids w r (slots_tail level first kid kids slots) less)

pub set_below : {A : Type 0} (level first : ℕ) (kids : List (Option (Box Branch A))) (w r : ℕ) (o : Option (Box Branch A)) (v : Option Entry) → AreSlots level first kids → r < 32 ^ level → w < length kids
    → entries_in (32 ^ level) o ≡ set (entries_in (32 ^ level) (get_or kids w None)) r v
    → entries_below (32 ^ level) (set kids w o) ≡ set (entries_below (32 ^ level) kids) (w * 32 ^ level + r) v
unfolding entries_below
set_below level first [] w r o v slots less inside is = absurd (omega arith)
set_below level first (kid ∷ kids) zero r o v slots less inside is =
    let here = length_in level first kid (slots_head level first kid kids slots) in
    let e : 0 * 32 ^ level + r ≡ r = omega arith in
    ap (λ es. es ++ entries_below (32 ^ level) kids) is
    ∙ (sym (set-append_left (entries_in (32 ^ level) kid) (entries_below (32 ^ level) kids) r v (omega (arith, here)))
    ∙ ap (λ i. set (entries_in (32 ^ level) kid ++ entries_below (32 ^ level) kids) i v) (sym e))
set_below level first (kid ∷ kids) (suc w) r o v slots less inside is =
    let here = length_in level first kid (slots_head level first kid kids slots) in
    let e : suc w * 32 ^ level + r - 32 ^ level ≡ w * 32 ^ level + r = omega arith in
    ap (λ es. entries_in (32 ^ level) kid ++ es) (set_below level (first + 1) kids w r o v (slots_tail level first kid kids slots) less (omega arith) is
    ∙ ap (λ i. set (entries_below (32 ^ level) kids) i v) (sym e))
    ∙ sym (set-append_right (entries_in (32 ^ level) kid) (entries_below (32 ^ level) kids) (32 ^ level) (suc w * 32 ^ level + r) v here (omega arith))

-- ---- whether there are entries

pub none_any : (n : ℕ) → list_any is_some (replicate {A = Option Entry} n None) ≡ false
none_any zero = refl
none_any (suc n) = none_any n

pub any_in : {A : Type 0} (level index : ℕ) (o : Option (Box Branch A)) → IsSlot level index o → list_any is_some (entries_in (32 ^ level) o) ≡ is_some o
any_in level index None slot = none_any (32 ^ level)
any_in level index (Some kid) slot = slot.some

-- a node has an entry exactly where it has a child
pub any_below : {A : Type 0} (level first : ℕ) (kids : List (Option (Box Branch A))) → AreSlots level first kids → list_any is_some (entries_below (32 ^ level) kids) ≡ list_any is_some kids
unfolding entries_below
any_below level first [] slots = refl
any_below level first (kid ∷ kids) slots =
    list_any-append is_some (entries_in (32 ^ level) kid) (entries_below (32 ^ level) kids)
    ∙ (ap (λ b. b || list_any is_some (entries_below (32 ^ level) kids)) (any_in level first kid (slots_head level first kid kids slots))
    ∙ ap (λ b. is_some kid || b) (any_below level (first + 1) kids (slots_tail level first kid kids slots)))

pub no_entry : (x : Option Entry) (xs : List (Option Entry)) → list_any is_some (x ∷ xs) ≡ false → (x ≡ None) × (list_any is_some xs ≡ false)
no_entry None xs e = (refl, e)
no_entry (Some x) xs e = absurd cc

-- entries of which there are none
pub all_none : (xs : List (Option Entry)) → list_any is_some xs ≡ false → xs ≡ replicate (length xs) None
all_none [] e = refl
all_none (x ∷ xs) e = let both = no_entry x xs e in ap (λ y. y ∷ xs) both.0 ∙ ap (λ ys. None ∷ ys) (all_none xs both.1)

-- an entry that was set is one
pub any_set : (xs : List (Option Entry)) (i : ℕ) (entry : Entry) → i < length xs → list_any is_some (set xs i (Some entry)) ≡ true
any_set [] i entry less = absurd (omega arith)
any_set (x ∷ xs) zero entry less = refl
any_set (None ∷ xs) (suc i) entry less = any_set xs i entry (omega arith)
any_set (Some x ∷ xs) (suc i) entry less = refl

-- ---- known nodes

pub AllByRecursion-append : {X : Type 0} (P : X → Type 0) (xs ys : List X) → AllByRecursion P xs → AllByRecursion P ys → AllByRecursion P (xs ++ ys)
AllByRecursion-append P [] ys p q = q
AllByRecursion-append P (x ∷ xs) ys p q = (p.0, AllByRecursion-append P xs ys p.1 q)

pub AllByRecursion-weaker : {X : Type 0} (P Q : X → Type 0) → ((x : X) → P x → Q x) → (xs : List X) → AllByRecursion P xs → AllByRecursion Q xs
AllByRecursion-weaker P Q f [] p = tt
AllByRecursion-weaker P Q f (x ∷ xs) p = (f x p.0, AllByRecursion-weaker P Q f xs p.1)

pub not_same : (a b : ℕ) → (a ≡ b → ⊥) → (a == b) ≡ false
not_same a b off = elim (cases_Bool (a == b)) [
  | inl same ↦ absurd (off (eqb-true a b same))
  | inr other ↦ other
]

pub forget-append : (block : ℕ) (xs ys : List PlacedNode) → forget block (xs ++ ys) ≡ forget block xs ++ forget block ys
forget-append block [] ys = refl
forget-append block (x ∷ xs) ys = elim (cases_Bool (block / 32 ^ x.level == x.index)) [
  | inl same ↦ rw same (forget-append block xs ys)
  | inr other ↦ rw other (ap (λ zs. x ∷ zs) (forget-append block xs ys))
]

-- the cache block is below none of these nodes
pub forget_none : (block : ℕ) (xs : List PlacedNode) → AllByRecursion (λ node. block / 32 ^ node.level ≡ node.index → ⊥) xs → forget block xs ≡ xs
forget_none block [] off = refl
forget_none block (x ∷ xs) off = rw (not_same _ _ off.0) (ap (λ zs. x ∷ zs) (forget_none block xs off.1))

-- what is below a node is below those above it
pub up_from : (block low high : ℕ) → low ≤ high → block / 32 ^ low / 32 ^ (high - low) ≡ block / 32 ^ high
up_from block low high le =
    div-div-eq-div-mul block (32 ^ low) (32 ^ (high - low)) ∙ ap (λ n. block / n) (powers low high le)
  where
    powers : (low high : ℕ) → low ≤ high → 32 ^ low * 32 ^ (high - low) ≡ 32 ^ high
    powers zero high le = let e : high - 0 ≡ high = omega arith in ap (λ n. 1 * 32 ^ n) e ∙ (let f : 1 * 32 ^ high ≡ 32 ^ high = omega arith in f)
    powers (suc low) zero le = absurd (omega arith)
    powers (suc low) (suc high) le =
        let e : suc high - suc low ≡ high - low = omega arith in
        let h = powers low high (omega arith) in
        ap (λ n. 32 ^ suc low * 32 ^ n) e ∙ ap (λ n. n * 32 ^ (high - low)) (pow-succ' 32 low)
        ∙ (let f : 32 * 32 ^ low * 32 ^ (high - low) ≡ 32 * (32 ^ low * 32 ^ (high - low)) = mul_assoc 32 (32 ^ low) (32 ^ (high - low)) in f ∙ (ap (λ n. 32 * n) h ∙ sym (pow-succ' 32 high)))

pub off_under : (block level index : ℕ) → (block / 32 ^ level ≡ index → ⊥) → (node : PlacedNode) → IsUnder level index node → block / 32 ^ node.level ≡ node.index → ⊥
off_under block level index off node under on =
    off (sym (up_from block node.level level under.to) ∙ (ap (λ n. n / 32 ^ (level - node.level)) on ∙ under.up))

pub under_in : {A : Type 0} (level index : ℕ) (o : Option (Box Branch A)) → IsSlot level index o → AllByRecursion (IsUnder level index) (known_in o)
under_in level index None slot = tt
under_in level index (Some kid) slot =
    subst (λ l. AllByRecursion (IsUnder l index) kid.value.known) slot.level_is (subst (λ i. AllByRecursion (IsUnder kid.value.level i) kid.value.known) slot.index_is slot.branch.under)

-- a cache block that is not below a word
pub forget_in : {A : Type 0} (block level index : ℕ) (o : Option (Box Branch A)) → IsSlot level index o → (block / 32 ^ level ≡ index → ⊥) → forget block (known_in o) ≡ known_in o
forget_in block level index o slot off =
    forget_none block (known_in o) (AllByRecursion-weaker (IsUnder level index) (λ node. block / 32 ^ node.level ≡ node.index → ⊥) (off_under block level index off) (known_in o) (under_in level index o slot))

pub forget_beside : {A : Type 0} (block level first : ℕ) (kids : List (Option (Box Branch A))) → AreSlots level first kids → block / 32 ^ level < first → forget block (known_below kids) ≡ known_below kids
unfolding known_below
forget_beside block level first [] slots before = refl
forget_beside block level first (kid ∷ kids) slots before =
    forget-append block (known_in kid) (known_below kids)
    ∙ (ap (λ xs. xs ++ forget block (known_below kids)) (forget_in block level first kid (slots_head level first kid kids slots) (λ e. omega arith))
    ∙ ap (λ xs. known_in kid ++ xs) (forget_beside block level (first + 1) kids (slots_tail level first kid kids slots) (omega arith)))

-- a change of the word above a cache block
pub forget_below : {A : Type 0} (block level first : ℕ) (kids : List (Option (Box Branch A))) (w : ℕ) (o : Option (Box Branch A)) → AreSlots level first kids → block / 32 ^ level ≡ first + w → w < length kids
    → known_in o ≡ forget block (known_in (get_or kids w None)) → known_below (set kids w o) ≡ forget block (known_below kids)
unfolding known_below
forget_below block level first [] w o slots at inside is = absurd (omega arith)
forget_below block level first (kid ∷ kids) zero o slots at inside is =
    ap (λ xs. xs ++ known_below kids) is
    ∙ (ap (λ xs. forget block (known_in kid) ++ xs) (sym (forget_beside block level (first + 1) kids (slots_tail level first kid kids slots) (omega arith)))
    ∙ sym (forget-append block (known_in kid) (known_below kids)))
forget_below block level first (kid ∷ kids) (suc w) o slots at inside is =
    ap (λ xs. known_in kid ++ xs) (forget_below block level (first + 1) kids w o (slots_tail level first kid kids slots) (omega arith) (omega arith) is)
    ∙ (ap (λ xs. xs ++ forget block (known_below kids)) (sym (forget_in block level first kid (slots_head level first kid kids slots) (λ e. omega arith)))
    ∙ sym (forget-append block (known_in kid) (known_below kids)))
