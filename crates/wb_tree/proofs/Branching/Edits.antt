-- What a change of one entry leaves of a tree of boxes: the nodes above the cache block are no longer known, the others
-- stay.
use Rattle.std.proofs.Common.{◌≡◌, ◌≤◌, ◌<◌, ◌+◌, ◌-◌, ◌*◌, ◌/◌, ◌^◌, ◌&&◌, ◌==◌, ◌∙◌, sym, ap, subst, refl, ℕ, zero, suc, true, false, Option, Some, None, Box, List, [], ◌∷◌, length, replicate, take, drop, get_or, set, arith, add-one, inl, inr}
use Rattle.std.specs.Prelude.{IsSome, is_some, slice_set}
use Rattle.std.specs.List.{list_any}
use Rattle.std.proofs.lemmas.Bool.{cases_eq, cases_Bool, eqb-true}
use Rattle.std.proofs.lemmas.List.{length-set, length-take, drop-set-lt, set-get_or}
use Rattle.wb_types.specs.Limits.{depth_of}
use Rattle.wb_types.specs.declared.entry.Entry.{Entry}
use Rattle.wb_types.specs.declared.number.Place.{Place}
use Rattle.wb_types.proofs.Truth.{yes}
use Rattle.wb_tree.specs.declared.placed.PlacedNode.{PlacedNode}
use Rattle.wb_tree.specs.Mapping.{Mapping, Forgets, IsOnPath, IsSound, place_in}
use Rattle.wb_tree.specs.Edits.{IsChangedAt}
use Rattle.wb_tree.specs.Fields.{AreApart}
use Rattle.wb_tree.specs.Branches.{AreBoxes, Branch, IsSlot, boxes_of, entries_in, forget, known_in, rewritten, sole_branch}
use Rattle.wb_tree.proofs.Reading.Grown.{up_block}
use Rattle.wb_tree.proofs.Nodes.Knowing.{none_or_some, same_names}
use Rattle.wb_tree.proofs.Stored.Edited.{edited-once, exists-set}
use Rattle.wb_tree.proofs.Branching.Branches.{slot_rewritten, slot_sole}
use Rattle.wb_tree.proofs.Branching.Slots.{all_none, any_set, length_in}

-- ---- places

-- the tree after a change of one entry
abbrev pub changed_at : Mapping → ℕ → Option Entry → Mapping
changed_at m block v = record { entries = slice_set m.entries block v; known = forget block m.known }

pub forgot_on : (block : ℕ) (known : List PlacedNode) (level index : ℕ) → IsOnPath block level index → place_in (forget block known) level index ≡ None
forgot_on block [] level index on = refl
forgot_on block (node ∷ known) level index on = elim (cases_Bool (block / 32 ^ node.level == node.index)) [
  | inl above ↦ rw above (forgot_on block known level index on)
  | inr off ↦ elim (cases_Bool ((node.level == level) && (node.index == index))) [
    | inl same ↦
        let e = same_names node.level level node.index index same in
        let here : block / 32 ^ node.level ≡ node.index = ap (λ l. block / 32 ^ l) e.0 ∙ (on ∙ sym e.1) in
        let there : (block / 32 ^ node.level == node.index) ≡ true = ap (λ n. n == node.index) here ∙ yes node.index in
        absurd (let both : true ≡ false = sym there ∙ off in cc)
    | inr other ↦ rw (off, other) (forgot_on block known level index on)
  ]
]

pub forgot_off : (block : ℕ) (known : List PlacedNode) (level index : ℕ) → (IsOnPath block level index → ⊥) → place_in (forget block known) level index ≡ place_in known level index
forgot_off block [] level index off = refl
forgot_off block (node ∷ known) level index off = elim (cases_Bool ((node.level == level) && (node.index == index))) [
  | inl same ↦
      let e = same_names node.level level node.index index same in
      elim (cases_Bool (block / 32 ^ node.level == node.index)) [
        | inl above ↦ absurd (off (ap (λ l. block / 32 ^ l) (sym e.0) ∙ (on_it block node above ∙ e.1)))
        | inr beside ↦ rw (beside, same) refl
      ]
  | inr other ↦ elim (cases_Bool (block / 32 ^ node.level == node.index)) [
    | inl above ↦ rw (above, other) (forgot_off block known level index off)
    | inr beside ↦ rw (beside, other) (forgot_off block known level index off)
  ]
]
  where
    on_it : (block : ℕ) (node : PlacedNode) → (block / 32 ^ node.level == node.index) ≡ true → block / 32 ^ node.level ≡ node.index
    on_it block node h = eqb-true (block / 32 ^ node.level) node.index h

-- what is still known was known, and is not above the cache block
pub still_known : (block : ℕ) (known : List PlacedNode) (level index : ℕ) (place : Place) → place_in (forget block known) level index ≡ Some place
    → (IsOnPath block level index → ⊥) × (place_in known level index ≡ Some place)
still_known block known level index place h = elim (cases_eq (block / 32 ^ level) index) [
  | inl on ↦ absurd (none_or_some (place_in (forget block known) level index) place (forgot_on block known level index on) h)
  | inr off ↦ (off, sym (forgot_off block known level index off) ∙ h)
]

forget_none : (block : ℕ) (known : List PlacedNode) (level index : ℕ) → place_in known level index ≡ None → place_in (forget block known) level index ≡ None
forget_none block known level index none = elim (cases_eq (block / 32 ^ level) index) [
  | inl on ↦ forgot_on block known level index on
  | inr off ↦ forgot_off block known level index off ∙ none
]

-- no node comes twice
forget_apart : (block : ℕ) (known : List PlacedNode) → AreApart known → AreApart (forget block known)
forget_apart block [] apart = tt
forget_apart block (node ∷ known) apart = elim (cases_Bool (block / 32 ^ node.level == node.index)) [
  | inl above ↦ rw above (forget_apart block known apart.1)
  | inr off ↦ rw off (forget_none block known node.level node.index apart.0, forget_apart block known apart.1)
]

pub changed-forgets : (m : Mapping) (block : ℕ) (v : Option Entry) → Forgets m (changed_at m block v) block
changed-forgets m block v = record {
  stays = λ level index place h. (still_known block m.known level index place h).1;
  path = λ level index from on. forgot_on block m.known level index on;
}

pub changed-sound : (m : Mapping) (block : ℕ) (v : Option Entry) → IsSound m → IsSound (changed_at m block v)
changed-sound m block v sound = record {
  known_level = λ level index place h.
      let was = sound.known_level level index place (still_known block m.known level index place h).1 in
      (was.0, subst (λ n. level ≤ depth_of n) (sym (length-set m.entries block v)) was.1);
  known_exist = λ level index place h.
      let was = still_known block m.known level index place h in
      exists-set m.entries block v level index was.0 ∙ sound.known_exist level index place was.1;
  known_below = λ level index child place from h below there.
      let was = still_known block m.known (level + 1) index place h in
      let off : IsOnPath block level child → ⊥ = λ on. was.0 (ap (λ n. block / 32 ^ n) (add-one level) ∙ (up_block block level ∙ (ap (λ n. n / 32) on ∙ below))) in
      subst IsSome (sym (forgot_off block m.known level child off))
      (sound.known_below level index child place from was.1 below (sym (exists-set m.entries block v level child off) ∙ there));
  apart = λ level index level' index' place h h'.
      sound.apart level index level' index' place (still_known block m.known level index place h).1 (still_known block m.known level' index' place h').1;
}

pub unknown-sound : (entries : List (Option Entry)) → IsSound (record { entries = entries; known = [] })
unknown-sound entries = record {
  known_level = λ level index place h. absurd cc;
  known_exist = λ level index place h. absurd cc;
  known_below = λ level index child place from h below there. absurd cc;
  apart = λ level index level' index' place h h'. absurd cc;
}

-- ---- the box on top

-- another box on top, after a change of one entry
pub record IsNext {A : Type 0} (depth : ℕ) (root : Option (Box Branch A)) (block : ℕ) (v : Option Entry) (next : Option (Box Branch A)) : Type 0 where
  pub entries : entries_in (32 ^ depth) next ≡ set (entries_in (32 ^ depth) root) block v
  pub known : known_in next ≡ forget block (known_in root)
  pub top : IsSlot depth 0 next

from_first : (block depth : ℕ) → 0 * 32 ^ depth + block ≡ block
from_first block depth = omega arith

forget_top : (block : ℕ) (b : Branch) → b.index ≡ 0 → forget (b.index * 32 ^ b.level + block) b.known ≡ forget block b.known
forget_top block b e = ap (λ n. forget n b.known) (ap (λ n. n * 32 ^ b.level + block) e ∙ from_first block b.level)

pub next_kid : {A : Type 0} (depth : ℕ) (kid new : Box Branch A) (block : ℕ) (v : Option Entry) → IsSlot depth 0 (Some kid) → new.value ≡ rewritten kid.value block v → list_any is_some new.value.entries ≡ true → IsNext depth (Some kid) block v (Some new)
next_kid depth kid new block v slot e some = record {
  entries = ap (λ (b : Branch). b.entries) e;
  known = ap (λ (b : Branch). b.known) e ∙ forget_top block kid.value slot.index_is;
  top = slot_rewritten depth 0 block v kid new slot e some;
}

fits : (depth : ℕ) → depth ≤ 4 → 32 ^ depth ≤ 1048576
fits zero to = omega arith
fits (suc zero) to = omega arith
fits (suc (suc zero)) to = omega arith
fits (suc (suc (suc zero))) to = omega arith
fits (suc (suc (suc (suc zero)))) to = omega arith
fits (suc (suc (suc (suc (suc n))))) to = absurd (omega arith)

pub first_fits : (depth : ℕ) → 1 ≤ depth → depth ≤ 4 → (0 + 1) * 32 ^ depth ≤ 1048576
first_fits depth from to = omega (arith, fits depth to)

pub next_new : {A : Type 0} (depth : ℕ) (new : Box Branch A) (block : ℕ) (entry : Entry) → 1 ≤ depth → depth ≤ 4 → block < 32 ^ depth → new.value ≡ sole_branch depth 0 block entry → IsNext depth None block (Some entry) (Some new)
next_new depth new block entry from to less e = record {
  entries = ap (λ (b : Branch). b.entries) e;
  known = ap (λ (b : Branch). b.known) e;
  top = slot_sole depth 0 block entry new from to (first_fits depth from to) less e;
}

pub next_gone : {A : Type 0} (depth : ℕ) (kid : Box Branch A) (b : Branch) (block : ℕ) → IsSlot depth 0 (Some kid) → b ≡ rewritten kid.value block None → list_any is_some b.entries ≡ false → b.known ≡ [] → IsNext depth (Some kid) block None None
next_gone depth kid b block slot e empty unknown = record {
  entries =
      let long : length b.entries ≡ 32 ^ depth = ap (λ (b : Branch). length b.entries) e ∙ (length-set kid.value.entries block None ∙ (slot.branch.size ∙ ap (λ n. 32 ^ n) slot.level_is)) in
      ap (λ n. replicate n None) (sym long) ∙ (sym (all_none b.entries empty) ∙ ap (λ (b : Branch). b.entries) e);
  known = sym unknown ∙ (ap (λ (b : Branch). b.known) e ∙ forget_top block kid.value slot.index_is);
  top = tt;
}

take_set : {X : Type 0} (xs : List X) (n i : ℕ) (x : X) → i < n → take n (set xs i x) ≡ set (take n xs) i x
take_set xs zero i x less = absurd (omega arith)
take_set [] (suc n) i x less = refl
take_set (y ∷ xs) (suc n) zero x less = refl
take_set (y ∷ xs) (suc n) (suc i) x less = ap (λ ys. y ∷ ys) (take_set xs n i x (omega arith))

same_mapping : (es fs : List (Option Entry)) (ks js : List PlacedNode) → es ≡ fs → ks ≡ js → ◌≡◌ {A = Mapping} (record { entries = es; known = ks }) (record { entries = fs; known = js })
same_mapping es fs ks js p q = cc

-- the tree after it
pub next-tree : {A : Type 0} (cache_blocks depth : ℕ) (root next : Option (Box Branch A)) (block : ℕ) (v : Option Entry) → block < cache_blocks → IsNext depth root block v next
    → boxes_of cache_blocks depth next ≡ changed_at (boxes_of cache_blocks depth root) block v
next-tree cache_blocks depth root next block v less is =
    same_mapping _ _ _ _ (ap (λ es. take cache_blocks es) is.entries ∙ take_set (entries_in (32 ^ depth) root) cache_blocks block v less) is.known

pub next-boxes : {A : Type 0} (cache_blocks depth : ℕ) (root next : Option (Box Branch A)) (block : ℕ) (v : Option Entry) → block < cache_blocks → AreBoxes cache_blocks depth root → IsNext depth root block v next → AreBoxes cache_blocks depth next
next-boxes cache_blocks depth root next block v less are is = record {
  few = are.few;
  from = are.from;
  to = are.to;
  enough = are.enough;
  levels = are.levels;
  top = is.top;
  once = subst AreApart (sym is.known) (forget_apart block (known_in root) are.once);
  sound = subst IsSound (sym (next-tree cache_blocks depth root next block v less is)) (changed-sound (boxes_of cache_blocks depth root) block v are.sound);
  ends = ap (λ es. drop cache_blocks es) is.entries ∙ (drop-set-lt cache_blocks (entries_in (32 ^ depth) root) block v less ∙ are.ends);
}

-- a tree without a box
pub none-boxes : {A : Type 0} (cache_blocks depth : ℕ) → depth ≡ depth_of cache_blocks → cache_blocks ≤ 1048576 → 1 ≤ depth → depth ≤ 4 → cache_blocks ≤ 32 ^ depth → AreBoxes {A = A} cache_blocks depth None
none-boxes {A} cache_blocks depth levels few from to enough = record {
  levels = levels;
  once = tt;
  few = few;
  from = from;
  to = to;
  enough = enough;
  top = tt;
  sound = unknown-sound (take cache_blocks (replicate (32 ^ depth) None));
  ends = drop_replicate cache_blocks (32 ^ depth);
}
  where
    drop_replicate : (m n : ℕ) → drop m (replicate {A = Option Entry} n None) ≡ replicate (n - m) None
    drop_replicate zero n = let e : n - 0 ≡ n = omega arith in ap (λ k. replicate k None) (sym e)
    drop_replicate (suc m) zero = let e : 0 - suc m ≡ 0 = omega arith in ap (λ k. replicate k None) (sym e)
    drop_replicate (suc m) (suc n) = let e : suc n - suc m ≡ n - m = omega arith in drop_replicate m n ∙ ap (λ k. replicate k None) (sym e)

pub none-entries : (m n : ℕ) → m ≤ n → take m (replicate {A = Option Entry} n None) ≡ replicate m None
none-entries zero n less = refl
none-entries (suc m) zero less = absurd (omega arith)
none-entries (suc m) (suc n) less = ap (λ es. None ∷ es) (none-entries m n (omega arith))

-- an entry before the end
pub get-before : (es : List (Option Entry)) (n i : ℕ) → i < n → get_or es i None ≡ get_or (take n es) i None
get-before es zero i less = absurd (omega arith)
get-before [] (suc n) i less = refl
get-before (e ∷ es) (suc n) zero less = refl
get-before (e ∷ es) (suc n) (suc i) less = get-before es n i (omega arith)

pub long-boxes : {A : Type 0} (cache_blocks depth : ℕ) (root : Option (Box Branch A)) → AreBoxes cache_blocks depth root → length (take cache_blocks (entries_in (32 ^ depth) root)) ≡ cache_blocks
long-boxes cache_blocks depth root are =
    let enough = are.enough in
    omega (arith, length-take cache_blocks (entries_in (32 ^ depth) root), length_in depth 0 root are.top)

pub next_set : {A : Type 0} (depth : ℕ) (kid new : Box Branch A) (block : ℕ) (entry : Entry) → IsSlot depth 0 (Some kid) → block < 32 ^ depth → new.value ≡ rewritten kid.value block (Some entry) → IsNext depth (Some kid) block (Some entry) (Some new)
next_set depth kid new block entry slot less e =
    next_kid depth kid new block (Some entry) slot e
    (ap (λ (b : Branch). list_any is_some b.entries) e ∙ any_set kid.value.entries block entry (subst (λ n. block < n) (sym (slot.branch.size ∙ ap (λ n. 32 ^ n) slot.level_is)) less))

-- ---- what a change of one entry promises

pub changed-edit : (m : Mapping) (block : ℕ) (v : Option Entry) → IsSound m → IsChangedAt m (changed_at m block v) block v
changed-edit m block v sound = record {
  entries = refl;
  forgets = changed-forgets m block v;
  others = λ level index off. forgot_off block m.known level index off;
  edited = edited-once m (changed_at m block v) block v sound (changed-sound m block v sound) refl (changed-forgets m block v);
  sound = changed-sound m block v sound;
}

pub inside-boxes : {A : Type 0} (cache_blocks depth : ℕ) (root : Option (Box Branch A)) (old : Mapping) (block : ℕ) → AreBoxes cache_blocks depth root → boxes_of cache_blocks depth root ≡ old → block < length old.entries → block < cache_blocks
inside-boxes cache_blocks depth root old block are view less =
    subst (λ n. block < n) (ap (λ (m : Mapping). length m.entries) (sym view) ∙ long-boxes cache_blocks depth root are) less

pub next-edit : {A : Type 0} (cache_blocks depth : ℕ) (root next : Option (Box Branch A)) (old : Mapping) (block : ℕ) (v : Option Entry) → AreBoxes cache_blocks depth root → boxes_of cache_blocks depth root ≡ old → block < length old.entries → IsNext depth root block v next
    → IsChangedAt old (boxes_of cache_blocks depth next) block v
next-edit cache_blocks depth root next old block v are view less is =
    let e : boxes_of cache_blocks depth next ≡ changed_at old block v =
    next-tree cache_blocks depth root next block v (inside-boxes cache_blocks depth root old block are view less) is ∙ ap (λ m. changed_at m block v) view in
    subst (λ m. IsChangedAt old m block v) (sym e) (changed-edit old block v (subst IsSound view are.sound))

-- the entry is there already
pub same-edit : (m : Mapping) (block : ℕ) (o v : Option Entry) → o ≡ get_or m.entries block None → o ≡ v → m.entries ≡ slice_set m.entries block v
same-edit m block o v here same = sym (set-get_or m.entries block None) ∙ ap (λ e. set m.entries block e) (sym here ∙ same)

pub some_entry_is : (o : Option Entry) → is_some o ≡ true → o ≡ None → ⊥
some_entry_is None h none = absurd cc
some_entry_is (Some e) h none = absurd (let f : ◌≡◌ {A = Option Entry} (Some e) None = none in cc)
