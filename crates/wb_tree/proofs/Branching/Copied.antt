-- Boxes that hold the same as others.
use Rattle.std.proofs.Common.{◌≡◌, ◌<◌, ◌≤◌, ◌+◌, ◌-◌, ◌*◌, ◌^◌, ◌==◌, ◌∙◌, sym, ap, subst, refl, ℕ, Option, Some, None, Box, List, [], ◌∷◌, ◌++◌, length, map, drop, get_or, cond, append_assoc, arith}
use Rattle.std.specs.List.{flat_map}
use Rattle.std.specs.Option.{option_map}
use Rattle.std.proofs.lemmas.List.{length-map, drop_all, drop_more, append-nil}
use Rattle.std.proofs.lemmas.List.{map-append}
use Rattle.std.proofs.Math.ListN.{get_or-map}
use Rattle.wb_types.specs.declared.entry.Entry.{Entry}
use Rattle.wb_types.specs.declared.number.Place.{Place}
use Rattle.wb_tree.specs.declared.placed.PlacedNode.{PlacedNode}
use Rattle.wb_tree.specs.Branches.{Branch, IsKid, IsNode, IsSlot, branch_of, entries_below, entries_in, known_below, known_in, placed_here}

no_branch : (b : Branch) → (let x : Option Branch = None in x) ≡ Some b → ⊥
no_branch b e = cc

same_branch : (b d : Branch) → (let x : Option Branch = Some b in x) ≡ Some d → b ≡ d
same_branch b d e = cc

heads : (x y : Option Branch) (xs ys : List (Option Branch)) → x ∷ xs ≡ y ∷ ys → x ≡ y
heads x y xs ys e = cc

tails : (x y : Option Branch) (xs ys : List (Option Branch)) → x ∷ xs ≡ y ∷ ys → xs ≡ ys
tails x y xs ys e = cc

no_head : (x : Option Branch) (xs : List (Option Branch)) → (let n : List (Option Branch) = [] in n) ≡ x ∷ xs → ⊥
no_head x xs e = cc

module _ {A : Type 0} where
  -- what a box holds, if it is there
  abbrev pub value_in : Option (Box Branch A) → Option Branch
  value_in o = option_map (λ b. b.value) o

  abbrev pub values : List (Option (Box Branch A)) → List (Option Branch)
  values kids = map value_in kids

  pub slot_alike : (level index : ℕ) (o p : Option (Box Branch A)) → value_in o ≡ value_in p → IsSlot level index o → IsSlot level index p
  slot_alike level index o None e s = tt
  slot_alike level index None (Some k) e s = absurd (no_branch k.value e)
  slot_alike level index (Some k) (Some j) e s = subst (λ (b : Branch). IsKid level index b) (same_branch k.value j.value e) s

  entries_one : (size : ℕ) (o p : Option (Box Branch A)) → value_in o ≡ value_in p → entries_in size o ≡ entries_in size p
  entries_one size None None e = refl
  entries_one size None (Some k) e = absurd (no_branch k.value e)
  entries_one size (Some k) None e = absurd (no_branch k.value (sym e))
  entries_one size (Some k) (Some j) e = ap (λ (b : Branch). b.entries) (same_branch k.value j.value e)

  known_one : (o p : Option (Box Branch A)) → value_in o ≡ value_in p → known_in o ≡ known_in p
  known_one None None e = refl
  known_one None (Some k) e = absurd (no_branch k.value e)
  known_one (Some k) None e = absurd (no_branch k.value (sym e))
  known_one (Some k) (Some j) e = ap (λ (b : Branch). b.known) (same_branch k.value j.value e)

  flat_alike : {X : Type 0} (f : Option (Box Branch A) → List X) → ((o p : Option (Box Branch A)) → value_in o ≡ value_in p → f o ≡ f p)
      → (ks js : List (Option (Box Branch A))) → values ks ≡ values js → flat_map f ks ≡ flat_map f js
  flat_alike f one [] [] e = refl
  flat_alike f one [] (j ∷ js) e = absurd (no_head (value_in j) (values js) e)
  flat_alike f one (k ∷ ks) [] e = absurd (no_head (value_in k) (values ks) (sym e))
  flat_alike {X} f one (k ∷ ks) (j ∷ js) e =
      ap (λ (xs : List X). xs ++ flat_map f ks) (one k j (heads (value_in k) (value_in j) (values ks) (values js) e))
      ∙ ap (λ (xs : List X). f j ++ xs) (flat_alike f one ks js (tails (value_in k) (value_in j) (values ks) (values js) e))

  pub branch_alike : (level index : ℕ) (place : Option Place) (words : List (Option Entry)) (ks js : List (Option (Box Branch A))) → values ks ≡ values js
      → branch_of level index place words ks ≡ branch_of level index place words js
  unfolding entries_below known_below
  branch_alike level index place words ks js e =
      let es = flat_alike (entries_in (32 ^ (level - 1))) (entries_one (32 ^ (level - 1))) ks js e in
      let ns = flat_alike known_in known_one ks js e in
      ap (λ (xs : List (Option Entry)). let b : Branch = record { level = level; index = index; entries = cond (level == 1) words xs; known = placed_here place level index ++ flat_map known_in ks } in b) es
      ∙ ap (λ (xs : List PlacedNode). let b : Branch = record { level = level; index = index; entries = cond (level == 1) words (flat_map (entries_in (32 ^ (level - 1))) js); known = placed_here place level index ++ xs } in b) ns

  none_left : (js : List (Option (Box Branch A))) → (let n : List (Option Branch) = [] in n) ≡ values js → js ≡ []
  none_left [] e = refl
  none_left (j ∷ js) e = absurd (no_head (value_in j) (values js) e)

  pub node_alike : (level index : ℕ) (words : List (Option Entry)) (ks js : List (Option (Box Branch A))) → values ks ≡ values js → IsNode level index words ks → IsNode level index words js
  node_alike level index words ks js e n = record {
    level_from = n.level_from;
    level_to = n.level_to;
    index_to = n.index_to;
    leaf = λ one. none_left js (ap (λ (xs : List (Option (Box Branch A))). values xs) (sym (n.leaf one)) ∙ e);
    inner = λ more. omega (arith, n.inner more, length-map ks value_in, length-map js value_in, ap (λ (xs : List (Option Branch)). length xs) e);
    slots = λ j. slot_alike (level - 1) (32 * index + j) (get_or ks j None) (get_or js j None)
        (sym (get_or-map value_in ks j None) ∙ ap (λ (xs : List (Option Branch)). get_or xs j None) e ∙ get_or-map value_in js j None) (n.slots j);
  }

  -- so many boxes were copied
  pub one_copied : (all copies : List (Option (Box Branch A))) (i : ℕ) (item copy : Option (Box Branch A)) → i < length all → item ≡ get_or all i item → value_in copy ≡ value_in item
      → values copies ++ values (drop i all) ≡ values all → values (copies ++ copy ∷ []) ++ values (drop (i + 1) all) ≡ values all
  one_copied all copies i item copy less is same before =
      ap (λ (xs : List (Option Branch)). xs ++ values (drop (i + 1) all)) (map-append value_in copies (copy ∷ []))
      ∙ append_assoc (values copies) (value_in copy ∷ []) (values (drop (i + 1) all))
      ∙ ap (λ (x : Option Branch). values copies ++ x ∷ values (drop (i + 1) all)) (same ∙ ap (λ (o : Option (Box Branch A)). value_in o) is)
      ∙ ap (λ (xs : List (Option (Box Branch A))). values copies ++ values xs) (sym (drop_more all i item less))
      ∙ before

  pub all_copied : (all copies : List (Option (Box Branch A))) (i : ℕ) → length all ≤ i → values copies ++ values (drop i all) ≡ values all → values all ≡ values copies
  all_copied all copies i past same =
      sym same ∙ ap (λ (xs : List (Option (Box Branch A))). values copies ++ values xs) (drop_all i all past) ∙ append-nil (values copies)
