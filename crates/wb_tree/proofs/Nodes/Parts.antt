-- A part of a list, as far as there is one.
use Rattle.std.proofs.Common.{◌≡◌, ◌+◌, ◌-◌, ◌∙◌, sym, refl, ℕ, List, [], min, take, drop, length, arith, inl, inr}
use Rattle.std.proofs.lemmas.Bool.{cases_lt}
use Rattle.std.proofs.lemmas.List.{take_all, drop_all, length-drop}

-- both ends of a part are cut at the end of the list
pub part-is : {X : Type 0} (xs : List X) (a n : ℕ) → take (min (a + n) (length xs) - min a (length xs)) (drop (min a (length xs)) xs) ≡ take n (drop a xs)
part-is {X} xs a n = elim (cases_lt (length xs) a) [
  | inl past ↦
      let e : min a (length xs) ≡ length xs = omega arith in
      let none : drop a xs ≡ [] = drop_all a xs (omega arith) in
      let none' : drop (length xs) xs ≡ [] = drop_all (length xs) xs (omega arith) in
      rw (e, none, none') (take_all (min (a + n) (length xs) - length xs) [] (omega arith) ∙ sym (take_all n [] (omega arith)))
  | inr inside ↦
      let e : min a (length xs) ≡ a = omega arith in
      elim (cases_lt (length xs) (a + n)) [
        | inl cut ↦
            let f : min (a + n) (length xs) - a ≡ length xs - a = omega arith in
            rw (e, f) (take_all (length xs - a) (drop a xs) (omega (arith, length-drop a xs)) ∙ sym (take_all n (drop a xs) (omega (arith, length-drop a xs))))
        | inr whole ↦ let f : min (a + n) (length xs) - a ≡ n = omega arith in rw (e, f) refl
      ]
]
