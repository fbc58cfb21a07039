-- Lists of mapped blocks by rising cache block.
use Rattle.std.proofs.Common.{◌≡◌, ◌<◌, ◌≤◌, ◌+◌, ◌-◌, inl, inr, ℕ, zero, suc, List, [], ◌∷◌, ◌++◌, Option, Some, None, length, get_or, slice_get, ap, subst, ◌∙◌, arith}
use Rattle.std.specs.Option.{option_map}
use Rattle.std.specs.List.Sorted.{IsNonDecreasingBy}
use Rattle.std.proofs.lemmas.Bool.{cases_lt}
use Rattle.std.proofs.lemmas.List.{length_push}
use Rattle.std.proofs.lemmas.List.Sorted.{IsNonDecreasingBy-push}
use Rattle.std.proofs.lemmas.List.Elements.{Contains-push_cases}
use Rattle.wb_types.specs.declared.entry.Entry.{Entry}
use Rattle.wb_types.specs.declared.number.CBlock.{CBlock}
use Rattle.wb_types.specs.declared.number.OBlock.{OBlock}
use Rattle.wb_policy.specs.Law.{Holdings, origins, IsMappedAt, AreMapped}

-- the list holds mapped blocks of cache blocks below this one, by rising cache block
pub record AreSeen (mapping : Holdings) (c : ℕ) (seen : List (CBlock × OBlock)) : Type 0 where
  pub mapped : AreMapped mapping seen
  pub rising : IsNonDecreasingBy (λ (e : CBlock × OBlock). e.0.0) seen
  pub below : (d : CBlock × OBlock) (i : ℕ) → i < length seen → (get_or seen i d).0.0 < c

pub seen_later : (mapping : Holdings) (c : ℕ) (seen : List (CBlock × OBlock)) → AreSeen mapping c seen → AreSeen mapping (c + 1) seen
seen_later mapping c seen s = record { mapped = s.mapped; rising = s.rising; below = λ d i l. omega (arith, s.below d i l) }

pub there : (entries : List (Option Entry)) (c : ℕ) (e : Entry) → get_or entries c None ≡ Some e → slice_get (origins entries) c ≡ Some (Some e.origin.0)
there [] c e q = absurd cc
there (x ∷ xs) zero e q = ap (λ (o : Option Entry). Some (option_map (λ (y : Entry). y.origin.0) o)) q
there (x ∷ xs) (suc c) e q = there xs c e q

last_of : (xs : List (CBlock × OBlock)) (y d : CBlock × OBlock) → get_or (xs ++ y ∷ []) (length xs) d ≡ y
last_of [] y d = cc
last_of (x ∷ xs) y d = last_of xs y d

before_last : (xs : List (CBlock × OBlock)) (y d : CBlock × OBlock) (i : ℕ) → i < length xs → get_or (xs ++ y ∷ []) i d ≡ get_or xs i d
before_last [] y d i l = absurd (omega (arith, l))
before_last (x ∷ xs) y d zero l = cc
before_last (x ∷ xs) y d (suc i) l = before_last xs y d i (omega (arith, l))

pub seen_one : (mapping : Holdings) (c : CBlock) (b : OBlock) (seen : List (CBlock × OBlock)) → IsMappedAt mapping b.0 c.0 → AreSeen mapping c.0 seen → AreSeen mapping (c.0 + 1) (seen ++ (c, b) ∷ [])
seen_one mapping c o seen at s = record { mapped = mapped; rising = IsNonDecreasingBy-push (λ (x : CBlock × OBlock). x.0.0) seen (c, o) s.rising (λ d l. omega (arith, s.below d (length seen - 1) (omega (arith, l)))); below = below }
  where
    mapped : AreMapped mapping (seen ++ (c, o) ∷ [])
    mapped k b has = elim (Contains-push_cases seen (c, o) (k, b) has) [
      | inl h ↦ s.mapped k b h
      | inr q ↦ subst (λ (x : CBlock × OBlock). IsMappedAt mapping x.1.0 x.0.0) q at
    ]

    below : (d : CBlock × OBlock) (i : ℕ) → i < length (seen ++ (c, o) ∷ []) → (get_or (seen ++ (c, o) ∷ []) i d).0.0 < c.0 + 1
    below d i l = elim (cases_lt i (length seen)) [
      | inl h ↦ omega (arith, ap (λ (x : CBlock × OBlock). x.0.0) (before_last seen (c, o) d i h), s.below d i h)
      | inr h ↦ omega (arith, ap (λ (x : CBlock × OBlock). x.0.0) (ap (λ (n : ℕ). get_or (seen ++ (c, o) ∷ []) n d) (same h) ∙ last_of seen (c, o) d))
    ]
      where
        same : length seen ≤ i → i ≡ length seen
        same h = omega (arith, h, l, length_push seen (let x : CBlock × OBlock = (c, o) in x))
