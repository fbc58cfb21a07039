-- A policy that was told of a tree's entries knows its mapping.
use Rattle.std.proofs.Common.{◌≡◌, ◌∙◌, ℕ, zero, suc, List, [], ◌∷◌, Option, Some, None, get_or, refl, sym, ap, subst}
use Rattle.std.specs.Prelude.{slice_get}
use Rattle.wb_types.specs.declared.entry.Entry.{Entry}
use Rattle.wb_types.specs.declared.number.OBlock.{OBlock}
use Rattle.wb_tree.specs.Mapping.{IsMapping}
use Rattle.wb_policy.specs.Law.{Holdings, origins, IsMapping as IsPolicyMapping}

entry_there : (entries : List (Option Entry)) (at block : ℕ) → slice_get (origins entries) at ≡ Some (Some block) → (e : Entry) × (get_or entries at None ≡ Some e) × (e.origin.0 ≡ block)
entry_there [] at block h = absurd cc
entry_there (None ∷ entries) zero block h = absurd cc
entry_there (Some e ∷ entries) zero block h = (e, refl, cc)
entry_there (x ∷ entries) (suc at) block h = entry_there entries at block h

same_origin : (x y : OBlock) → x.0 ≡ y.0 → x ≡ y
same_origin x y e = ap (λ (n : ℕ). let b : OBlock = record { 0 = n } in b) e

-- no block stands twice, so it is a mapping to the policy too
pub known_mapping : (knows : Holdings → Type 0) (n m : ℕ) (told entries : List (Option Entry)) → origins told ≡ origins entries → IsMapping n m entries → (IsPolicyMapping (origins told) → knows (origins told)) → knows (origins entries)
known_mapping knows n m told entries same mapping told_of =
    subst knows same (told_of (subst IsPolicyMapping (sym same) once))
  where
    once : IsPolicyMapping (origins entries)
    once block at other p q =
        let x = entry_there entries at block p in
        let y = entry_there entries other block q in
        mapping.once at other x.0 y.0 x.1 y.1 (same_origin x.0.origin y.0.origin (x.2 ∙ sym y.2))
