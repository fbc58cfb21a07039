-- An empty cache fits its device.
use Rattle.std.proofs.Common.{◌≡◌, inl, inr, ℕ, zero, suc, List, [], ◌∷◌, Option, Some, None, get_or, map, replicate, refl, sym, ap, subst, ◌∙◌, arith}
use Rattle.std.proofs.lemmas.Bool.{cases_lt}
use Rattle.std.proofs.lemmas.List.{length-replicate, get_or-replicate, get_or_past}
use Rattle.std.specs.Prelude.{slice_get}
use Rattle.std.specs.List.{IsDistinct}
use Rattle.wb_types.specs.declared.entry.Entry.{Entry}
use Rattle.wb_types.specs.declared.number.Place.{Place}
use Rattle.wb_format.specs.declared.root.Root.{Root}
use Rattle.wb_format.specs.NodeWords.{kept}
use Rattle.wb_tree.specs.declared.placed.PlacedNode.{PlacedNode}
use Rattle.wb_tree.specs.Mapping.{Mapping, IsMapping, IsSound, place_in}
use Rattle.wb_policy.specs.Law.{Holdings, origins, IsMapping as IsPolicyMapping}
use Rattle.wb_meta.specs.Reads.{FitsDevice}
use Rattle.wb_tree.proofs.Images.PlanSteps.{kept_nones}
use Rattle.wb_desk.proofs.Keeping.{keeps_tree}

pub none_there : (known : List PlacedNode) → known ≡ [] → (level index : ℕ) (p : Place) → place_in known level index ≡ Some p → ⊥
none_there [] e level index p k = absurd cc
none_there (n ∷ ns) e level index p k = absurd cc

-- no block is mapped
no_mapping : (n m : ℕ) → IsMapping n m (replicate n None)
no_mapping n m = record {
  size = length-replicate {A = Option Entry} n None;
  within = λ b x g. absurd (nothing x (sym (none_at b) ∙ g));
  once = λ b k x y g q o. absurd (nothing x (sym (none_at b) ∙ g));
}
  where
    none_at : (b : ℕ) → get_or (replicate n None) b (let d : Option Entry = None in d) ≡ None
    none_at b = elim (cases_lt b n) [
      | inl i ↦ get_or-replicate {A = Option Entry} n b None None i
      | inr p ↦ get_or_past (replicate n None) b None (omega (arith, p, length-replicate {A = Option Entry} n None))
    ]

    nothing : (x : Entry) → (let d : Option Entry = None in d) ≡ Some x → ⊥
    nothing x s = cc

-- an empty tree
pub no_entry : (root : Root) (tree : Mapping) → tree.entries ≡ replicate root.geometry.cache_blocks None → tree.known ≡ [] → IsSound tree
    → FitsDevice root.geometry.meta_sectors root tree []
unfolding IsDistinct
no_entry root tree empty unknown sound = record {
  size = refl;
  mapping = subst (λ (xs : List (Option Entry)). IsMapping root.geometry.cache_blocks root.geometry.origin_blocks xs) (sym empty) (no_mapping root.geometry.cache_blocks root.geometry.origin_blocks);
  sound = sound;
  inside = λ p at. absurd (none_there tree.known unknown at.level at.index p at.known);
  known_used = λ p at. absurd (none_there tree.known unknown at.level at.index p at.known);
  used_are = record { from = tt; to = tt; apart = tt };
  used_few = omega arith;
  keeps = keeps_tree root.geometry.version tree (ap (λ (es : List (Option Entry)). map (kept root.geometry.version) es) empty ∙ kept_nones root.geometry.version root.geometry.cache_blocks ∙ sym empty);
}

none_stands : (n at block : ℕ) → slice_get (origins (replicate n None)) at ≡ Some (Some block) → ⊥
none_stands zero at block e = absurd cc
none_stands (suc n) zero block e = absurd cc
none_stands (suc n) (suc at) block e = none_stands n at block e

-- a policy that was told of no entry knows an empty tree
pub empty_known : (knows : Holdings → Type 0) (n : ℕ) (told entries : List (Option Entry)) → told ≡ replicate n None → entries ≡ replicate n None
    → (IsPolicyMapping (origins told) → knows (origins told)) → knows (origins entries)
empty_known knows n told entries t e k =
    subst (λ (xs : List (Option Entry)). knows (origins xs)) (t ∙ sym e)
    (k (subst (λ (xs : List (Option Entry)). IsPolicyMapping (origins xs)) (sym t) (λ block at other l r. absurd (none_stands n at block l))))
