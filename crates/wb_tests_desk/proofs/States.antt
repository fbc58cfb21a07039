-- What the tests begin with fits its device.
use Rattle.std.proofs.Common.{◌≡◌, ◌≤◌, ◌<◌, ℕ, false, List, [], Option, Some, None, map, replicate, refl, sym, ap, subst, ◌∙◌, arith}
use Rattle.std.specs.Prelude.{slice_set}
use Rattle.std.specs.List.{IsDistinct}
use Rattle.wb_types.specs.declared.entry.Entry.{Entry}
use Rattle.wb_types.specs.declared.number.Place.{Place}
use Rattle.wb_format.specs.declared.root.Root.{Root}
use Rattle.wb_format.specs.NodeWords.{kept}
use Rattle.wb_tree.specs.Mapping.{Mapping, IsMapping, IsSound, IsPlaceOf}
use Rattle.wb_tree.specs.Edits.{IsEdited}
use Rattle.wb_tree.proofs.Images.PlanSteps.{kept_nones}
use Rattle.wb_tree.proofs.Stored.Edited.{places-edited}
use Rattle.wb_meta.specs.Reads.{FitsDevice}
use Rattle.wb_desk.proofs.Index.{one_mapping}
use Rattle.wb_desk.proofs.Empty.{none_there}
use Rattle.wb_desk.proofs.Keeping.{clean_kept, keeps_tree, set_keeps}

-- a tree of one entry, set in an empty one
pub one_entry : (root : Root) (old tree : Mapping) (c : ℕ) (e : Entry) → old.entries ≡ replicate root.geometry.cache_blocks None → old.known ≡ []
    → tree.entries ≡ slice_set old.entries c (Some e) → IsEdited old tree → IsSound tree → e.origin.0 < root.geometry.origin_blocks → e.hint ≤ 16 → e.dirty ≡ false
    → FitsDevice root.geometry.meta_sectors root tree []
unfolding IsDistinct
one_entry root old tree c e empty unknown is edited sound within hint clean = record {
  size = refl;
  mapping = subst (λ (xs : List (Option Entry)). IsMapping root.geometry.cache_blocks root.geometry.origin_blocks xs)
      (sym (is ∙ ap (λ (xs : List (Option Entry)). slice_set xs c (Some e)) empty)) (one_mapping root.geometry.cache_blocks root.geometry.origin_blocks c e within hint);
  sound = sound;
  inside = λ p at. absurd (nowhere p at);
  known_used = λ p at. absurd (nowhere p at);
  used_are = record { from = tt; to = tt; apart = tt };
  used_few = omega arith;
  keeps = set_keeps root.geometry.version old tree c (Some e) (clean_kept root.geometry.version e clean) is
      (keeps_tree root.geometry.version old (ap (λ (xs : List (Option Entry)). map (kept root.geometry.version) xs) empty ∙ kept_nones root.geometry.version root.geometry.cache_blocks ∙ sym empty));
}
  where
    nowhere : (p : Place) → IsPlaceOf tree p → ⊥
    nowhere p at = let was = places-edited old tree p edited at in none_there old.known unknown was.level was.index p was.known
