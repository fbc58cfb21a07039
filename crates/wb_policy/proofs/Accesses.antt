-- What the sketch says after a list of accesses.
use Rattle.std.proofs.Common.{◌≡◌, ℕ, List, [], ◌∷◌, refl, ap, ◌∙◌}
use Rattle.wb_sketch.specs.Frequencies.{after, after_accesses, empty}
use Rattle.wb_policy.specs.TinyLfu.{Knowledge, after_access, known_after_all}

counts : (k : Knowledge) (blocks : List ℕ) → (known_after_all k blocks).frequencies ≡ after k.frequencies blocks
unfolding after
counts k [] = refl
counts k (block ∷ blocks) = counts (after_access k block) blocks

pub counts_from_none : (k : Knowledge) (cache_blocks : ℕ) (blocks : List ℕ) → k.frequencies ≡ empty cache_blocks
    → (known_after_all k blocks).frequencies ≡ after_accesses cache_blocks blocks
unfolding after_accesses
counts_from_none k cache_blocks blocks none = counts k blocks ∙ ap (λ f. after f blocks) none
