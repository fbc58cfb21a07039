use Rattle.std.proofs.Common.{◌≡◌, ◌<◌, ◌*◌, ◌/◌, ℕ, arith, Result, Ok, Err, IfOk, IfErr, ap, sym, subst, ◌∙◌}
use Rattle.wb_types.specs.Limits.{HasRoom, IsWithinLimits}
use Rattle.wb_types.specs.Versions.{version_number}
use Rattle.wb_types.specs.declared.version.Version.{Version}
use Rattle.wb_types.specs.declared.geometry.Geometry.{Geometry}
use Rattle.wb_types.proofs.Blocks.{mod-whole, div-whole, IsWithinLimits-whole}
use Rattle.wb_types.proofs.Versions.{one_version}
use Rattle.wb_types.proofs.geometry.Geometry.of_devices.Goals as goal
use Rattle.wb_types.proofs.geometry.Geometry.of_devices.Goals.{then-block-eq0-via-then-block-eq0, then-block-eq0-via-else-block-eq0+then-cache-block-ne0, then-block-eq0-via-else-block-eq0+else-cache-block-ne0+then-origin-block-ne0}

pub returns-then-block-eq0-clause-outside : goal.returns-then-block-eq0-clause-outside
returns-then-block-eq0-clause-outside c = λ cache_blocks origin_blocks cache origin within room.
    elim c.then-block-eq0.branch [
      | then-block-eq0-via-then-block-eq0 w ↦ omega (arith, w.if-block-eq0.true, within.block_from)
      | then-block-eq0-via-else-block-eq0+then-cache-block-ne0 w ↦ w.if-cache-block-ne0.true (mod-whole cache_blocks c.args.block c.args.cache cache)
      | then-block-eq0-via-else-block-eq0+else-cache-block-ne0+then-origin-block-ne0 w ↦ w.if-origin-block-ne0.true (mod-whole origin_blocks c.args.block c.args.origin origin)
    ]

-- no other numbers of blocks fit devices of whole blocks
outside : {A E : Type 0} (r : Result A E) (block cache origin metadata number : ℕ) (version : Version) → number ≡ version_number version
    → IfErr r (λ _. (v : Version) → number ≡ version_number v → IsWithinLimits block (cache / block) (origin / block) metadata → HasRoom v (cache / block) metadata → ⊥)
    → IfErr r (λ _. (cache_blocks origin_blocks : ℕ) → cache_blocks * block ≡ cache → origin_blocks * block ≡ origin → IsWithinLimits block cache_blocks origin_blocks metadata → HasRoom version cache_blocks metadata → ⊥)
outside (Ok x) block cache origin metadata number version n o = tt
outside (Err e) block cache origin metadata number version n o =
    λ cache_blocks origin_blocks c b w room. let h : 0 < block = omega (arith, w.block_from) in
    o version n (IsWithinLimits-whole block cache origin metadata cache_blocks origin_blocks h c b w)
    (subst (λ blocks. HasRoom version blocks metadata) (sym (div-whole cache_blocks block cache h c)) room)

pub returns-clause-outside : goal.returns-clause-outside
returns-clause-outside c =
    outside c.with_version.result c.args.block c.args.cache c.args.origin c.args.metadata _ _ (c.number.ensures ∙ ap version_number c.asked.ensures) c.with_version.ensures.outside

-- the version of a number is the one that has it
versioned : {E : Type 0} (r : Result Geometry E) (number : ℕ) (version : Version) → number ≡ version_number version → IfOk r (λ g. number ≡ version_number g.version) → IfOk r (λ g. g.version ≡ version)
versioned (Ok g) number version n v = one_version g.version version (sym v ∙ n)
versioned (Err e) number version n v = tt

pub returns-clause-version : goal.returns-clause-version
returns-clause-version c = versioned c.with_version.result _ _ (c.number.ensures ∙ ap version_number c.asked.ensures) c.with_version.ensures.version
