-- What a try of one part comes to, where its request is inside and no access is unsettled.
use Rattle.std.proofs.Common.{◌≡◌, ◌≢◌, ◌≤◌, ◌+◌, ◌%◌, inl, inr, ℕ, List, Some, None, length, sym, subst, arith}
use Rattle.wb_types.specs.declared.extent.Extent.{Extent}
use Rattle.wb_types.specs.declared.geometry.Geometry.{Geometry}
use Rattle.wb_types.specs.declared.refusal.Refusal.{Refusal}
use Rattle.wb_types.specs.declared.refusal.Refusal.TheVariants.{Range, Crosses as CrossesBlocks, Defer}
use Rattle.wb_disk.specs.Device.{History, Content}
use Rattle.wb_port.specs.Ports.{block_at, IsTryRefused, TryReadRefused, TryWriteRefused}
use Rattle.wb_port.specs.Requests.{IsOutside, ReadRefused, WriteRefused, WasRead}
use Rattle.wb_port.specs.declared.port.Port.{Port}
use Rattle.wb_target.specs.Blocking.{IsInsideOrigin, ReadCame}

pub not_outside : (geometry : Geometry) (first count : ℕ) → IsInsideOrigin geometry first count → IsOutside geometry first count → ⊥
not_outside geometry first count inside (inl none) = absurd (omega (arith, inside.0, none))
not_outside geometry first count inside (inr over) = absurd (omega (arith, inside.1, over))

pub not_range : (geometry geometry' : Geometry) (first count count' : ℕ) (refusal : Refusal) → geometry' ≡ geometry → count' ≡ count → IsInsideOrigin geometry first count → (refusal ≡ Range → IsOutside geometry' first count') → refusal ≢ Range
not_range geometry geometry' first count count' refusal same many inside outside e =
    not_outside geometry first count inside (subst (λ (g : Geometry). IsOutside g first count) same (subst (λ (n : ℕ). IsOutside geometry' first n) many (outside e)))

-- no look comes before its steps that would refuse it
never_before : (geometry : Geometry) (unsettled first count : ℕ) (refusal : Refusal) → unsettled ≡ 0 → IsInsideOrigin geometry first count → first % geometry.block + count ≤ geometry.block → IsTryRefused geometry unsettled first count refusal → ⊥
never_before geometry unsettled first count Range none inside fits h = not_outside geometry first count inside h
never_before geometry unsettled first count CrossesBlocks none inside fits h = absurd (omega (arith, fits, h))
never_before geometry unsettled first count Defer none inside fits h = absurd (omega (arith, none, h))
never_before geometry unsettled first count refusal none inside fits h = absurd h

module _ {D : Type 0} (tells : Type 0) (size : D → ℕ) (contents : D → List History) (faults : D → ℕ) (port port' : Port D) (geometry : Geometry) (same : port.geometry ≡ geometry) (sized : port.cells.value.blocks ≡ port.geometry.origin_blocks)
    (settled : length port.accesses.items ≡ 0) (first count : ℕ) (inside : IsInsideOrigin geometry first count) (fits : first % geometry.block + count ≤ geometry.block) where
  abbrev at : ℕ → Extent
  at n = record { first = first; count = n }

  not_before : (refusal : Refusal) → IsTryRefused port.geometry (length port.accesses.items) first count refusal → ⊥
  not_before refusal h = never_before port.geometry (length port.accesses.items) first count refusal settled (subst (λ (g : Geometry). IsInsideOrigin g first count) (sym same) inside) (subst (λ (g : Geometry). first % g.block + count ≤ g.block) (sym same) fits) h

  pub read_refused : (out out' : List Content) (refusal : Refusal) → length out ≡ count → TryReadRefused tells size contents faults port first out refusal port' out' → ReadCame tells size contents faults geometry (Some refusal) (at count) (port.hand, out) (port'.hand, out')
  read_refused out out' refusal many (inl h) = absurd (not_before refusal (subst (λ (n : ℕ). IsTryRefused port.geometry (length port.accesses.items) first n refusal) many h.0))
  read_refused out out' refusal many (inr h) =
      subst (λ (g : Geometry). ReadRefused tells size contents faults g.origin_blocks g.block (block_at g first) (at count) port.hand out refusal port'.hand out') same
      (subst (λ (n : ℕ). ReadRefused tells size contents faults n port.geometry.block (block_at port.geometry first) (at count) port.hand out refusal port'.hand out') sized
      (subst (λ (n : ℕ). ReadRefused tells size contents faults port.cells.value.blocks port.geometry.block (block_at port.geometry first) (at n) port.hand out refusal port'.hand out') many h))

  pub write_run_refused : (from : List Content) (refusal : Refusal) → length from ≡ count → TryWriteRefused tells size contents faults port first from refusal port' → WriteRefused tells size contents faults geometry.origin_blocks geometry.block (block_at geometry first) (at count) from port.hand refusal port'.hand
  write_run_refused from refusal many (inl h) = absurd (not_before refusal (subst (λ (n : ℕ). IsTryRefused port.geometry (length port.accesses.items) first n refusal) many h.0))
  write_run_refused from refusal many (inr h) =
      subst (λ (g : Geometry). WriteRefused tells size contents faults g.origin_blocks g.block (block_at g first) (at count) from port.hand refusal port'.hand) same
      (subst (λ (n : ℕ). WriteRefused tells size contents faults n port.geometry.block (block_at port.geometry first) (at count) from port.hand refusal port'.hand) sized
      (subst (λ (n : ℕ). WriteRefused tells size contents faults port.cells.value.blocks port.geometry.block (block_at port.geometry first) (at n) from port.hand refusal port'.hand) many h))

  pub was_read : (out out' : List Content) → length out ≡ count → WasRead tells size contents faults port.cells.value.blocks port.geometry.block (block_at port.geometry first) (at (length out)) out out' port.hand port'.hand → ReadCame tells size contents faults geometry None (at count) (port.hand, out) (port'.hand, out')
  was_read out out' many h =
      subst (λ (g : Geometry). WasRead tells size contents faults g.origin_blocks g.block (block_at g first) (at count) out out' port.hand port'.hand) same
      (subst (λ (n : ℕ). WasRead tells size contents faults n port.geometry.block (block_at port.geometry first) (at count) out out' port.hand port'.hand) sized
      (subst (λ (n : ℕ). WasRead tells size contents faults port.cells.value.blocks port.geometry.block (block_at port.geometry first) (at n) out out' port.hand port'.hand) many h))
