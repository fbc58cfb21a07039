-- What a migration threshold stops.
use Rattle.std.specs.Prelude.{◌*◌, ℕ, Option, Some, None, nat_lt, if◌then◌else◌}
use Rattle.wb_types.specs.declared.mode.Mode.{Mode}
use Rattle.wb_types.specs.declared.mode.Mode.TheVariants.{Passthrough}
use Rattle.wb_table.specs.declared.policy.PolicyName.{PolicyName}
use Rattle.wb_table.specs.declared.policy.PolicyName.TheVariants.{TinyLfu, Cleaner}
use Rattle.wb_checks.specs.declared.threshold.Stopped.{Stopped}
use Rattle.wb_checks.specs.declared.threshold.Stopped.TheVariants.{Caching, Replacing, WritingBack}

-- A policy that caches needs room for a block to cache one, and for two to replace one; cleaner needs room for a block to write one
-- back. In passthrough nothing is ordered.
abbrev pub what_stops : Mode → PolicyName → ℕ → ℕ → Option Stopped
what_stops Passthrough policy block threshold = None
what_stops mode TinyLfu block threshold = if nat_lt threshold block then Some Caching else (if nat_lt threshold (2 * block) then Some Replacing else None)
what_stops mode Cleaner block threshold = if nat_lt threshold block then Some WritingBack else None

-- the sectors from which on nothing is stopped
abbrev pub least_for : Stopped → ℕ → ℕ
least_for Caching block = 2 * block
least_for Replacing block = 2 * block
least_for WritingBack block = block
