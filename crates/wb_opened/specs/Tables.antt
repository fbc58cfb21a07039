-- What of a table an opening goes by.
use Rattle.std.specs.Prelude.{◌≡◌, ℕ, List}
use Rattle.wb_types.specs.declared.message.Key.{Key}
use Rattle.wb_types.specs.declared.message.Key.TheVariants.{MigrationThreshold, PromoteMin}
use Rattle.wb_table.specs.declared.table.Keys.{Keys}
use Rattle.wb_desk.specs.Opening.{last_value}

-- A list of keys with their values gives each key what a table does: a value, or none.
pub record Lists (list : List (Key × ℕ)) (given : Keys) : Type 0 where
  pub threshold : last_value MigrationThreshold list ≡ given.migration_threshold
  pub least : last_value PromoteMin list ≡ given.promote_min
