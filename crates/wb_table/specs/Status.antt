-- The status line, field by field.
use Rattle.std.specs.Prelude.{◌++◌, ℕ, Bool, true, false, List, [], ◌∷◌, Option, Some, None, codes, decimal, if◌then◌else◌}
use Rattle.wb_types.specs.declared.mode.Mode.{Mode}
use Rattle.wb_types.specs.declared.mode.Mode.TheVariants.{Writeback, Writethrough, Passthrough}
use Rattle.wb_table.specs.declared.status.Fields.{Fields}

abbrev pub mode_name : Mode → List ℕ
mode_name Writeback = codes "writeback"
mode_name Writethrough = codes "writethrough"
mode_name Passthrough = codes "passthrough"

-- how many features there are, and each: `metadata2` where the metadata are of version 2, and the mode
abbrev pub features : Mode → Bool → List ℕ
features mode false = codes "1 " ++ mode_name mode
features mode true = codes "2 metadata2 " ++ mode_name mode

-- how many arguments a policy has, and each by its key and value
abbrev pub arguments : Option ℕ → List ℕ
arguments None = codes "0"
arguments (Some least) = codes "2 promote_min " ++ decimal least

-- texts one behind the other
abbrev pub joined_texts : List (List ℕ) → List ℕ
joined_texts [] = []
joined_texts (text ∷ texts) = text ++ joined_texts texts

-- what is in use, of how much
abbrev pub sizes : Fields → List ℕ
sizes told = joined_texts (
    codes "1 " ∷ decimal told.used_metadata ∷ codes "/" ∷ decimal told.metadata
    ∷ codes " " ∷ decimal told.block ∷ codes " " ∷ decimal told.mapped ∷ codes "/" ∷ decimal told.cache_blocks ∷ [])

-- hits and misses
abbrev pub accesses : Fields → List ℕ
accesses told = joined_texts (
    decimal told.read_hits ∷ codes " " ∷ decimal told.read_misses
    ∷ codes " " ∷ decimal told.write_hits ∷ codes " " ∷ decimal told.write_misses ∷ [])

-- what was moved, and what is to be
abbrev pub moves : Fields → List ℕ
moves told = joined_texts (decimal told.demotions ∷ codes " " ∷ decimal told.promotions ∷ codes " " ∷ decimal told.dirty ∷ [])

-- features, and the arguments of the target and of its policy
abbrev pub settings : Fields → List ℕ
settings told = joined_texts (
    features told.mode told.metadata2 ∷ codes " 2 migration_threshold " ∷ decimal told.threshold
    ∷ codes " " ∷ told.policy.now ∷ codes " " ∷ arguments told.promote_min ∷ [])

-- what is told of a target that works
abbrev pub figures : Fields → List ℕ
figures told = joined_texts (
    sizes told ∷ codes " " ∷ accesses told ∷ codes " " ∷ moves told ∷ codes " " ∷ settings told ∷ codes " rw -" ∷ [])

-- the status line
abbrev pub status_line : Fields → List ℕ
status_line told = if told.failed then codes "Fail" else figures told
