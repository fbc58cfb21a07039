-- The grammar of a constructor line.
use Rattle.std.specs.Prelude.{◌≡◌, ◌≤◌, ◌%◌, ◌++◌, ◌⊎◌, ℕ, Bool, true, false, List, [], ◌∷◌, Some, None, IsTrue, length, codes}
use Rattle.wb_types.specs.declared.message.Key.{Key}
use Rattle.wb_types.specs.declared.message.Key.TheVariants.{MigrationThreshold, PromoteMin}
use Rattle.wb_types.specs.declared.mode.Mode.{Mode}
use Rattle.wb_types.specs.declared.mode.Mode.TheVariants.{Writeback}
use Rattle.wb_table.specs.Numbers.{SpellsNumber}
use Rattle.wb_table.specs.Policies.{NamesPolicy, has_key}
use Rattle.wb_table.specs.Status.{mode_name}
use Rattle.wb_table.specs.declared.table.Table.{Table}
use Rattle.wb_table.specs.declared.table.Keys.{Keys}
use Rattle.wb_table.specs.declared.policy.PolicyName.{PolicyName}

-- A word spells the size of a block: 64 to 2,097,152 sectors, a multiple of 64.
pub record IsBlockSize (word : List ℕ) (block : ℕ) : Type 0 where
  pub number : SpellsNumber word block
  pub least : 64 ≤ block
  pub most : block ≤ 2097152
  pub step : block % 64 ≡ 0

-- A feature alone is `metadata2`, in write-back, or names the mode.
abbrev pub IsChosenByOne : List ℕ → Mode → Bool → Type 0
IsChosenByOne feature mode true = (feature ≡ codes "metadata2") × (mode ≡ Writeback)
IsChosenByOne feature mode false = feature ≡ mode_name mode

-- Of two features one is `metadata2`, and the other names the mode.
abbrev pub IsChosenByTwo : List ℕ → List ℕ → Mode → Bool → Type 0
IsChosenByTwo first second mode true =
    ((first ≡ codes "metadata2") × (second ≡ mode_name mode)) ⊎ ((second ≡ codes "metadata2") × (first ≡ mode_name mode))
IsChosenByTwo first second mode false = ⊥

-- Features choose a mode, where none is named write-back, and metadata of version 2 where they are asked for.
abbrev pub Chooses : List (List ℕ) → Mode → Bool → Type 0
Chooses [] mode metadata2 = (mode ≡ Writeback) × (metadata2 ≡ false)
Chooses (feature ∷ []) mode metadata2 = IsChosenByOne feature mode metadata2
Chooses (first ∷ second ∷ []) mode metadata2 = IsChosenByTwo first second mode metadata2
Chooses features mode metadata2 = ⊥

-- Words are the number of features and then these, which choose a mode and whether metadata of version 2.
abbrev pub SpellsFeatures : List (List ℕ) → Mode → Bool → Type 0
SpellsFeatures [] mode metadata2 = ⊥
SpellsFeatures (number ∷ features) mode metadata2 = SpellsNumber number (length features) × Chooses features mode metadata2

-- A word names a key.
abbrev pub SpellsKey : List ℕ → Key → Type 0
SpellsKey word MigrationThreshold = word ≡ codes "migration_threshold"
SpellsKey word PromoteMin = word ≡ codes "promote_min"

-- A word names a key that can be given under a policy.
abbrev pub NamesKey : PolicyName → List ℕ → Key → Type 0
NamesKey policy word key = SpellsKey word key × IsTrue (has_key policy key)

-- no key is given
abbrev pub no_keys : Keys
no_keys = record { migration_threshold = None; promote_min = None }

-- what is given, and then this key
abbrev pub with_key : Keys → Key → ℕ → Keys
with_key given MigrationThreshold value = record given { migration_threshold = Some value }
with_key given PromoteMin value = record given { promote_min = Some value }

-- Words are keys, each with its value behind it, and give them in turn: so the last value of a key counts.
abbrev pub GivesKeys : PolicyName → Keys → List (List ℕ) → Keys → Type 0
GivesKeys policy before [] after = after ≡ before
GivesKeys policy before (word ∷ []) after = ⊥
GivesKeys policy before (word ∷ number ∷ words) after =
    (key : Key) × (value : ℕ) × NamesKey policy word key × SpellsNumber number value × GivesKeys policy (with_key before key value) words after

-- Words are the number of a policy's arguments and then these, which give keys.
abbrev pub SpellsArguments : PolicyName → List (List ℕ) → Keys → Type 0
SpellsArguments policy [] keys = ⊥
SpellsArguments policy (number ∷ arguments) keys = SpellsNumber number (length arguments) × GivesKeys policy no_keys arguments keys

-- Words are the constructor line of a table: `cache <metadata> <cache> <origin> <block size> <#features> <feature>* <policy> <#arguments> [<key> <value>]*`.
pub record IsTable (words : List (List ℕ)) (table : Table) : Type 0 where
  pub size : List ℕ
  pub features : List (List ℕ)
  pub policy : List ℕ
  pub arguments : List (List ℕ)
  pub spelled : words ≡ codes "cache" ∷ table.metadata.now ∷ table.cache.now ∷ table.origin.now ∷ size ∷ (features ++ policy ∷ arguments)
  pub block_size : IsBlockSize size table.block
  pub chosen : SpellsFeatures features table.mode table.metadata2
  pub named : NamesPolicy policy table.policy
  pub keys : SpellsArguments table.policy arguments table.keys
