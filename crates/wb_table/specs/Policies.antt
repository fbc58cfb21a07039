-- The policies that a table can name.
use Rattle.std.specs.Prelude.{◌≡◌, ◌⊎◌, ℕ, Bool, true, false, List, codes}
use Rattle.wb_types.specs.declared.message.Key.{Key}
use Rattle.wb_types.specs.declared.message.Key.TheVariants.{MigrationThreshold, PromoteMin}
use Rattle.wb_table.specs.declared.policy.PolicyName.{PolicyName}
use Rattle.wb_table.specs.declared.policy.PolicyName.TheVariants.{TinyLfu, Cleaner}

-- the name that a policy has, by which a status line tells it
abbrev pub policy_name : PolicyName → List ℕ
policy_name TinyLfu = codes "tinylfu"
policy_name Cleaner = codes "cleaner"

-- A word names a policy; `default` names TinyLFU, too.
abbrev pub NamesPolicy : List ℕ → PolicyName → Type 0
NamesPolicy word TinyLfu = (word ≡ policy_name TinyLfu) ⊎ (word ≡ codes "default")
NamesPolicy word Cleaner = word ≡ policy_name Cleaner

-- whether a key can be given under a policy: the threshold under each, the least estimate under TinyLFU alone
abbrev pub has_key : PolicyName → Key → Bool
has_key policy MigrationThreshold = true
has_key TinyLfu PromoteMin = true
has_key Cleaner PromoteMin = false
