-- Words in front of others, by what they spell.
use Rattle.std.proofs.Common.{◌≡◌, ℕ, List, [], ◌∷◌, Option, Some, None, IfNone, length, sym, subst, ◌∙◌}
use Rattle.wb_types.specs.declared.message.Key.{Key}
use Rattle.wb_table.specs.Numbers.{SpellsNumber}
use Rattle.wb_table.specs.Table.{SpellsArguments, NamesKey, GivesKeys, no_keys, with_key}
use Rattle.wb_table.specs.declared.table.Keys.{Keys}
use Rattle.wb_table.specs.declared.policy.PolicyName.{PolicyName}

-- a word spells one number at most
pub same_number : (word : List ℕ) (a b : ℕ) → SpellsNumber word a → SpellsNumber word b → a ≡ b
same_number word a b s t = sym s.value ∙ t.value

-- the first of words that give keys names one
pub first_names_key : (policy : PolicyName) (before after : Keys) (word : List ℕ) (rest : List (List ℕ)) → GivesKeys policy before (word ∷ rest) after → (key : Key) × NamesKey policy word key
first_names_key policy before after word [] g = absurd g
first_names_key policy before after word (number ∷ words) g = (g.0, g.2)

-- and the second spells a number
pub second_spells_number : (policy : PolicyName) (before after : Keys) (word number : List ℕ) (words : List (List ℕ)) → GivesKeys policy before (word ∷ number ∷ words) after → (value : ℕ) × SpellsNumber number value
second_spells_number policy before after word number words g = (g.1, g.3)

-- behind a key and a value that were read the others give theirs
pub others_give : (policy : PolicyName) (before after : Keys) (word number : List ℕ) (words : List (List ℕ)) (key : Key) (value : ℕ) → ((named : Key) → NamesKey policy word named → named ≡ key) → SpellsNumber number value
    → GivesKeys policy before (word ∷ number ∷ words) after → GivesKeys policy (with_key before key value) words after
others_give policy before after word number words key value only s g =
    subst (λ named. GivesKeys policy (with_key before named value) words after) (only g.0 g.2)
    (subst (λ found. GivesKeys policy (with_key before g.0 found) words after) (same_number number g.1 value g.3 s) g.4)

-- a policy's arguments behind their number, which was read
pub arguments_begin : (policy : PolicyName) (number : List ℕ) (words : List (List ℕ)) (count : ℕ) (keys : Keys) → SpellsNumber number count → SpellsArguments policy (number ∷ words) keys
    → GivesKeys policy no_keys words keys × (length words ≡ count)
arguments_begin policy number words count keys s spelled = (spelled.1, same_number number (length words) count spelled.0 s)

-- and back
pub arguments_are : (policy : PolicyName) (number : List ℕ) (words : List (List ℕ)) (count : ℕ) (keys : Keys) → SpellsNumber number count → GivesKeys policy no_keys words keys × (length words ≡ count)
    → SpellsArguments policy (number ∷ words) keys
arguments_are policy number words count keys s given = (subst (λ n. SpellsNumber number n) (sym given.1) s, given.0)

-- what holds anyway holds where there is no value
pub if_none : {A : Type 0} {P : Type 0} (option : Option A) → P → IfNone option P
if_none None holds = holds
if_none (Some value) holds = tt

-- a key and a value in front of others
pub one_more_gives : (policy : PolicyName) (before after : Keys) (word number : List ℕ) (words : List (List ℕ)) (key : Key) (value : ℕ) → NamesKey policy word key → SpellsNumber number value
    → GivesKeys policy (with_key before key value) words after → GivesKeys policy before (word ∷ number ∷ words) after
one_more_gives policy before after word number words key value named s g = (key, value, named, s, g)
