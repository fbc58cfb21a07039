-- What a status line tells.
use Rattle.std.specs.Prelude.{◌≡◌, ◌+◌, ◌%◌, ◌++◌, ℕ, zero, suc, Bool, List, [], ◌∷◌, Option, if◌then◌else◌, map}
use Rattle.wb_types.specs.Versions.{version_asked}
use Rattle.wb_tree.specs.Mapping.{Mapping, entry_at}
use Rattle.wb_words.specs.SharedWords.{dirty_in}
use Rattle.wb_words.specs.declared.card.Card.{Card}
use Rattle.wb_words.specs.declared.word.Kind.TheVariants.{ReadHit, ReadMiss, WriteHit, WriteMiss}
use Rattle.wb_words.specs.declared.word.Word.{Word}
use Rattle.wb_words.specs.declared.word.Word.TheVariants.{Seal as SealWord, Count as CountWord, Fail}
use Rattle.wb_table.specs.declared.status.Fields.{Fields}
use Rattle.wb_desk.specs.Desks.{DeskState, mapped_now}
use Rattle.wb_target.specs.Offices.{OfficeState}
use Rattle.wb_target.specs.Suspends.{mapped_block}

-- What of it the desk counts and is set to, and the sizes of its cache; the policy by its name, and its setting where it has one.
pub record AreShown {P : Type 0} (name : List ℕ) (promote_min : P → Option ℕ) (d : DeskState P) (told : Fields) : Type 0 where
  pub used : told.used_metadata ≡ d.nodes + 2
  pub metadata : told.metadata ≡ d.geometry.meta_sectors
  pub block : told.block ≡ d.geometry.block
  pub mapped : told.mapped ≡ mapped_now d
  pub cache_blocks : told.cache_blocks ≡ d.geometry.cache_blocks
  pub demotions : told.demotions ≡ d.demotions
  pub promotions : told.promotions ≡ d.promotions
  pub threshold : told.threshold ≡ d.threshold
  pub mode : told.mode ≡ d.mode
  pub version : d.geometry.version ≡ version_asked told.metadata2
  pub policy : told.policy.now ≡ name
  pub setting : told.promote_min ≡ promote_min d.policy

-- how many of these looks at seals found them dirty
abbrev pub dirty_among : List (Word × ℕ) → ℕ
dirty_among [] = 0
dirty_among (look ∷ looks) = (if dirty_in look.1 then 1 else 0) + dirty_among looks

-- the seals of the blocks that are mapped in the first so many cache blocks, that of the last of them first
abbrev pub seals_latest_first : Mapping → ℕ → List Word
seals_latest_first tree zero = []
seals_latest_first tree (suc c) = map SealWord (mapped_block (entry_at tree c)) ++ seals_latest_first tree c

-- Between these cards these words were looked at, and no others, the last one first, and so many seals of them were dirty.
pub record SawDirty (before after : Card) (words : List Word) (dirty : ℕ) : Type 0 where
  pub looks : List (Word × ℕ)
  pub saw : after.saw ≡ looks ++ before.saw
  pub words_are : map (λ look. look.0) looks ≡ words
  pub dirty_are : dirty ≡ dirty_among looks

-- a target has failed where the failed bit of the fail word is set, which a suspension alone leaves
abbrev pub TellsFailed : ℕ → Bool → Type 0
TellsFailed word failed = word % 2 ≡ (if failed then 1 else 0)

-- What of it the words tell, each looked at once by the office's own seat: the four counts, then the seal of each mapped block, and last the fail word.
pub record WereLooked {P : Type 0} (office : OfficeState P) (after : Card) (told : Fields) : Type 0 where
  pub word : ℕ
  pub failed : TellsFailed word told.failed
  pub seals : List (Word × ℕ)
  pub seals_are : map (λ look. look.0) seals ≡ seals_latest_first office.desk.tree office.desk.geometry.cache_blocks
  pub dirty : told.dirty ≡ dirty_among seals
  pub saw : after.saw ≡ (Fail, word) ∷ (seals ++ ((CountWord WriteMiss, told.write_misses) ∷ (CountWord WriteHit, told.write_hits) ∷ (CountWord ReadMiss, told.read_misses) ∷ (CountWord ReadHit, told.read_hits) ∷ office.watch.pass.card.saw))
