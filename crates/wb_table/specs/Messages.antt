-- The grammar of a message.
use Rattle.std.specs.Prelude.{◌≡◌, ◌<◌, ◌+◌, ◌^◌, ◌==◌, ℕ, Bool, List, [], ◌∷◌, length, nat_lt, true, false, codes}
use Rattle.std.specs.List.{position_or_len, before_first, after_first}
use Rattle.wb_types.specs.declared.message.CBlockRange.{CBlockRange}
use Rattle.wb_types.specs.declared.message.Key.{Key}
use Rattle.wb_types.specs.declared.message.Message.{Message}
use Rattle.wb_types.specs.declared.message.Message.TheVariants.{Set, InvalidateCblocks}
use Rattle.wb_table.specs.Numbers.{SpellsNumber}
use Rattle.wb_table.specs.Table.{SpellsKey}

abbrev pub is_dash : ℕ → Bool
is_dash byte = byte == 45

-- a number is that of a cache block: below 2 ^ 32, as in each cache
abbrev pub SpellsCBlock : List ℕ → ℕ → Type 0
SpellsCBlock word block = SpellsNumber word block × (block < 2 ^ 32)

-- `<cblock>`: this block alone.
abbrev pub NamesOne : List ℕ → CBlockRange → Type 0
NamesOne word range = SpellsCBlock word range.begin.0 × (range.end.0 ≡ range.begin.0 + 1) × (range.end.0 < 2 ^ 32)

-- `<begin>` and `<end>`: the blocks from the first up to, and without, the second, which is greater.
abbrev pub NamesSpan : List ℕ → List ℕ → CBlockRange → Type 0
NamesSpan begin end range = SpellsCBlock begin range.begin.0 × SpellsCBlock end range.end.0 × (range.begin.0 < range.end.0)

abbrev pub has_dash : List ℕ → Bool
has_dash word = nat_lt (position_or_len is_dash word) (length word)

-- What a word names, by whether it has a dash: `<begin>-<end>`, parted at the first, or `<cblock>`.
abbrev pub NamesParted : Bool → List ℕ → CBlockRange → Type 0
NamesParted true word range = NamesSpan (before_first is_dash word) (after_first is_dash word) range
NamesParted false word range = NamesOne word range

-- a word names cache blocks
abbrev pub NamesCBlocks : List ℕ → CBlockRange → Type 0
NamesCBlocks word range = NamesParted (has_dash word) word range

-- Each word names the cache blocks of a range, in their order.
abbrev pub NameRanges : List (List ℕ) → List CBlockRange → Type 0
NameRanges [] ranges = ranges ≡ []
NameRanges (word ∷ words) [] = ⊥
NameRanges (word ∷ words) (range ∷ ranges) = NamesCBlocks word range × NameRanges words ranges

-- Words are a key and its value; whether the target's policy has it is not known here.
pub record IsSetting (words : List (List ℕ)) (key : Key) (value : ℕ) : Type 0 where
  pub name : List ℕ
  pub number : List ℕ
  pub spelled : words ≡ name ∷ number ∷ []
  pub named : SpellsKey name key
  pub valued : SpellsNumber number value

-- Words are a message: `migration_threshold <n>`, `promote_min <n>`, or `invalidate_cblocks [<cblock>|<begin>-<end>]*`.
abbrev pub IsMessage : List (List ℕ) → Message → Type 0
IsMessage words (Set key value) = IsSetting words key value
IsMessage words (InvalidateCblocks ranges) = (named : List (List ℕ)) × (words ≡ codes "invalidate_cblocks" ∷ named) × NameRanges named ranges
