-- What the bytes of an option mean.
use Rattle.std.specs.Prelude.{◌≡◌, ◌≢◌, ◌≤◌, ◌<◌, ◌+◌, ◌*◌, ◌⊎◌, ◌++◌, ℕ, List, [], length}
use Rattle.wb_nbd.specs.declared.option.OptionHeader.{OptionHeader}
use Rattle.wb_nbd.specs.declared.option.Wish.{Wish}
use Rattle.wb_nbd.specs.declared.option.Wish.TheVariants.{Start, StartLong, Abort, List as ListWish, Info, Go, Refuse}
use Rattle.wb_nbd.specs.declared.option.OptionError.TheVariants.{Unsupported, Invalid, TooBig}
use Rattle.wb_nbd.specs.Bytes.{number_at}

-- the letters IHAVEOPT
abbrev pub option_magic : ℕ
option_magic = 5280542401877725268

-- the first bytes of an option, before its data
pub record SpellsOption (bytes : List ℕ) (option : OptionHeader) : Type 0 where
  pub size : length bytes ≡ 16
  pub magic : number_at bytes 0 8 ≡ option_magic
  pub number : number_at bytes 8 4 ≡ option.number
  pub length : number_at bytes 12 4 ≡ option.length

-- The data of an option that asks of an export whose name has so many bytes: that number, the name, how many things are asked,
-- and for each its number.
pub record AreAbout (name_size : ℕ) (bytes : List ℕ) : Type 0 where
  pub least : 6 ≤ length bytes
  pub most : length bytes ≤ 4096
  pub size : number_at bytes 0 4 ≡ name_size
  pub whole : length bytes ≡ 6 + name_size + 2 * number_at bytes (4 + name_size) 2

-- an option that asks of an export, and goes on with it or not
abbrev pub AsksOfExport : ℕ → Type 0
AsksOfExport number = (number ≡ 6) ⊎ (number ≡ 7)

-- the number of an option that is not served
pub record IsUnknownOption (number : ℕ) : Type 0 where
  pub no_export_name : number ≢ 1
  pub no_abort : number ≢ 2
  pub no_list : number ≢ 3
  pub no_info : number ≢ 6
  pub no_go : number ≢ 7

-- what an option of this number and with these data wants; the one export is meant by every name, of no more than 4,096 bytes
abbrev pub IsWish : ℕ → List ℕ → Wish → Type 0
IsWish number bytes Start = (number ≡ 1) × (length bytes ≤ 4096)
IsWish number bytes StartLong = (number ≡ 1) × (4096 < length bytes)
IsWish number bytes Abort = number ≡ 2
IsWish number bytes ListWish = (number ≡ 3) × (bytes ≡ [])
IsWish number bytes Info = (number ≡ 6) × ((size : ℕ) × AreAbout size bytes)
IsWish number bytes Go = (number ≡ 7) × ((size : ℕ) × AreAbout size bytes)
IsWish number bytes (Refuse Unsupported) = IsUnknownOption number
IsWish number bytes (Refuse Invalid) = ((number ≡ 3) × (0 < length bytes)) ⊎ (AsksOfExport number × ((size : ℕ) → AreAbout size bytes → ⊥))
IsWish number bytes (Refuse TooBig) = AsksOfExport number × (4096 < length bytes)

-- these bytes are an option of this number, that wants this
pub record Wants (all : List ℕ) (number : ℕ) (wish : Wish) : Type 0 where
  pub header : List ℕ
  pub more : List ℕ
  pub option : OptionHeader
  pub whole : all ≡ header ++ more
  pub spelled : SpellsOption header option
  pub its_number : option.number ≡ number
  pub its_length : length more ≡ option.length
  pub its_wish : IsWish number more wish
