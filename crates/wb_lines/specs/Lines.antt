-- What the lines of a replay ask.
use Rattle.std.specs.Prelude.{◌≡◌, ◌==◌, ◌<◌, ◌^◌, ℕ, Bool, true, false, List, [], ◌∷◌, codes}
use Rattle.std.specs.List.{slice_split}
use Rattle.wb_types.specs.declared.mode.Mode.{Mode}
use Rattle.wb_types.specs.declared.mode.Dev.{Dev}
use Rattle.wb_types.specs.declared.mode.Dev.TheVariants.{Metadata, Cache, Origin}
use Rattle.wb_disk.specs.declared.crash_choice.Base.{Base}
use Rattle.wb_disk.specs.declared.crash_choice.Base.TheVariants.{Durable, Newest}
use Rattle.wb_disk.specs.declared.crash_choice.NamedContent.{NamedContent}
use Rattle.wb_table.specs.Numbers.{SpellsNumber}
use Rattle.wb_table.specs.Sectors.{SpellsSectors, SpellsFill}
use Rattle.wb_table.specs.Status.{mode_name}
use Rattle.wb_lines.specs.declared.line.TheConstants.{ACTORS}
use Rattle.wb_lines.specs.declared.line.Line.{Line}
use Rattle.wb_lines.specs.declared.line.Line.TheVariants.{Nothing, Start, Step, End, Fault, Stop, Open, View}
use Rattle.wb_lines.specs.declared.line.Task.{Task}
use Rattle.wb_lines.specs.declared.line.Task.TheVariants.{Read, Write, Flush, Suspend, Promote, Demote, Clean, Replace, Open as OpenTask}
use Rattle.wb_lines.specs.declared.setup.Setup.{Setup}

-- one of the actors
abbrev pub SpellsActor : List ℕ → ℕ → Type 0
SpellsActor word actor = SpellsNumber word actor × (actor < ACTORS)

-- whether what is pending is lost, or lands
abbrev pub SpellsBase : List ℕ → Base → Type 0
SpellsBase word Durable = word ≡ codes "old"
SpellsBase word Newest = word ≡ codes "new"

abbrev pub SpellsDevice : List ℕ → Dev → Type 0
SpellsDevice word Metadata = word ≡ codes "m"
SpellsDevice word Cache = word ≡ codes "c"
SpellsDevice word Origin = word ≡ codes "o"

-- the parts of a word between colons
abbrev pub parts_of : List ℕ → List (List ℕ)
parts_of word = slice_split (λ byte. byte == 58) word

-- the last part, a number
abbrev pub IsLastPart : List (List ℕ) → ℕ → Type 0
IsLastPart (part ∷ []) number = SpellsNumber part number
IsLastPart parts number = ⊥

-- a sector and the position of a content of it
abbrev pub IsPosition : List (List ℕ) → ℕ → ℕ → Type 0
IsPosition (part ∷ parts) sector position = SpellsNumber part sector × IsLastPart parts position
IsPosition [] sector position = ⊥

-- a device, a sector of it, and a position
abbrev pub NamesContent : List (List ℕ) → NamedContent → Type 0
NamesContent (part ∷ parts) named = SpellsDevice part named.device × IsPosition parts named.sector named.position
NamesContent [] named = ⊥

-- A content of a sector: `<device>:<sector>:<position>`.
abbrev pub SpellsNamed : List ℕ → NamedContent → Type 0
SpellsNamed word named = NamesContent (parts_of word) named

abbrev pub SpellsAllNamed : List (List ℕ) → List NamedContent → Type 0
SpellsAllNamed [] [] = Unit {0}
SpellsAllNamed (word ∷ words) (named ∷ more) = SpellsNamed word named × SpellsAllNamed words more
SpellsAllNamed words more = ⊥

-- a block, whose number is one of 32 bits
abbrev pub SpellsBlock : List ℕ → ℕ → Type 0
SpellsBlock word block = SpellsNumber word block × (block < 2 ^ 32)

-- two blocks, and nothing behind them
abbrev pub SpellsBlocks : List (List ℕ) → ℕ → ℕ → Type 0
SpellsBlocks (first ∷ second ∷ []) one other = SpellsBlock first one × SpellsBlock second other
SpellsBlocks words one other = ⊥

-- a block of the origin, and nothing behind it
abbrev pub SpellsOnlyBlock : List (List ℕ) → ℕ → Type 0
SpellsOnlyBlock (word ∷ []) block = SpellsBlock word block
SpellsOnlyBlock words block = ⊥

-- the words that ask for metadata of the second version, or of the first
abbrev pub version_words : Bool → List (List ℕ)
version_words true = codes "metadata2" ∷ []
version_words false = []

-- a mode, and `metadata2` behind it where metadata of the second version are asked for
abbrev pub SpellsOpening : List (List ℕ) → Mode → Bool → Type 0
SpellsOpening (word ∷ words) mode second = (word ≡ mode_name mode) × (words ≡ version_words second)
SpellsOpening [] mode second = ⊥

-- The words of a task: `r S N`, `w S N hh`, `flush`, `suspend`, `promote b c`, `demote b`, `clean b`, `replace v x` or `open <mode> [metadata2]`.
abbrev pub SpellsTask : List (List ℕ) → Task → Type 0
SpellsTask (name ∷ words) (Read at count) = (name ≡ codes "r") × SpellsSectors words at.0 count
SpellsTask (name ∷ words) (Write at count fill) = (name ≡ codes "w") × SpellsFill words at.0 count fill
SpellsTask (name ∷ words) Flush = (name ≡ codes "flush") × (words ≡ [])
SpellsTask (name ∷ words) Suspend = (name ≡ codes "suspend") × (words ≡ [])
SpellsTask (name ∷ words) (Promote block cache) = (name ≡ codes "promote") × SpellsBlocks words block cache
SpellsTask (name ∷ words) (Demote block) = (name ≡ codes "demote") × SpellsOnlyBlock words block
SpellsTask (name ∷ words) (Clean block) = (name ≡ codes "clean") × SpellsOnlyBlock words block
SpellsTask (name ∷ words) (Replace old new) = (name ≡ codes "replace") × SpellsBlocks words old new
SpellsTask (name ∷ words) (OpenTask mode second) = (name ≡ codes "open") × SpellsOpening words mode second
SpellsTask words task = ⊥

-- how many steps: one where no number stands
abbrev pub SpellsSteps : List (List ℕ) → ℕ → Type 0
SpellsSteps [] steps = steps ≡ 1
SpellsSteps (number ∷ []) steps = SpellsNumber number steps
SpellsSteps words steps = ⊥

-- an actor and its task
abbrev pub SpellsStart : List (List ℕ) → ℕ → Task → Type 0
SpellsStart (who ∷ words) actor task = SpellsActor who actor × SpellsTask words task
SpellsStart [] actor task = ⊥

-- an actor and its steps
abbrev pub SpellsStep : List (List ℕ) → ℕ → ℕ → Type 0
SpellsStep (who ∷ words) actor steps = SpellsActor who actor × SpellsSteps words steps
SpellsStep [] actor steps = ⊥

-- an actor alone
abbrev pub SpellsEnd : List (List ℕ) → ℕ → Type 0
SpellsEnd (who ∷ []) actor = SpellsActor who actor
SpellsEnd words actor = ⊥

-- an actor, and what becomes of its step that fails
abbrev pub SpellsFault : List (List ℕ) → ℕ → Base → Type 0
SpellsFault (who ∷ what ∷ []) actor base = SpellsActor who actor × SpellsBase what base
SpellsFault words actor base = ⊥

-- what is kept of each sector, and of those that are named
abbrev pub SpellsStop : List (List ℕ) → Base → List NamedContent → Type 0
SpellsStop (what ∷ words) base named = SpellsBase what base × SpellsAllNamed words named
SpellsStop [] base named = ⊥

-- The words of a line that asks this.
abbrev pub Asks : List (List ℕ) → Line → Type 0
Asks [] Nothing = Unit {0}
Asks (name ∷ words) (Start actor task) = (name ≡ codes "start") × SpellsStart words actor task
Asks (name ∷ words) (Step actor steps) = (name ≡ codes "step") × SpellsStep words actor steps
Asks (name ∷ words) (End actor) = (name ≡ codes "end") × SpellsEnd words actor
Asks (name ∷ words) (Fault actor base) = (name ≡ codes "fault") × SpellsFault words actor base
Asks (name ∷ words) (Stop base named) = (name ≡ codes "stop") × SpellsStop words base named.items
Asks (name ∷ words) (Open mode second) = (name ≡ codes "open") × SpellsOpening words mode second
Asks (name ∷ words) (View at count) = (name ≡ codes "view") × SpellsSectors words at.0 count
Asks words line = ⊥

-- The words of the first line: `setup <mode> <block> <cache blocks> <origin blocks> <metadata sectors>`, and `metadata2` behind them for metadata of
-- the second version.
pub record SetsUp (words : List (List ℕ)) (setup : Setup) : Type 0 where
  pub block : List ℕ
  pub cache : List ℕ
  pub origin : List ℕ
  pub metadata : List ℕ
  pub spelled : words ≡ codes "setup" ∷ mode_name setup.mode ∷ block ∷ cache ∷ origin ∷ metadata ∷ version_words setup.metadata2
  pub of_block : SpellsNumber block setup.block
  pub of_cache : SpellsNumber cache setup.cache_blocks
  pub of_origin : SpellsNumber origin setup.origin_blocks
  pub of_metadata : SpellsNumber metadata setup.metadata_sectors
