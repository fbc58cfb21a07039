-- What an opening makes of what it has read, before its root is written.
use Rattle.std.specs.Prelude.{◌≡◌, ◌+◌, ℕ, Bool, true, false, List, [], ◌∷◌, Option, Some, None, is_some, replicate, slice_set}
use Rattle.std.specs.List.{count_by}
use Rattle.std.specs.declared.alloc.Global.{Global}
use Rattle.wb_types.specs.declared.number.OBlock.{OBlock}
use Rattle.wb_types.specs.declared.number.CBlock.{CBlock}
use Rattle.wb_words.specs.declared.word.Access.TheVariants.{Owned}
use Rattle.wb_words.specs.declared.step.CellStep.{CellStep}
use Rattle.wb_words.specs.declared.step.CellStep.TheVariants.{Take, Seal, Release}
use Rattle.wb_words.specs.SharedWords.{flag, fresh_words, word_at}
use Rattle.wb_words.specs.Cards.{blank_card}
use Rattle.wb_cells.specs.Crews.{CrewState, crew_after}
use Rattle.wb_meta.specs.declared.read_steps.State.{State as Stored}
use Rattle.wb_meta.specs.declared.read_steps.ReadSteps.{ReadSteps}
use Rattle.wb_meta.specs.declared.read_steps.ReadSteps.TheVariants.{Done as AllRead}
use Rattle.wb_desk.specs.Opening.{opened, threshold_of}
use Rattle.wb_tasks.specs.declared.step.Got.{Got}
use Rattle.wb_tasks.specs.declared.step.Got.TheVariants.{Began, Done}
use Rattle.wb_promise.specs.Effects.{card_by, seals_of, words_by}
use Rattle.wb_machine.specs.declared.asked.Asked.{Asked}
use Rattle.wb_machine.specs.declared.making.Made.{Made}
use Rattle.wb_machine.specs.declared.opener.Opener.{Opener}
use Rattle.wb_machine.specs.Members.{free}

-- ---- steps of one actor of a crew

-- a crew after steps of one of its actors, one after the other
abbrev pub crew_by : CrewState → ℕ → List CellStep → CrewState
crew_by crew actor [] = crew
crew_by crew actor (step ∷ steps) = crew_by (crew_after crew actor step) actor steps

-- a block is owned, sealed and given back
abbrev pub block_seals : OBlock → CBlock → Bool → List CellStep
block_seals block place dirty = Take Owned block 0 ∷ Seal block (Some place) dirty ∷ Release Owned block ∷ []

-- nobody has a block
abbrev pub AllFree : CrewState → Type 0
AllFree crew = (block : OBlock) → word_at crew.words.cells block ≡ 0

-- ---- what is made

-- what was read
abbrev pub read_of : Made → Stored Global
read_of made = record { root = made.root; tree = made.target.desk.tree; dirty = made.dirty; used = made.used; nodes = made.nodes }

-- how far the reading of an opening has come: as what was made shows it, once it was
abbrev pub reading_by : Option Made → Option (ReadSteps Global) → Option (ReadSteps Global)
reading_by None reading = reading
reading_by (Some made) reading = Some (AllRead (read_of made))

abbrev pub reading_of : Opener → Option (ReadSteps Global)
reading_of o = reading_by o.made o.opening.reading

-- The target of what was read, of the mode that was asked for, by a root of the next generation, for so many actors of whom the one that
-- asked has sealed its blocks. Nobody is at anything.
pub record IsMade (actors : ℕ) (asked : Asked) (made : Made) : Type 0 where
  pub desk_is : made.target.desk ≡ opened made.root.geometry (made.root.generation + 1) made.target.desk.tree made.used.items asked.mode made.target.desk.policy (threshold_of None) (count_by is_some made.target.desk.tree.entries)
  pub words_are : made.target.crew.words ≡ words_by (fresh_words made.root.geometry.origin_blocks) (seals_of (read_of made))
  pub cards_are : made.target.crew.cards ≡ slice_set (replicate actors blank_card) asked.actor (card_by (fresh_words made.root.geometry.origin_blocks) blank_card (seals_of (read_of made)))
  pub blocks_are : made.target.crew.blocks ≡ made.root.geometry.origin_blocks
  pub failed_is : made.target.failed ≡ flag made.target.crew.words.fail
  pub commit_is : made.target.commit ≡ None
  pub members_are : made.members.items ≡ replicate actors free

-- it was made
abbrev pub HasMade : ℕ → Asked → Option Made → Type 0
HasMade actors asked None = ⊥
HasMade actors asked (Some made) = IsMade actors asked made

-- all was read: the root is to be written, or the nodes of a whole image before it
abbrev pub ends_reading : Got → Bool
ends_reading Done = true
ends_reading (Began nodes) = true
ends_reading got = false

-- it was made where all was read, and not where there is more to read, or it is refused
abbrev pub MadeBy : ℕ → Got → Asked → Option Made → Type 0
MadeBy actors Done asked made = HasMade actors asked made
MadeBy actors (Began nodes) asked made = HasMade actors asked made
MadeBy actors got asked made = made ≡ None
