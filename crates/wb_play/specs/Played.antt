-- What the first client of a script has done for a line that was answered, and what was printed of it.
use Rattle.std.specs.Prelude.{◌≡◌, ◌++◌, ℕ, List, [], ◌∷◌, Option, codes}
use Rattle.wb_opened.specs.Deeds.{Deed, Ticked, Worked, Messaged}
use Rattle.wb_policy.specs.declared.order.Order.{Order}
use Rattle.wb_table.specs.Messages.{IsMessage}
use Rattle.wb_table.specs.Status.{status_line}
use Rattle.wb_table.specs.Words.{words_of}
use Rattle.wb_table.specs.declared.status.Fields.{Fields}
use Rattle.wb_types.specs.declared.message.Message.{Message as Sent}
use Rattle.wb_play.specs.Answered.{WasAnswered, done_line, worked_line}
use Rattle.wb_dialogue.specs.Line.{HasBreakOrNone}
use Rattle.wb_dialogue.specs.declared.line.Line.{Line}
use Rattle.wb_dialogue.specs.declared.line.Line.TheVariants.{Asks, Work, Tick, Status, Message}

-- the message that a line gives behind its first word
pub record BringsMessage (bytes : List ℕ) (message : Sent) : Type 0 where
  pub line : List ℕ
  pub words : List (List ℕ)
  pub read : HasBreakOrNone bytes line
  pub first : words_of line ≡ codes "message" ∷ words
  pub says : IsMessage words message

-- A line that was answered has been done so, and this was printed: what a client was asked, a tick, the order that waits longest, a status line or a message.
-- Of any other line nothing is done or printed.
abbrev pub WasPlayed : {C : Type 0} → (C → Deed → C → Type 0) → List ℕ → Line → C → List ℕ → C → Type 0
WasPlayed did bytes (Asks call) old printed new = WasAnswered did call old printed new
WasPlayed did bytes Tick old printed new = did old Ticked new × (printed ≡ done_line)
WasPlayed did bytes Work old printed new = (order : Option Order) × did old (Worked order) new × (printed ≡ worked_line order)
WasPlayed did bytes Status old printed new = (new ≡ old) × (told : Fields) × (printed ≡ status_line told ++ 10 ∷ [])
WasPlayed did bytes Message old printed new = (message : Sent) × BringsMessage bytes message × did old (Messaged message) new × (printed ≡ done_line)
WasPlayed did bytes line old printed new = (new ≡ old) × (printed ≡ [])
