-- The lines of a control file, and what they do.
use Rattle.std.specs.Prelude.{◌≡◌, ◌⊎◌, ℕ, List, [], ◌∷◌, codes}
use Rattle.std.specs.Str.{IsUtf8}
use Rattle.wb_types.specs.declared.message.Message.{Message as Sent}
use Rattle.wb_table.specs.Comments.{IsComment}
use Rattle.wb_table.specs.Messages.{IsMessage}
use Rattle.wb_table.specs.Words.{words_of}
use Rattle.wb_opened.specs.Deeds.{Deed, Flushed, Ticked, Messaged}
use Rattle.wbnbd.specs.declared.control.Line.{Line}
use Rattle.wbnbd.specs.declared.control.Line.TheVariants.{Nothing, Status, Flush, Tick, Message}

-- The words of a line: none, one that names what is done, or `message` and those of a text.
abbrev pub ControlSays : List (List ℕ) → Line → Type 0
ControlSays words Nothing = words ≡ []
ControlSays words Status = words ≡ codes "status" ∷ []
ControlSays words Flush = words ≡ codes "flush" ∷ []
ControlSays words Tick = words ≡ codes "tick" ∷ []
ControlSays words (Message text) = words ≡ codes "message" ∷ words_of text.now

-- A line is a comment, or a text whose words say this.
abbrev pub IsControlLine : List ℕ → Line → Type 0
IsControlLine bytes line = (IsComment bytes × (line ≡ Nothing)) ⊎ ((¬ IsComment bytes) × IsUtf8 bytes × ControlSays (words_of bytes) line)

-- What a client has done for a line that was answered done: it was flushed, had its policy's tick, or was told the message that the text is.
abbrev pub DidSay : {C : Type 0} → (C → Deed → C → Type 0) → C → Line → C → Type 0
DidSay did old Nothing new = new ≡ old
DidSay did old Status new = new ≡ old
DidSay did old Flush new = did old Flushed new
DidSay did old Tick new = did old Ticked new
DidSay did old (Message text) new = (sent : Sent) × IsMessage (words_of text.now) sent × did old (Messaged sent) new
