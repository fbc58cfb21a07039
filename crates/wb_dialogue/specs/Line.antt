-- The grammar of a line of a script.
use Rattle.std.specs.Prelude.{◌≡◌, ◌<◌, ◌≤◌, ◌+◌, ◌++◌, ℕ, List, [], ◌∷◌, codes, ◌⊎◌}
use Rattle.std.specs.Str.{IsUtf8}
use Rattle.wb_table.specs.Words.{words_of}
use Rattle.wb_table.specs.Comments.{IsComment}
use Rattle.wb_table.specs.Sectors.{SpellsSectors, SpellsFill}
use Rattle.wb_dialogue.specs.declared.line.Call.{Call}
use Rattle.wb_dialogue.specs.declared.line.Call.TheVariants.{Read, Write, WriteDurably, TryRead, TryWrite, Flush, Settle}
use Rattle.wb_dialogue.specs.declared.line.Line.{Line}
use Rattle.wb_dialogue.specs.declared.line.Line.TheVariants.{Nothing, Asks, Beside, Work, Tick, Status, Message, Suspend, Join}

-- The words that ask this of a client: one that names the call, or `r`, `tr`, `w`, `wf`, `tw` and what they take.
abbrev pub WordsAsk : List (List ℕ) → Call → Type 0
WordsAsk (name ∷ words) (Read at count) = (name ≡ codes "r") × SpellsSectors words at.0 count
WordsAsk (name ∷ words) (TryRead at count) = (name ≡ codes "tr") × SpellsSectors words at.0 count
WordsAsk (name ∷ words) (Write at count fill) = (name ≡ codes "w") × SpellsFill words at.0 count fill
WordsAsk (name ∷ words) (WriteDurably at count fill) = (name ≡ codes "wf") × SpellsFill words at.0 count fill
WordsAsk (name ∷ words) (TryWrite at count fill) = (name ≡ codes "tw") × SpellsFill words at.0 count fill
WordsAsk (name ∷ words) Flush = (name ≡ codes "flush") × (words ≡ [])
WordsAsk (name ∷ words) Settle = (name ≡ codes "settle") × (words ≡ [])
WordsAsk words call = ⊥

-- The word that names a client beside the first: '@' and a digit, 1 to 8.
abbrev pub NamesClient : List ℕ → ℕ → Type 0
NamesClient word client = (0 < client) × (client ≤ 8) × (word ≡ 64 ∷ (client + 48) ∷ [])

-- The words of a line: none, what the first client is asked, what one beside it is asked, `message` and any words, or one word that names what is done.
abbrev pub WordsSay : List (List ℕ) → Line → Type 0
WordsSay [] Nothing = Unit {0}
WordsSay words (Asks call) = WordsAsk words call
WordsSay (name ∷ words) (Beside client call) = NamesClient name client × WordsAsk words call
WordsSay (name ∷ words) Work = (name ≡ codes "work") × (words ≡ [])
WordsSay (name ∷ words) Tick = (name ≡ codes "tick") × (words ≡ [])
WordsSay (name ∷ words) Status = (name ≡ codes "status") × (words ≡ [])
WordsSay (name ∷ words) Message = name ≡ codes "message"
WordsSay (name ∷ words) Suspend = (name ≡ codes "suspend") × (words ≡ [])
WordsSay (name ∷ words) Join = (name ≡ codes "join") × (words ≡ [])
WordsSay words line = ⊥

-- A line is a comment, or a text whose words say this.
abbrev pub IsLine : List ℕ → Line → Type 0
IsLine bytes line = (IsComment bytes × (line ≡ Nothing)) ⊎ ((¬ IsComment bytes) × IsUtf8 bytes × WordsSay (words_of bytes) line)

-- a line, with its break or, where it is the last, without
abbrev pub HasBreakOrNone : List ℕ → List ℕ → Type 0
HasBreakOrNone bytes line = (bytes ≡ line ++ 10 ∷ []) ⊎ (bytes ≡ line)
