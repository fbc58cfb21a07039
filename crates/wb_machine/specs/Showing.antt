-- What a machine tells of the target that stands.
use Rattle.std.specs.Prelude.{ℕ, Bool, false, List, Option, Some, None}
use Rattle.std.specs.List.{count_by}
use Rattle.std.specs.declared.alloc.Global.{Global}
use Rattle.wb_types.specs.declared.entry.Entry.{Entry}
use Rattle.wb_words.specs.SharedWords.{Words, dirty_in, word_at}
use Rattle.wb_policy.specs.declared.quiet.Quiet.{Quiet}
use Rattle.wb_desk.specs.Desks.{mapped_now}
use Rattle.wb_promise.specs.States.{Phase, Stands}

-- a cache block that has an entry, whose block has a seal that says that this copy is dirty
abbrev pub is_sealed_dirty : Words → Option Entry → Bool
is_sealed_dirty words None = false
is_sealed_dirty words (Some entry) = dirty_in (word_at words.seals entry.origin)

-- how many there are
abbrev pub dirty_now : Words → List (Option Entry) → ℕ
dirty_now words entries = count_by (is_sealed_dirty words) entries

-- the generation of its newest root, how many cache blocks have an entry, and how many of these are dirty
abbrev pub opened_of : Phase Quiet Global → Option (ℕ × ℕ × ℕ)
opened_of (Stands t) = Some (t.desk.generation, mapped_now t.desk, dirty_now t.words t.desk.tree.entries)
opened_of phase = None
