-- What a call on an export was.
use Rattle.std.specs.Prelude.{ℕ, List}
use Rattle.wb_nbd.specs.declared.errno.Errno.{Errno}

-- a call that ended well, of sectors from a place on, or one that was refused
pub data ExportCall : Type 0 where
  Read : (at : ℕ) → (content : List (List ℕ)) → ExportCall
  Wrote : (at : ℕ) → (content : List (List ℕ)) → ExportCall
  Flushed : ExportCall
  Refused : (errno : Errno) → ExportCall
