-- The letters that roots and nodes begin with.
use Rattle.std.specs.Prelude.{ℕ, Bool, cond, codes}
use Rattle.byteorder.specs.Endian.{little_number}

-- the eight letters that a root or a node begins with, as numbers
abbrev pub root_magic : ℕ
root_magic = little_number 8 (codes "WBCROOT1")

abbrev pub mapping_magic : ℕ
mapping_magic = little_number 8 (codes "WBCNODE1")

abbrev pub dirty_magic : ℕ
dirty_magic = little_number 8 (codes "WBCDIRT1")

-- those of a node of dirty bits, or of the mapping
abbrev pub node_magic : Bool → ℕ
node_magic dirty = cond dirty dirty_magic mapping_magic
