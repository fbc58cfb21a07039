-- The bytes of a reply.
use Rattle.std.specs.Prelude.{ℕ, List, ◌++◌, flat_map}
use Rattle.byteorder.specs.Endian.{big_bytes}
use Rattle.wb_nbd.specs.declared.errno.Errno.{Errno}
use Rattle.wb_nbd.specs.declared.errno.Errno.TheVariants.{Io, Memory, Invalid, Space, Shutdown}

-- 0x67446698
abbrev pub reply_magic : ℕ
reply_magic = 1732535960

abbrev pub error_number : Errno → ℕ
error_number Io = 5
error_number Memory = 12
error_number Invalid = 22
error_number Space = 28
error_number Shutdown = 108

-- sectors, one after the other
abbrev pub joined_sectors : List (List ℕ) → List ℕ
joined_sectors sectors = flat_map (λ sector. sector) sectors

-- the first bytes of a reply: its first word, an error's number or 0, and the cookie
abbrev pub reply_header : ℕ → ℕ → List ℕ
reply_header error cookie = (big_bytes 4 reply_magic ++ big_bytes 4 error) ++ big_bytes 8 cookie
