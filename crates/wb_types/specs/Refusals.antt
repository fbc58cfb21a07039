-- The numbers of refusals.
use Rattle.std.specs.Prelude.{ℕ}
use Rattle.wb_types.specs.declared.refusal.Refusal.{Refusal}
use Rattle.wb_types.specs.declared.refusal.Refusal.TheVariants.{Range, Crosses, Busy, Defer, Io, Failed, Memory, Worn, Geometry, NotFormatted, Damaged, Mismatch, NotClean, BadMessage, WrongMode, BadTable, GenerationEnd}

-- the number that a user reads
abbrev pub number_of : Refusal → ℕ
number_of Range = 1
number_of Crosses = 2
number_of Busy = 3
number_of Defer = 4
number_of (Io device) = 5
number_of Failed = 6
number_of Memory = 7
number_of Worn = 8
number_of Geometry = 9
number_of NotFormatted = 10
number_of (Damaged place) = 11
number_of Mismatch = 12
number_of NotClean = 13
number_of BadMessage = 14
number_of WrongMode = 15
number_of BadTable = 16
number_of GenerationEnd = 17
