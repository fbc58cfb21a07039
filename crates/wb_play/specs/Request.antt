-- The sectors that a call asks for.
use Rattle.std.specs.Prelude.{ℕ}
use Rattle.wb_opened.specs.Inside.{IsInside}
use Rattle.wb_dialogue.specs.declared.line.Call.{Call}
use Rattle.wb_dialogue.specs.declared.line.Call.TheVariants.{Read, Write, WriteDurably, TryRead, TryWrite}

-- a call on sectors
abbrev pub AsksForSectors : Call → Type 0
AsksForSectors (Read at count) = Unit {0}
AsksForSectors (TryRead at count) = Unit {0}
AsksForSectors (Write at count fill) = Unit {0}
AsksForSectors (WriteDurably at count fill) = Unit {0}
AsksForSectors (TryWrite at count fill) = Unit {0}
AsksForSectors call = ⊥

-- What a call asks for lies on an origin of this size.
abbrev pub AsksInside : Call → ℕ → Type 0
AsksInside (Read at count) sectors = IsInside at.0 count sectors
AsksInside (TryRead at count) sectors = IsInside at.0 count sectors
AsksInside (Write at count fill) sectors = IsInside at.0 count sectors
AsksInside (WriteDurably at count fill) sectors = IsInside at.0 count sectors
AsksInside (TryWrite at count fill) sectors = IsInside at.0 count sectors
AsksInside call sectors = Unit {0}
