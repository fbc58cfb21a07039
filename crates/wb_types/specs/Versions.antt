-- The numbers by which roots name the versions of the metadata, and which of them is asked for.
use Rattle.std.specs.Prelude.{ℕ, Bool, true, false}
use Rattle.wb_types.specs.declared.version.Version.{Version}
use Rattle.wb_types.specs.declared.version.Version.TheVariants.{One, Two}

abbrev pub version_number : Version → ℕ
version_number One = 1
version_number Two = 2

-- the version of the metadata, by whether the second is asked for
abbrev pub version_asked : Bool → Version
version_asked false = One
version_asked true = Two
