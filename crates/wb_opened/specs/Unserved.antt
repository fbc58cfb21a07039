-- Why a target of files was not served.
use Rattle.std.specs.Prelude.{◌≡◌}
use Rattle.wb_types.specs.declared.refusal.Refusal.{Refusal}
use Rattle.wb_types.specs.declared.refusal.Refusal.TheVariants.{Mismatch}
use Rattle.wb_opened.specs.declared.unserved.Unserved.{Unserved}
use Rattle.wb_opened.specs.declared.unserved.Unserved.TheVariants.{Unopened, Uninspected, Refused, Differs}

-- the files of a table cannot serve
abbrev pub IsUnopened : Unserved → Type 0
IsUnopened (Unopened why) = Unit {0}
IsUnopened unserved = ⊥

-- what was looked at before the opening refused it
abbrev pub IsUninspected : Unserved → Type 0
IsUninspected (Uninspected why) = Unit {0}
IsUninspected unserved = ⊥

-- An opening over files that are open was refused so: that is told, or what differs from the table, where it was a mismatch.
abbrev pub IsToldFor : Unserved → Refusal → Type 0
IsToldFor (Refused told) refusal = told ≡ refusal
IsToldFor (Differs difference) refusal = refusal ≡ Mismatch
IsToldFor (Unopened why) refusal = ⊥
IsToldFor (Uninspected why) refusal = ⊥
