-- How far an opening is.
use Rattle.std.specs.Prelude.{◌≡◌, ℕ, List, Some, None, IfSome}
use Rattle.std.specs.declared.alloc.Global.{Global}
use Rattle.wb_disk.specs.Device.{Content}
use Rattle.wb_meta.specs.Reads.{AreStepsOn, HasRead}
use Rattle.wb_meta.specs.declared.read_steps.ReadSteps.{ReadSteps}
use Rattle.wb_devices.specs.declared.opening.Opening.{Opening}

-- nothing was read, and no root is to be written
pub record HasNotBegun (opening : Opening) : Type 0 where
  pub reading : ReadSteps Global
  pub reading_is : opening.reading ≡ Some reading
  pub begins : (sectors : List Content) → HasRead sectors reading
  pub commit : opening.commit ≡ None

-- what was read so far is of a device of so many sectors
abbrev pub MayGoOn : ℕ → Opening → Type 0
MayGoOn sectors opening = IfSome opening.reading (AreStepsOn sectors)
