-- What a look at three devices leaves.
use Rattle.std.specs.Prelude.{ℕ, List}
use Rattle.wb_disk.specs.Device.{History}
use Rattle.wb_devices.specs.declared.devices.Devices.{Devices}
use Rattle.wb_checks.specs.Samples.{AreAsBefore, HaveSizes}

-- A look left devices as they were, where they tell what they hold: reads may have failed on them.
pub record WereLookedAt {D : Type 0} (tells : Type 0) (size : D → ℕ) (contents : D → List History) (devices looked : Devices D) : Type 0 where
  pub sizes : HaveSizes size devices looked
  pub kept : tells → AreAsBefore contents devices looked
