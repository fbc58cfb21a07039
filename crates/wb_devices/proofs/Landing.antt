-- A write of which nothing landed.
use Rattle.std.proofs.Common.{ℕ, List, false, sym}
use Rattle.wb_disk.specs.Device.{Content, History}
use Rattle.wb_disk.specs.Extents.{PartlyWritten}
use Rattle.wb_disk.proofs.Falters.{nothing_written}

pub none_landed : (device : List History) (at : ℕ) (cs : List Content) → PartlyWritten device at cs device
none_landed device at cs = ((λ at. false), sym (nothing_written device at cs))
