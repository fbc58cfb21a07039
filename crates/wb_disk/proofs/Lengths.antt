-- A write leaves its device as long as it was.
use Rattle.std.proofs.Common.{◌≡◌, ◌∙◌, ℕ, suc, Bool, true, false, if◌then◌else◌, List, [], ◌∷◌, Option, Some, None, refl, length, slice_get}
use Rattle.std.proofs.lemmas.List.{length-set}
use Rattle.wb_disk.specs.Device.{Content, History, grown, written}
use Rattle.wb_disk.specs.Extents.{written_where}

pub length_grown : (o : Option History) (device : List History) (at : ℕ) (c : Content) → length (grown o c device at) ≡ length device
length_grown None device at c = refl
length_grown (Some h) device at c = length-set device at _

pub length_landed : (landed : Bool) (device : List History) (at : ℕ) (c : Content) → length (if landed then written device at c else device) ≡ length device
length_landed true device at c = length_grown (slice_get device at) device at c
length_landed false device at c = refl

pub length_written_where : (landed : ℕ → Bool) (device : List History) (at : ℕ) (cs : List Content) → length (written_where landed device at cs) ≡ length device
length_written_where landed device at [] = refl
length_written_where landed device at (c ∷ cs) = length_written_where landed (if landed at then written device at c else device) (suc at) cs ∙ length_landed (landed at) device at c
