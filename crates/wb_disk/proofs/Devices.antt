-- Lists of contents and devices: what a read, a write, a sync and a crash make of them.
use Rattle.std.proofs.Common.{◌≡◌, ◌-◌, List, [], ◌∷◌, Some, length, arith}
use Rattle.std.proofs.lemmas.Grind.{common_steps}
use Rattle.std.specs.List.{slice_get}
use Rattle.wb_disk.specs.Device.{Content, last_of}

-- the newest of a list with later contents is the last of them
pub last_of-last : (c : Content) (ds : List Content) (x : Content) → slice_get ds (length ds - 1) ≡ Some x → last_of c ds ≡ x
last_of-last c [] x e = cc
last_of-last c (d ∷ []) x e = cc
last_of-last c (d ∷ (f ∷ ds)) x e = last_of-last d (f ∷ ds) x (grind (arith, common_steps, e))
