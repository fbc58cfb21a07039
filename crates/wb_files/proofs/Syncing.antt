-- A sync of what was synced.
use Rattle.std.proofs.Common.{◌≡◌, ◌∙◌, List, [], ◌∷◌, refl, sym, ap}
use Rattle.wb_disk.specs.Device.{History, newest, only, synced}

-- it leaves it as it is
pub synced_twice : (device : List History) → synced (synced device) ≡ synced device
synced_twice [] = refl
synced_twice (h ∷ hs) = ap (λ (rest : List History). only (newest h) ∷ rest) (synced_twice hs)

-- so what comes of a good sync is as a sync leaves it
pub synced_again : (old new : List History) → new ≡ synced old → synced new ≡ new
synced_again old new e = ap (λ (device : List History). synced device) e ∙ (synced_twice old ∙ sym e)
