-- A call that fails and does nothing has landed nowhere, as any call of a disk of which one fails may.
use Rattle.std.proofs.Common.{◌≡◌, ◌∙◌, ℕ, suc, Bool, false, List, [], ◌∷◌, Result, Ok, Err, refl, sym, ap}
use Rattle.std.specs.Prelude.{OnErr}
use Rattle.wb_disk.specs.Device.{Content, History}
use Rattle.wb_disk.specs.Extents.{MayLand, WrittenSo, written_where}
use Rattle.wb_disk.specs.Failing.{SyncedSo, synced_from}

-- it may land anywhere
abbrev pub Anywhere : (ℕ → Bool) → Type 0
Anywhere lands = Unit {0}

abbrev nowhere : ℕ → Bool
nowhere at = false

none_written : (device : List History) (at : ℕ) (contents : List Content) → written_where nowhere device at contents ≡ device
none_written device at [] = refl
none_written device at (c ∷ cs) = none_written device (suc at) cs

none_synced : (at : ℕ) (device : List History) → synced_from nowhere at device ≡ device
none_synced at [] = refl
none_synced at (h ∷ hs) = ap (λ rest. h ∷ rest) (none_synced (suc at) hs)

pub reads_nothing : {T E : Type 0} (r : Result T E) → OnErr r (MayLand Anywhere)
reads_nothing (Ok x) = tt
reads_nothing (Err e) = (nowhere, tt)

pub writes_nothing : {T E : Type 0} (r : Result T E) (old new : List History) (first : ℕ) (contents : List Content) → new ≡ old → OnErr r (WrittenSo Anywhere old first contents new)
writes_nothing (Ok x) old new first contents same = tt
writes_nothing (Err e) old new first contents same = (nowhere, tt, same ∙ sym (none_written old first contents))

pub syncs_nothing : {T E : Type 0} (r : Result T E) (old new : List History) → new ≡ old → OnErr r (SyncedSo Anywhere old new)
syncs_nothing (Ok x) old new same = tt
syncs_nothing (Err e) old new same = (nowhere, tt, same ∙ sym (none_synced 0 old))
