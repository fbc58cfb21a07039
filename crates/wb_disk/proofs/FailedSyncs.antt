-- What a failing sync leaves of the sectors.
use Rattle.std.proofs.Common.{◌≡◌, inl, inr, ℕ, zero, suc, Bool, true, false, List, [], ◌∷◌, Some, length, refl, sym, ap, subst}
use Rattle.std.specs.List.{slice_get}
use Rattle.wb_disk.specs.Device.{History, MaySync, PartlySynced}
use Rattle.wb_disk.specs.Failing.{SyncedSo, sync_landed, synced_from}

pub length-synced_from : (lands : ℕ → Bool) (at : ℕ) (hs : List History) → length (synced_from lands at hs) ≡ length hs
length-synced_from lands at [] = refl
length-synced_from lands at (h ∷ hs) = ap suc (length-synced_from lands (suc at) hs)

pub one_synced : (landed : Bool) (h : History) → MaySync h (sync_landed landed h)
one_synced true h = inr refl
one_synced false h = inl refl

pub each_synced : (lands : ℕ → Bool) (at : ℕ) (hs : List History) (i : ℕ) (h g : History) → slice_get hs i ≡ Some h → slice_get (synced_from lands at hs) i ≡ Some g → MaySync h g
each_synced lands at [] i h g e d = absurd (cc)
each_synced lands at (a ∷ hs) zero h g e d =
    let is : a ≡ h = cc in
    let got : sync_landed (lands at) a ≡ g = cc in
    subst (λ (v : History). MaySync h v) got (subst (λ (v : History). MaySync v (sync_landed (lands at) a)) is (one_synced (lands at) a))
each_synced lands at (a ∷ hs) (suc i) h g e d = each_synced lands (suc at) hs i h g e d

-- each sector has its newest content alone, or its whole list
pub partly_synced : (lands : ℕ → Bool) (hs : List History) → PartlySynced hs (synced_from lands 0 hs)
partly_synced lands hs = record { size = length-synced_from lands 0 hs; each = each_synced lands 0 hs }

-- and so it has wherever the sync may have landed
pub partly_so : (may : (ℕ → Bool) → Type 0) (old new : List History) → SyncedSo may old new → PartlySynced old new
partly_so may old new synced = subst (λ (d : List History). PartlySynced old d) (sym synced.2) (partly_synced synced.0 old)
