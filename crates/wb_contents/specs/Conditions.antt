-- When an act may happen: what the layers above owe.
use Rattle.std.specs.Prelude.{◌≡◌, ◌≢◌, ◌≤◌, ◌⊎◌, ℕ, List, [], ◌∷◌, true, false, Some, None, Contains}
use Rattle.wb_types.specs.declared.mode.Mode.{Mode}
use Rattle.wb_types.specs.declared.mode.Mode.TheVariants.{Writeback, Passthrough}
use Rattle.wb_disk.specs.Device.{entries, newest}
use Rattle.wb_contents.specs.Volume.{Locations, Image, Whole, Half, Volume}
use Rattle.wb_contents.specs.Acts.{Act, Write, Write_origin, Write_cache, Fail_write, Finish, Fill_cache, Copy_back, Map, Unmap, Make_dirty, Make_clean, Begin_commit, Begin_suspend, Write_root, End_commit, End_flush, Crash, Find_image, Write_opening_root, Open, volume_after}

-- a cache block and a block of the origin have the same newest content in each sector
abbrev pub IsCopied : Volume → ℕ → ℕ → Type 0
IsCopied d b k = (o : ℕ) → newest (d.cache k o) ≡ newest (d.origin b o)

-- no block is in this cache block
abbrev pub IsUnnamed : Locations → ℕ → Type 0
IsUnnamed locations k = (b : ℕ) → locations b ≢ Some k

-- neither the mapping nor an image names this cache block
abbrev pub IsUnused : Volume → ℕ → Type 0
IsUnused d k = IsUnnamed d.mapping k × IsUnnamed d.committed.locations k × IsUnnamed d.running.locations k

-- each sector of a block has its last entry where it is read
abbrev pub IsAllWhole : Volume → ℕ → Type 0
IsAllWhole d b = (o : ℕ) → d.standing b o ≡ Whole

-- What a mode asks of what is opened: passthrough wants each mapped block clean.
abbrev pub Admits : Mode → Image → Type 0
Admits Passthrough image = (b k : ℕ) → image.locations b ≡ Some k → image.clean b ≡ true
Admits other image = Unit {0}

-- the condition of an act
abbrev pub MayAct : Volume → Act → Type 0
MayAct d (Write b o c) = (d.live ≡ true) × ((d.mapping b ≡ None) ⊎ (d.dirty b ≡ true))
MayAct d (Write_origin b o c) = d.live ≡ true
MayAct d (Write_cache b o) = (d.live ≡ true) × (d.standing b o ≡ Half)
MayAct d (Fail_write b o c) = d.live ≡ true
MayAct d (Finish b o) = d.standing b o ≡ Whole
MayAct d (Fill_cache k o c) = (d.live ≡ true) × IsUnused d k
MayAct d (Copy_back b o) = (d.live ≡ true) × (d.standing b o ≡ Whole)
MayAct d (Map b k) = (d.live ≡ true) × IsUnused d k × (d.mapping b ≡ None) × IsCopied d b k
MayAct d (Unmap b) = (d.live ≡ true) × ((k : ℕ) × (d.mapping b ≡ Some k) × (IsCopied d b k ⊎ ((d.dirty b ≡ false) × IsAllWhole d b)))
MayAct d (Make_dirty b) = d.mode ≡ Writeback
MayAct d (Make_clean b) = (d.live ≡ true) × ((k : ℕ) × (d.mapping b ≡ Some k) × ((d.dirty b ≡ false) ⊎ IsCopied d b k))
MayAct d Begin_commit = (d.live ≡ true) × (d.root_written ≡ false)
MayAct d Begin_suspend = (d.live ≡ true) × (d.root_written ≡ false) × ((b : ℕ) → IsAllWhole d b)
MayAct d Write_root = (d.cache_synced ≡ true) × (d.origin_synced ≡ true)
MayAct d End_commit = d.root_written ≡ true
MayAct d (End_flush a) = d.ticket a ≤ d.ended
MayAct d (Crash origin cache new_root) = (new_root ≡ true → d.root_written ≡ true) × ((b o : ℕ) → Contains (entries (d.origin b o)) (origin b o)) × ((k o : ℕ) → Contains (entries (d.cache k o)) (cache k o))
MayAct d (Find_image new_root) = new_root ≡ true → d.root_written ≡ true
MayAct d Write_opening_root = (d.live ≡ false) × (d.root_written ≡ false)
MayAct d (Open m) = (d.live ≡ false) × (d.cache_synced ≡ true) × (d.origin_synced ≡ true) × Admits m d.committed
MayAct d other = Unit {0}

-- a list of acts, each of which meets its condition
abbrev pub IsRunOfActs : Volume → List Act → Type 0
IsRunOfActs d [] = Unit {0}
IsRunOfActs d (x ∷ xs) = MayAct d x × IsRunOfActs (volume_after d x) xs
