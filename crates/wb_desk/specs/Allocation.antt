-- What may happen to the cache blocks, the mapping, the two images and the live orders, and the rule that
-- holds after each such act.
use Rattle.std.specs.Prelude.{◌≡◌, ◌≢◌, ◌≤◌, ◌<◌, ◌+◌, ◌⊎◌, ℕ, zero, suc, List, [], ◌∷◌, ◌++◌, Bool, true, false, Option, Some, None, length, map, get_or, slice_set, slice_get}
use Rattle.wb_space.specs.declared.block.Block.{Block}
use Rattle.wb_space.specs.declared.block.Block.TheVariants.{Free, Mapped, Reserved, Quarantined}
use Rattle.wb_space.specs.Blocks.{released, commit_begun, commit_ended, state, IsClaimed}

-- which origin block each cache block stands for
abbrev pub BlockMap : Type 0
BlockMap = List (Option ℕ)

abbrev pub origin_in : BlockMap → ℕ → Option ℕ
origin_in image c = get_or image c None

-- no origin block stands in it twice
abbrev pub NoneTwice : BlockMap → Type 0
NoneTwice image = (b c k : ℕ) → origin_in image c ≡ Some b → origin_in image k ≡ Some b → c ≡ k

-- what an order keeps: its origin blocks, its cache block, its sectors and the threshold in force when it was given
pub record LiveOrder : Type 0 where
  pub origin : ℕ
  pub other : ℕ
  pub cache : ℕ
  pub sectors : ℕ
  pub threshold : ℕ

pub record Allocation : Type 0 where
  pub blocks : List Block
  pub mapping : BlockMap
  pub committed : BlockMap
  pub running : BlockMap
  pub committing : Bool
  pub orders : List LiveOrder
  pub threshold : ℕ

abbrev pub cost : List LiveOrder → ℕ
cost [] = 0
cost (o ∷ os) = o.sectors + cost os

-- two orders share no block
pub record Apart (o p : LiveOrder) : Type 0 where
  pub cache : o.cache ≢ p.cache
  pub origin : o.origin ≢ p.origin
  pub origin_other : o.origin ≢ p.other
  pub other_origin : o.other ≢ p.origin
  pub other : o.other ≢ p.other

abbrev pub ApartAll : LiveOrder → List LiveOrder → Type 0
ApartAll o [] = Unit {0}
ApartAll o (p ∷ ps) = Apart o p × ApartAll o ps

-- every two
abbrev pub Shareless : List LiveOrder → Type 0
Shareless [] = Unit {0}
Shareless (o ∷ os) = ApartAll o os × Shareless os

-- each with those before it is within its threshold
abbrev pub WithinFrom : ℕ → List LiveOrder → Type 0
WithinFrom before [] = Unit {0}
WithinFrom before (o ∷ os) = (before + o.sectors ≤ o.threshold) × WithinFrom (before + o.sectors) os

-- orders without the one at this place
abbrev pub orders_without : List LiveOrder → ℕ → List LiveOrder
orders_without [] i = []
orders_without (o ∷ os) zero = os
orders_without (o ∷ os) (suc i) = o ∷ orders_without os i

abbrev pub cache_at : List LiveOrder → ℕ → ℕ
cache_at [] i = 0
cache_at (o ∷ os) zero = o.cache
cache_at (o ∷ os) (suc i) = cache_at os i

-- some order has this cache block
abbrev pub HasOrder : List LiveOrder → ℕ → Type 0
HasOrder [] c = ⊥
HasOrder (o ∷ os) c = (o.cache ≡ c) ⊎ HasOrder os c

-- What happens: orders that are given with the block reserved or not, and their ends.
pub data DeskAct : Type 0 where
  Give : (order : LiveOrder) (reserves : Bool) → DeskAct
  Over : (place : ℕ) → DeskAct
  Map : (block cache : ℕ) → DeskAct
  Unmap : (cache : ℕ) (keep : Bool) → DeskAct
  Begin : DeskAct
  End : DeskAct
  Threshold : ℕ → DeskAct

abbrev pub after_act : Allocation → DeskAct → Allocation
after_act d (Give o true) = record d { blocks = slice_set d.blocks o.cache Reserved; orders = d.orders ++ o ∷ [] }
after_act d (Give o false) = record d { orders = d.orders ++ o ∷ [] }
after_act d (Over i) = record d { blocks = slice_set d.blocks (cache_at d.orders i) (released (state d.blocks (cache_at d.orders i))); orders = orders_without d.orders i }
after_act d (Map b c) = record d { blocks = slice_set d.blocks c Mapped; mapping = slice_set d.mapping c (Some b) }
after_act d (Unmap c keep) = record d { blocks = slice_set d.blocks c (Quarantined keep false); mapping = slice_set d.mapping c None }
after_act d Begin = record d { blocks = map commit_begun d.blocks; running = d.mapping; committing = true }
after_act d End = record d { blocks = map commit_ended d.blocks; committed = d.running; committing = false }
after_act d (Threshold n) = record d { threshold = n }

-- an order may be given: its blocks are in no live order, and there is room
pub record MayGiveOrder (d : Allocation) (o : LiveOrder) : Type 0 where
  pub apart : ApartAll o d.orders
  pub room : cost d.orders + o.sectors ≤ d.threshold
  pub under : o.threshold ≡ d.threshold

abbrev pub DeskMayAct : Allocation → DeskAct → Type 0
DeskMayAct d (Give o true) = MayGiveOrder d o × (slice_get d.blocks o.cache ≡ Some Free)
DeskMayAct d (Give o false) = MayGiveOrder d o
DeskMayAct d (Over i) = i < length d.orders
DeskMayAct d (Map b c) = (slice_get d.blocks c ≡ Some Reserved) × (c < length d.mapping) × ((k : ℕ) → origin_in d.mapping k ≢ Some b)
DeskMayAct d (Unmap c false) = slice_get d.blocks c ≡ Some Mapped
DeskMayAct d (Unmap c true) = (slice_get d.blocks c ≡ Some Mapped) × HasOrder d.orders c
DeskMayAct d Begin = d.committing ≡ false
DeskMayAct d End = d.committing ≡ true
DeskMayAct d (Threshold n) = Unit {0}

-- What one cache block is, what it is mapped for, and what the two images have there
abbrev pub ImageSafe : Block → Option ℕ → Option ℕ → Option ℕ → Type 0
ImageSafe Free now committed running = (now ≡ None) × (committed ≡ None) × (running ≡ None)
ImageSafe Reserved now committed running = (now ≡ None) × (committed ≡ None) × (running ≡ None)
ImageSafe Mapped now committed running = (b : ℕ) × (now ≡ Some b) × ((committed ≡ None) ⊎ (committed ≡ Some b)) × ((running ≡ None) ⊎ (running ≡ Some b))
ImageSafe (Quarantined claimed false) now committed running = now ≡ None
ImageSafe (Quarantined claimed true) now committed running = (now ≡ None) × (running ≡ None)

-- The rule
pub record AllocationInvariant (d : Allocation) : Type 0 where
  pub sound : (c : ℕ) → ImageSafe (state d.blocks c) (origin_in d.mapping c) (origin_in d.committed c) (origin_in d.running c)
  pub idle : d.committing ≡ false → d.running ≡ d.committed
  -- a reserved or claimed block is that of a live order
  pub held : (c : ℕ) → IsClaimed (state d.blocks c) → HasOrder d.orders c
  pub shareless : Shareless d.orders
  pub within : WithinFrom 0 d.orders
  -- no origin block stands twice in the mapping or in an image
  pub mapping_once : NoneTwice d.mapping
  pub committed_once : NoneTwice d.committed
  pub running_once : NoneTwice d.running

abbrev pub IsActRun : Allocation → List DeskAct → Type 0
IsActRun d [] = Unit {0}
IsActRun d (a ∷ rest) = DeskMayAct d a × IsActRun (after_act d a) rest

abbrev pub after_acts : Allocation → List DeskAct → Allocation
after_acts d [] = d
after_acts d (a ∷ rest) = after_acts (after_act d a) rest

-- A quarantined block stays so until the end of a commit, one that began after its removal: only a beginning marks it, and
-- only an end frees what is marked. Said of what a block was and is, and whether this was a beginning or an end.
abbrev pub StaysQuarantined : (begins ends : Type 0) → Block → Block → Type 0
StaysQuarantined begins ends (Quarantined k false) (Quarantined k' false) = Unit {0}
StaysQuarantined begins ends (Quarantined k false) (Quarantined k' true) = begins
StaysQuarantined begins ends (Quarantined k false) b = ⊥
StaysQuarantined begins ends (Quarantined k true) (Quarantined k' true) = Unit {0}
StaysQuarantined begins ends (Quarantined k true) (Quarantined k' false) = ⊥
StaysQuarantined begins ends (Quarantined k true) b = ends
StaysQuarantined begins ends other b = Unit {0}

abbrev pub StaysOrEnds : Block → DeskAct → Block → Type 0
StaysOrEnds old a new = StaysQuarantined (a ≡ Begin) (a ≡ End) old new

-- at an opening, each entry of the mapping is in the committed image too
abbrev pub block_as_opened : Option ℕ → Block
block_as_opened None = Free
block_as_opened (Some b) = Mapped

abbrev pub at_opening : BlockMap → ℕ → Allocation
at_opening m n = record { blocks = map block_as_opened m; mapping = m; committed = m; running = m; committing = false; orders = []; threshold = n }
