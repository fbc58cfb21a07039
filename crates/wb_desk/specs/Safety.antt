-- What the calls of a desk make of its images, which no field holds, and which cache blocks no image has.
use Rattle.std.specs.Prelude.{◌≡◌, false, true, ℕ, Bool, List, [], ◌∷◌, Option, Some, None, slice_set}
use Rattle.wb_types.specs.declared.geometry.Geometry.{Geometry}
use Rattle.wb_types.specs.declared.message.Key.{Key}
use Rattle.wb_types.specs.declared.message.Message.{Message}
use Rattle.wb_types.specs.declared.mode.Mode.{Mode}
use Rattle.wb_types.specs.declared.number.CBlock.{CBlock}
use Rattle.wb_types.specs.declared.number.OBlock.{OBlock}
use Rattle.wb_types.specs.declared.number.Place.{Place}
use Rattle.wb_tree.specs.Mapping.{Mapping}
use Rattle.wb_tree.specs.declared.image.Image.{Image}
use Rattle.wb_policy.specs.declared.order.Order.{Order}
use Rattle.wb_policy.specs.Law.{Holdings, IsMappedAt, origins}
use Rattle.wb_space.specs.Blocks.{state}
use Rattle.wb_orders.specs.Orders.{IsTaken, order_at}
use Rattle.wb_desk.specs.Allocation.{ImageSafe, StaysQuarantined, origin_in}
use Rattle.wb_desk.specs.Desks.{DeskState, DeskInvariant, MayReserve, IsLive, holdings}
use Rattle.wb_desk.specs.Calls.{reserved, released, next_order_taken}
use Rattle.wb_desk.specs.Entries.{MayMap, MayUnmap, HasEntered, HasLeft, IsRemoved, entry_of, mapped, unmapped}
use Rattle.wb_desk.specs.Commits.{HasBegun, MayBegin, commit_begun, commit_broken, commit_ended}
use Rattle.wb_desk.specs.Messages.{MessageIsTold}
use Rattle.wb_desk.specs.Opening.{opened}

-- which origin block each cache block has in the committed image, and in the one that a commit writes
pub record HeldImages : Type 0 where
  pub committed : Holdings
  pub running : Holdings

-- No free or reserved cache block is in an image. A mapped one stands in each for the origin block that it has now, or not at
-- all. One that was removed before the running commit began is not in its image. Where no commit runs there is one image.
pub record AreSafe {P : Type 0} (d : DeskState P) (images : HeldImages) : Type 0 where
  pub each : (c : ℕ) → ImageSafe (state d.space.blocks c) (origin_in (holdings d) c) (origin_in images.committed c) (origin_in images.running c)
  pub idle : d.space.committing ≡ false → images.running ≡ images.committed

-- what is called, where it changes the desk
pub data DeskCall : Type 0 where
  TakeOrder : DeskCall
  Tell : DeskCall
  GiveOrder : (cache : CBlock) (order : Order) (waits : Bool) → DeskCall
  Release : (cache : CBlock) → DeskCall
  Map : (block : OBlock) (cache : CBlock) → DeskCall
  Unmap : (block : OBlock) (cache : CBlock) → DeskCall
  BeginCommit : DeskCall
  EndCommit : DeskCall
  BreakCommit : DeskCall

-- A call may be made of a desk, and makes this one of it: as the contracts of the calls say.
abbrev pub Does : {P : Type 0} → DeskState P → DeskCall → DeskState P → Type 0
Does d TakeOrder new = new ≡ next_order_taken d
Does d Tell new = new ≡ record d { threshold = new.threshold; policy = new.policy }
Does d (GiveOrder cache order waits) new = MayReserve d cache order × (new ≡ reserved d cache order waits)
Does d (Release cache) new = IsTaken (order_at d.orders.slots cache.0) × (new ≡ released d cache)
Does d (Map b cache) new = MayMap d b cache × (new.tree.entries ≡ slice_set d.tree.entries cache.0 (Some (entry_of b))) × (new ≡ mapped d cache new.tree new.policy)
Does d (Unmap b cache) new = IsMappedAt (holdings d) b.0 cache.0 × IsRemoved (order_at d.orders.slots cache.0) × (new.tree.entries ≡ slice_set d.tree.entries cache.0 None) × (new ≡ unmapped d cache new.tree new.policy)
Does d BeginCommit new = MayBegin d × (holdings new ≡ holdings d) × ((image : Image) × (new ≡ commit_begun d new.tree image))
Does d EndCommit new = (d.space.committing ≡ true) × (new ≡ commit_ended d)
Does d BreakCommit new = new ≡ commit_broken d

-- A commit that begins has the entries of now in its image; one that ends leaves its image alone.
abbrev pub images_after : {P : Type 0} → DeskState P → HeldImages → DeskCall → HeldImages
images_after d images TakeOrder = images
images_after d images Tell = images
images_after d images (GiveOrder cache order waits) = images
images_after d images (Release cache) = images
images_after d images (Map b cache) = images
images_after d images (Unmap b cache) = images
images_after d images BeginCommit = record { committed = images.committed; running = holdings d }
images_after d images EndCommit = record { committed = images.running; running = images.running }
images_after d images BreakCommit = images

-- calls, each with the desk that it made, one after the other
abbrev pub AreCalls : {P : Type 0} → (P → Holdings → Type 0) → DeskState P → List (DeskCall × DeskState P) → Type 0
AreCalls knows d [] = Unit {0}
AreCalls knows d (c ∷ calls) = DeskInvariant knows d × Does d c.0 c.1 × AreCalls knows c.1 calls

-- the desk after them
abbrev pub desk_after : {P : Type 0} → DeskState P → List (DeskCall × DeskState P) → DeskState P
desk_after d [] = d
desk_after d (c ∷ calls) = desk_after c.1 calls

-- and the images
abbrev pub images_since : {P : Type 0} → DeskState P → HeldImages → List (DeskCall × DeskState P) → HeldImages
images_since d images [] = images
images_since d images (c ∷ calls) = images_since c.1 (images_after d images c.0) calls

-- What follows from an access or a tick: the policy changes, and orders are given, which wait.
abbrev pub IsDecision : DeskCall → Type 0
IsDecision TakeOrder = ⊥
IsDecision Tell = Unit {0}
IsDecision (GiveOrder cache order waits) = waits ≡ true
IsDecision (Release cache) = ⊥
IsDecision (Map b cache) = ⊥
IsDecision (Unmap b cache) = ⊥
IsDecision BeginCommit = ⊥
IsDecision EndCommit = ⊥
IsDecision BreakCommit = ⊥

abbrev pub AreDecisions : {P : Type 0} → List (DeskCall × DeskState P) → Type 0
AreDecisions [] = Unit {0}
AreDecisions (c ∷ calls) = IsDecision c.0 × AreDecisions calls

-- One desk comes from the other by such calls alone.
abbrev pub ComesByCalls : {P : Type 0} → (P → Holdings → Type 0) → DeskState P → DeskState P → Type 0
ComesByCalls {P} knows d new = (calls : List (DeskCall × DeskState P)) × AreCalls knows d calls × AreDecisions calls × (desk_after d calls ≡ new)

-- ---- laws

-- the images of a desk that has just been opened, which are its entries, are safe
abbrev pub OpenedIsSafe : Type 0 → Type 0
OpenedIsSafe P = (geometry : Geometry) (generation : ℕ) (tree : Mapping) (used : List Place) (mode : Mode) (policy : P) (threshold mapped : ℕ)
    → AreSafe (opened geometry generation tree used mode policy threshold mapped) (record { committed = origins tree.entries; running = origins tree.entries })

-- and stay safe whatever is called
abbrev pub CallsAreSafe : (P : Type 0) → (P → Holdings → Type 0) → Type 0
CallsAreSafe P knows = (d : DeskState P) (calls : List (DeskCall × DeskState P)) (images : HeldImages) → AreCalls knows d calls → AreSafe d images
    → AreSafe (desk_after d calls) (images_since d images calls)

-- A quarantined block leaves its quarantine only at the end of a commit that began after its removal.
abbrev pub IsBeginning : DeskCall → Type 0
IsBeginning TakeOrder = ⊥
IsBeginning Tell = ⊥
IsBeginning (GiveOrder cache order waits) = ⊥
IsBeginning (Release cache) = ⊥
IsBeginning (Map b cache) = ⊥
IsBeginning (Unmap b cache) = ⊥
IsBeginning BeginCommit = Unit {0}
IsBeginning EndCommit = ⊥
IsBeginning BreakCommit = ⊥

abbrev pub QuarantineStays : (P : Type 0) → (P → Holdings → Type 0) → Type 0
QuarantineStays P knows = (d new : DeskState P) (call : DeskCall) → DeskInvariant knows d → Does d call new → (c : ℕ)
    → StaysQuarantined (IsBeginning call) (call ≡ EndCommit) (state d.space.blocks c) (state new.space.blocks c)

-- What the contracts of the calls say is that they do so.
abbrev pub BeginningDoes : (P : Type 0) → (P → ℕ → ℕ) → Type 0
BeginningDoes P hint_of = (d new : DeskState P) (clean : Option (List Bool)) (image : Image) → HasBegun hint_of clean d image new → Does d BeginCommit new

abbrev pub MappingDoes : (P : Type 0) → (P → ℕ → ℕ → P) → Type 0
MappingDoes P with_entry = (d new : DeskState P) (b : OBlock) (c : CBlock) → MayMap d b c → HasEntered with_entry d b c new → Does d (Map b c) new

abbrev pub UnmappingDoes : (P : Type 0) → (P → ℕ → P) → Type 0
UnmappingDoes P without_entry = (d new : DeskState P) (b : OBlock) (may : MayUnmap d b) → HasLeft without_entry d b may.cache new → Does d (Unmap b may.cache) new

abbrev pub TellingDoes : (P : Type 0) → (P → Key → ℕ → Option P) → Type 0
TellingDoes P with_setting = (d new : DeskState P) (message : Message) → MessageIsTold with_setting d message new → Does d Tell new

abbrev pub TakingDoes : Type 0 → Type 0
TakingDoes P = (d new : DeskState P) → new ≡ next_order_taken d → Does d TakeOrder new

abbrev pub ReservingDoes : Type 0 → Type 0
ReservingDoes P = (d new : DeskState P) (c : CBlock) (order : Order) → MayReserve d c order → new ≡ reserved d c order false → Does d (GiveOrder c order false) new

abbrev pub ReleasingDoes : Type 0 → Type 0
ReleasingDoes P = (d new : DeskState P) (order : Order) (live : IsLive d order) → new ≡ released d live.cache → Does d (Release live.cache) new

abbrev pub EndingDoes : Type 0 → Type 0
EndingDoes P = (d new : DeskState P) → d.space.committing ≡ true → new ≡ commit_ended d → Does d EndCommit new

abbrev pub BreakingDoes : Type 0 → Type 0
BreakingDoes P = (d new : DeskState P) → new ≡ commit_broken d → Does d BreakCommit new
