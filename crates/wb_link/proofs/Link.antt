-- What ties the world to the contents machine: which acts each step is, what is known between any two steps, and
-- when what is left of a task is safe whatever the other actors do meanwhile.
use Rattle.std.proofs.Common.{◌≡◌, ◌≢◌, ◌≤◌, ◌⊎◌, ◌++◌, ℕ, zero, suc, Bool, true, false, List, [], ◌∷◌, Option, Some, None, length, slice_get}
use Rattle.wb_disk.specs.Device.{Content, newest, only}
use Rattle.wb_contents.specs.Volume.{Locations, Volume, Whole}
use Rattle.wb_types.specs.declared.mode.Mode.{Mode}
use Rattle.wb_types.specs.declared.mode.Mode.TheVariants.{Passthrough}
use Rattle.wb_contents.specs.Acts.{Act, Write, Write_origin, Write_cache, Fail_write, Finish, Fill_cache, Copy_back, Map, Unmap, Make_dirty, Make_clean, Begin_commit, Begin_suspend, Sync_cache, Sync_origin, Fail_cache_sync, Fail_origin_sync, Write_root, End_commit, Begin_flush, End_flush, volume_after_all as after_acts}
use Rattle.wb_contents.specs.Conditions.{IsUnnamed, IsRunOfActs as IsActs}
use Rattle.wb_contents.proofs.Run.{KeepsAll}
use Rattle.wb_link.specs.Tables.{Order, Job, Reading, Writing, Writing_through, Flushing, Suspending, Promoting, Returning, Invalidating, Seal, Answer, Finished, Want, Look_fail, Share, Own, Set_seal, Leave, Disown, Read_all, Write_all, Begin, Begin_clean, Sync_cache_device, Sync_origin_device, Put_root, End_running, Map_to, Unmap_from, Unmap_plain, Give_up, End, Got, Done, Flag, Gave, Fault, Script, abstract_want}
use Rattle.wb_link.specs.World.{AreAlike, Block, Free, Mapped, Reserved, Quarantined, Retained, Shared, Held, Nothing, Shares, Owns, AbstractActor, World, effect, actor_after, AbstractGives, ShareNoBlock, NextIsUnmapped, is_alone, job_alone, drops}
use Rattle.wb_link.specs.Clerk.{histories_after}
use Rattle.wb_link.proofs.Views.{BlockView, block_view, commit_view, Holds}
use Rattle.wb_link.proofs.Acts.{Mine}

-- The acts of a step, task by task.

-- of an extent's sectors, one after the other
abbrev pub each_act : (ℕ → List Act) → List ℕ → List Act
each_act acts [] = []
each_act acts (o ∷ os) = acts o ++ each_act acts os

-- a write that lands, or is lost
abbrev pub landed_or : Bool → Act → (b o : ℕ) → Content → List Act
landed_or true act b o c = act ∷ []
landed_or false act b o c = Fail_write b o c ∷ []

abbrev pub if_so : Bool → List Act → List Act
if_so true acts = acts
if_so false acts = []

abbrev pub write_acts : Content → Want → Got → List Act
write_acts c (Set_seal b seal) got = if_so seal.dirty (Make_dirty b ∷ [])
write_acts c (Unmap_plain b k) got = Unmap b ∷ []
write_acts c (Write_all location b os) Done = each_act (λ o. Write b o c ∷ Finish b o ∷ []) os
write_acts c (Write_all location b os) (Fault lands) = each_act (λ o. landed_or (lands b o) (Write b o c) b o c) os
write_acts c w got = []

-- by write-through: where it is mapped, on the origin first
abbrev pub origin_acts : Option ℕ → (b : ℕ) → List ℕ → Content → Got → List Act
origin_acts None b os c got = write_acts c (Write_all None b os) got
origin_acts (Some k) b os c Done = each_act (λ o. Write_origin b o c ∷ []) os
origin_acts (Some k) b os c (Fault lands) = each_act (λ o. landed_or (lands b o) (Write_origin b o c) b o c) os
origin_acts location b os c got = []

abbrev pub write_through_acts : Option ℕ → Content → Want → Got → List Act
write_through_acts location c (Write_all None b os) got = origin_acts location b os c got
write_through_acts location c (Write_all (Some k) b os) Done = each_act (λ o. Write_cache b o ∷ Finish b o ∷ []) os
write_through_acts location c (Write_all (Some k) b os) (Fault lands) = each_act (λ o. if_so (lands b o) (Write_cache b o ∷ [])) os
write_through_acts location c w got = []

abbrev pub flush_acts : ℕ → Want → Got → List Act
flush_acts a (Begin ticket) Done = Begin_commit ∷ []
flush_acts a Begin_clean Done = Begin_suspend ∷ []
flush_acts a Sync_cache_device Done = Sync_cache ∷ []
flush_acts a Sync_cache_device (Fault lands) = Fail_cache_sync lands ∷ []
flush_acts a Sync_origin_device Done = Sync_origin ∷ []
flush_acts a Sync_origin_device (Fault lands) = Fail_origin_sync lands ∷ []
flush_acts a Put_root got = Write_root ∷ []
flush_acts a End_running got = End_commit ∷ []
flush_acts a (End Finished) got = End_flush a ∷ []
flush_acts a w got = []

-- of a copy, a sector of which is such an act
abbrev pub copy_acts : (ℕ → Act) → ℕ → List ℕ → Got → List Act
copy_acts act b os Done = each_act (λ o. act o ∷ []) os
copy_acts act b os (Fault lands) = each_act (λ o. if_so (lands b o) (act o ∷ [])) os
copy_acts act b os got = []

abbrev pub promote_acts : Order → (ℕ → Content) → Want → Got → List Act
promote_acts order contents (Write_all location b os) got = copy_acts (λ o. Fill_cache order.cache o (contents o)) b os got
promote_acts order contents (Map_to o) got = Map order.block order.cache ∷ []
promote_acts order contents w got = []

abbrev pub clean_acts : (leaves : Bool) → ℕ → List Act
clean_acts true b = []
clean_acts false b = Make_clean b ∷ []

abbrev pub return_acts : (leaves : Bool) → Order → Want → Got → List Act
return_acts leaves order (Write_all location b os) got = copy_acts (λ o. Copy_back order.block o) b os got
return_acts leaves order (Unmap_from o) got = Unmap order.block ∷ []
return_acts leaves order (Set_seal b seal) got = clean_acts leaves order.block
return_acts leaves order w got = []

abbrev pub drop_acts : Want → Got → List Act
drop_acts (Unmap_plain b k) got = Unmap b ∷ []
drop_acts w got = []

abbrev pub acts_of : Locations → ℕ → Job → (ℕ → Content) → Want → Got → List Act
acts_of locations a (Reading past b os) buffer w got = []
acts_of locations a (Writing past b os c) buffer w got = write_acts c w got
acts_of locations a (Writing_through b os c) buffer w got = write_through_acts (locations b) c w got
acts_of locations a (Invalidating b) buffer w got = drop_acts w got
acts_of locations a (Flushing order) buffer w got = flush_acts a w got
acts_of locations a Suspending buffer w got = flush_acts a w got
acts_of locations a (Promoting order os) buffer w got = promote_acts order buffer w got
acts_of locations a (Returning leaves order os) buffer w got = return_acts leaves order w got

-- a flush begins with its task
abbrev pub start_acts : ℕ → Job → List Act
start_acts a (Flushing order) = Begin_flush a ∷ []
start_acts a Suspending = Begin_flush a ∷ []
start_acts a job = []

-- What is known between any two steps.

-- what of the machine is the world's where no target stands: no mapping, mode, seal or block of the desk
pub record Told (s : Shared) (d : Volume) : Type 0 where
  pub origin : s.origin ≡ d.origin
  pub cache : s.cache ≡ d.cache
  pub committed : s.committed ≡ d.committed.locations
  pub running : s.running ≡ d.running.locations
  pub root_written : s.root_written ≡ d.root_written
  pub committed_clean : (b k : ℕ) → s.committed b ≡ Some k → s.committed_clean b ≡ d.committed.clean b
  pub running_clean : (b k : ℕ) → s.running b ≡ Some k → s.running_clean b ≡ d.running.clean b

-- the world's devices, mapping and images are the machine's
pub record Agrees (s : Shared) (d : Volume) : Type 0 where
  pub told : Told s d
  pub mapping : s.mapping ≡ d.mapping
  pub live : s.live ≡ d.live
  pub mode : s.mode ≡ d.mode
  pub began : s.began ≡ d.began
  pub ended : s.ended ≡ d.ended

-- image safety of a cache block
abbrev pub Sound : Block → (mapping committed running : Locations) → ℕ → Type 0
Sound Free m c r k = IsUnnamed m k × IsUnnamed c k × IsUnnamed r k
Sound Mapped m c r k = Unit {0}
Sound Reserved m c r k = IsUnnamed m k × IsUnnamed c k × IsUnnamed r k
Sound (Quarantined true) m c r k = IsUnnamed m k × IsUnnamed r k
Sound (Quarantined false) m c r k = IsUnnamed m k
Sound (Retained true) m c r k = IsUnnamed m k × IsUnnamed r k
Sound (Retained false) m c r k = IsUnnamed m k

abbrev pub AllSound : Shared → Type 0
AllSound s = (k : ℕ) → Sound (s.blocks k) s.mapping s.committed s.running k

-- past a block's sectors nothing happens
abbrev pub Bounded : ℕ → Volume → Type 0
Bounded size d = (z : Content) × ((b o : ℕ) → size ≤ o → (d.origin b o ≡ only z) × (d.cache b o ≡ only z))

pub record Good (size : ℕ) (s : Shared) (d : Volume) : Type 0 where
  pub kept : KeepsAll d
  pub agrees : Agrees s d
  pub bounded : Bounded size d
  pub sound : AllSound s
  pub idle : s.committing ≡ false → s.root_written ≡ false

-- the seal is the dirty bit where the block is mapped
abbrev pub SealsDirty : Seal → BlockView → Type 0
SealsDirty seal v = (k : ℕ) → v.location ≡ Some k → seal.dirty ≡ v.dirty

-- a block that nobody owns: each sector has its last write, and all writes are finished; the seal is mapping and dirty bit
pub record Rests (seal : Seal) (v : BlockView) : Type 0 where
  pub whole : (o : ℕ) → v.standing o ≡ Whole
  pub location : seal.location ≡ v.location
  pub dirty : SealsDirty seal v
  pub done : (o : ℕ) → v.finished o ≡ length (v.histories o).later

abbrev pub RestsAt : Shared → Volume → ℕ → Type 0
RestsAt s d b = Rests (s.seals b) (block_view d b)

-- What others leave alone while an actor has what it has.
pub record Others (a : ℕ) (x : AbstractActor) (s : Shared) (d : Volume) (t : Shared) (e : Volume) : Type 0 where
  pub seal : (b : ℕ) → Holds x.held b → t.seals b ≡ s.seals b
  pub block : (b : ℕ) → Holds x.held b → block_view e b ≡ block_view d b
  pub location : (p : Order) → x.order ≡ Some p → e.mapping p.block ≡ d.mapping p.block
  pub state : (p : Order) → x.order ≡ Some p → (s.blocks p.cache ≡ Reserved) ⊎ (s.blocks p.cache ≡ Mapped) → t.blocks p.cache ≡ s.blocks p.cache
  pub cached : (p : Order) → x.order ≡ Some p → s.blocks p.cache ≡ Reserved → (o : ℕ) → newest (e.cache p.cache o) ≡ newest (d.cache p.cache o)
  pub commit : x.leads ≡ true → commit_view e ≡ commit_view d
  pub ticket : e.ticket a ≡ d.ticket a
  pub began : d.began ≤ e.began
  pub ended : d.ended ≤ e.ended
  pub fail : s.fail ≡ true → t.fail ≡ true
  pub live : e.live ≡ d.live
  pub mode : e.mode ≡ d.mode
  pub alone : is_alone x.task ≡ true → (t ≡ s) × (e ≡ d)

-- a task that is answered holds nothing, or the target has failed
abbrev pub MayEnd : Answer → Held → Shared → Type 0
MayEnd Finished held s = held ≡ Nothing
MayEnd answer held s = (held ≡ Nothing) ⊎ (s.fail ≡ true)

-- What a step asks of the actor, what it is told with the result, and what it has to leave.

abbrev pub Ready : Want → AbstractActor → Shared → Type 0
Ready (Share b) x s = x.held ≡ Nothing
Ready (Own b) x s = x.held ≡ Nothing
Ready (Set_seal b seal) x s = x.held ≡ Owns b
Ready (Write_all location b os) x s = x.held ≡ Owns b
Ready (Leave b) x s = x.held ≡ Shares b
Ready (Disown b) x s = x.held ≡ Owns b
Ready (Begin ticket) x s = x.leads ≡ false
Ready Begin_clean x s = (x.leads ≡ false) × (is_alone x.task ≡ true)
Ready (End answer) x s = MayEnd answer x.held s
Ready Put_root x s = x.leads ≡ true
Ready End_running x s = x.leads ≡ true
Ready (Map_to p) x s = (x.order ≡ Some p) × (s.blocks p.cache ≡ Reserved)
Ready (Unmap_from p) x s = (x.order ≡ Some p) × (s.mapping p.block ≡ Some p.cache)
Ready (Unmap_plain b k) x s = (drops x.task ≡ true) × (s.mapping b ≡ Some k)
Ready (Give_up p) x s = x.order ≡ Some p
Ready w x s = Unit {0}

abbrev pub Receives : AbstractActor → Job → Want → Got → Shared → Volume → Type 0
Receives x job (Share b) Done s d = RestsAt s d b
Receives x job (Own b) Done s d = RestsAt s d b
Receives x job Look_fail (Flag false) s d = job_alone job ≡ false → d.live ≡ true
Receives x job Begin_clean Done s d = job_alone job ≡ true → s.fail ≡ false → (b : ℕ) → x.held ≢ Owns b → RestsAt s d b
Receives x job w got s d = Unit {0}

abbrev pub Owes : Job → Want → Shared → Volume → Type 0
Owes job (Disown b) t e = RestsAt t e b
Owes Suspending (End answer) t e = (t.fail ≡ true) ⊎ (e.live ≡ true)
Owes job w t e = Unit {0}

-- What is promised of a step: what a read gives is the sector's last write; the histories are the clerk's, who sees
-- the step alone; a flush that is answered done has covered what was finished when it began.
abbrev pub ReadsRight : Job → Want → Got → Volume → Type 0
ReadsRight (Reading past block extents) (Read_all location b os) (Gave contents) d = AreAlike os contents (λ o. newest (d.histories b o))
ReadsRight job w got d = Unit {0}

abbrev pub FlushesRight : ℕ → Job → Want → Volume → Volume → Type 0
FlushesRight a (Flushing order) (End Finished) d e = (b o : ℕ) → d.then_finished a b o ≤ e.floor b o
FlushesRight a Suspending (End Finished) d e = (b o : ℕ) → d.then_finished a b o ≤ e.floor b o
FlushesRight a job w d e = Unit {0}

pub record Right (a : ℕ) (job : Job) (w : Want) (got : Got) (d e : Volume) : Type 0 where
  pub reads : ReadsRight job w got d
  pub histories : e.histories ≡ histories_after d.histories job w
  pub flushes : FlushesRight a job w d e

abbrev pub AllMine : ℕ → ℕ → AbstractActor → Bool → List Act → Type 0
AllMine size a x busy [] = Unit {0}
AllMine size a x busy (y ∷ ys) = Mine size a x busy y × AllMine size a x busy ys

-- A step of an actor is right, and leaves what is left safe.
pub record Goes (size a : ℕ) (rest : AbstractActor → Shared → Volume → Type 0) (x : AbstractActor) (script : Script) (w : Want) (got : Got) (s t : Shared) (d e : Volume) (acts : List Act) : Type 0 where
  pub run : IsActs d acts
  pub mine : AllMine size a x s.committing acts
  pub agrees : Agrees t e
  pub ready : Ready w x s
  pub owes : Owes script.job w t e
  pub right : Right a script.job w got d e
  pub left : rest (actor_after x script w got) t e

abbrev pub Next : (size a : ℕ) → (AbstractActor → Shared → Volume → Type 0) → AbstractActor → Option Script → Shared → Volume → Type 0
Next size a rest x None s d = Unit {0}
Next size a rest x (Some script) s d = (t : Shared) (e : Volume) (got : Got) → Others a x s d t e → Good size t e → AbstractGives t (abstract_want script) got → Receives x script.job (abstract_want script) got t e →
    Goes size a rest x script (abstract_want script) got t (effect t script.job x.buffer (abstract_want script) got) e (after_acts e (acts_of t.mapping a script.job x.buffer (abstract_want script) got)) (acts_of t.mapping a script.job x.buffer (abstract_want script) got)

-- What is left of an actor's task is safe for so many steps: whatever the others do before each.
abbrev pub Safe : ℕ → ℕ → ℕ → AbstractActor → Shared → Volume → Type 0
Safe zero size a x s d = Unit {0}
Safe (suc n) size a x s d = Next size a (λ y t e. Safe n size a y t e) x x.task s d

-- Two actors do not have the same.
pub record Disjoint (x y : AbstractActor) : Type 0 where
  pub held : (b : ℕ) → x.held ≡ Owns b → (y.held ≢ Owns b) × (y.held ≢ Shares b)
  pub order : (p q : Order) → x.order ≡ Some p → y.order ≡ Some q → ShareNoBlock p q
  pub leads : x.leads ≡ true → y.leads ≡ true → ⊥
  pub alone : is_alone x.task ≡ true → y.task ≡ None

-- an order's cache block is reserved, mapped or kept; commits make a kept one a reserved one
abbrev pub IsKept : Block → Type 0
IsKept b = (early : Bool) × (b ≡ Retained early)

abbrev pub Ordered : Block → Type 0
Ordered b = ((b ≡ Reserved) ⊎ (b ≡ Mapped)) ⊎ IsKept b

abbrev pub Turns : Block → Block → Type 0
Turns b c = (c ≡ b) ⊎ (IsKept b × (IsKept c ⊎ (c ≡ Reserved)))

-- an order's block is unmapped while its cache block is reserved or kept, and on it while that is mapped; the block
-- that is to follow is unmapped
abbrev pub Placing : Shared → Order → Type 0
Placing s p = (s.blocks p.cache ≡ Reserved → s.mapping p.block ≡ None) × (s.blocks p.cache ≡ Mapped → s.mapping p.block ≡ Some p.cache) × (IsKept (s.blocks p.cache) → s.mapping p.block ≡ None) × NextIsUnmapped s p

abbrev pub Unowned : List AbstractActor → ℕ → Type 0
Unowned actors b = (a : ℕ) (x : AbstractActor) → slice_get actors a ≡ Some x → x.held ≢ Owns b

abbrev pub NobodyAlone : List AbstractActor → Type 0
NobodyAlone actors = (a : ℕ) (x : AbstractActor) → slice_get actors a ≡ Some x → is_alone x.task ≡ false

-- What is known of the orders that are put aside.
pub record SetAside (s : Shared) (actors : List AbstractActor) (waiting : ℕ → Option Order) (mode : Mode) : Type 0 where
  pub at : (k : ℕ) (p : Order) → waiting k ≡ Some p → p.cache ≡ k
  pub stands : (k : ℕ) (p : Order) → waiting k ≡ Some p → Ordered (s.blocks p.cache)
  pub placed : (k : ℕ) (p : Order) → waiting k ≡ Some p → Placing s p
  pub apart : (k : ℕ) (p : Order) (a : ℕ) (x : AbstractActor) (q : Order) → waiting k ≡ Some p → slice_get actors a ≡ Some x → x.order ≡ Some q → ShareNoBlock q p
  pub each : (j k : ℕ) (p q : Order) → waiting j ≡ Some p → waiting k ≡ Some q → j ≢ k → ShareNoBlock p q
  pub modes : (k : ℕ) (p : Order) → waiting k ≡ Some p → mode ≢ Passthrough

-- The link's invariant.
pub record Linked (size : ℕ) (w : World) (d : Volume) : Type 0 where
  pub good : Good size w.shared d
  pub rests : (b : ℕ) → Unowned w.actors b → RestsAt w.shared d b
  pub disjoint : (a b : ℕ) (x y : AbstractActor) → slice_get w.actors a ≡ Some x → slice_get w.actors b ≡ Some y → a ≢ b → Disjoint x y
  pub leads : (a : ℕ) (x : AbstractActor) → slice_get w.actors a ≡ Some x → x.leads ≡ true → w.shared.committing ≡ true
  pub stands : (a : ℕ) (x : AbstractActor) (p : Order) → slice_get w.actors a ≡ Some x → x.order ≡ Some p → Ordered (w.shared.blocks p.cache)
  pub placed : (a : ℕ) (x : AbstractActor) (p : Order) → slice_get w.actors a ≡ Some x → x.order ≡ Some p → Placing w.shared p
  -- no order lives in passthrough, and a task that unmaps without one is there alone
  pub orders : (a : ℕ) (x : AbstractActor) (p : Order) → slice_get w.actors a ≡ Some x → x.order ≡ Some p → d.mode ≢ Passthrough
  pub dropping : (a : ℕ) (x : AbstractActor) → slice_get w.actors a ≡ Some x → drops x.task ≡ true → d.mode ≡ Passthrough
  -- who has no task holds nothing, unless the target has failed; a target that has not failed stands, but for a suspend's
  pub resting : (a : ℕ) (x : AbstractActor) → slice_get w.actors a ≡ Some x → x.task ≡ None → (x.held ≡ Nothing) ⊎ (w.shared.fail ≡ true)
  pub living : NobodyAlone w.actors → w.shared.fail ≡ false → d.live ≡ true
  pub safe : (a : ℕ) (x : AbstractActor) (n : ℕ) → slice_get w.actors a ≡ Some x → Safe n size a x w.shared d
  pub aside : SetAside w.shared w.actors w.waiting d.mode
