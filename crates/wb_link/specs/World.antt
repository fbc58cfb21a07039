-- A small world: two devices of data, the seals, the fail word, the desk, the metadata as the images that they may
-- stand for, actors, each with what is left of its step table, and the orders that nobody is at.
use Rattle.std.specs.Prelude.{◌≡◌, ◌≢◌, ◌<◌, ◌≤◌, ◌+◌, ◌⊎◌, cond, ℕ, Bool, true, false, List, [], ◌∷◌, Option, Some, None, Contains, replicate, slice_get, slice_set}
use Rattle.wb_disk.specs.Device.{Content, History, newest, added, only}
use Rattle.wb_contents.specs.Volume.{Locations, changed, changed_at}
use Rattle.wb_types.specs.declared.mode.Mode.{Mode}
use Rattle.wb_types.specs.declared.mode.Mode.TheVariants.{Writeback, Writethrough, Passthrough}
use Rattle.wb_contents.specs.Acts.{all_synced, partly_synced}
use Rattle.wb_link.specs.Tables.{Begin, Begin_clean, Break_commits, Broken, Disown, Done, End, End_running, Fault, Flag, Flushing, Gave, Give_up, Got, Invalidating, Job, Leave, Look_fail, Look_seal, Lost, Make_room, Map_to, Order, Own, Writing_through, Promoting, Read_all, Reading, Script, Seal, Seen, Served, Set_failed, Set_seal, Set_suspended, Share, Short, Suspending, Sync_origin_device, Sync_cache_device, Sync_metadata, Ticket, Unmap_from, Unmap_plain, Want, Returning, Write_all, Put_root, Writing, abstract_after, abstract_table, abstract_want}

pub data Block : Type 0 where
  Free : Block
  Mapped : Block
  Reserved : Block
  Quarantined : (early : Bool) → Block
  -- quarantined, and kept for the replacement that unmapped it
  Retained : (early : Bool) → Block

pub record Shared : Type 0 where
  pub origin : ℕ → ℕ → History
  pub cache : ℕ → ℕ → History
  pub seals : ℕ → Seal
  pub fail : Bool
  -- a target stands and no suspend has taken its image; its mode
  pub live : Bool
  pub mode : Mode
  pub mapping : Locations
  pub blocks : ℕ → Block
  pub committing : Bool
  -- commits are numbered from 1: the last that began, the last that ended; and whether one was broken
  pub began : ℕ
  pub ended : ℕ
  pub broken : Bool
  pub committed : Locations
  pub running : Locations
  pub root_written : Bool
  -- which blocks an opening of each takes as clean
  pub committed_clean : ℕ → Bool
  pub running_clean : ℕ → Bool

pub data Held : Type 0 where
  Nothing : Held
  Shares : ℕ → Held
  Owns : ℕ → Held

pub record AbstractActor : Type 0 where
  pub task : Option Script
  pub held : Held
  pub order : Option Order
  pub leads : Bool
  -- what it has read last, by offset
  pub buffer : ℕ → Content

pub record World : Type 0 where
  pub shared : Shared
  pub actors : List AbstractActor
  -- the orders that live and that nobody is at, by cache block
  pub waiting : ℕ → Option Order

-- What a step does to what is shared.

abbrev pub block_begun : Block → Block
block_begun (Quarantined early) = Quarantined true
block_begun (Retained early) = Retained true
block_begun block = block

abbrev pub block_ended : Block → Block
block_ended (Quarantined true) = Free
block_ended (Retained true) = Reserved
block_ended block = block

abbrev pub removed : Option ℕ → Block
removed None = Quarantined false
removed (Some b) = Retained false

abbrev pub block_given_back : Block → Block
block_given_back Reserved = Free
block_given_back (Retained early) = Quarantined early
block_given_back block = block

-- what an actor writes at each offset: a write what it was given, a migration what it has read
abbrev pub abstract_contents_for : Job → (ℕ → Content) → ℕ → Content
abstract_contents_for (Writing past b os c) buffer = λ o. c
abstract_contents_for (Writing_through b os c) buffer = λ o. c
abstract_contents_for other buffer = buffer

abbrev pub put_sector : Shared → Option ℕ → ℕ → ℕ → Content → Shared
put_sector s None b o c = record s { origin = changed_at s.origin b o (added (s.origin b o) c) }
put_sector s (Some k) b o c = record s { cache = changed_at s.cache k o (added (s.cache k o) c) }

abbrev pub if_landed : Bool → Shared → Shared → Shared
if_landed true new old = new
if_landed false new old = old

-- of an extent's sectors those that land
abbrev pub put_where : (ℕ → Bool) → Shared → Option ℕ → ℕ → List ℕ → (ℕ → Content) → Shared
put_where lands s location b [] contents = s
put_where lands s location b (o ∷ os) contents = put_where lands (if_landed (lands o) (put_sector s location b o (contents o)) s) location b os contents

abbrev pub effect : Shared → Job → (ℕ → Content) → Want → Got → Shared
effect s job buffer (Set_seal b seal) got = record s { seals = changed s.seals b seal }
effect s job buffer Set_failed got = record s { fail = true }
effect s job buffer Set_suspended got = record s { fail = true }
effect s job buffer Break_commits got = record s { broken = true }
effect s job buffer (Write_all location b os) Done = put_where (λ o. true) s location b os (abstract_contents_for job buffer)
effect s job buffer (Write_all location b os) (Fault lands) = put_where (lands b) s location b os (abstract_contents_for job buffer)
effect s job buffer (Begin ticket) Done = record s { began = s.began + 1; running_clean = λ b. false; committing = true; running = s.mapping; blocks = λ k. block_begun (s.blocks k) }
effect s job buffer Begin_clean Done = record s { began = s.began + 1; running_clean = λ b. cond (s.seals b).dirty false true; committing = true; running = s.mapping; blocks = λ k. block_begun (s.blocks k); live = false }
effect s job buffer Sync_cache_device Done = record s { cache = all_synced s.cache }
effect s job buffer Sync_cache_device (Fault lands) = record s { cache = partly_synced lands s.cache }
effect s job buffer Sync_origin_device Done = record s { origin = all_synced s.origin }
effect s job buffer Sync_origin_device (Fault lands) = record s { origin = partly_synced lands s.origin }
effect s job buffer Put_root got = record s { root_written = true }
effect s job buffer End_running got = record s { ended = s.began; committed_clean = s.running_clean; committing = false; committed = s.running; root_written = false; blocks = λ k. block_ended (s.blocks k) }
effect s job buffer (Map_to order) got = record s { mapping = changed s.mapping order.block (Some order.cache); blocks = changed s.blocks order.cache Mapped }
effect s job buffer (Unmap_from order) got = record s { mapping = changed s.mapping order.block None; blocks = changed s.blocks order.cache (removed order.next) }
effect s job buffer (Unmap_plain b k) got = record s { mapping = changed s.mapping b None; blocks = changed s.blocks k (Quarantined false) }
effect s job buffer (Give_up order) got = record s { blocks = changed s.blocks order.cache (block_given_back (s.blocks order.cache)) }
effect s job buffer w got = s

-- What it does to the actor.

abbrev pub held_after : Held → Want → Got → Held
held_after held (Share b) Done = Shares b
held_after held (Own b) Done = Owns b
held_after held (Leave b) got = Nothing
held_after held (Disown b) got = Nothing
held_after held w got = held

-- a replacement goes on with its next block
abbrev pub following : ℕ → Option ℕ → Option Order
following cache None = None
following cache (Some b) = Some (record { block = b; cache = cache; next = None })

abbrev pub order_after : Option Order → Want → Option Order
order_after order (Map_to o) = None
order_after order (Unmap_from o) = following o.cache o.next
order_after order (Give_up o) = None
order_after order w = order

abbrev pub leads_after : Bool → Want → Got → Bool
leads_after leads (Begin ticket) Done = true
leads_after leads Begin_clean Done = true
leads_after leads End_running got = false
leads_after leads w got = leads

abbrev pub buffer_after : (ℕ → Content) → Got → ℕ → Content
buffer_after buffer (Gave contents) = contents
buffer_after buffer got = buffer

abbrev pub task_after : Script → Want → Got → Option Script
task_after script (End answer) got = None
task_after script w got = Some (abstract_after script got)

abbrev pub actor_after : AbstractActor → Script → Want → Got → AbstractActor
actor_after x script w got = record {
  task = task_after script w got;
  held = held_after x.held w got;
  order = order_after x.order w;
  leads = leads_after x.leads w got;
  buffer = buffer_after x.buffer got;
}

-- What may come of a step: what the shared state says, and of an exchange what the lock words say of all actors.

abbrev pub newest_at : Shared → Option ℕ → ℕ → ℕ → Content
newest_at s None b o = newest (s.origin b o)
newest_at s (Some k) b o = newest (s.cache k o)

-- once commits have ended up to this number: one of them covers the ticket, or none does
abbrev pub TicketIsCovered : (ended : ℕ) → Option ℕ → Type 0
TicketIsCovered ended None = ⊥
TicketIsCovered ended (Some k) = k ≤ ended

abbrev pub TicketIsUncovered : (ended : ℕ) → Option ℕ → Type 0
TicketIsUncovered ended None = Unit {0}
TicketIsUncovered ended (Some k) = ended < k

abbrev pub Serves : Shared → Option ℕ → Type 0
Serves s = TicketIsCovered s.ended

abbrev pub Unserved : Shared → Option ℕ → Type 0
Unserved s = TicketIsUncovered s.ended

-- at these offsets both are the same
abbrev pub AreAlike : List ℕ → (ℕ → Content) → (ℕ → Content) → Type 0
AreAlike [] f g = Unit {0}
AreAlike (o ∷ os) f g = (f o ≡ g o) × AreAlike os f g

-- it is done; or may have failed, be lost to another actor, or be refused
abbrev pub IsDoneStep : Got → Type 0
IsDoneStep Done = Unit {0}
IsDoneStep got = ⊥

abbrev pub MayBeFault : Got → Type 0
MayBeFault (Fault lands) = Unit {0}
MayBeFault got = IsDoneStep got

abbrev pub MayLose : Got → Type 0
MayLose Lost = Unit {0}
MayLose got = IsDoneStep got

abbrev pub MayLack : Got → Type 0
MayLack Short = Unit {0}
MayLack got = IsDoneStep got

abbrev pub AbstractGives : Shared → Want → Got → Type 0
AbstractGives s Look_fail (Flag f) = f ≡ s.fail
AbstractGives s Look_fail got = ⊥
AbstractGives s (Share b) got = MayLose got
AbstractGives s (Own b) got = MayLose got
AbstractGives s (Look_seal b) (Seen seal) = seal ≡ s.seals b
AbstractGives s (Look_seal b) got = ⊥
AbstractGives s (Read_all location b os) (Gave contents) = AreAlike os contents (newest_at s location b)
AbstractGives s (Read_all location b os) (Fault lands) = Unit {0}
AbstractGives s (Read_all location b os) got = ⊥
AbstractGives s (Write_all location b os) got = MayBeFault got
AbstractGives s Put_root got = MayBeFault got
AbstractGives s Make_room got = MayLack got
AbstractGives s (Begin ticket) Done = (s.committing ≡ false) × (s.broken ≡ false) × Unserved s ticket
AbstractGives s (Begin ticket) (Ticket k) = (ticket ≡ None) × (s.committing ≡ true) × (s.broken ≡ false) × (k ≡ s.began + 1)
AbstractGives s (Begin ticket) Served = Serves s ticket
AbstractGives s (Begin ticket) Broken = (s.broken ≡ true) × Unserved s ticket
AbstractGives s (Begin ticket) Short = Unserved s ticket
-- it does not wait for the one that runs
AbstractGives s (Begin ticket) Lost = s.committing ≡ true
AbstractGives s (Begin ticket) got = ⊥
AbstractGives s Begin_clean Done = s.committing ≡ false
AbstractGives s Begin_clean Lost = s.committing ≡ true
AbstractGives s Begin_clean got = MayLack got
AbstractGives s Sync_cache_device got = MayBeFault got
AbstractGives s Sync_origin_device got = MayBeFault got
AbstractGives s Sync_metadata got = MayBeFault got
AbstractGives s w got = IsDoneStep got

-- What the lock words tell: an exchange to an own meets nobody who holds the block, one to a share nobody who owns it.
abbrev pub Wins : List AbstractActor → Want → Got → Type 0
Wins actors (Share b) Done = (a : ℕ) (x : AbstractActor) → slice_get actors a ≡ Some x → x.held ≢ Owns b
Wins actors (Own b) Done = (a : ℕ) (x : AbstractActor) → slice_get actors a ≡ Some x → (x.held ≢ Owns b) × (x.held ≢ Shares b)
Wins actors w got = Unit {0}

-- Starts.

abbrev pub abstract_order_of : Job → Option Order
abstract_order_of (Promoting order os) = Some order
abstract_order_of (Returning leaves order os) = Some order
abstract_order_of (Flushing order) = order
abstract_order_of job = None

abbrev pub abstract_reserved : Shared → Job → Shared
abstract_reserved s (Promoting order os) = record s { blocks = changed s.blocks order.cache Reserved }
abstract_reserved s job = s

-- an order may be given: no live order shares a block with it
abbrev pub NamesBlock : Order → ℕ → Type 0
NamesBlock o b = (o.block ≡ b) ⊎ (o.next ≡ Some b)

abbrev pub ShareNoBlock : Order → Order → Type 0
ShareNoBlock o p = ((b : ℕ) → NamesBlock o b → NamesBlock p b → ⊥) × (o.cache ≢ p.cache)

-- the block that is to follow is unmapped
abbrev pub NextIsUnmapped : Shared → Order → Type 0
NextIsUnmapped s o = (b : ℕ) → o.next ≡ Some b → s.mapping b ≡ None

abbrev pub Ungiven : World → Order → Type 0
Ungiven w order = ((a : ℕ) (x : AbstractActor) (o : Order) → slice_get w.actors a ≡ Some x → x.order ≡ Some o → ShareNoBlock o order) × ((k : ℕ) (o : Order) → w.waiting k ≡ Some o → ShareNoBlock o order)

-- these offsets are of the block
abbrev pub Within : ℕ → List ℕ → Type 0
Within size [] = Unit {0}
Within size (o ∷ os) = (o < size) × Within size os

abbrev pub AllWithin : ℕ → List (List ℕ) → Type 0
AllWithin size [] = Unit {0}
AllWithin size (os ∷ extents) = Within size os × AllWithin size extents

-- no offset twice in an extent
abbrev pub AreDistinct : List ℕ → Type 0
AreDistinct [] = Unit {0}
AreDistinct (o ∷ os) = (¬ Contains os o) × AreDistinct os

abbrev pub AllDistinct : List (List ℕ) → Type 0
AllDistinct [] = Unit {0}
AllDistinct (os ∷ extents) = AreDistinct os × AllDistinct extents

-- and they are all of them
abbrev pub AreIn : List (List ℕ) → ℕ → Type 0
AreIn [] o = ⊥
AreIn (os ∷ extents) o = Contains os o ⊎ AreIn extents o

abbrev pub Covers : ℕ → List (List ℕ) → Type 0
Covers size extents = (o : ℕ) → o < size → AreIn extents o

-- A job may be started: a migration only under an order that may be given.
abbrev pub MayStart : ℕ → World → Job → Type 0
MayStart size w (Reading false b os) = AllWithin size os
MayStart size w (Reading true b os) = AllWithin size os × (w.shared.mode ≡ Passthrough)
MayStart size w (Writing past b os c) = AllWithin size os × (w.shared.mode ≡ cond past Passthrough Writeback)
MayStart size w (Writing_through b os c) = AllWithin size os × AllDistinct os × (w.shared.mode ≡ Writethrough)
MayStart size w (Invalidating b) = w.shared.mode ≡ Passthrough
MayStart size w (Flushing order) = order ≡ None
MayStart size w Suspending = (a : ℕ) (x : AbstractActor) → slice_get w.actors a ≡ Some x → x.task ≡ None
MayStart size w (Promoting order os) = AllWithin size os × Covers size os × Ungiven w order × (w.shared.mode ≢ Passthrough) × (w.shared.mapping order.block ≡ None) × (w.shared.blocks order.cache ≡ Free) × NextIsUnmapped w.shared order
MayStart size w (Returning leaves order os) = AllWithin size os × Covers size os × Ungiven w order × (w.shared.mode ≢ Passthrough) × (w.shared.mapping order.block ≡ Some order.cache) × (w.shared.blocks order.cache ≡ Mapped) × NextIsUnmapped w.shared order

-- Records.

pub data Record : Type 0 where
  Start : (actor : ℕ) → Job → Record
  -- a migration, or a replacement's flush, under an order that its actor has already, or that is aside
  Again : (actor : ℕ) → Job → Record
  Step : (actor : ℕ) → Want → Got → Record
  -- an order that is aside is given up, as by the flush that was to serve it and is refused
  Release : (cache : ℕ) → Record

-- an actor with nothing to do, that holds nothing
abbrev pub abstract_resting : AbstractActor
abstract_resting = record { task = None; held = Nothing; order = None; leads = false; buffer = λ o. [] }

abbrev pub abstract_given : AbstractActor → Job → AbstractActor
abstract_given x job = record x { task = Some (abstract_table job); order = abstract_order_of job }

abbrev pub step_task : World → ℕ → AbstractActor → Option Script → Got → World
step_task w a x None got = w
step_task w a x (Some script) got = record {
  shared = effect w.shared script.job x.buffer (abstract_want script) got;
  actors = slice_set w.actors a (actor_after x script (abstract_want script) got);
  waiting = w.waiting;
}

abbrev pub step_actor : World → ℕ → Option AbstractActor → Got → World
step_actor w a None got = w
step_actor w a (Some x) got = step_task w a x x.task got

-- An actor's order is put aside when it is given a job, and an order that it goes on with is taken from there.
abbrev pub aside : (ℕ → Option Order) → Option Order → ℕ → Option Order
aside waiting None = waiting
aside waiting (Some p) = changed waiting p.cache (Some p)

abbrev pub abstract_taken : (ℕ → Option Order) → Option Order → ℕ → Option Order
abstract_taken waiting None = waiting
abstract_taken waiting (Some p) = changed waiting p.cache None

abbrev pub start_actor : World → ℕ → Option AbstractActor → Job → World
start_actor w a None job = w
start_actor w a (Some x) job = record { shared = abstract_reserved w.shared job; actors = slice_set w.actors a (abstract_given x job); waiting = aside w.waiting x.order }

abbrev pub again_actor : World → ℕ → Option AbstractActor → Job → World
again_actor w a None job = w
again_actor w a (Some x) job = record { shared = w.shared; actors = slice_set w.actors a (abstract_given x job); waiting = abstract_taken (aside w.waiting x.order) (abstract_order_of job) }

abbrev pub release_order : World → ℕ → Option Order → World
release_order w k None = w
release_order w k (Some p) = record { shared = record w.shared { blocks = changed w.shared.blocks k (block_given_back (w.shared.blocks k)) }; actors = w.actors; waiting = changed w.waiting k None }

abbrev pub after_record : World → Record → World
after_record w (Start a job) = start_actor w a (slice_get w.actors a) job
after_record w (Again a job) = again_actor w a (slice_get w.actors a) job
after_record w (Step a next got) = step_actor w a (slice_get w.actors a) got
after_record w (Release k) = release_order w k (w.waiting k)

-- an actor with this left to do takes its next step
pub record MayStep (w : World) (a : ℕ) (next : Want) (got : Got) (x : AbstractActor) (script : Script) : Type 0 where
  pub actor : slice_get w.actors a ≡ Some x
  pub task : x.task ≡ Some script
  pub asked : next ≡ abstract_want script
  pub gives : AbstractGives w.shared (abstract_want script) got
  pub wins : Wins w.actors (abstract_want script) got

-- a suspend is alone
abbrev pub job_alone : Job → Bool
job_alone Suspending = true
job_alone job = false

abbrev pub is_alone : Option Script → Bool
is_alone None = false
is_alone (Some script) = job_alone script.job

-- in passthrough there are no orders, and a block is unmapped without one: by itself, or by a write past the cache
abbrev pub job_drops : Job → Bool
job_drops (Invalidating b) = true
job_drops (Writing past b os c) = past
job_drops job = false

abbrev pub drops : Option Script → Bool
drops None = false
drops (Some script) = job_drops script.job

-- it holds nothing, or has kept what it holds at a failure
abbrev pub HoldsNothing : Shared → AbstractActor → Type 0
HoldsNothing s x = ((x.held ≡ Nothing) × (x.leads ≡ false)) ⊎ (s.fail ≡ true)

-- an actor without a task is given a job
pub record MayGiveJob (size : ℕ) (w : World) (a : ℕ) (job : Job) (x : AbstractActor) : Type 0 where
  pub actor : slice_get w.actors a ≡ Some x
  pub task : x.task ≡ None
  pub free : HoldsNothing w.shared x
  pub nobody_alone : (b : ℕ) (y : AbstractActor) → slice_get w.actors b ≡ Some y → is_alone y.task ≡ false
  pub may : MayStart size w job

-- what an order says still: its cache block is reserved, or mapped
abbrev pub MayAgain : ℕ → Shared → Job → Type 0
MayAgain size s (Promoting order os) = AllWithin size os × Covers size os × (s.blocks order.cache ≡ Reserved)
MayAgain size s (Returning leaves order os) = AllWithin size os × Covers size os × (s.blocks order.cache ≡ Mapped)
MayAgain size s (Flushing order) = (p : Order) × (order ≡ Some p)
MayAgain size s job = ⊥

-- an actor without a task goes on under an order: its own, or one that is aside
pub record MayRepeat (size : ℕ) (w : World) (a : ℕ) (job : Job) (x : AbstractActor) : Type 0 where
  pub actor : slice_get w.actors a ≡ Some x
  pub task : x.task ≡ None
  pub free : HoldsNothing w.shared x
  pub order : (p : Order) × (abstract_order_of job ≡ Some p) × (aside w.waiting x.order p.cache ≡ Some p)
  pub nobody_alone : (b : ℕ) (y : AbstractActor) → slice_get w.actors b ≡ Some y → is_alone y.task ≡ false
  pub may : MayAgain size w.shared job

abbrev pub AbstractMay : ℕ → World → Record → Type 0
AbstractMay size w (Start a job) = (x : AbstractActor) × MayGiveJob size w a job x
AbstractMay size w (Again a job) = (x : AbstractActor) × MayRepeat size w a job x
AbstractMay size w (Step a next got) = (x : AbstractActor) × (script : Script) × MayStep w a next got x script
AbstractMay size w (Release k) = (p : Order) × (w.waiting k ≡ Some p) × ((a : ℕ) (x : AbstractActor) → slice_get w.actors a ≡ Some x → is_alone x.task ≡ false)

abbrev pub abstract_after_all : World → List Record → World
abstract_after_all w [] = w
abstract_after_all w (r ∷ rs) = abstract_after_all (after_record w r) rs

abbrev pub IsAbstractRun : ℕ → World → List Record → Type 0
IsAbstractRun size w [] = Unit {0}
IsAbstractRun size w (r ∷ rs) = AbstractMay size w r × IsAbstractRun size (after_record w r) rs

-- devices that have one content, formatted and opened, and so many actors
abbrev pub abstract_begins : ℕ → Content → World
abstract_begins many z = record {
  shared = record {
    origin = λ b o. only z;
    cache = λ k o. only z;
    seals = λ b. record { location = None; dirty = false };
    fail = false;
    live = true;
    mode = Writeback;
    mapping = λ b. None;
    blocks = λ k. Free;
    committing = false;
    began = 0;
    ended = 0;
    broken = false;
    committed = λ b. None;
    running = λ b. None;
    root_written = false;
    committed_clean = λ b. false;
    running_clean = λ b. false;
  };
  actors = replicate many abstract_resting;
  waiting = λ k. None;
}
