-- How a promotion, a demotion or a write-back of the run, also under a replacement, is followed in the abstract world, where a target
-- stands: its start, each of its steps, and its answer.
use Rattle.std.specs.Prelude.{◌≢◌, ◌⊎◌, ◌++◌, ◌≡◌, ◌≤◌, ◌<◌, ◌+◌, ◌^◌, ℕ, Bool, List, ◌∷◌, Option, Some, None, Contains, length, slice_get, slice_set}
use Rattle.wb_types.specs.declared.extent.Extent.{Extent}
use Rattle.wb_types.specs.declared.mode.Mode.TheVariants.{Writeback, Passthrough}
use Rattle.wb_types.specs.declared.mode.Dev.{Dev}
use Rattle.wb_types.specs.declared.number.OBlock.{OBlock}
use Rattle.wb_types.specs.declared.number.CBlock.{CBlock}
use Rattle.wb_types.specs.declared.refusal.Refusal.{Refusal}
use Rattle.wb_types.specs.Extents.{IsCutInto}
use Rattle.wb_disk.specs.Extents.{written_each, written_where}
use Rattle.wb_words.specs.SharedWords.{Words, word_at, place_in}
use Rattle.wb_words.specs.Effects.{words_after}
use Rattle.wb_words.specs.declared.card.Hold.TheVariants.{Nothing}
use Rattle.wb_policy.specs.declared.order.Order.{Order}
use Rattle.wb_tasks.specs.Tables.{Migrating, OnBlock, whole_block}
use Rattle.wb_tasks.specs.Plan.{Plan, table, after}
use Rattle.wb_tasks.specs.Ready.{Suits}
use Rattle.wb_tasks.specs.declared.step.Answer.{Answer}
use Rattle.wb_tasks.specs.declared.step.DeviceStep.TheVariants.{Read as ReadExtent, Write as WriteExtent}
use Rattle.wb_tasks.specs.declared.step.Got.TheVariants.{Done, Fault, Refused}
use Rattle.wb_tasks.specs.declared.step.Migration.{Migration}
use Rattle.wb_tasks.specs.declared.step.Want.TheVariants.{Cell, Device, Desk, End}
use Rattle.wb_devices.specs.Moving.{device_in}
use Rattle.wb_promise.specs.declared.job.Job.{Job}
use Rattle.wb_promise.specs.declared.job.Job.TheVariants.{Migrate}
use Rattle.wb_promise.specs.States.{Actor, with_device}
use Rattle.wb_simulation.specs.Actors.{AreAmongOthers}
use Rattle.wb_simulation.specs.Telling.{Resumes, Carries, Rests}
use Rattle.wb_simulation.specs.Laws.{WantsNext, stepped_actor, after_step, IsOnlyOf}
use Rattle.wb_words.specs.Rule.{LockRule}
use Rattle.wb_words.specs.declared.word.Word.TheVariants.{Seal as SealWord, Number}
use Rattle.wb_words.specs.declared.step.CellStep.{CellStep}
use Rattle.wb_words.specs.declared.step.CellStep.TheVariants.{Look}
use Rattle.wb_policy.specs.declared.order.Order.TheVariants.{Replace as ReplaceOrder, Demote as DemoteOrder}
use Rattle.wb_tasks.specs.declared.step.DeskStep.TheVariants.{Map, Unmap, ReleaseOrder}
use Rattle.wb_tasks.specs.declared.step.Migration.TheVariants.{Promote, Demote}
use Rattle.wb_link.specs.World.{World, Shared, Free, Mapped, Reserved, ShareNoBlock}
use Rattle.wb_link.specs.Tables.{Order as AbstractOrder}
use Rattle.wb_refines.specs.Migrations.{IsWhere}
use Rattle.wb_promise.specs.Effects.{contents_at, dropped, replacing}
use Rattle.wb_runs.specs.Holding.{cards_of}
use Rattle.wb_contents.specs.Volume.{Locations}
use Rattle.wb_simulation.specs.Carried.{order_there, IsOrderFor}
use Rattle.wb_simulation.specs.Worlds.{Situation, Agrees, Turn, Stays, Reserves, Maps, Unmaps, GivesUp, WorldFollowsBy, WorldFollows}

-- no order that is live shares a block with this one
abbrev pub IsUngiven : Locations → List (Option Order) → AbstractOrder → Type 0
IsUngiven m orders order = (c : ℕ) (o : Order) → slice_get orders c ≡ Some (Some o) → ShareNoBlock (order_there m c o) order

-- a promotion brings a block that is nowhere into a cache block that is free; another order is of a block that stands there
abbrev pub MayBeGiven : Migration → ℕ → ℕ → Shared → Type 0
MayBeGiven (Promote k) block c s = (k.0 ≡ c) × (s.mapping block ≡ None) × (s.blocks c ≡ Free)
MayBeGiven migration block c s = (s.mapping block ≡ Some c) × (s.blocks c ≡ Mapped)

-- what an order that lives says still
abbrev pub MayBeKept : Migration → ℕ → Shared → Type 0
MayBeKept (Promote k) c s = (k.0 ≡ c) × (s.blocks c ≡ Reserved)
MayBeKept migration c s = s.blocks c ≡ Mapped

-- a promotion's order takes its cache block
abbrev pub given_by : Migration → ℕ → Turn
given_by (Promote k) c = Reserves c
given_by migration c = Stays

-- The seal of a migration's block tells where its order has that block, which stands there if another one is to follow.
abbrev pub SealTells : Words → List (Option Order) → Locations → Migration → OBlock → Type 0
SealTells words orders m migration block = (c : CBlock) (next : Option ℕ) (order : Order) → slice_get orders c.0 ≡ Some (Some order) → IsOrderFor migration block next order → (next ≢ None → m block.0 ≡ Some c.0) → IsWhere migration c (place_in (word_at words.seals block))

-- and so it does where the seal or the block's number is looked at
abbrev pub SeesWhere : Words → List (Option Order) → Locations → Migration → OBlock → CellStep → Type 0
SeesWhere words orders m migration block (Look (SealWord b)) = SealTells words orders m migration block
SeesWhere words orders m migration block (Look (Number b)) = SealTells words orders m migration block
SeesWhere words orders m migration block step = Unit {0}

-- a block that is to leave stands where its order says
abbrev pub LeavesFrom : List (Option Order) → Locations → OBlock → Type 0
LeavesFrom orders m block = (c : ℕ) (next : Option ℕ) (order : Order) → slice_get orders c ≡ Some (Some order) → IsOrderFor Demote block next order → (next ≢ None → m block.0 ≡ Some c) → m block.0 ≡ Some c

-- an actor of the run, at this task from now on
abbrev pub begun_actor : Job → Plan → Actor → Actor
begun_actor job plan x = record x { task = Some (job, plan) }

-- the order there of a block on this cache block
abbrev pub order_of_block : OBlock → CBlock → Option ℕ → AbstractOrder
order_of_block block c next = record { block = block.0; cache = c.0; next = next }

-- the plan of a migration of this block, whose sectors are cut so
abbrev pub migrates : ℕ → Migration → OBlock → List Extent → Plan
migrates size migration block cut = table (OnBlock (Migrating migration (record { mode = Writeback; block_sectors = size; block = block; extents = cut })))

-- It goes on with a migration, to where the run stands now, with this actor.
abbrev pub Carried : Turn → ℕ → World → Situation → Actor → Type 0
Carried turn a s now x = WorldFollowsBy turn Carries a s now x

-- It ends its order, which is live on this cache block and its actor's, and goes on as this actor.
pub record EndsOrder (turn : Turn) (c a : ℕ) (s : World) (now : Situation) (x y : Actor) (order : Order) : Type 0 where
  pub live : slice_get now.orders c ≡ Some (Some order)
  pub mine : Contains x.orders order
  pub follows : Carried turn a s (record now { orders = slice_set now.orders c None }) y

-- Its order is a replacement, whose block has left its cache block; from now on it is an order to bring the other one there.
pub record TurnsOrder (c a : ℕ) (s : World) (now : Situation) (x y : Actor) (block : OBlock) : Type 0 where
  pub new : OBlock
  pub k : CBlock
  pub live : slice_get now.orders c ≡ Some (Some (ReplaceOrder block new k))
  pub mine : Contains x.orders (ReplaceOrder block new k)
  pub stood : s.shared.mapping block.0 ≡ Some c
  pub follows : Carried (Unmaps block.0 c (Some new.0)) a s now y

pub record MigrationsFollowed : Type 0 where
  -- under an order that is given, in a mode that caches
  pub starts : (now : Situation) (a : ℕ) (x : Actor) (migration : Migration) (block : OBlock) (c : CBlock) (next : Option ℕ) (order : Order) (cut : List Extent) (s : World) →
      slice_get now.actors a ≡ Some x → x.task ≡ None → x.card.hold ≡ Nothing → 0 < now.size → c.0 < 2 ^ 32 → IsCutInto (whole_block now.size block) cut → slice_get now.orders c.0 ≡ Some None → IsOrderFor migration block next order → order_there s.shared.mapping c.0 order ≡ order_of_block block c next → IsUngiven s.shared.mapping now.orders (order_of_block block c next) → ((b : ℕ) → next ≡ Some b → s.shared.mapping b ≡ None) →
      MayBeGiven migration block.0 c.0 s.shared → now.mode ≢ Passthrough → AreAmongOthers now.actors → Agrees now s →
      WorldFollowsBy (given_by migration c.0) Resumes a s (record now { orders = slice_set now.orders c.0 (Some order) })
      (record x { task = Some (Migrate migration block, migrates now.size migration block cut); orders = order ∷ x.orders })
  -- under one that lives and is its actor's alone
  pub again : (now : Situation) (a : ℕ) (x : Actor) (migration : Migration) (block : OBlock) (c : CBlock) (next : Option ℕ) (order : Order) (cut : List Extent) (s : World) →
      slice_get now.actors a ≡ Some x → x.task ≡ None → x.card.hold ≡ Nothing → 0 < now.size → c.0 < 2 ^ 32 → IsCutInto (whole_block now.size block) cut → slice_get now.orders c.0 ≡ Some (Some order) → IsOrderFor migration block next order → order_there s.shared.mapping c.0 order ≡ order_of_block block c next → Contains x.orders order → IsOnlyOf now.actors a order →
      MayBeKept migration c.0 s.shared → AreAmongOthers now.actors → Agrees now s →
      WorldFollows Resumes a s now (begun_actor (Migrate migration block) (migrates now.size migration block cut) x)
  pub cells : (now : Situation) (blocks : ℕ) (a : ℕ) (x : Actor) (migration : Migration) (block : OBlock) (plan : Plan) (step : CellStep) (s : World) →
      LockRule blocks now.words (cards_of now.actors) → WantsNext now a x s (Migrate migration block) plan (Cell step) → Suits blocks plan x.card → SeesWhere now.words now.orders s.shared.mapping migration block step →
      Carried Stays a s (record now { words = words_after now.words step }) (stepped_actor now.words (Migrate migration block) plan step x)
  -- a read puts what it was given in the buffer
  pub read_done : (now : Situation) (blocks : ℕ) (a : ℕ) (x : Actor) (migration : Migration) (block : OBlock) (plan : Plan) (device : Dev) (e : Extent) (s : World) →
      WantsNext now a x s (Migrate migration block) plan (Device (ReadExtent device e)) → Suits blocks plan x.card → e.first + e.count ≤ length (device_in device now.devices) →
      Carried Stays a s now (record x { task = Some (Migrate migration block, after plan Done); buffer = contents_at (device_in device now.devices) e })
  pub read_fails : (now : Situation) (blocks : ℕ) (a : ℕ) (x : Actor) (migration : Migration) (block : OBlock) (plan : Plan) (device : Dev) (e : Extent) (s : World) →
      WantsNext now a x s (Migrate migration block) plan (Device (ReadExtent device e)) → Suits blocks plan x.card →
      Carried Stays a s now (after_step (Migrate migration block) plan Fault x)
  -- a write takes it from there
  pub write_done : (now : Situation) (blocks : ℕ) (a : ℕ) (x : Actor) (migration : Migration) (block : OBlock) (plan : Plan) (device : Dev) (e : Extent) (s : World) →
      WantsNext now a x s (Migrate migration block) plan (Device (WriteExtent device e)) → Suits blocks plan x.card → e.first + e.count ≤ length (device_in device now.devices) →
      Carried Stays a s (record now { devices = with_device device now.devices (written_each (device_in device now.devices) e.first x.buffer) }) (after_step (Migrate migration block) plan Done x)
  pub write_fails : (now : Situation) (blocks : ℕ) (a : ℕ) (x : Actor) (migration : Migration) (block : OBlock) (plan : Plan) (device : Dev) (e : Extent) (lands : ℕ → Bool) (s : World) →
      WantsNext now a x s (Migrate migration block) plan (Device (WriteExtent device e)) → Suits blocks plan x.card → e.first + e.count ≤ length (device_in device now.devices) →
      Carried Stays a s (record now { devices = with_device device now.devices (written_where lands (device_in device now.devices) e.first x.buffer) }) (after_step (Migrate migration block) plan Fault x)
  -- A promotion's order is over once its block is mapped, a demotion's once it is unmapped; and each where it is given up.
  pub maps : (now : Situation) (blocks : ℕ) (a : ℕ) (x : Actor) (migration : Migration) (block : OBlock) (b : OBlock) (c : CBlock) (plan : Plan) (s : World) →
      WantsNext now a x s (Migrate migration block) plan (Desk (Map b c)) → Suits blocks plan x.card → s.shared.mapping b.0 ≡ None →
      (migration ≡ Promote c) × (b ≡ block) × ((order : Order) × IsOrderFor (Promote c) block None order × EndsOrder (Maps block.0 c.0) c.0 a s now x (record x { task = Some (Migrate migration block, after plan Done); orders = dropped b x.orders }) order)
  pub is_refused : (now : Situation) (blocks : ℕ) (a : ℕ) (x : Actor) (migration : Migration) (block : OBlock) (b : OBlock) (c : CBlock) (plan : Plan) (refusal : Refusal) (s : World) →
      WantsNext now a x s (Migrate migration block) plan (Desk (Map b c)) → Suits blocks plan x.card →
      Carried Stays a s now (after_step (Migrate migration block) plan (Refused refusal) x)
  pub unmaps : (now : Situation) (blocks : ℕ) (a : ℕ) (x : Actor) (migration : Migration) (block : OBlock) (b : OBlock) (plan : Plan) (s : World) →
      WantsNext now a x s (Migrate migration block) plan (Desk (Unmap b)) → Suits blocks plan x.card → LeavesFrom now.orders s.shared.mapping b →
      (migration ≡ Demote) × (b ≡ block) × ((c : ℕ) × (EndsOrder (Unmaps block.0 c None) c a s now x (record x { task = Some (Migrate migration block, after plan Done); orders = dropped b x.orders }) (DemoteOrder block) ⊎ TurnsOrder c a s now x (record x { task = Some (Migrate migration block, after plan Done); orders = dropped b x.orders; awaiting = replacing b x.orders ++ x.awaiting }) block))
  pub gives_up : (now : Situation) (blocks : ℕ) (a : ℕ) (x : Actor) (migration : Migration) (block : OBlock) (b : OBlock) (plan : Plan) (s : World) →
      WantsNext now a x s (Migrate migration block) plan (Desk (ReleaseOrder b)) → Suits blocks plan x.card →
      (b ≡ block) × ((c : ℕ) × (next : Option ℕ) × (order : Order) × IsOrderFor migration block next order × EndsOrder (GivesUp c) c a s now x (record x { task = Some (Migrate migration block, after plan Done); orders = dropped b x.orders }) order)
  -- whatever it is
  pub answers : (now : Situation) (blocks : ℕ) (a : ℕ) (x : Actor) (migration : Migration) (block : OBlock) (plan : Plan) (answer : Answer) (s : World) →
      WantsNext now a x s (Migrate migration block) plan (End answer) → Suits blocks plan x.card →
      WorldFollows Rests a s now (record x { task = None })
