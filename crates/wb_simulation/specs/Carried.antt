-- The orders of the desk as they are in the abstract world, and when a migration of the run's actor is at the same there, under one of them.
use Rattle.std.specs.Prelude.{◌==◌, ◌++◌, Bool, false, ◌≡◌, ◌⊎◌, ◌<◌, ◌^◌, ℕ, true, List, ◌∷◌, Option, Some, None, Contains, map, slice_get}
use Rattle.wb_types.specs.declared.number.CBlock.{CBlock}
use Rattle.wb_types.specs.declared.number.OBlock.{OBlock}
use Rattle.wb_disk.specs.Device.{Content}
use Rattle.wb_contents.specs.Volume.{Locations}
use Rattle.wb_words.specs.SharedWords.{Words, flag}
use Rattle.wb_policy.specs.declared.order.Order.{Order}
use Rattle.wb_policy.specs.declared.order.Order.TheVariants.{Promote, Replace, Demote, Clean}
use Rattle.wb_tasks.specs.Tables.{BlockRange, Migrating, OnBlock}
use Rattle.wb_tasks.specs.Plan.{Plan}
use Rattle.wb_tasks.specs.declared.step.Answer.{Answer}
use Rattle.wb_tasks.specs.declared.step.DeviceStep.TheVariants.{Write}
use Rattle.wb_tasks.specs.declared.step.Migration.{Migration}
use Rattle.wb_tasks.specs.declared.step.Migration.TheVariants.{Promote as PromoteInto, Demote as DemoteOne}
use Rattle.wb_tasks.specs.declared.step.Want.{Want}
use Rattle.wb_tasks.specs.declared.step.Want.TheVariants.{Device}
use Rattle.wb_link.specs.Tables.{Order as AbstractOrder}
use Rattle.wb_link.specs.World.{AbstractActor}
use Rattle.wb_refines.specs.Translation.{offsets_in}
use Rattle.wb_refines.specs.Models.{HasStopped, plan_of}
use Rattle.wb_refines.specs.Migrations.{order_on, Fills}
use Rattle.wb_refines.specs.Carried.{IsMigrationAt}
use Rattle.wb_promise.specs.States.{Actor}
use Rattle.wb_promise.specs.Happenings.{order_for}
use Rattle.wb_simulation.specs.Actors.{IsLate}
use Rattle.wb_simulation.specs.Telling.{IsMigrating}
use Rattle.wb_simulation.specs.Steps.{IsPart, AreOfBlock, ArePaired, IsTail}

-- the block stands on this cache block
abbrev pub is_at : Option ℕ → ℕ → Bool
is_at None c = false
is_at (Some d) c = d == c

-- a replacement is that of the block that leaves while it stands there, and then that of the block that follows
abbrev pub replacement_there : Bool → (old new c : ℕ) → AbstractOrder
replacement_there true old new c = record { block = old; cache = c; next = Some new }
replacement_there false old new c = record { block = new; cache = c; next = None }

-- An order of the desk that is live on this cache block, as it is there, where each block is mapped so.
abbrev pub order_there : Locations → ℕ → Order → AbstractOrder
order_there m c (Promote block cache) = record { block = block.0; cache = c; next = None }
order_there m c (Replace old new cache) = replacement_there (is_at (m old.0) c) old.0 new.0 c
order_there m c (Demote block) = record { block = block.0; cache = c; next = None }
order_there m c (Clean block) = record { block = block.0; cache = c; next = None }

-- and what lives there of what is in the desk's slot of this cache block
abbrev pub live_there : Locations → ℕ → Option Order → Option AbstractOrder
live_there m c None = None
live_there m c (Some order) = Some (order_there m c order)

-- all orders that an actor has, whether a flush is awaited for them or not
abbrev pub held : Actor → List Order
held x = x.orders ++ x.awaiting

-- a migration under a replacement: of the block that leaves, or of the one that follows
abbrev pub IsReplacing : Migration → OBlock → Option ℕ → Order → Type 0
IsReplacing DemoteOne block next (Replace old new cache) = (old ≡ block) × (next ≡ Some new.0)
IsReplacing (PromoteInto c) block next (Replace old new cache) = (new ≡ block) × (cache ≡ c) × (next ≡ None)
IsReplacing migration block next order = ⊥

-- an order under which a block is migrated so, with this block to follow
abbrev pub IsOrderFor : Migration → OBlock → Option ℕ → Order → Type 0
IsOrderFor migration block next order = ((order ≡ order_for migration block) × (next ≡ None)) ⊎ IsReplacing migration block next order

-- the order that lives on its cache block is one of these
abbrev pub IsOf : List (Option Order) → List Order → AbstractOrder → Type 0
IsOf orders own p = (order : Order) × (slice_get orders p.cache ≡ Some (Some order)) × Contains own order

-- It is under its own order, which is live; or that is over, and what is left is to seal the block, to give it back and to answer.
abbrev pub IsUnderOrder : Option (Option Order) → Order → AbstractOrder → Option AbstractOrder → List Order → List Want → Type 0
IsUnderOrder live order own kept orders steps = ((live ≡ Some (Some order)) × (kept ≡ Some own) × Contains orders order) ⊎ IsTail steps

-- Where an extent is written next, the actor there has read the same.
abbrev pub ActorHasRead : ℕ → List Want → List Content → (ℕ → Content) → Type 0
ActorHasRead size (Device (Write device e) ∷ later) buffer there = buffer ≡ map there (offsets_in size e)
ActorHasRead size steps buffer there = Unit {0}

-- These steps of a migration are left there too, under the same order, with what the actor's card counts.
pub record IsCarried (size : ℕ) (orders : List (Option Order)) (migration : Migration) (block : OBlock) (part : BlockRange) (steps : List Want) (answer : Answer) (x : Actor) (y : AbstractActor) : Type 0 where
  pub block_is : part.block ≡ block
  pub is_part : IsPart size part
  pub c : CBlock
  pub small : c.0 < 2 ^ 32
  pub fills : Fills migration c
  pub of_block : AreOfBlock size part.block.0 steps
  pub paired : ArePaired size steps
  pub next : Option ℕ
  pub order : Order
  pub of : IsOrderFor migration block next order
  pub kept : Option AbstractOrder
  pub has : IsUnderOrder (slice_get orders c.0) order (order_on part c next) kept x.orders steps
  pub at : IsMigrationAt part c next migration kept (plan_of (Migrating migration part) steps answer) x.card y
  pub read : ActorHasRead size steps x.buffer y.buffer

-- it has kept what it has at a failure, and has only to answer
abbrev pub HasEnded : Bool → Plan → Actor → AbstractActor → Type 0
HasEnded failed plan x y = (k : HasStopped failed plan x.card y) × IsMigrating k.script.job

-- a migration is at the same there, has kept what it has at a failure, or is late
pub record IsAtMigration (size : ℕ) (words : Words) (orders : List (Option Order)) (migration : Migration) (block : OBlock) (plan : Plan) (x : Actor) (y : AbstractActor) : Type 0 where
  pub part : BlockRange
  pub job : plan.job ≡ OnBlock (Migrating migration part)
  pub failed : Bool
  pub has_failed : failed ≡ true → flag words.fail ≡ true
  pub at : IsCarried size orders migration block part plan.steps plan.answer x y ⊎ HasEnded failed plan x y ⊎ IsLate failed plan y
