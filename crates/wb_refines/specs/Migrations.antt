-- The table of a migration as that of the abstract world, step by step.
use Rattle.std.specs.Prelude.{◌≡◌, ◌<◌, ℕ, Bool, List, [], ◌∷◌, Option, Some, true, false}
use Rattle.wb_types.specs.declared.number.CBlock.{CBlock}
use Rattle.wb_tasks.specs.declared.step.Migration.{Migration}
use Rattle.wb_tasks.specs.declared.step.Migration.TheVariants.{Promote, Demote, Clean}
use Rattle.wb_tasks.specs.declared.step.DeviceStep.TheVariants.{Read, Write}
use Rattle.wb_tasks.specs.declared.step.DeskStep.TheVariants.{Map, Unmap, ReleaseOrder}
use Rattle.wb_tasks.specs.declared.step.Want.{Want}
use Rattle.wb_tasks.specs.declared.step.Want.TheVariants.{Cell, Device, Desk}
use Rattle.wb_words.specs.declared.step.CellStep.TheVariants.{SetFailed}
use Rattle.wb_tasks.specs.Tables.{BlockRange, Migrating, OnBlock, work}
use Rattle.wb_tasks.specs.Plan.{first_steps, lets_go}
use Rattle.wb_disk.specs.Device.{Content}
use Rattle.wb_link.specs.World.{Owns, AbstractActor}
use Rattle.wb_link.specs.Tables.{Order, Answer as AbstractAnswer, Job as AbstractJob, Promoting, Returning, Want as AbstractWant, Make_room, Map_to, Unmap_from, Give_up, Read_all, Write_all, abstract_table as table_there, abstract_work as work_there, abstract_release as release_there, breaking}
use Rattle.wb_refines.specs.Translation.{location_at, offsets_in, offsets, cell_wants, number_of}

-- a migration under this order, of these sectors
abbrev pub job_under : Order → List (List ℕ) → Migration → AbstractJob
job_under order os (Promote c) = Promoting order os
job_under order os Demote = Returning true order os
job_under order os Clean = Returning false order os

-- What its steps stand for. Whether there is room for an entry of the mapping is asked first there.
abbrev pub migration_wants : ℕ → Order → List (List ℕ) → Migration → List Want → List AbstractWant
migration_wants size order os migration [] = []
migration_wants size order os migration (Cell step ∷ later) = cell_wants (job_under order os migration) step (migration_wants size order os migration later)
migration_wants size order os migration (Device (Read device e) ∷ later) = Read_all (location_at size device e) order.block (offsets_in size e) ∷ migration_wants size order os migration later
migration_wants size order os migration (Device (Write device e) ∷ later) = Write_all (location_at size device e) order.block (offsets_in size e) ∷ migration_wants size order os migration later
migration_wants size order os migration (Desk (Map block place) ∷ later) = Make_room ∷ Map_to order ∷ migration_wants size order os migration later
migration_wants size order os migration (Desk (Unmap block) ∷ later) = Unmap_from order ∷ migration_wants size order os migration later
migration_wants size order os migration (Desk (ReleaseOrder block) ∷ later) = Give_up order ∷ migration_wants size order os migration later
migration_wants size order os migration (next ∷ later) = migration_wants size order os migration later

-- The order of a migration of this block, which is or comes to be in this cache block, for the sake of this one or none.
abbrev pub order_on : BlockRange → CBlock → Option ℕ → Order
order_on part c next = record { block = part.block.0; cache = c.0; next = next }

-- A promotion's order names the cache block that it fills.
abbrev pub Fills : Migration → CBlock → Type 0
Fills (Promote k) c = k ≡ c
Fills migration c = Unit {0}

-- where the block is when its seal is looked at: a promotion asks nothing of it, else it is where the order says
abbrev pub IsWhere : Migration → CBlock → Option CBlock → Type 0
IsWhere (Promote k) c place = Unit {0}
IsWhere migration c place = place ≡ Some c

-- The table of a migration goes on as the abstract one: before it begins, once it has its block, where it lets everything go,
-- and where a write has failed.
pub record MigrationTablesAgree : Type 0 where
  pub begins : (size : ℕ) (part : BlockRange) (c : CBlock) (next : Option ℕ) (migration : Migration) →
      migration_wants size (order_on part c next) (offsets size part.extents) migration (first_steps (OnBlock (Migrating migration part))) ≡ (table_there (job_under (order_on part c next) (offsets size part.extents) migration)).steps
  pub works : (part : BlockRange) (c : CBlock) (next : Option ℕ) (migration : Migration) (place : Option CBlock) (dirty : Bool) → 0 < part.block_sectors → Fills migration c → IsWhere migration c place →
      migration_wants part.block_sectors (order_on part c next) (offsets part.block_sectors part.extents) migration (work (Migrating migration part) place dirty)
      ≡ work_there (job_under (order_on part c next) (offsets part.block_sectors part.extents) migration) (record { location = number_of place; dirty = dirty })
  pub lets_go : (size : ℕ) (part : BlockRange) (c : CBlock) (next : Option ℕ) (migration : Migration) (os : List (List ℕ)) →
      migration_wants size (order_on part c next) os migration (lets_go (OnBlock (Migrating migration part))) ≡ release_there (job_under (order_on part c next) os migration)
  pub fails : (size : ℕ) (part : BlockRange) (c : CBlock) (next : Option ℕ) (migration : Migration) (os : List (List ℕ)) →
      migration_wants size (order_on part c next) os migration (Cell SetFailed ∷ []) ≡ breaking (job_under (order_on part c next) os migration)

-- what an abstract actor is that has the block of its migration, with these real steps to come
abbrev pub migrating : ℕ → Order → List (List ℕ) → Migration → List Want → AbstractAnswer → (ℕ → Content) → AbstractActor
migrating size order os migration steps answer buffer = record {
  task = Some (record { job = job_under order os migration; steps = migration_wants size order os migration steps; answer = answer });
  held = Owns order.block;
  order = Some order;
  leads = false;
  buffer = buffer;
}
