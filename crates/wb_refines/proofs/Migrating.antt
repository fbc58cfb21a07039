-- The tables of migrations and those of the abstract world, step by step.
use Rattle.std.proofs.Common.{◌≡◌, ◌<◌, ℕ, Bool, true, false, List, [], ◌∷◌, ◌++◌, Option, Some, None, refl, sym, subst}
use Rattle.wb_types.specs.declared.extent.Extent.{Extent}
use Rattle.wb_types.specs.declared.number.CBlock.{CBlock}
use Rattle.wb_tasks.specs.declared.step.Migration.{Migration}
use Rattle.wb_tasks.specs.declared.step.Migration.TheVariants.{Promote, Demote, Clean}
use Rattle.wb_tasks.specs.Tables.{BlockRange, Migrating, OnBlock, copies, work, ending}
use Rattle.wb_tasks.specs.declared.step.Want.{Want}
use Rattle.wb_link.specs.Tables.{Order, Want as AbstractWant, Read_all, Write_all, copy_each, abstract_work as work_there, abstract_table as table_there, abstract_release as release_there, breaking}
use Rattle.wb_words.specs.declared.step.CellStep.TheVariants.{SetFailed}
use Rattle.wb_tasks.specs.declared.step.Want.TheVariants.{Cell}
use Rattle.wb_tasks.specs.Plan.{first_steps, lets_go}
use Rattle.wb_refines.specs.Translation.{offsets_in, offsets, number_of}
use Rattle.wb_refines.specs.Migrations.{job_under, migration_wants, order_on, Fills, IsWhere, MigrationTablesAgree}
use Rattle.wb_refines.proofs.Tables.{at_place, at_offset}

module _ (part : BlockRange) (some : 0 < part.block_sectors) (order : Order) (os : List (List ℕ)) (migration : Migration) where
  abbrev size : ℕ
  size = part.block_sectors

  abbrev Wants : List Want → List AbstractWant
  Wants ws = migration_wants part.block_sectors order os migration ws

  -- home from a cache block
  homes_are : (from : CBlock) (es : List Extent) (ws : List Want) → Wants (copies part (Some from) None es ++ ws) ≡ copy_each (Some from.0) None order.block (offsets size es) (Wants ws)
  homes_are from [] ws = refl
  homes_are from (e ∷ es) ws = (λ i. Read_all (at_place part some from e i) order.block (at_offset part some from e i) ∷ Write_all None order.block (offsets_in size e) ∷ homes_are from es ws i)

  -- into one
  fills_are : (c : CBlock) (es : List Extent) (ws : List Want) → Wants (copies part None (Some c) es ++ ws) ≡ copy_each None (Some c.0) order.block (offsets size es) (Wants ws)
  fills_are c [] ws = refl
  fills_are c (e ∷ es) ws = (λ i. Read_all None order.block (offsets_in size e) ∷ Write_all (at_place part some c e i) order.block (at_offset part some c e i) ∷ fills_are c es ws i)

abbrev Works : BlockRange → CBlock → Option ℕ → Migration → Option CBlock → Bool → Type 0
Works part c next migration place dirty = migration_wants part.block_sectors (order_on part c next) (offsets part.block_sectors part.extents) migration (work (Migrating migration part) place dirty)
    ≡ work_there (job_under (order_on part c next) (offsets part.block_sectors part.extents) migration) (record { location = number_of place; dirty = dirty })

pub works : (part : BlockRange) (c : CBlock) (next : Option ℕ) (migration : Migration) (place : Option CBlock) (dirty : Bool) → 0 < part.block_sectors → Fills migration c → IsWhere migration c place → Works part c next migration place dirty
works part c next (Promote k) place dirty some f w = subst (λ (v : CBlock). Works part c next (Promote v) place dirty) (sym f) (fills_are part some (order_on part c next) (offsets part.block_sectors part.extents) (Promote c) c part.extents (ending (Promote c) part.block place))
works part c next Demote place true some f w = subst (λ (v : Option CBlock). Works part c next Demote v true) (sym w) (homes_are part some (order_on part c next) (offsets part.block_sectors part.extents) Demote c part.extents (ending Demote part.block (Some c)))
works part c next Demote place false some f w = subst (λ (v : Option CBlock). Works part c next Demote v false) (sym w) refl
works part c next Clean place true some f w = subst (λ (v : Option CBlock). Works part c next Clean v true) (sym w) (homes_are part some (order_on part c next) (offsets part.block_sectors part.extents) Clean c part.extents (ending Clean part.block (Some c)))
works part c next Clean place false some f w = subst (λ (v : Option CBlock). Works part c next Clean v false) (sym w) refl

pub migration_tables_agree : MigrationTablesAgree
migration_tables_agree = record {
  begins = λ size part c next migration. begins size part c next migration;
  works = works;
  lets_go = λ size part c next migration os. goes size part c next migration os;
  fails = λ size part c next migration os. fails size part c next migration os;
}
  where
    begins : (size : ℕ) (part : BlockRange) (c : CBlock) (next : Option ℕ) (migration : Migration) → migration_wants size (order_on part c next) (offsets size part.extents) migration (first_steps (OnBlock (Migrating migration part))) ≡ (table_there (job_under (order_on part c next) (offsets size part.extents) migration)).steps
    begins size part c next (Promote k) = refl
    begins size part c next migration = refl

    goes : (size : ℕ) (part : BlockRange) (c : CBlock) (next : Option ℕ) (migration : Migration) (os : List (List ℕ)) → migration_wants size (order_on part c next) os migration (lets_go (OnBlock (Migrating migration part))) ≡ release_there (job_under (order_on part c next) os migration)
    goes size part c next (Promote k) os = refl
    goes size part c next migration os = refl

    fails : (size : ℕ) (part : BlockRange) (c : CBlock) (next : Option ℕ) (migration : Migration) (os : List (List ℕ)) → migration_wants size (order_on part c next) os migration (Cell SetFailed ∷ []) ≡ breaking (job_under (order_on part c next) os migration)
    fails size part c next (Promote k) os = refl
    fails size part c next migration os = refl
