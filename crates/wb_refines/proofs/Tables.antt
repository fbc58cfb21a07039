-- The tables of reads, writes, flushes and suspends, and those of the abstract world, step by step.
use Rattle.std.proofs.Common.{◌≡◌, ◌≢◌, ◌<◌, ◌%◌, ℕ, Bool, true, false, List, [], ◌∷◌, ◌++◌, Option, Some, None, refl, ap, map, mod-lt}
use Rattle.std.proofs.lemmas.Nat.{div-mul-add, mod-mul-add}
use Rattle.wb_types.specs.declared.extent.Extent.{Extent}
use Rattle.wb_types.specs.Extents.{rising}
use Rattle.wb_types.specs.declared.number.CBlock.{CBlock}
use Rattle.wb_types.specs.declared.mode.Mode.{Mode}
use Rattle.wb_types.specs.declared.mode.Mode.TheVariants.{Writeback, Writethrough, Passthrough}
use Rattle.wb_types.specs.declared.mode.Dev.TheVariants.{Cache}
use Rattle.wb_disk.specs.Device.{Content}
use Rattle.wb_words.specs.declared.word.Access.TheVariants.{Shared}
use Rattle.wb_words.specs.declared.step.CellStep.TheVariants.{Release}
use Rattle.wb_types.specs.declared.number.OBlock.{OBlock}
use Rattle.wb_tasks.specs.Plan.{table}
use Rattle.wb_tasks.specs.Tables.{BlockRange, OnBlock, Reading, Writing, Displacing, Invalidating, Suspending, cache_extent, place_read, read_step, read_count, writes, writing, work}
use Rattle.wb_tasks.specs.declared.step.Want.{Want}
use Rattle.wb_tasks.specs.declared.step.Want.TheVariants.{Cell}
use Rattle.wb_link.specs.Tables.{Read_all, Write_all, Set_seal, Unmap_plain, Want as AbstractWant, Job as AbstractJob, abstract_table as table_there, read_each, write_each, write_through_each, abstract_work as work_there}
use Rattle.wb_refines.specs.Translation.{script_for, number_of, location_at, offsets_in, offsets, block_in, job_for, reading_in, writing_in, wants_of}
use Rattle.wb_refines.specs.Laws.{TablesAgree}

pub tables_agree : TablesAgree
tables_agree size most content place part blocks = (reads part.mode, writes_in part.mode, refl, refl, refl, suspends blocks)
  where
    -- whatever its mode
    reads : (mode : Mode) → script_for size content place (table (OnBlock (Reading (record part { mode = mode })))) ≡ table_there (job_for size content (OnBlock (Reading (record part { mode = mode }))))
    reads mode = refl

    writes_in : (mode : Mode) → script_for size content place (table (OnBlock (Writing (record part { mode = mode })))) ≡ table_there (job_for size content (OnBlock (Writing (record part { mode = mode }))))
    writes_in mode = refl

    -- whether it has a seal to look at or none
    suspends : (blocks : List OBlock) → script_for size content None (table (Suspending blocks most)) ≡ table_there (job_for size content (Suspending blocks most))
    suspends [] = refl
    suspends (b ∷ bs) = refl

module _ (part : BlockRange) (some : 0 < part.block_sectors) where
  abbrev size : ℕ
  size = part.block_sectors

  -- an extent in a cache block is of that block, at the same offsets
  pub at_place : (c : CBlock) (e : Extent) → location_at size Cache (cache_extent part c e) ≡ Some c.0
  at_place c e = ap (λ v. Some v) (div-mul-add c.0 size (e.first % size) (mod-lt e.first some))

  pub at_offset : (c : CBlock) (e : Extent) → offsets_in size (cache_extent part c e) ≡ offsets_in size e
  at_offset c e = ap (λ v. rising v e.count) (mod-mul-add c.0 size (e.first % size) (mod-lt e.first some))

  module _ (at : Option CBlock) (job : AbstractJob) where
    abbrev wants : List Want → List AbstractWant
    wants ws = wants_of size at job ws

    pub reads_are : (place : Option CBlock) (es : List Extent) (ws : List Want) → wants (map (read_step part place) es ++ ws) ≡ read_each (number_of place) (block_in job) (offsets size es) (wants ws)
    reads_are place [] ws = refl
    reads_are None (e ∷ es) ws = ap (λ us. Read_all None (block_in job) (offsets_in size e) ∷ us) (reads_are None es ws)
    reads_are (Some c) (e ∷ es) ws = (λ i. Read_all (at_place c e i) (block_in job) (at_offset c e i) ∷ reads_are (Some c) es ws i)

    -- an extent is written to one place of its block; or, written through, to the origin and then to its cache block
    writes_are : (place : Option CBlock) (es : List Extent) (ws : List Want) → wants (writes part (place ∷ []) es ++ ws) ≡ write_each (number_of place) (block_in job) (offsets size es) (wants ws)
    writes_are place [] ws = refl
    writes_are None (e ∷ es) ws = ap (λ us. Write_all None (block_in job) (offsets_in size e) ∷ us) (writes_are None es ws)
    writes_are (Some c) (e ∷ es) ws = (λ i. Write_all (at_place c e i) (block_in job) (at_offset c e i) ∷ writes_are (Some c) es ws i)

    through_are : (c : CBlock) (es : List Extent) (ws : List Want) → wants (writes part (None ∷ Some c ∷ []) es ++ ws) ≡ write_through_each (Some c.0) (block_in job) (offsets size es) (wants ws)
    through_are c [] ws = refl
    through_are c (e ∷ es) ws = (λ i. Write_all None (block_in job) (offsets_in size e) ∷ Write_all (at_place c e i) (block_in job) (at_offset c e i) ∷ through_are c es ws i)

  -- What a read does once it has seen its block's seal; a write in a mode that caches; one that displaces its block; and an invalidation.
  pub read_work : (content : Content) (place : Option CBlock) (dirty : Bool) → wants_of size place (job_for size content (OnBlock (Reading part))) (work (Reading part) place dirty) ≡ work_there (job_for size content (OnBlock (Reading part))) (record { location = number_of place; dirty = dirty })
  read_work content place dirty = by_mode part.mode place
    where
      job : Mode → AbstractJob
      job mode = reading_in mode part.block.0 (offsets size part.extents)

      by_mode : (mode : Mode) (place : Option CBlock) → wants_of size place (job mode) (map (read_step part (place_read mode place)) part.extents ++ read_count (place_read mode place) ∷ Cell (Release Shared part.block) ∷ []) ≡ work_there (job mode) (record { location = number_of place; dirty = dirty })
      by_mode Writeback None = reads_are None (job Writeback) None part.extents _
      by_mode Writeback (Some c) = reads_are (Some c) (job Writeback) (Some c) part.extents _
      by_mode Writethrough None = reads_are None (job Writethrough) None part.extents _
      by_mode Writethrough (Some c) = reads_are (Some c) (job Writethrough) (Some c) part.extents _
      by_mode Passthrough place = reads_are place (job Passthrough) None part.extents _

  pub write_work : part.mode ≢ Passthrough → (content : Content) (place : Option CBlock) (dirty : Bool) → wants_of size place (job_for size content (OnBlock (Writing part))) (work (Writing part) place dirty) ≡ work_there (job_for size content (OnBlock (Writing part))) (record { location = number_of place; dirty = dirty })
  write_work caches content place dirty = by_mode part.mode caches place dirty
    where
      job : Mode → AbstractJob
      job mode = writing_in mode part.block.0 (offsets size part.extents) content

      by_mode : (mode : Mode) → mode ≢ Passthrough → (place : Option CBlock) (dirty : Bool) → wants_of size place (job mode) (writing mode part place dirty) ≡ work_there (job mode) (record { location = number_of place; dirty = dirty })
      by_mode Writeback n None dirty = writes_are None (job Writeback) None part.extents _
      by_mode Writeback n (Some c) true = writes_are (Some c) (job Writeback) (Some c) part.extents _
      by_mode Writeback n (Some c) false = ap (λ ws. Set_seal part.block.0 (record { location = Some c.0; dirty = true }) ∷ ws) (writes_are (Some c) (job Writeback) (Some c) part.extents _)
      by_mode Writethrough n None dirty = writes_are None (job Writethrough) None part.extents _
      by_mode Writethrough n (Some c) dirty = through_are (Some c) (job Writethrough) c part.extents _
      by_mode Passthrough n place dirty = absurd (n refl)

  pub displacing_work : (content : Content) (place : Option CBlock) (dirty : Bool) → wants_of size place (job_for size content (OnBlock (Displacing part))) (work (Displacing part) place dirty) ≡ work_there (job_for size content (OnBlock (Displacing part))) (record { location = number_of place; dirty = dirty })
  displacing_work content None dirty = writes_are None (job_for size content (OnBlock (Displacing part))) None part.extents _
  displacing_work content (Some c) dirty = ap (λ ws. Unmap_plain part.block.0 c.0 ∷ Set_seal part.block.0 (record { location = None; dirty = false }) ∷ ws) (writes_are (Some c) (job_for size content (OnBlock (Displacing part))) None part.extents _)

  pub invalidating_work : (content : Content) (place : Option CBlock) (dirty : Bool) → wants_of size place (job_for size content (OnBlock (Invalidating part))) (work (Invalidating part) place dirty) ≡ work_there (job_for size content (OnBlock (Invalidating part))) (record { location = number_of place; dirty = dirty })
  invalidating_work content None dirty = refl
  invalidating_work content (Some c) dirty = refl
