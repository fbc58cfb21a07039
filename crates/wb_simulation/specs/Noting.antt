-- When the notes of a run's clerk are those of the abstract world's.
use Rattle.std.specs.Prelude.{◌≡◌, ◌<◌, ◌+◌, ◌*◌, ℕ, List, Option, Some, None, cond, nat_lt, length, slice_get, unwrap_or}
use Rattle.wb_contents.specs.Devices.{by_block}
use Rattle.wb_link.specs.Tables.{Script, Job as AbstractJob}
use Rattle.wb_link.specs.World.{World, AbstractActor}
use Rattle.wb_link.specs.Clerk.{AbstractNotes, Entry, abstract_raised as raised_there}
use Rattle.wb_promise.specs.Clerk.{Notes, Doing, Position, all_raised}
use Rattle.wb_simulation.specs.Worlds.{zeros}

-- numbers of sectors, seen by block and offset; behind a block's last offset, and where there is no such sector, 0
abbrev pub counts_by_block : ℕ → List ℕ → ℕ → ℕ → ℕ
counts_by_block size counts b o = cond (nat_lt o size) (unwrap_or (slice_get counts (b * size + o)) 0) 0

-- These entries of histories are the same: whatever was finished of so many sectors, they raise it alike.
abbrev pub AreEntries : ℕ → ℕ → List Position → List Entry → Type 0
AreEntries size sectors entered there = (finished : List ℕ) → length finished ≡ sectors → raised_there there (counts_by_block size finished) ≡ counts_by_block size (all_raised finished entered)

-- what the clerks note of who does this job there
pub record DoesAlike (size sectors : ℕ) (doing : Doing) (job : AbstractJob) (a : ℕ) (m : AbstractNotes) : Type 0 where
  pub job_is : m.jobs a ≡ Some job
  pub entered : AreEntries size sectors doing.entered (m.entered a)
  pub asked : m.asked a ≡ counts_by_block size doing.then_finished

abbrev pub IsNotedSo : ℕ → ℕ → Option Script → Option (Option Doing) → ℕ → AbstractNotes → Type 0
IsNotedSo size sectors None noted a m = Unit {0}
IsNotedSo size sectors (Some script) (Some (Some doing)) a m = DoesAlike size sectors doing script.job a m
IsNotedSo size sectors (Some script) noted a m = ⊥

-- Histories, what is finished of each sector, and how far a crash may go back are the same by block and offset; and so is what is noted
-- of each actor that has a task there.
pub record NotesAgree (size : ℕ) (n : Notes) (s : World) (m : AbstractNotes) : Type 0 where
  pub histories : m.histories ≡ by_block size zeros n.histories
  pub finished : m.finished ≡ counts_by_block size n.finished
  pub floors : m.floors ≡ counts_by_block size n.floors
  pub as_many : length n.finished ≡ length n.histories
  pub floors_as_many : length n.floors ≡ length n.histories
  pub each : (a : ℕ) (y : AbstractActor) → a < length n.doings → slice_get s.actors a ≡ Some y → IsNotedSo size (length n.histories) y.task (slice_get n.doings a) a m
