-- What is left of a read or a write whose sectors are one extent, at each step of its table.
use Rattle.std.specs.Prelude.{List, [], ◌∷◌, Option}
use Rattle.wb_types.specs.declared.number.CBlock.{CBlock}
use Rattle.wb_words.specs.declared.word.Access.{Access}
use Rattle.wb_words.specs.declared.word.Access.TheVariants.{Shared, Owned}
use Rattle.wb_words.specs.declared.step.CellStep.TheVariants.{Release, Finish}
use Rattle.wb_tasks.specs.Tables.{BlockRange, BlockJob, Reading, Writing, OnBlock, write_step, write_count}
use Rattle.wb_tasks.specs.Plan.{Plan}
use Rattle.wb_tasks.specs.Ready.{StaysReady}
use Rattle.wb_tasks.specs.declared.block.Work.{Work}
use Rattle.wb_tasks.specs.declared.block.Work.TheVariants.{Read, Write}
use Rattle.wb_tasks.specs.declared.step.Answer.{Answer}
use Rattle.wb_tasks.specs.declared.step.Want.{Want}
use Rattle.wb_tasks.specs.declared.step.Want.TheVariants.{Cell}
use Rattle.wb_tasks.specs.declared.step.Got.{Got}
use Rattle.wb_port.specs.Requests.{part_of, ComesTo}
use Rattle.wb_port.specs.declared.straight.Part.{Part}
use Rattle.wb_port.specs.declared.straight.Way.{Way}
use Rattle.wb_port.specs.declared.straight.Way.TheVariants.{Reads, Writes}

-- its sectors are one extent
abbrev pub range_in : Part → BlockRange
range_in part = record { mode = part.mode; block_sectors = part.block_sectors; block = part.block; extents = part.sectors ∷ [] }

abbrev pub job_by : Way → Part → BlockJob
job_by Reads part = Reading (range_in part)
job_by Writes part = Writing (range_in part)

-- what a task does that moves sectors so
abbrev pub work_by : Way → Work
work_by Reads = Read
work_by Writes = Write

-- its sectors are cut into extents of at most the longest that a step takes
abbrev pub part_at : Part → BlockRange
part_at part = part_of part.mode part.block_sectors part.block part.sectors

abbrev pub access_by : Way → Access
access_by Reads = Shared
access_by Writes = Owned

-- these steps are left of a job, and this answer
abbrev pub left : BlockJob → List Want → Answer → Plan
left job steps answer = record { job = OnBlock job; steps = steps; answer = answer }

abbrev pub giving_back : Way → Part → List Want
giving_back way part = Cell (Release (access_by way) part.block) ∷ []

-- the sectors are written, and the block stands at this place
abbrev pub straight_written : Part → Option CBlock → List Want
straight_written part place = Cell (Finish part.block) ∷ write_count place ∷ giving_back Writes part

-- the sectors are to be written at these places, one after the other
abbrev pub straight_writing : Part → List (Option CBlock) → Option CBlock → List Want
straight_writing part [] place = straight_written part place
straight_writing part (to ∷ places) place = write_step (range_in part) to part.sectors ∷ straight_writing part places place

-- A stage that stood at a state with some steps left stands at another with others left, and may go on from there: it is ready for what is
-- left, and however a run of that ends, a run from the first state may end so.
abbrev pub Continues : {S : Type 0} → (S → Want → Type 0) → (S → Want → Got → S → Type 0) → Plan → S → Plan → S → Type 0
Continues ready led before old after new = StaysReady ready led after new × ((answer : Answer) (end : _) → ComesTo led after new answer end → ComesTo led before old answer end)
