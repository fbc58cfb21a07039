-- The jobs that are performed on a stage with a desk.
use Rattle.std.specs.Prelude.{◌<◌, ℕ}
use Rattle.wb_tasks.specs.Tables.{TaskJob, OnBlock, Flushing, Suspending, Opening}
use Rattle.wb_tasks.specs.Ready.{block_of}

-- any on a block that is there, and flushes; a suspend is performed by who has the dirty bits, and an opening before there is a desk
abbrev pub MayRun : ℕ → TaskJob → Type 0
MayRun blocks (OnBlock job) = (block_of job).0 < blocks
MayRun blocks (Flushing serves most) = Unit {0}
MayRun blocks (Suspending all most) = ⊥
MayRun blocks (Opening left) = ⊥
