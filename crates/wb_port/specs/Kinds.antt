-- Steps by what may come of them.
use Rattle.wb_words.specs.declared.step.CellStep.{CellStep}
use Rattle.wb_words.specs.declared.step.CellStep.TheVariants.{Look, Take, SetFailed, SetSuspended}
use Rattle.wb_tasks.specs.declared.step.DeviceStep.{DeviceStep}
use Rattle.wb_tasks.specs.declared.step.DeviceStep.TheVariants.{Read, Write}

-- one that can but be done
abbrev pub IsCertain : CellStep → Type 0
IsCertain (Look word) = ⊥
IsCertain (Take access block seen) = ⊥
IsCertain step = Unit {0}

-- one by which no block is taken or let go: a look, or a bit of the fail word that is set
abbrev pub LeavesHolds : CellStep → Type 0
LeavesHolds (Look word) = Unit {0}
LeavesHolds SetFailed = Unit {0}
LeavesHolds SetSuspended = Unit {0}
LeavesHolds step = ⊥

-- a read or a write of an extent, which is done or fails
abbrev pub IsTransfer : DeviceStep → Type 0
IsTransfer (Read device e) = Unit {0}
IsTransfer (Write device e) = Unit {0}
IsTransfer step = ⊥
