-- What passthrough has of its own: what a write does to devices and asks of the desk, in each mode, and where an invalidation starts.
use Rattle.std.proofs.Common.{◌≡◌, sym, subst}
use Rattle.wb_types.specs.declared.mode.Mode.{Mode}
use Rattle.wb_types.specs.declared.mode.Mode.TheVariants.{Writeback, Writethrough, Passthrough}
use Rattle.wb_tasks.specs.Tables.{BlockRange, Writing, Displacing, OnBlock}
use Rattle.wb_tasks.specs.Ready.{HoldsBlocks, IsOwnStep}
use Rattle.wb_tasks.specs.declared.step.DeviceStep.TheVariants.{Write as WriteExtent}
use Rattle.wb_tasks.specs.declared.step.DeskStep.TheVariants.{Unmap}
use Rattle.wb_tasks.specs.declared.step.Want.{Want}
use Rattle.wb_tasks.specs.declared.step.Want.TheVariants.{Cell, Device, Desk, End}
use Rattle.wb_promise.specs.States.{Phase, Stands, Gone, Opens, OfTarget}
use Rattle.wb_promise.specs.Happenings.{write_job}

-- a write writes extents, and may ask the desk to unmap its block
abbrev pub WritesOwn : Want → Type 0
WritesOwn (Device (WriteExtent d e)) = HoldsBlocks d
WritesOwn (Device step) = ⊥
WritesOwn (Desk (Unmap block)) = Unit {0}
WritesOwn (Desk step) = ⊥
WritesOwn next = Unit {0}

writing_own : (part : BlockRange) (next : Want) → IsOwnStep (OnBlock (Writing part)) next → WritesOwn next
writing_own part (Device (WriteExtent d e)) o = o
writing_own part (Cell step) o = tt
writing_own part (End answer) o = tt
writing_own part next o = absurd o

displacing_own : (part : BlockRange) (next : Want) → IsOwnStep (OnBlock (Displacing part)) next → WritesOwn next
displacing_own part (Device (WriteExtent d e)) o = subst HoldsBlocks (sym o) tt
displacing_own part (Desk (Unmap block)) o = tt
displacing_own part (Cell step) o = tt
displacing_own part (End answer) o = tt
displacing_own part next o = absurd o

pub write_own : (mode : Mode) (part : BlockRange) (next : Want) → IsOwnStep (OnBlock (write_job mode part)) next → WritesOwn next
write_own Writeback part next o = writing_own part next o
write_own Writethrough part next o = writing_own part next o
write_own Passthrough part next o = displacing_own part next o

-- where the target passes through, one stands
pub target_stands : {P A : Type 0} (phase : Phase P A) → OfTarget phase (λ t. t.desk.mode ≡ Passthrough) → OfTarget phase (λ t. Unit {0})
target_stands (Stands t) o = tt
target_stands phase o = absurd o
