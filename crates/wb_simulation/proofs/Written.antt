-- What a write of a part is, in the part's mode.
use Rattle.std.proofs.Common.{◌≡◌, ◌∙◌, ℕ, refl, sym, ap}
use Rattle.wb_types.specs.declared.mode.Mode.{Mode}
use Rattle.wb_types.specs.declared.mode.Mode.TheVariants.{Writeback, Writethrough, Passthrough}
use Rattle.wb_disk.specs.Device.{Content}
use Rattle.wb_tasks.specs.Tables.{BlockRange, OnBlock, range_of}
use Rattle.wb_refines.specs.Translation.{job_for, writing_in, offsets}
use Rattle.wb_refines.specs.Models.{IsRequest}
use Rattle.wb_promise.specs.Happenings.{write_job}
use Rattle.wb_simulation.specs.Actors.{write_of}

pub range_written : (part : BlockRange) → range_of (write_of part) ≡ part
range_written part = by part.mode
  where
    by : (mode : Mode) → range_of (write_job mode part) ≡ part
    by Writeback = refl
    by mode = refl

pub is_request : (part : BlockRange) → IsRequest (write_of part)
is_request part = by part.mode refl
  where
    by : (mode : Mode) → part.mode ≡ mode → IsRequest (write_job mode part)
    by Writeback e = λ f. let bad : Writeback ≡ Passthrough = sym e ∙ f in absurd (cc)
    by Writethrough e = λ f. let bad : Writethrough ≡ Passthrough = sym e ∙ f in absurd (cc)
    by Passthrough e = tt

-- its job there is one of its mode
pub job_written : (size : ℕ) (content : Content) (part : BlockRange) → job_for size content (OnBlock (write_of part)) ≡ writing_in part.mode part.block.0 (offsets size part.extents) content
job_written size content part = by part.mode refl
  where
    by : (mode : Mode) → part.mode ≡ mode → job_for size content (OnBlock (write_job mode part)) ≡ writing_in mode part.block.0 (offsets size part.extents) content
    by Passthrough e = refl
    by mode e = ap (λ (m : Mode). writing_in m part.block.0 (offsets size part.extents) content) e
