use Rattle.std.proofs.Common.{◌∙◌, ap, sym}
use Rattle.wb_promise.specs.Happenings.{job_refusal}
use Rattle.wb_machine.specs.declared.machine.TheConstants.{ACTORS}
use Rattle.wb_machine.specs.Life.{shape_of}
use Rattle.wb_machine.proofs.requests.refusal_of.Goals as goal

pub returns-in-Open : goal.returns-in-Open
returns-in-Open c = c.room_refusal.ensures c.in-Open.field-0 ∙ ap (job_refusal (shape_of c.args.geometry.now ACTORS)) (sym c.in-Open.is)
