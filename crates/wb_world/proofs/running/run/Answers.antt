use Rattle.std.proofs.Common.{◌∙◌, ◌++◌, ap, reverse, subst}
use Rattle.std.proofs.lemmas.List.{reverse-reverse}
use Rattle.wb_machine.specs.declared.machine.TheConstants.{ACTORS}
use Rattle.wb_machine.specs.Life.{shape_of}
use Rattle.wb_world.specs.Running.{IsRightRun, events_of}
use Rattle.wb_world.proofs.running.run.Goals as goal

pub returns-in-Ok-clause-right : goal.returns-in-Ok-clause-right
returns-in-Ok-clause-right c =
    let ran = c.in-Ok.ensures in
    let new = c.in_ok-world.ensures in
    let events = ran.events ∙ ap (λ trace. events_of trace ++ reverse c.reverse.new.self.items) new.trace ∙ ap reverse c.reverse.ensures.items ∙ reverse-reverse c.args.events.items in
    subst (λ es. IsRightRun (shape_of c.args.geometry ACTORS) es c.into_trace.result.records) events
    (subst (λ shape. IsRightRun shape (events_of c.run_all.new.world.trace) c.into_trace.result.records) (ran.shape ∙ new.shape) c.into_trace.ensures)
