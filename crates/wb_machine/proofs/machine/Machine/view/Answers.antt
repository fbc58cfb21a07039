use Rattle.std.proofs.Common.{◌≡◌, length, subst}
use Rattle.wb_promise.specs.States.{cache_sector_count, sector_count}
use Rattle.wb_machine.specs.declared.machine.TheConstants.{ACTORS}
use Rattle.wb_machine.specs.Life.{Now, shape_of}
use Rattle.wb_machine.proofs.Sizes.{sizes_are}
use Rattle.wb_machine.proofs.machine.Machine.view.Goals as goal

pub view_of-requires-clause-cache : goal.view_of-requires-clause-cache
view_of-requires-clause-cache c =
    let shape = shape_of c.self.inside.geometry ACTORS in
    let run = c.self.invariant.0 in
    subst (λ (w : Now). length w.devices.cache ≡ cache_sector_count shape) run.leads (sizes_are shape run.metadata run.happenings run.run).0

pub view_of-requires-clause-origin : goal.view_of-requires-clause-origin
view_of-requires-clause-origin c =
    let shape = shape_of c.self.inside.geometry ACTORS in
    let run = c.self.invariant.0 in
    subst (λ (w : Now). length w.devices.origin ≡ sector_count shape) run.leads (sizes_are shape run.metadata run.happenings run.run).1
