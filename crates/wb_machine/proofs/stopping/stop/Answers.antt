use Rattle.std.proofs.Common.{refl}
use Rattle.wb_types.specs.declared.mode.Dev.TheVariants.{Metadata, Cache, Origin}
use Rattle.wb_machine.specs.declared.machine.TheConstants.{ACTORS}
use Rattle.wb_machine.proofs.Openings.{crashes, stops}
use Rattle.wb_machine.proofs.stopping.stop.Goals as goal

pub returns-clause-does : goal.returns-clause-does
returns-clause-does c shape =
    let old = c.args.devices.now in
    let metadata = c.applies.ensures.applies.0 c.if-not-applies.false in
    let cache = c.applies-else-not-applies.ensures.applies.0 c.if-not-applies-2.false in
    let origin = c.applies-else-not-applies-2.ensures.applies.0 c.if-not-applies-3.false in
    let m = crashes Metadata c.args.choice.now old.metadata c.applies.new.self c.stop.new.self c.stop.result c.applies.ensures.kept metadata c.stop.ensures.applies.1 c.stop.ensures.crashed in
    let k = crashes Cache c.args.choice.now old.cache c.applies-else-not-applies.new.self c.stop-2.new.self c.stop-2.result c.applies-else-not-applies.ensures.kept cache c.stop-2.ensures.applies.1 c.stop-2.ensures.crashed in
    let o = crashes Origin c.args.choice.now old.origin c.applies-else-not-applies-2.new.self c.stop-3.new.self c.stop-3.result c.applies-else-not-applies-2.ensures.kept origin c.stop-3.ensures.applies.1 c.stop-3.ensures.crashed in
    rw c.put.ensures (stops shape ACTORS old (record { metadata = c.stop.new.self; cache = c.stop-2.new.self; origin = c.stop-3.new.self }) c.args.phase.now c.requires c.args.choice.now _ (record { metadata = metadata; cache = cache; origin = origin }) (rw (m, k, o) refl) refl)
