use Rattle.std.proofs.Common.{◌≡◌, ◌∙◌, ◌++◌, ◌∷◌, [], ap, refl, subst}
use Rattle.wb_meta.specs.declared.read_steps.ReadSteps.TheVariants.{Begun}
use Rattle.wb_promise.specs.declared.event.Record.{Record}
use Rattle.wb_runs.specs.Holding.{AreUsedRightly}
use Rattle.wb_runs.specs.Laws.{OpeningFinds}
use Rattle.wb_runs.specs.Progress.{IsFree}
use Rattle.wb_machine.specs.declared.machine.TheConstants.{ACTORS}
use Rattle.wb_machine.specs.Life.{Now, shape_of, state_of}
use Rattle.wb_machine.proofs.Reaching.{reached, goes_on}
use Rattle.wb_machine.proofs.Possible.{served}
use Rattle.wb_machine.proofs.machine.Machine.event.Goals as goal

pub happen-requires-clause-served : goal.happen-requires-clause-served
happen-requires-clause-served c =
    let m = c.self.inside in
    let shape = shape_of m.geometry ACTORS in
    let run = c.self.invariant.0 in
    served shape ACTORS m.devices m.phase
    (subst (λ (w : Now). IsFree shape w) run.leads (c.never_stuck.ensures (record {}) (Begun m.alloc m.alloc) refl shape run.metadata run.happenings run.formatted run.size run.run))
    (subst (λ (w : Now). AreUsedRightly shape w) run.leads (c.words_are_used_rightly.ensures shape run.metadata run.happenings run.formatted run.size run.run))
    (subst (λ (w : Now). OpeningFinds shape.geometry w) run.leads (c.metadata_keep_sizes.ensures shape run.metadata run.happenings run.formatted run.size run.run))

pub invariant_of-self-2 : goal.invariant_of-self-2
invariant_of-self-2 c =
    let m = c.self.inside in
    let r : Record = record { event = c.args.event; what = c.in_ok-what.field-0.what; read = c.in_ok-what.field-0.read } in
    let told : c.push_reserved.new.self.records ≡ m.trace.records ++ r ∷ [] = c.push_reserved.ensures ∙ ap (λ rs. rs ++ r ∷ []) c.reserve.ensures.records in
    (reached (shape_of m.geometry ACTORS) m.trace.records c.push_reserved.new.self.records (state_of ACTORS m.devices m.phase) (state_of ACTORS c.happen.new.devices c.happen.new.phase) r c.in_ok-what.ensures.ok told c.self.invariant.0, c.in_ok-what.ensures.sound)

pub returns-clause-ok : goal.returns-clause-ok
returns-clause-ok c =
    let m = c.self.inside in
    let r : Record = record { event = c.args.event; what = c.in_ok-what.field-0.what; read = c.in_ok-what.field-0.read } in
    let told : c.push_reserved.new.self.records ≡ m.trace.records ++ r ∷ [] = c.push_reserved.ensures ∙ ap (λ rs. rs ++ r ∷ []) c.reserve.ensures.records in
    rw (← c.self.view_is) (goes_on (shape_of m.geometry ACTORS) m.trace.records c.push_reserved.new.self.records (state_of ACTORS m.devices m.phase) (state_of ACTORS c.happen.new.devices c.happen.new.phase) r c.in_ok-what.ensures.ok told)
