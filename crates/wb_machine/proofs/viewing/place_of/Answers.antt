use Rattle.std.proofs.Common.{Some, sym, arith}
use Rattle.std.specs.Option.{option_map}
use Rattle.std.proofs.lemmas.Option.{slice_get_within}
use Rattle.std.proofs.lemmas.List.{length-map}
use Rattle.wb_types.specs.declared.entry.Entry.{Entry}
use Rattle.wb_desk.specs.Desks.{holdings}
use Rattle.wb_runs.proofs.Located.{stands_there, unmapped_there}
use Rattle.wb_machine.proofs.viewing.place_of.Goals as goal

pub returns-in-Some-clause-place : goal.returns-in-Some-clause-place
returns-in-Some-clause-place c =
    let at = c.in-Some.field-0 in
    sym (stands_there _ c.args.desk.now c.see_desk.ensures c.args.block at.0 (c.in-Some.ensures.mapped))

pub returns-in-Some-clause-inside : goal.returns-in-Some-clause-inside
returns-in-Some-clause-inside c =
    let desk = c.args.desk.now in
    let there = slice_get_within (holdings desk) c.in-Some.field-0.0 (Some c.args.block) c.in-Some.ensures.mapped in
    omega (arith, there, length-map desk.tree.entries (option_map (λ (e : Entry). e.origin.0)), c.see_desk.ensures.mapping.size)

pub returns-in-None-clause-place : goal.returns-in-None-clause-place
returns-in-None-clause-place c = sym (unmapped_there _ c.args.desk.now c.see_desk.ensures c.args.block (c.in-None.ensures.none))
