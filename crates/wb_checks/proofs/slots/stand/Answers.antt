use Rattle.std.proofs.Common.{rules, inr}
use Rattle.wb_checks.proofs.Standing.{has_generation, no_root_held, not_formatted_second, root_held}
use Rattle.wb_checks.proofs.slots.stand.Goals as goal

pub returns-in_default-root : goal.returns-in_default-root
returns-in_default-root c sectors a b =
    let has = root_held sectors 1 c.args.second c.in-Some.b c.in-Some.is b in
    (no_root_held sectors 0 c.args.first c.in_default-root.is a, has_generation sectors 1 c.args.second c.in-Some.b c.in-Some.is b, not_formatted_second sectors c.in-Some.b has)

pub returns-then-are_neighbours : goal.returns-then-are_neighbours
returns-then-are_neighbours c sectors a b =
    let first = has_generation sectors 0 c.args.first c.in-Some-root.a c.in-Some-root.is a in
    let second = has_generation sectors 1 c.args.second c.in-Some.b c.in-Some.is b in
    inr (record { first = c.in-Some-root.a.generation; second = c.in-Some.b.generation; there = (first, second); neighbours = c.if-are_neighbours.ensures.0 (search rules) })

pub returns-else-are_neighbours : goal.returns-else-are_neighbours
returns-else-are_neighbours c sectors a b =
    let first = has_generation sectors 0 c.args.first c.in-Some-root.a c.in-Some-root.is a in
    let second = has_generation sectors 1 c.args.second c.in-Some.b c.in-Some.is b in
    ((first, second), λ near. let no = c.if-are_neighbours.ensures.1 near in search rules)
