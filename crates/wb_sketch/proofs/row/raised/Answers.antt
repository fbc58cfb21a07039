use Rattle.std.proofs.Common.{◌≡◌, ◌<◌, ◌+◌, ◌*◌, ◌%◌, ◌^◌, arith}
use Rattle.std.proofs.lemmas.Nat.{one_shl}
use Rattle.wb_sketch.proofs.WordCounters.{raised-here, raised-other, raised-fits}
use Rattle.wb_sketch.proofs.row.raised.Goals as goal

pub overflow_add-result : goal.overflow_add-result
overflow_add-result c =
    let one : 1 * 2 ^ (4 * c.args.number) % 2 ^ 64 ≡ 2 ^ (4 * c.args.number) = one_shl (4 * c.args.number) 64 (omega arith) in
    let fits : c.args.word + 2 ^ (4 * c.args.number) < 2 ^ 64 = raised-fits 16 c.args.word c.args.number (omega arith) c.requires.within c.requires.below in
    omega arith

pub returns-clause-here : goal.returns-clause-here
returns-clause-here c =
    let one : 1 * 2 ^ (4 * c.args.number) % 2 ^ 64 ≡ 2 ^ (4 * c.args.number) = one_shl (4 * c.args.number) 64 (omega arith) in
    rw one (raised-here c.args.word c.args.number c.requires.below)

pub returns-clause-others : goal.returns-clause-others
returns-clause-others c =
    let one : 1 * 2 ^ (4 * c.args.number) % 2 ^ 64 ≡ 2 ^ (4 * c.args.number) = one_shl (4 * c.args.number) 64 (omega arith) in
    λ other n. rw one (raised-other c.args.word c.args.number other c.requires.below n)
