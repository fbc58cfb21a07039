use Rattle.std.proofs.Common.{map, sym, ap, ◌∙◌, arith}
use Rattle.wb_bits.proofs.Chosen.{chosen, none_of}
use Rattle.wb_space.proofs.States.{begin_steps, all_begun}
use Rattle.wb_space.specs.Blocks.{is_late, commit_begun}
use Rattle.wb_space.proofs.blocks.Blocks.begin.Goals as goal

pub loop-c-smaller : goal.loop-c-smaller
loop-c-smaller c = let s = begin_steps c.loop-c.self c.in-Some.c c.get.result c.commit_begun.result (sym c.least_late.ensures ∙ c.in-Some.is) c.get.ensures c.commit_begun.ensures in
    omega (arith, ap (chosen is_late) c.put.ensures, s.fewer)

pub loop-c-preserved : goal.loop-c-preserved
loop-c-preserved c = let s = begin_steps c.loop-c.self c.in-Some.c c.get.result c.commit_begun.result (sym c.least_late.ensures ∙ c.in-Some.is) c.get.ensures c.commit_begun.ensures in
    ap (map commit_begun) c.put.ensures ∙ s.same ∙ c.loop-c.invariant

pub returns : goal.returns
returns c = sym (all_begun c.loop-c.self (sym c.least_late.ensures ∙ none_of c.least_late.result c.in_default.not-Some)) ∙ c.loop-c.invariant
