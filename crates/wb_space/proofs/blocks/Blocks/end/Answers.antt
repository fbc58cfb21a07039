use Rattle.std.proofs.Common.{map, sym, ap, ◌∙◌, arith}
use Rattle.wb_bits.proofs.Chosen.{chosen, none_of}
use Rattle.wb_space.proofs.States.{end_steps, all_ended}
use Rattle.wb_space.specs.Blocks.{is_early, commit_ended}
use Rattle.wb_space.proofs.blocks.Blocks.end.Goals as goal

pub loop-c-smaller : goal.loop-c-smaller
loop-c-smaller c = let s = end_steps c.loop-c.self c.in-Some.c c.get.result c.commit_ended.result (sym c.least_early.ensures ∙ c.in-Some.is) c.get.ensures c.commit_ended.ensures in
    omega (arith, ap (chosen is_early) c.put.ensures, s.fewer)

pub loop-c-preserved : goal.loop-c-preserved
loop-c-preserved c = let s = end_steps c.loop-c.self c.in-Some.c c.get.result c.commit_ended.result (sym c.least_early.ensures ∙ c.in-Some.is) c.get.ensures c.commit_ended.ensures in
    ap (map commit_ended) c.put.ensures ∙ s.same ∙ c.loop-c.invariant

pub returns : goal.returns
returns c = sym (all_ended c.loop-c.self (sym c.least_early.ensures ∙ none_of c.least_early.result c.in_default.not-Some)) ∙ c.loop-c.invariant
