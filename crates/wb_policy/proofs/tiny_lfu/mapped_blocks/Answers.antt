use Rattle.std.proofs.Common.{◌∙◌, None, ap, sym, rules}
use Rattle.wb_policy.proofs.Placed.{mapped_more-some, mapped_more-none}
use Rattle.wb_policy.proofs.tiny_lfu.mapped_blocks.Goals as goal
use Rattle.wb_policy.proofs.tiny_lfu.mapped_blocks.Goals.{in-Some+in_ok-push-in-Some, in-None}

pub loop-at-preserved : goal.loop-at-preserved
loop-at-preserved c = elim c.match-mapping-at.branch [
  | in-Some+in_ok-push-in-Some w ↦
      let more = mapped_more-some c.args.mapping.now c.loop-at.at None w.in-Some.entry c.loop-at-test.true (search rules) in
      let items = ap (λ v. v.items) w.blocks-is in
      let pushed = w.in_ok-push-in-Some.ensures.items in
      let was = c.loop-at.invariant in
      cc
  | in-None w ↦
      let more = mapped_more-none c.args.mapping.now c.loop-at.at None c.loop-at-test.true (search rules) in
      let items = ap (λ v. v.items) w.blocks-is in
      items ∙ (c.loop-at.invariant ∙ sym more)
]
