use Rattle.std.proofs.Common.{sym, subst, rules}
use Rattle.wb_policy.specs.Recency.{AgreesWith}
use Rattle.wb_policy.proofs.Laws.{uses, unmapped_from_absent}
use Rattle.wb_policy.proofs.Lawful.{lawful-decided}
use Rattle.wb_policy.proofs.tiny_lfu.TinyLfuPolicy.settle.Goals as goal

pub returns-then-touch-clause-knows : goal.returns-then-touch-clause-knows
returns-then-touch-clause-knows c = λ m knows.
    let inside : AgreesWith m c.self.inside.recency = subst (λ k. AgreesWith m k.recency) (sym c.self.view_is) knows in
    rw c.touch.ensures.order (uses m _ c.args.access.now.block.0 inside)

pub returns-clause-law : goal.returns-clause-law
returns-clause-law c = λ m knows.
    let inside : AgreesWith m c.self.inside.recency = subst (λ k. AgreesWith m k.recency) (sym c.self.view_is) knows in
    let moved : AgreesWith m c.touch.new.self = rw c.touch.ensures.order (uses m _ c.args.access.now.block.0 inside) in
    rw c.decide.ensures (lawful-decided m _ c.args.access.now moved
    (unmapped_from_absent m c.self.inside.recency c.args.access.now.block.0 inside (search rules)))

pub returns-clause-knows : goal.returns-clause-knows
returns-clause-knows c = λ m knows.
    let inside : AgreesWith m c.self.inside.recency = subst (λ k. AgreesWith m k.recency) (sym c.self.view_is) knows in
    rw c.touch.ensures.order (uses m _ c.args.access.now.block.0 inside)
