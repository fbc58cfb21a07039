use Rattle.std.proofs.Common.{sym, subst}
use Rattle.wb_policy.specs.Recency.{AgreesWith}
use Rattle.wb_policy.proofs.Laws.{forgets}
use Rattle.wb_policy.proofs.tiny_lfu.TinyLfuPolicy.unmapped.Goals as goal

pub returns-clause-knows : goal.returns-clause-knows
returns-clause-knows c = λ m at knows here.
    let inside : AgreesWith m c.self.inside.recency = subst (λ k. AgreesWith m k.recency) (sym c.self.view_is) knows in
    rw c.remove.ensures (forgets m _ c.args.b.0 at inside here)
