use Rattle.std.proofs.Common.{◌∙◌, ap, sym, subst}
use Rattle.std.proofs.lemmas.Result.{on_ok_weaker}
use Rattle.wb_policy.specs.Recency.{AgreesWith, no_longer_mapped}
use Rattle.wb_policy.proofs.Laws.{learns, undoes}
use Rattle.wb_policy.proofs.tiny_lfu.TinyLfuPolicy.mapped.Goals as goal

pub returns-clause-knows : goal.returns-clause-knows
returns-clause-knows c = λ m knows new free.
    let inside : AgreesWith m c.self.inside.recency = subst (λ k. AgreesWith m k.recency) (sym c.self.view_is) knows in
    on_ok_weaker c.insert.result (λ is. rw is (learns m c.self.inside.recency c.args.b.0 c.args.c.0 inside new free)) c.insert.ensures.ok

pub returns-clause-undone : goal.returns-clause-undone
returns-clause-undone c = λ m knows new.
    let inside : AgreesWith m c.self.inside.recency = subst (λ k. AgreesWith m k.recency) (sym c.self.view_is) knows in
    let back = undoes m c.self.inside.recency c.args.b.0 c.args.c.0 inside new in
    on_ok_weaker c.insert.result (λ is.
    ap (λ r. record { frequencies = c.self.inside.sketch; recency = r; promote_min = c.self.inside.promote_min; block_sectors = c.self.inside.block_sectors })
    (ap (no_longer_mapped c.args.b.0) is ∙ back) ∙ c.self.view_is) c.insert.ensures.ok
