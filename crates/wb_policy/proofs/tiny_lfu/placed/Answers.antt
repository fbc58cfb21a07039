use Rattle.std.proofs.Common.{ap, map, subst, ◌∙◌, [], IsPermutation}
use Rattle.wb_policy.specs.Recency.{mapped_in_order}
use Rattle.wb_policy.proofs.tiny_lfu.placed.Goals as goal

pub returns-clause-value : goal.returns-clause-value
returns-clause-value c =
    let sort = c.in_ok-sort.ensures in
    let of_mapping = subst (λ bs. IsPermutation bs c.sort.new.self.items) c.in_ok-blocks.ensures sort.permutation in
    let placed = c.in_ok-recency.ensures.value ∙ ap (λ bs. mapped_in_order [] (map (λ p. (p.1.1, p.1.0)) bs)) c.as_slice.ensures.value in
    (c.sort.new.self.items, of_mapping, sort.sorted, placed)
