use Rattle.std.proofs.Common.{◌≡◌, ◌∙◌, None, replicate, rules}
use Rattle.wb_desk.proofs.Empty.{empty_known}
use Rattle.wb_tests_desk.proofs.desk.empty.Goals as goal

pub new-requires-2-clause-knows : goal.new-requires-2-clause-knows
new-requires-2-clause-knows g c =
    let none : c.in_ok-none.none.items ≡ replicate c.in_ok-geometry.geometry.cache_blocks None = search rules in
    empty_known (λ m. g.P.Policy.knows c.in_ok-policy.policy m) c.in_ok-geometry.geometry.cache_blocks c.as_slice.result.now c.in_ok-empty_state.field-0.tree.entries
    (c.as_slice.ensures.value ∙ none) c.in_ok-empty_state.ensures.empty c.in_ok-policy.ensures.knows
