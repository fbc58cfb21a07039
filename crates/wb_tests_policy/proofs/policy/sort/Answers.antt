use Rattle.std.proofs.Common.{rules}
use Rattle.std.proofs.lemmas.List.Sorted.{IsNonDecreasingBy-from_sort_by_key}
use Rattle.std.proofs.lemmas.Result.{on_ok_weaker}
use Rattle.wb_tests_policy.proofs.policy.sort.Goals as goal

pub returns : goal.returns
returns c =
    on_ok_weaker c.sort_by_key.result (λ sorted. IsNonDecreasingBy-from_sort_by_key (λ e. e.0.0) _ sorted (λ a r q k. search rules)) c.sort_by_key.ensures.sorted
